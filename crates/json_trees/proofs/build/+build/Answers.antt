use Rattle.std.proofs.Common.{◌≡◌, ◌-◌, [], ◌∷◌, length, Some, None, Err, refl, ap, ap₂, ◌∙◌, arith}
use Rattle.std.proofs.lemmas.Result.{err_from_is_err_and}
use Rattle.json_trees.specs.declared.unread.Unread.TheVariants.{NotJson}
use Rattle.json.specs.Json as json
use Rattle.json.specs.Json.{after_end_array, read_key, items, members, parse_map, value}
use Rattle.json.specs.Token.{Token}
use Rattle.json.specs.Reads.{token_of}
use Rattle.json.proofs.Grammar.{value_is, value-begin_array, value-begin_object, read_key-shorter}
use Rattle.serde_json.specs.Data as values
use Rattle.serde_json.specs.Read.{of_json, converted}
use Rattle.json_trees.specs.Cells.{array_cell, object_cell}
use Rattle.json_trees.proofs.Reading.{converted-array, converted-object, on_ok}
use Rattle.json_trees.proofs.Building.{no_items_yet, item_added, item_is_none, array_closed, no_members_yet, member_added, member_is_none, key_is_none, object_closed, added_len, both_added, node_added, number_has, array_has, object_has}
use Rattle.json_trees.proofs.build.+build.Goals as goal

pub add_array-items-init : goal.add_array-items-init
add_array-items-init t c =
    ([], no_items_yet (value c.args.depth) c.args.reader.now, node_added c.args.nodes.now c.push.new.self _ _ (λ ts. refl) c.in_ok-push.ensures.texts c.in_ok-push.ensures.ok, c.len-at.ensures ∙ c.args.nodes.now.list.ok.0)

pub add_array-items-preserved : goal.add_array-items-preserved
add_array-items-preserved t c =
    let l = c.items in
    let i = l.invariant in
    let going : (after_end_array l.reader ≡ None) × (c.take_end_array.new.self ≡ l.reader) = grind arith in
    let done = c.in_ok-add_value.ensures in
    let j = done.ok.0 in
    let r = c.add_value.new.reader in (
      _,
      item_added (value c.args.depth) c.args.reader.now l.reader r i.0 j i.1 going.0 (rw (← going.1) done.ok.1) done.ok.2 (rw (← going.1) done.shorter),
      both_added c.args.nodes.now l.nodes c.add_value.new.nodes _ _ i.2 done.ok.3,
      i.3,
    )

pub add_array-returns-in_err-add_value-clause-not_json : goal.add_array-returns-in_err-add_value-clause-not_json
add_array-returns-in_err-add_value-clause-not_json t c = λ e.
    let l = c.items in
    let i = l.invariant in
    let going : (after_end_array l.reader ≡ None) × (c.take_end_array.new.self ≡ l.reader) = grind arith in
    let p = err_from_is_err_and c.from_residual-in_err-add_value.result c.from_residual-in_err-add_value.ensures.1 in
    let same : Err c.in_err-add_value.field-0.0 ≡ Err NotJson = cc in
    item_is_none (value c.args.depth) c.args.reader.now l.reader i.0 i.1 going.0 (rw (← going.1) (c.in_err-add_value.ensures.not_json same))

pub add_array-span_from-requires : goal.add_array-span_from-requires
add_array-span_from-requires t c =
    let i = c.items.invariant in
    let len = added_len c.args.nodes.now c.items.nodes (array_cell 0) i.0 i.2 in
    omega (arith, len, i.3)

pub add_array-index_mut-requires : goal.add_array-index_mut-requires
add_array-index_mut-requires t c =
    let i = c.items.invariant in
    let len = added_len c.args.nodes.now c.items.nodes (array_cell 0) i.0 i.2 in
    omega (arith, len, i.3, c.items.nodes.list.ok.0)

pub add_array-returns-clause-ok : goal.add_array-returns-clause-ok
add_array-returns-clause-ok t c =
    let l = c.items in
    let i = l.invariant in
    array_closed (value c.args.depth) c.args.reader.now l.reader c.take_end_array.new.self i.0 c.args.nodes.now l.nodes c.len-at.result _ i.1 (grind arith) i.2 i.3 c.span_from.ensures

pub add_object-members-init : goal.add_object-members-init
add_object-members-init t c =
    ([], no_members_yet (value c.args.depth) c.args.reader.now, node_added c.args.nodes.now c.push.new.self _ _ (λ ts. refl) c.in_ok-push.ensures.texts c.in_ok-push.ensures.ok, c.len-at.ensures ∙ c.args.nodes.now.list.ok.0)

pub add_object-returns-in_default-clause-not_json : goal.add_object-returns-in_default-clause-not_json
add_object-returns-in_default-clause-not_json t c = λ e.
    let l = c.members in
    let i = l.invariant in
    key_is_none (value c.args.depth) c.args.reader.now l.reader i.0 i.1 c.in_default.ensures.value

pub add_object-members-preserved : goal.add_object-members-preserved
add_object-members-preserved t c =
    let l = c.members in
    let i = l.invariant in
    let k = c.in-Some.name.now in
    let named : read_key l.reader ≡ Some (Some k, c.next_key.new.self) = grind arith in
    let done = c.in_ok-add_value.ensures in
    let j = done.ok.0 in
    let r = c.add_value.new.reader in
    let key_less = read_key-shorter l.reader (Some k) c.next_key.new.self named in
    let value_less = done.shorter in
    let member = both_added l.nodes c.add_key.new.self c.add_value.new.nodes _ _ c.in_ok-add_key.ensures.ok done.ok.3 in (
      _,
      member_added (value c.args.depth) c.args.reader.now l.reader c.next_key.new.self r i.0 k j i.1 named done.ok.1 done.ok.2 (omega (arith, key_less, value_less)),
      both_added c.args.nodes.now l.nodes c.add_value.new.nodes _ _ i.2 member,
      i.3,
    )

pub add_object-returns-in_err-add_value-clause-not_json : goal.add_object-returns-in_err-add_value-clause-not_json
add_object-returns-in_err-add_value-clause-not_json t c = λ e.
    let l = c.members in
    let i = l.invariant in
    let k = c.in-Some.name.now in
    let named : read_key l.reader ≡ Some (Some k, c.next_key.new.self) = grind arith in
    let p = err_from_is_err_and c.from_residual-in_err-add_value.result c.from_residual-in_err-add_value.ensures.1 in
    let same : Err c.in_err-add_value.field-0.0 ≡ Err NotJson = cc in
    member_is_none (value c.args.depth) c.args.reader.now l.reader c.next_key.new.self i.0 k i.1 named (c.in_err-add_value.ensures.not_json same)

pub add_object-span_from-requires : goal.add_object-span_from-requires
add_object-span_from-requires t c =
    let i = c.members.invariant in
    let len = added_len c.args.nodes.now c.members.nodes (object_cell 0) i.0 i.2 in
    omega (arith, len, i.3)

pub add_object-index_mut-requires : goal.add_object-index_mut-requires
add_object-index_mut-requires t c =
    let i = c.members.invariant in
    let len = added_len c.args.nodes.now c.members.nodes (object_cell 0) i.0 i.2 in
    omega (arith, len, i.3, c.members.nodes.list.ok.0)

pub add_object-returns-clause-ok : goal.add_object-returns-clause-ok
add_object-returns-clause-ok t c =
    let l = c.members in
    let i = l.invariant in
    object_closed (value c.args.depth) c.args.reader.now l.reader c.next_key.new.self i.0 c.args.nodes.now l.nodes c.len-at.result _ i.1 (grind arith) i.2 i.3 c.span_from.ensures

pub add_value-returns-in_default-clause-not_json : goal.add_value-returns-in_default-clause-not_json
add_value-returns-in_default-clause-not_json t c = λ e.
    let empty : c.args.reader.now ≡ [] = grind arith in
    ap (converted of_json) (ap (value c.args.depth) empty ∙ value_is c.args.depth [])

pub add_value-returns-then-depth-eq0-clause-not_json : goal.add_value-returns-then-depth-eq0-clause-not_json
unfolding value
add_value-returns-then-depth-eq0-clause-not_json t c = λ e.
    let first : c.args.reader.now ≡ token_of c.in-Some.token ∷ c.next.new.self = grind arith in
    let none : c.args.depth ≡ 0 = omega arith in
    ap (converted of_json) (ap₂ value none (first ∙ ap (λ k. token_of k ∷ c.next.new.self) c.in-BeginArray.is))

pub add_value-returns-then-depth-eq0-2-clause-not_json : goal.add_value-returns-then-depth-eq0-2-clause-not_json
unfolding value
add_value-returns-then-depth-eq0-2-clause-not_json t c = λ e.
    let first : c.args.reader.now ≡ token_of c.in-Some.token ∷ c.next.new.self = grind arith in
    let none : c.args.depth ≡ 0 = omega arith in
    ap (converted of_json) (ap₂ value none (first ∙ ap (λ k. token_of k ∷ c.next.new.self) c.in-BeginObject.is))

pub add_value-returns-in-String-clause-ok : goal.add_value-returns-in-String-clause-ok
add_value-returns-in-String-clause-ok t c =
    let first : c.args.reader.now ≡ token_of c.in-Some.token ∷ c.next.new.self = grind arith in
    let is = ap (value c.args.depth) (first ∙ ap (λ k. token_of k ∷ c.next.new.self) c.in-String.is) ∙ value_is c.args.depth (Token.string c.in-String.text.now ∷ c.next.new.self) in
    on_ok c.add_string.result (λ h. (json.string c.in-String.text.now, is, (values.string c.in-String.text.now, refl), h)) c.add_string.ensures.ok

pub add_value-returns-in-Number-clause-ok : goal.add_value-returns-in-Number-clause-ok
add_value-returns-in-Number-clause-ok t c =
    let first : c.args.reader.now ≡ token_of c.in-Some.token ∷ c.next.new.self = grind arith in
    let s = c.in-Number.text.now in
    let is = ap (value c.args.depth) (first ∙ ap (λ k. token_of k ∷ c.next.new.self) c.in-Number.is) ∙ value_is c.args.depth (Token.number s ∷ c.next.new.self) in
    on_ok c.add_number.result (λ h. (json.number s, is, number_has s h.0, h.1)) c.add_number.ensures.ok

pub add_value-returns-in-Number-clause-not_json : goal.add_value-returns-in-Number-clause-not_json
add_value-returns-in-Number-clause-not_json t c = λ e.
    let first : c.args.reader.now ≡ token_of c.in-Some.token ∷ c.next.new.self = grind arith in
    let is : c.args.reader.now ≡ Token.number c.in-Number.text.now ∷ c.next.new.self = first ∙ ap (λ k. token_of k ∷ c.next.new.self) c.in-Number.is in
    ap (converted of_json) (ap (value c.args.depth) is ∙ value_is c.args.depth _) ∙ rw (c.add_number.ensures.not_json e) refl

pub add_value-returns-in-Bool-clause-ok : goal.add_value-returns-in-Bool-clause-ok
add_value-returns-in-Bool-clause-ok t c =
    let first : c.args.reader.now ≡ token_of c.in-Some.token ∷ c.next.new.self = grind arith in
    let is = ap (value c.args.depth) (first ∙ ap (λ k. token_of k ∷ c.next.new.self) c.in-Bool.is) ∙ value_is c.args.depth (Token.boolean c.in-Bool.flag ∷ c.next.new.self) in
    let same = c.push.ensures.texts in
    on_ok c.push.result (λ h. (json.boolean c.in-Bool.flag, is, (values.boolean c.in-Bool.flag, refl), node_added c.args.nodes.now c.push.new.self _ _ (λ ts. refl) same h)) c.push.ensures.ok

pub add_value-returns-in-Null-clause-ok : goal.add_value-returns-in-Null-clause-ok
add_value-returns-in-Null-clause-ok t c =
    let first : c.args.reader.now ≡ token_of c.in-Some.token ∷ c.next.new.self = grind arith in
    let is = ap (value c.args.depth) (first ∙ ap (λ k. token_of k ∷ c.next.new.self) c.in-Null.is) ∙ value_is c.args.depth (Token.null ∷ c.next.new.self) in
    on_ok c.push-in-Null.result (λ h. (json.null, is, (values.null, refl), node_added c.args.nodes.now c.push-in-Null.new.self _ _ (λ ts. refl) c.push-in-Null.ensures.texts h)) c.push-in-Null.ensures.ok

pub add_value-returns-in-EndObject-clause-not_json : goal.add_value-returns-in-EndObject-clause-not_json
add_value-returns-in-EndObject-clause-not_json t c = λ e.
    let first : c.args.reader.now ≡ token_of c.in-Some.token ∷ c.next.new.self = grind arith in
    let none : value c.args.depth c.args.reader.now ≡ None = rw (value_is c.args.depth c.args.reader.now, first) (grind arith) in
    ap (converted of_json) none

pub add_value-returns-else-depth-eq0-clause-ok : goal.add_value-returns-else-depth-eq0-clause-ok
add_value-returns-else-depth-eq0-clause-ok t c =
    let first : c.args.reader.now ≡ token_of c.in-Some.token ∷ c.next.new.self = grind arith in
    let opened = ap (value c.args.depth) (first ∙ ap (λ k. token_of k ∷ c.next.new.self) c.in-BeginArray.is) ∙ value-begin_array c.args.depth c.next.new.self (omega arith) in
    on_ok c.add_array.result (λ h. (json.array h.0, opened ∙ ap (parse_map json.array) h.1, array_has h.0 h.2, h.3)) c.add_array.ensures.ok

pub add_value-returns-else-depth-eq0-clause-not_json : goal.add_value-returns-else-depth-eq0-clause-not_json
add_value-returns-else-depth-eq0-clause-not_json t c = λ e.
    let first : c.args.reader.now ≡ token_of c.in-Some.token ∷ c.next.new.self = grind arith in
    let opened = ap (converted of_json) (ap (value c.args.depth) (first ∙ ap (λ k. token_of k ∷ c.next.new.self) c.in-BeginArray.is) ∙ value-begin_array c.args.depth c.next.new.self (omega arith)) ∙ converted-array (items (value (c.args.depth - 1)) (length c.next.new.self) c.next.new.self) in
    opened ∙ ap (parse_map values.array) (c.add_array.ensures.not_json e)

pub add_value-returns-else-depth-eq0-2-clause-ok : goal.add_value-returns-else-depth-eq0-2-clause-ok
add_value-returns-else-depth-eq0-2-clause-ok t c =
    let first : c.args.reader.now ≡ token_of c.in-Some.token ∷ c.next.new.self = grind arith in
    let opened = ap (value c.args.depth) (first ∙ ap (λ k. token_of k ∷ c.next.new.self) c.in-BeginObject.is) ∙ value-begin_object c.args.depth c.next.new.self (omega arith) in
    on_ok c.add_object.result (λ h. (json.object h.0, opened ∙ ap (parse_map json.object) h.1, object_has h.0 h.2, h.3)) c.add_object.ensures.ok

pub add_value-returns-else-depth-eq0-2-clause-not_json : goal.add_value-returns-else-depth-eq0-2-clause-not_json
add_value-returns-else-depth-eq0-2-clause-not_json t c = λ e.
    let first : c.args.reader.now ≡ token_of c.in-Some.token ∷ c.next.new.self = grind arith in
    let opened = ap (converted of_json) (ap (value c.args.depth) (first ∙ ap (λ k. token_of k ∷ c.next.new.self) c.in-BeginObject.is) ∙ value-begin_object c.args.depth c.next.new.self (omega arith)) ∙ converted-object (members (value (c.args.depth - 1)) (length c.next.new.self) c.next.new.self) in
    opened ∙ ap (parse_map values.object) (c.add_object.ensures.not_json e)
