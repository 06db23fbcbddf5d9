use Rattle.std.proofs.Common.{◌≡◌, ℕ, ◌-◌, ◌<◌, [], ◌∷◌, length, Some, None, ap, ap₂, ◌∙◌, arith, refl, List, Bool, Bor, ◌⊎◌, inl, inr}
use Rattle.json.specs.Json.{parse_map, after_end_array, read_key, items, members, value}
use Rattle.json.specs.Token.{Token}
use Rattle.json.specs.Reads.{token_of}
use Rattle.json.specs.declared.token.Token.{Token as Handed}
use Rattle.json.specs.declared.token.Token.TheVariants.{String, Bool as Flag, Null}
use Rattle.json.proofs.Grammar.{value_is, value-begin_array, value-begin_object, read_key-shorter}
use Rattle.serde_json.specs.Data.{Data, null, boolean, number, string, array, object, no_items, item, no_members, put}
use Rattle.serde_json.specs.Read.{of_json, converted}
use Rattle.serde_json.specs.View.{number_view}
use Rattle.json_trees.proofs.Reading.{converted-array, converted-object, item_read, item_refused, items_over, member_read, member_refused, key_refused, members_over, leads_on, leads_to_none, leads_to_some, on_ok, on_err, on_err_from}
use Rattle.json_trees.proofs.tokens.+pass.Goals as goal

scalar_read : (depth : ℕ) (t : Handed) (rest : List Token) → ((text : Bor (List ℕ)) × (t ≡ String text)) ⊎ (((flag : Bool) × (t ≡ Flag flag)) ⊎ (t ≡ Null))
    → (d : Data) × (converted of_json (value depth (token_of t ∷ rest)) ≡ Some (d, rest))
scalar_read depth t rest (inl h) = (string h.0.now, ap (λ k. converted of_json (value depth (token_of k ∷ rest))) h.1 ∙ ap (converted of_json) (value_is depth (Token.string h.0.now ∷ rest)))
scalar_read depth t rest (inr (inl h)) = (boolean h.0, ap (λ k. converted of_json (value depth (token_of k ∷ rest))) h.1 ∙ ap (converted of_json) (value_is depth (Token.boolean h.0 ∷ rest)))
scalar_read depth t rest (inr (inr h)) = (null, ap (λ k. converted of_json (value depth (token_of k ∷ rest))) h ∙ ap (converted of_json) (value_is depth (Token.null ∷ rest)))

pub pass_value-returns-in_err-token-clause-err : goal.pass_value-returns-in_err-token-clause-err
pass_value-returns-in_err-token-clause-err t c =
    let empty : c.args.reader.now ≡ [] = grind arith in
    let none = ap (converted of_json) (ap (value c.args.depth) empty ∙ value_is c.args.depth []) in
    on_err c.from_residual.result none

pub pass_value-returns-then-depth-eq0-clause-err : goal.pass_value-returns-then-depth-eq0-clause-err
unfolding value
pass_value-returns-then-depth-eq0-clause-err t c =
    let first : c.args.reader.now ≡ token_of c.in_ok-token.token ∷ c.next.new.self = grind arith in
    let none : c.args.depth ≡ 0 = omega arith in
    ap (converted of_json) (ap₂ value none (first ∙ ap (λ k. token_of k ∷ c.next.new.self) c.in-BeginArray.is))

pub pass_value-returns-then-depth-eq0-2-clause-err : goal.pass_value-returns-then-depth-eq0-2-clause-err
unfolding value
pass_value-returns-then-depth-eq0-2-clause-err t c =
    let first : c.args.reader.now ≡ token_of c.in_ok-token.token ∷ c.next.new.self = grind arith in
    let none : c.args.depth ≡ 0 = omega arith in
    ap (converted of_json) (ap₂ value none (first ∙ ap (λ k. token_of k ∷ c.next.new.self) c.in-BeginObject.is))

pub pass_value-returns-in-String-clause-ok : goal.pass_value-returns-in-String-clause-ok
pass_value-returns-in-String-clause-ok t c =
    let first : c.args.reader.now ≡ token_of c.in_ok-token.token ∷ c.next.new.self = grind arith in
    let read = scalar_read c.args.depth c.in_ok-token.token c.next.new.self c.in-String.is in
    (read.0, ap (λ ts. converted of_json (value c.args.depth ts)) first ∙ read.1)

pub pass_value-returns-in-Some-clause-ok : goal.pass_value-returns-in-Some-clause-ok
pass_value-returns-in-Some-clause-ok t c =
    let first : c.args.reader.now ≡ token_of c.in_ok-token.token ∷ c.next.new.self = grind arith in
    let is : c.args.reader.now ≡ Token.number c.in-Number.text.now ∷ c.next.new.self = grind (arith, first) in
    (number (number_view c.in-Some.field-0), ap (converted of_json) (ap (value c.args.depth) is ∙ value_is c.args.depth _) ∙ rw (← c.in-Some.ensures) refl)

pub pass_value-returns-in-None-clause-err : goal.pass_value-returns-in-None-clause-err
pass_value-returns-in-None-clause-err t c =
    let first : c.args.reader.now ≡ token_of c.in_ok-token.token ∷ c.next.new.self = grind arith in
    let is : c.args.reader.now ≡ Token.number c.in-Number.text.now ∷ c.next.new.self = grind (arith, first) in
    ap (converted of_json) (ap (value c.args.depth) is ∙ value_is c.args.depth _) ∙ rw (← c.in-None.ensures) refl

pub pass_value-returns-in-EndObject-clause-err : goal.pass_value-returns-in-EndObject-clause-err
pass_value-returns-in-EndObject-clause-err t c =
    let first : c.args.reader.now ≡ token_of c.in_ok-token.token ∷ c.next.new.self = grind arith in
    let none : value c.args.depth c.args.reader.now ≡ None = rw (value_is c.args.depth c.args.reader.now, first) (grind arith) in
    ap (converted of_json) none

pub pass_value-returns-else-depth-eq0-clause-ok : goal.pass_value-returns-else-depth-eq0-clause-ok
pass_value-returns-else-depth-eq0-clause-ok t c =
    let first : c.args.reader.now ≡ token_of c.in_ok-token.token ∷ c.next.new.self = grind arith in
    let opened = ap (converted of_json) (ap (value c.args.depth) (first ∙ ap (λ k. token_of k ∷ c.next.new.self) c.in-BeginArray.is) ∙ value-begin_array c.args.depth c.next.new.self (omega arith)) ∙ converted-array (items (value (c.args.depth - 1)) (length c.next.new.self) c.next.new.self) in
    on_ok c.pass_items.result (λ h. (array h.0, opened ∙ ap (parse_map array) h.1)) c.pass_items.ensures.ok

pub pass_value-returns-else-depth-eq0-clause-err : goal.pass_value-returns-else-depth-eq0-clause-err
pass_value-returns-else-depth-eq0-clause-err t c =
    let first : c.args.reader.now ≡ token_of c.in_ok-token.token ∷ c.next.new.self = grind arith in
    let opened = ap (converted of_json) (ap (value c.args.depth) (first ∙ ap (λ k. token_of k ∷ c.next.new.self) c.in-BeginArray.is) ∙ value-begin_array c.args.depth c.next.new.self (omega arith)) ∙ converted-array (items (value (c.args.depth - 1)) (length c.next.new.self) c.next.new.self) in
    on_err_from c.pass_items.result (λ h. opened ∙ ap (parse_map array) h) c.pass_items.ensures.err

pub pass_value-returns-else-depth-eq0-2-clause-ok : goal.pass_value-returns-else-depth-eq0-2-clause-ok
pass_value-returns-else-depth-eq0-2-clause-ok t c =
    let first : c.args.reader.now ≡ token_of c.in_ok-token.token ∷ c.next.new.self = grind arith in
    let opened = ap (converted of_json) (ap (value c.args.depth) (first ∙ ap (λ k. token_of k ∷ c.next.new.self) c.in-BeginObject.is) ∙ value-begin_object c.args.depth c.next.new.self (omega arith)) ∙ converted-object (members (value (c.args.depth - 1)) (length c.next.new.self) c.next.new.self) in
    on_ok c.pass_members.result (λ h. (object h.0, opened ∙ ap (parse_map object) h.1)) c.pass_members.ensures.ok

pub pass_value-returns-else-depth-eq0-2-clause-err : goal.pass_value-returns-else-depth-eq0-2-clause-err
pass_value-returns-else-depth-eq0-2-clause-err t c =
    let first : c.args.reader.now ≡ token_of c.in_ok-token.token ∷ c.next.new.self = grind arith in
    let opened = ap (converted of_json) (ap (value c.args.depth) (first ∙ ap (λ k. token_of k ∷ c.next.new.self) c.in-BeginObject.is) ∙ value-begin_object c.args.depth c.next.new.self (omega arith)) ∙ converted-object (members (value (c.args.depth - 1)) (length c.next.new.self) c.next.new.self) in
    on_err_from c.pass_members.result (λ h. opened ∙ ap (parse_map object) h) c.pass_members.ensures.err

pub pass_items-items-preserved : goal.pass_items-items-preserved
pass_items-items-preserved t c =
    let p = value c.args.depth in
    let l = c.items in
    let n = l.invariant.0 in
    let going : (after_end_array l.reader ≡ None) × (c.take_end_array.new.self ≡ l.reader) = grind arith in
    let done = c.in_ok-pass_value.ensures in
    let r = c.pass_value.new.reader in
    let less : length r < length l.reader = rw (← going.1) done.shorter in
    let turn = item_read p n l.reader r done.ok.0 (omega (arith, l.invariant.1)) going.0 (rw (← going.1) done.ok.1) in (
      n - 1,
      omega (arith, l.invariant.1),
      leads_on (item done.ok.0) _ _ _ turn l.invariant.2,
      omega (arith, l.invariant.3),
    )

pub pass_items-returns-in_err-pass_value-clause-err : goal.pass_items-returns-in_err-pass_value-clause-err
pass_items-returns-in_err-pass_value-clause-err t c =
    let p = value c.args.depth in
    let l = c.items in
    let n = l.invariant.0 in
    let going : (after_end_array l.reader ≡ None) × (c.take_end_array.new.self ≡ l.reader) = grind arith in
    on_err c.from_residual.result (leads_to_none _ _ (item_refused p n l.reader going.0 (rw (← going.1) c.in_err-pass_value.ensures.err)) l.invariant.2)

pub pass_items-returns-clause-ok : goal.pass_items-returns-clause-ok
pass_items-returns-clause-ok t c =
    let p = value c.args.depth in
    let l = c.items in
    let n = l.invariant.0 in
    let r = c.take_end_array.new.self in
    leads_to_some _ _ no_items r (items_over p n l.reader r l.invariant.1 (grind arith)) l.invariant.2

pub pass_members-members-init : goal.pass_members-members-init
pass_members-members-init t c = (length c.args.reader.now, no_members, omega arith, refl, omega arith)

pub pass_members-returns-in_err-next_key-clause-err : goal.pass_members-returns-in_err-next_key-clause-err
pass_members-returns-in_err-next_key-clause-err t c =
    let p = value c.args.depth in
    let l = c.members in
    on_err c.from_residual.result (l.invariant.3 ∙ key_refused p l.invariant.1 l.invariant.0 l.reader c.in_err-next_key.ensures.value)

pub pass_members-members-preserved : goal.pass_members-members-preserved
pass_members-members-preserved t c =
    let p = value c.args.depth in
    let l = c.members in
    let n = l.invariant.0 in
    let old = l.invariant.1 in
    let k = c.in-Some.field-0.now in
    let s = c.next_key.new.self in
    let named : read_key l.reader ≡ Some (Some k, s) = grind arith in
    let done = c.in_ok-pass_value.ensures in
    let r = c.pass_value.new.reader in
    let less = read_key-shorter l.reader (Some k) s named in
    let lesser = done.shorter in (
      n - 1,
      put k done.ok.0 old,
      omega (arith, l.invariant.2),
      l.invariant.3 ∙ member_read p old n k l.reader s r done.ok.0 (omega (arith, l.invariant.2)) named done.ok.1,
      omega (arith, l.invariant.4),
    )

pub pass_members-returns-in_err-pass_value-clause-err : goal.pass_members-returns-in_err-pass_value-clause-err
pass_members-returns-in_err-pass_value-clause-err t c =
    let p = value c.args.depth in
    let l = c.members in
    let n = l.invariant.0 in
    let old = l.invariant.1 in
    let k = c.in-Some.field-0.now in
    let s = c.next_key.new.self in
    let named : read_key l.reader ≡ Some (Some k, s) = grind arith in
    on_err c.from_residual-in_err-pass_value.result (l.invariant.3 ∙ member_refused p old n k l.reader s named c.in_err-pass_value.ensures.err)

pub pass_members-returns-clause-ok : goal.pass_members-returns-clause-ok
pass_members-returns-clause-ok t c =
    let p = value c.args.depth in
    let l = c.members in
    (l.invariant.1, l.invariant.3 ∙ members_over p l.invariant.1 l.invariant.0 l.reader c.next_key.new.self l.invariant.2 (grind arith))
