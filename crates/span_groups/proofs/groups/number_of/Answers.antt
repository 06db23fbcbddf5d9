use Rattle.std.proofs.Common.{◌≡◌, ◌∙◌, ◌++◌, ◌∷◌, [], ℕ, List, Some, None, cond, is_some, ap, subst, sym}
use Rattle.std.specs.Prelude.{option_copied}
use Rattle.std.specs.BTreeMap.{is_at}
use Rattle.std.specs.Option.{option_map}
use Rattle.std.proofs.lemmas.Bool.{cond-false, cond-true}
use Rattle.fleet_summary.specs.Names.{name_cmp}
use Rattle.span_groups.specs.declared.grouping.Group.{Group}
use Rattle.span_groups.specs.Grouping.{name_of}
use Rattle.span_groups.specs.Groups.{empty_group, number_known, AreKnown}
use Rattle.span_groups.proofs.Numbering.{found_there, known_more, own_name, pushed_last}
use Rattle.span_groups.proofs.groups.number_of.Goals as goal

pub returns-in-Some-clause-groups : goal.returns-in-Some-clause-groups
returns-in-Some-clause-groups c =
    let known = c.args.known.now.entries in
    let groups = c.args.groups.now.items in
    sym (cond-true (is_some (number_known known c.args.name.now)) groups (groups ++ empty_group c.args.name.now ∷ []) (ap is_some (sym c.in-Some.ensures.value)))

pub returns-in-Some-clause-number : goal.returns-in-Some-clause-number
returns-in-Some-clause-number c = found_there c.args.known.now.entries c.args.groups.now.items c.requires c.args.name.now c.in-Some.number.now (sym c.in-Some.ensures.value)

pub returns-clause-known : goal.returns-clause-known
returns-clause-known c =
    let known = c.args.known.now.entries in
    let groups = c.args.groups.now.items in
    let name = c.args.name.now in
    let then = c.insert.new.self.entries in
    let fresh : number_known known name ≡ None = sym c.get.ensures.value ∙ ap option_copied c.in_default.is in
    let grown : c.push.new.self.items ≡ groups ++ empty_group name ∷ [] =
    c.in_ok-push.ensures.items ∙ ap (λ (shown : List ℕ). groups ++ empty_group shown ∷ []) c.in_ok-shown.ensures in
    subst (AreKnown then) (sym grown)
    (known_more known groups c.requires name fresh then
    (λ other.
    subst (λ (own : List ℕ). number_known then other ≡ cond (is_at (name_cmp own) other) (Some c.len-number.result) (number_known known other)) c.in_ok-own.ensures (c.in_ok-insert.ensures.updates.0 other)
    ∙ ap (λ (number : ℕ). cond (is_at (name_cmp name) other) (Some number) (number_known known other)) (c.len-number.ensures ∙ c.args.groups.now.ok.0))
    c.in_ok-insert.ensures.ordered (own_name name))

pub returns-clause-groups : goal.returns-clause-groups
returns-clause-groups c =
    let known = c.args.known.now.entries in
    let groups = c.args.groups.now.items in
    let name = c.args.name.now in
    let fresh : number_known known name ≡ None = sym c.get.ensures.value ∙ ap option_copied c.in_default.is in
    c.in_ok-push.ensures.items
    ∙ ap (λ (shown : List ℕ). groups ++ empty_group shown ∷ []) c.in_ok-shown.ensures
    ∙ sym (cond-false (is_some (number_known known name)) groups (groups ++ empty_group name ∷ []) (ap is_some fresh))

pub returns-clause-number : goal.returns-clause-number
returns-clause-number c =
    let groups = c.args.groups.now.items in
    let name = c.args.name.now in
    ap (λ (list : List Group). name_of list c.len-number.result)
    (c.in_ok-push.ensures.items ∙ ap (λ (shown : List ℕ). groups ++ empty_group shown ∷ []) c.in_ok-shown.ensures)
    ∙ ap (option_map (λ (group : Group). group.name)) (pushed_last groups c.len-number.result (empty_group name) (c.len-number.ensures ∙ c.args.groups.now.ok.0))
