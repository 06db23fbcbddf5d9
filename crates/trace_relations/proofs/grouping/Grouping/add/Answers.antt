use Rattle.std.proofs.Common.{◌<◌, ◌++◌, [], ◌∷◌, ◌∙◌, ap, arith, rules, subst, sym, vec_len}
use Rattle.std.specs.Prelude.{option_map, string_bytes}
use Rattle.trace_relations.specs.Groupings.{IsGrouping}
use Rattle.trace_relations.proofs.Grouped.{grouping_more, grouping_passed}
use Rattle.trace_relations.proofs.grouping.Grouping.add.Goals as goal

pub returns-in_default-clause-grouping : goal.returns-in_default-clause-grouping
returns-in_default-clause-grouping c = λ keys places none grouping. grouping_passed keys places _ _ _ c.args.place grouping (none ∙ ap (option_map string_bytes) c.in_default.is)

pub returns-clause-grouping : goal.returns-clause-grouping
returns-clause-grouping c = λ keys places key_is grouping.
    let before = c.in_ok-number.ensures.grouping keys places c.args.self.now.of_spans.items grouping in
    let there = c.in_ok-number.ensures.number in
    let within = before.within (string_bytes c.in-Some.key) c.in_ok-number.number there in
    let here : c.in_ok-number.number < vec_len c.number_of.new.groups = omega (arith, c.number_of.new.groups.ok.0) in
    subst (IsGrouping keys (places ++ c.args.place ∷ []) c.number_of.new.known c.add_call.new.groups.items) (sym c.set_at.ensures)
    (grouping_more keys places c.number_of.new.known c.number_of.new.groups.items c.add_call.new.groups.items c.args.self.now.of_spans.items (string_bytes c.in-Some.key) c.in_ok-number.number c.args.place before
    (record { key_is = key_is ∙ ap (option_map string_bytes) c.in-Some.is; there = there; long = search rules; added = c.in_ok-add_call.ensures.added here; free = c.in_ok-add_call.ensures.free before.free }))
