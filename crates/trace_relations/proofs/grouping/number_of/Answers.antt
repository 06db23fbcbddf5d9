use Rattle.std.proofs.Common.{◌≡◌, None, ◌∙◌, ap, sym, rules}
use Rattle.std.specs.Prelude.{string_bytes}
use Rattle.std.specs.HashMap.{get_by_text}
use Rattle.std.proofs.lemmas.Map.Text.{hash_map_updates_text}
use Rattle.trace_relations.proofs.Grouped.{grouping_new, own_number}
use Rattle.trace_relations.proofs.grouping.number_of.Goals as goal

pub returns-clause-grouping : goal.returns-clause-grouping
returns-clause-grouping c = λ keys places of_spans grouping.
    let missed : get_by_text c.args.known.now (string_bytes c.args.key) ≡ None = ap (get_by_text c.args.known.now) (sym c.as_str.ensures.value) ∙ sym c.in_default.ensures.value in
    grouping_new keys places c.args.known.now c.insert.new.self c.args.groups.now.items c.push.new.self.items of_spans (string_bytes c.args.key) c.len-number.result c.new.result grouping
    (record {
      missed = missed;
      got = hash_map_updates_text (string_bytes c.args.key) c.args.known.now c.insert.new.self _ c.in_ok-insert.ensures.updates;
      number_is = search rules;
      empty = c.new.ensures.calls;
      free = c.new.ensures.free;
      are = c.in_ok-push.ensures.items;
    })

pub returns-clause-number : goal.returns-clause-number
returns-clause-number c =
    let missed : get_by_text c.args.known.now (string_bytes c.args.key) ≡ None = ap (get_by_text c.args.known.now) (sym c.as_str.ensures.value) ∙ sym c.in_default.ensures.value in
    own_number c.args.known.now c.insert.new.self c.args.groups.now.items c.push.new.self.items (string_bytes c.args.key) c.len-number.result c.new.result
    (record {
      missed = missed;
      got = hash_map_updates_text (string_bytes c.args.key) c.args.known.now c.insert.new.self _ c.in_ok-insert.ensures.updates;
      number_is = search rules;
      empty = c.new.ensures.calls;
      free = c.new.ensures.free;
      are = c.in_ok-push.ensures.items;
    })
