use Rattle.std.proofs.Common.{◌∙◌, sym, ap}
use Rattle.stage_graph.specs.Plain.{place_named}
use Rattle.rank_order.specs.Moved.{emptied, moved_by}
use Rattle.rank_order.proofs.patch.moved_by.Goals as goal

pub returns-in-Add : goal.returns-in-Add
returns-in-Add g c =
    c.id_of.ensures ∙ ap (place_named c.args.changed.now.places) c.as_str.ensures ∙ sym (ap (moved_by c.args.old.now.places c.args.changed.now.places) c.in-Add.is)

pub returns-in-Rewire : goal.returns-in-Rewire
returns-in-Rewire g c =
    c.id_of-in-Rewire.ensures ∙ ap (place_named c.args.changed.now.places) c.as_str-in-Rewire.ensures ∙ sym (ap (moved_by c.args.old.now.places c.args.changed.now.places) c.in-Rewire.is)

pub returns-in-Remove : goal.returns-in-Remove
returns-in-Remove g c =
    c.emptied.ensures ∙ ap (emptied c.args.changed.now.places) (c.id_of-in-Remove.ensures ∙ ap (place_named c.args.old.now.places) c.as_str-in-Remove.ensures)
    ∙ sym (ap (moved_by c.args.old.now.places c.args.changed.now.places) c.in-Remove.is)
