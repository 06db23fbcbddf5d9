use Rattle.std.proofs.Common.{◌++◌, List, append-nil, sym, ap, ◌∙◌, subst}
use Rattle.stage_graph.specs.Sound.{IsSound}
use Rattle.stage_ends.specs.declared.fate.EndFate.{EndFate}
use Rattle.stage_ends.specs.Ends.{completed_at}
use Rattle.stage_ends.proofs.Placing.{early_ends, no_fates, none_in}
use Rattle.stage_ends.proofs.ends.push_fates_of.Goals as goal

pub returns-then-is_empty : goal.returns-then-is_empty
returns-then-is_empty g c =
    let view = c.args.view.now in
    let none = no_fates view.place view.stage.now (completed_at view.version.now.graph view.place) (sym c.as_slice.ensures ∙ none_in c.as_slice.result.now (sym c.is_empty.ensures ∙ c.if-is_empty.true)) in
    sym (append-nil c.args.found.now.items) ∙ ap (λ (list : List EndFate). c.args.found.now.items ++ list) (sym none)

pub push_fates-requires : goal.push_fates-requires
push_fates-requires g c =
    let view = c.args.view.now in
    early_ends view.version.now.graph view.place view.stage.now (subst IsSound c.graph.ensures.graph c.len.ensures.sound) view.stands
