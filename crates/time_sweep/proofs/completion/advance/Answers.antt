use Rattle.std.proofs.Common.{◌∙◌, ◌++◌, ◌∷◌, [], ◌||◌, ◌&&◌, Bool, ap, subst, arith}
use Rattle.std.specs.Prelude.{is_some}
use Rattle.stage_graph.specs.Plain.{feeds_at}
use Rattle.stage_graph.specs.Sound.{IsSound}
use Rattle.stage_graph.specs.Walk.{rank}
use Rattle.stage_ops.specs.declared.state.State.{State}
use Rattle.stage_ops.specs.States.{seen_of, state_at}
use Rattle.rank_order.specs.Lists.{is_among}
use Rattle.rank_order.specs.Marks.{is_marked}
use Rattle.propagate.specs.Completions.{differ}
use Rattle.propagate.specs.Reach.{has_read}
use Rattle.propagate.proofs.Ranks.{live_within}
use Rattle.time_sweep.specs.Changed.{state_in}
use Rattle.time_sweep.specs.Known.{rank_in}
use Rattle.time_sweep.proofs.completion.advance.Goals as goal

pub at-requires : goal.at-requires
at-requires g c = let within = live_within c.args.version.now.graph.places c.args.place c.requires.live in omega (arith, within, c.requires.count)

pub set-requires-clause-within : goal.set-requires-clause-within
set-requires-clause-within g c = let within = live_within c.args.version.now.graph.places c.args.place c.requires.live in omega (arith, within, c.requires.each)

pub set-requires-clause-few : goal.set-requires-clause-few
set-requires-clause-few g c =
    let sound = subst IsSound c.graph-graph.ensures.graph c.len.ensures.sound in
    let few = sound.few in
    omega (arith, few, c.requires.few)

pub returns-clause-list : goal.returns-clause-list
returns-clause-list g c =
    let changes = c.args.changes.now in
    c.in_ok-set.ensures.list
    ∙ ap (λ (state : State). changes.list.items ++ (record { place = c.args.place; state = state }) ∷ [])
    c.in_ok-state.ensures.state

pub returns-clause-marked : goal.returns-clause-marked
returns-clause-marked g c other =
    let changes = c.args.changes.now in
    let places = c.args.version.now.graph.places in
    let state_is = c.in_ok-state.ensures.state in
    let told_is = c.differs-is_told.ensures
    ∙ ap (λ (was : State). differ (seen_of was) (seen_of c.in_ok-state.state)) c.at.ensures
    ∙ ap (λ (now : State). differ (seen_of (state_in c.args.before.now changes.at.items changes.list.items c.args.place)) (seen_of now)) state_is in
    c.in_ok-tell_if.ensures.marked other
    ∙ ap (λ (told : Bool). is_marked (rank places) c.args.marks.now other || (told && (is_among c.args.place (feeds_at places other) && (is_some (rank_in c.args.ranks.now other) && has_read places (state_at c.args.before.now) c.args.place other)))) told_is
