use Rattle.std.proofs.Common.{◌≡◌, ◌<◌, ℕ, List, Some, length, true, ◌||◌, ◌&&◌, ◌==◌, sym, ap, ◌∙◌, subst, arith, get_or, take_all}
use Rattle.std.specs.Prelude.{is_some}
use Rattle.stage_graph.specs.Plain.{feeds_at}
use Rattle.stage_graph.specs.Walk.{rank}
use Rattle.stage_ops.specs.States.{state_at}
use Rattle.rank_order.specs.Lists.{is_among}
use Rattle.rank_order.specs.Marks.{is_marked, AreMarks}
use Rattle.propagate.specs.Reach.{has_read}
use Rattle.rank_order.proofs.Marking.{marked_by}
use Rattle.propagate.proofs.Reading.{among_readers, among_readers_all, dependent_uses, mark_live, marked_already, readers_next}
use Rattle.time_sweep.specs.Known.{rank_in}
use Rattle.time_sweep.proofs.Readers.{one_told, none_told}
use Rattle.time_sweep.proofs.completion.tell.Goals as goal
use Rattle.time_sweep.proofs.completion.tell.Goals.{in-Some+in_ok-add, in_default}

pub reader_rank-requires-clause-feed : goal.reader_rank-requires-clause-feed
reader_rank-requires-clause-feed g c κs inside =
    let stages = c.args.version.now.graph.places in
    let place = c.args.place in
    let listed = c.dependents_of-dependents.ensures in
    let i = c.loop-dependent.dependent-index in
    subst (λ (places : List ℕ). is_among place (feeds_at stages (get_or places i 0)) ≡ true) (sym listed)
    (dependent_uses stages place i (subst (λ (places : List ℕ). i < length places) listed (omega arith)))

pub loop-dependent-preserved : goal.loop-dependent-preserved
loop-dependent-preserved g c =
    let stages = c.args.version.now.graph.places in
    let place = c.args.place in
    let reader = λ (s : ℕ). is_some (rank_in c.args.ranks.now s) && has_read stages (state_at c.args.before.now) place s in
    let listed = c.dependents_of-dependents.result.now in
    let i = c.loop-dependent.dependent-index in
    let dependent = get_or listed i 0 in
    let inv = c.loop-dependent.invariant in
    let within : i < length listed = omega arith in
    let reads : is_some c.reader_rank.result ≡ reader dependent = c.reader_rank.ensures.known in
    elim c.match-reader_rank.branch [
      | in-Some+in_ok-add w ↦
          (let found : rank_in c.args.ranks.now dependent ≡ Some w.in-Some.rank = w.in-Some.ensures.rank in
          let here : reader dependent ≡ true = sym reads ∙ ap is_some w.in-Some.is in
          let own : w.in-Some.rank ≡ rank stages dependent = c.requires.ranks.rank dependent w.in-Some.rank found in
          record {
            marked = λ other.
                ap (λ (marks : List (ℕ × ℕ)). is_marked (rank stages) marks other) w.marks-is
                ∙ w.in_ok-add.ensures.marked (rank stages) other own
                ∙ mark_live (reader dependent) (is_marked (rank stages) c.loop-dependent.marks other) (other == dependent) here
                ∙ ap (λ b. b || (reader dependent && other == dependent)) (inv.marked other)
                ∙ one_told reader listed i other (is_marked (rank stages) c.args.marks.now other) within here;
            marks = subst (λ (marks : List (ℕ × ℕ)). AreMarks (rank stages) marks) (sym w.marks-is) (w.in_ok-add.ensures.marks (rank stages) own inv.marks);
          })
      | in_default w ↦
          record {
            marked = λ other.
                ap (λ (marks : List (ℕ × ℕ)). is_marked (rank stages) marks other) w.marks-is
                ∙ inv.marked other
                ∙ none_told reader listed i other (is_marked (rank stages) c.args.marks.now other) within (sym reads ∙ ap is_some w.in_default.is);
            marks = subst (λ (marks : List (ℕ × ℕ)). AreMarks (rank stages) marks) (sym w.marks-is) inv.marks;
          }
    ]

-- a dependent that is marked already
pub loop-dependent-preserved-then-has : goal.loop-dependent-preserved-then-has
loop-dependent-preserved-then-has g c =
    let stages = c.args.version.now.graph.places in
    let reader = λ (s : ℕ). is_some (rank_in c.args.ranks.now s) && has_read stages (state_at c.args.before.now) c.args.place s in
    let listed = c.dependents_of-dependents.result.now in
    let i = c.loop-dependent.dependent-index in
    let dependent = get_or listed i 0 in
    let inv = c.loop-dependent.invariant in
    let within : i < length listed = omega arith in
    record {
      marked = λ other.
          marked_already (is_marked (rank stages) c.loop-dependent.marks) (reader dependent) dependent other
          (marked_by (rank stages) c.loop-dependent.marks inv.marks dependent (sym c.has.ensures ∙ c.if-has.true))
          ∙ ap (λ b. b || (reader dependent && other == dependent)) (inv.marked other)
          ∙ readers_next reader listed i other (is_marked (rank stages) c.args.marks.now other) within;
      marks = inv.marks;
    }

pub returns-clause-marked : goal.returns-clause-marked
returns-clause-marked g c other =
    let stages = c.args.version.now.graph.places in
    let reader = λ (s : ℕ). is_some (rank_in c.args.ranks.now s) && has_read stages (state_at c.args.before.now) c.args.place s in
    let listed = c.dependents_of-dependents.result.now in
    let all = take_all c.loop-dependent.dependent-index listed (omega arith) ∙ c.dependents_of-dependents.ensures in
    c.loop-dependent.invariant.marked other
    ∙ ap (λ xs. is_marked (rank stages) c.args.marks.now other || among_readers reader xs other) all
    ∙ ap (λ b. is_marked (rank stages) c.args.marks.now other || b) (among_readers_all stages reader c.args.place other)
