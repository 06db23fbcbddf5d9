use Rattle.std.proofs.Common.{◌≡◌, ◌++◌, ◌∷◌, [], ℕ, Bool, true, false, cond, sym, ap, ◌∙◌, append-nil}
use Rattle.std.specs.List.{range_with_len, filter}
use Rattle.stage_graph.specs.Plain.{uses, stage_at}
use Rattle.scratch_eval.proofs.Querying.{passing_more}
use Rattle.scratch_eval.proofs.queries.all_dependents.Goals as goal
use Rattle.scratch_eval.proofs.queries.all_dependents.Goals.{in-Some+then-has_feed+in_ok-push, in-Some+else-has_feed, in_default}

pub loop-dependent-preserved : goal.loop-dependent-preserved
loop-dependent-preserved g c =
    let places = c.args.graph.now.places in
    let dependent = c.loop-dependent.dependent in
    let passes : ℕ → Bool = λ dependent. uses c.args.place (stage_at places dependent) in
    let before = filter passes (range_with_len 0 dependent) in
    elim c.match-stage.branch [
      | in-Some+then-has_feed+in_ok-push w ↦
          let holds : passes dependent ≡ true = ap (uses c.args.place) (sym w.in-Some.ensures.stage) ∙ sym w.has_feed.ensures ∙ w.if-has_feed.true in
          rw (w.found-is, w.in_ok-push.ensures.items)
          (ap (λ found. found ++ dependent ∷ []) c.loop-dependent.invariant ∙ ap (λ b. before ++ cond b (dependent ∷ []) []) (sym holds) ∙ sym (passing_more passes dependent))
      | in-Some+else-has_feed w ↦
          let fails : passes dependent ≡ false = ap (uses c.args.place) (sym w.in-Some.ensures.stage) ∙ sym w.has_feed.ensures ∙ w.if-has_feed.false in
          rw w.found-is
          (c.loop-dependent.invariant ∙ sym (append-nil before) ∙ ap (λ b. before ++ cond b (dependent ∷ []) []) (sym fails) ∙ sym (passing_more passes dependent))
      | in_default w ↦
          let fails : passes dependent ≡ false = ap (uses c.args.place) (sym w.in_default.ensures.stage) in
          rw w.found-is
          (c.loop-dependent.invariant ∙ sym (append-nil before) ∙ ap (λ b. before ++ cond b (dependent ∷ []) []) (sym fails) ∙ sym (passing_more passes dependent))
    ]
