use Rattle.std.proofs.Common.{◌∙◌, ℕ, min, Option, Some, sym, ap}
use Rattle.std.specs.Option.{option_map}
use Rattle.stage_ops.specs.declared.state.Done.{Done}
use Rattle.stage_ops.specs.States.{Completion, seen}
use Rattle.time_sweep.specs.Sooner.{sooner_completion, sooner_done}
use Rattle.time_sweep.proofs.completion.done_by_one.Goals as goal

pub returns-clause-done : goal.returns-clause-done
returns-clause-done c =
    let gain = c.in_ok-gain.gain in
    let most = c.in_ok-most.most in
    record {
      gain = gain;
      most = most;
      known = sym c.in_ok-most.ensures;
      sees = ap (option_map seen) (sym c.in_ok-now.ensures)
          ∙ ap (λ (completion : Completion). Some completion) c.in_ok-gain.ensures
          ∙ ap (λ (done : Option Done). option_map (sooner_completion gain) (option_map seen done)) c.in_ok-was.ensures;
      completes = ap (λ (done : Done). Some done) (c.sooner_done.ensures ∙ ap (λ (ticks : ℕ). sooner_done ticks c.in_ok-old.old) c.min-reaching.ensures)
          ∙ ap (option_map (sooner_done (min gain most))) c.in_ok-old.ensures;
    }
