use Rattle.std.proofs.Common.{ℕ, sym, ap, ◌∙◌, Ok}
use Rattle.stage_ops.specs.States.{state_at}
use Rattle.scratch_eval.specs.Answers.{states_of}
use Rattle.scratch_eval.specs.Blame.{followed}
use Rattle.scratch_eval.proofs.Querying.{chain_told}
use Rattle.scratch_eval.proofs.queries.chain.Goals as goal

pub returns : goal.returns
returns c = λ step graph sound are.
    let all = ap (λ (most : ℕ). followed (state_at (states_of c.args.answers.now)) most c.args.place) c.len.ensures in
    ap (λ chain. Ok chain) (c.in_ok-chain.ensures ∙ all) ∙ chain_told step graph sound c.args.answers.now are c.args.place _ (sym c.in-Some.ensures)
