use Rattle.std.proofs.Common.{◌≡◌, ℕ, Bool, Option, Some}
use Rattle.trace_stages.specs.declared.walk.holding.Answer.{Answer}
use Rattle.trace_stages.specs.declared.walk.stage_id.StageId.{StageId}
use Rattle.trace_stages.specs.Walk.{with_called}
use Rattle.trace_stages.proofs.walk.walking.answer.Goals as goal

same_told : (a b : StageId) (m n : ℕ) (p q : Bool) → a ≡ b → m ≡ n → p ≡ q → ◌≡◌ {A = Option Answer} (Some (record { stage = a; since = m; is_open = p })) (Some (record { stage = b; since = n; is_open = q }))
same_told a b m n p q e f g = cc

pub returns : goal.returns
returns c = λ plain h.
    let has = c.in_ok-look_again.ensures (with_called plain c.args.called.now) (c.in_ok-end_called.ensures plain h) in (
      h.0,
      has.1,
      has.2,
      has.3,
      has.4,
      has.5,
      has.6,
      has.7,
      same_told _ _ _ _ _ _ has.0 c.first_start.ensures c.some_open.ensures,
    )
