use mir.Val.{bool_byte}
use Rattle.std.proofs.Common.{ℕ, ◌≡◌, ◌+◌, ◌^◌, ◌<◌, ◌∙◌, Bool, true, false, cond, eqb, refl, subst, arith}
use Rattle.fleet_summary.specs.Histogram.{capped, count_at}
use Rattle.fleet_summary.proofs.GroupParts.{group_amount-of}
use Rattle.fleet_summary.proofs.group.GroupCounts.of.Goals as goal

byte_is : (b : Bool) → bool_byte b ≡ cond b 1 0
byte_is true = refl
byte_is false = refl

pub returns : goal.returns
returns c =
    let spans : c.args.facts.now.spans < 2 ^ 64 = omega arith in
    group_amount-of c.args.time c.args.facts.now c.new-counts.result
    (record {
      traces = 1;
      spans = c.args.facts.now.spans;
      paths = c.from.result;
      sooner = c.saturating_sub.result;
      ran = c.add.new.self;
      queued = c.add-2.new.self;
      times = c.add-3.new.self;
      times_then = c.add-4.new.self;
    })
    c.new-counts.ensures refl refl spans (c.from.ensures ∙ byte_is c.args.facts.now.is_on_path) c.saturating_sub.ensures c.ranges.time.fits
    (subst (λ (step : ℕ). (other : ℕ) → count_at c.add.new.self other ≡ capped (count_at c.new-counts.result.ran other + cond (eqb other step) c.args.facts.now.ran 0)) c.step_of-step.ensures.value c.in_ok-add.ensures.added)
    (subst (λ (step : ℕ). (other : ℕ) → count_at c.add-2.new.self other ≡ capped (count_at c.new-counts.result.queued other + cond (eqb other step) c.args.facts.now.queued 0)) c.step_of-step.ensures.value c.in_ok-add-2.ensures.added)
    (subst (λ (step : ℕ). (other : ℕ) → count_at c.add-3.new.self other ≡ capped (count_at c.new-counts.result.times other + cond (eqb other step) 1 0)) c.step_of-step.ensures.value c.in_ok-add-3.ensures.added)
    (subst (λ (step : ℕ). (other : ℕ) → count_at c.add-4.new.self other ≡ capped (count_at c.new-counts.result.times_then other + cond (eqb other step) 1 0)) c.step_of.ensures.value c.in_ok-add-4.ensures.added)
