use Rattle.std.proofs.Common.{refl, sym, ◌∙◌, arith}
use Rattle.std.proofs.lemmas.Bool.{false≢true}
use Rattle.trace_spans.proofs.Same.{all_same, apart_at, more_same}
use Rattle.trace_spans.proofs.text.TextList.same.Goals as goal

pub returns-then-not-same : goal.returns-then-not-same
returns-then-not-same c = (
  λ e. absurd (false≢true e),
  λ same. absurd (apart_at c.as_slice-texts.result.now c.as_slice-others.result.now c.loop-place.place c.index-texts-place.result c.index-others-place.result (omega arith) c.index-texts-place.is c.index-others-place.is
      (λ e. false≢true (c.if-not-same.ensures.1 e)) (c.as_slice-texts.ensures ∙ same ∙ sym c.as_slice-others.ensures)),
)

pub loop-place-preserved : goal.loop-place-preserved
loop-place-preserved c = more_same c.as_slice-texts.result.now c.as_slice-others.result.now c.loop-place.place c.index-texts-place.result c.index-others-place.result (omega arith) (omega arith) c.index-texts-place.is c.index-others-place.is (c.if-not-same.ensures.0 refl) c.loop-place.invariant

pub returns : goal.returns
returns c = (
  λ _. sym c.as_slice-texts.ensures ∙ all_same c.as_slice-texts.result.now c.as_slice-others.result.now c.loop-place.place (omega arith) (omega arith) c.loop-place.invariant ∙ c.as_slice-others.ensures,
  λ _. refl,
)
