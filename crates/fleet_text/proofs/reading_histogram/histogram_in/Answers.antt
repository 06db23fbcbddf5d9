use Rattle.std.proofs.Common.{ℕ, ◌≡◌, List, [], refl, sym, subst}
use Rattle.std.specs.List.{All}
use Rattle.std.specs.Map.{keys_of}
use Rattle.std.specs.Ordering.{nat_cmp}
use Rattle.std.specs.declared.cmp.Ordering.TheVariants.{Less}
use Rattle.std.proofs.lemmas.Bool.{false≢true}
use Rattle.std.proofs.lemmas.List.Elements.{recursion_from_All}
use Rattle.fleet_summary.specs.Histogram.{IsHistogram}
use Rattle.fleet_summary.proofs.HistogramAdded.{IsHistogram-none}
use Rattle.serde_json.specs.View.{view}
use Rattle.fleet_text.specs.Says.{SaysEntry}
use Rattle.fleet_text.proofs.Nexts.{entry_last, entry_next}
use Rattle.fleet_text.proofs.ReadLists.{AreSaid, AreSaid-all, AreSaid-more}
use Rattle.fleet_text.proofs.ReadTables.{histogram-pushed}
use Rattle.fleet_text.proofs.Said.{histogram_one}
use Rattle.fleet_text.proofs.reading_histogram.histogram_in.Goals as goal

-- all keys come before one
abbrev IsLast : List (ℕ × ℕ) → ℕ → Type 0
IsLast histogram step = All (λ other. nat_cmp other step ≡ Less) (keys_of histogram)

pub loop-entry-init : goal.loop-entry-init
loop-entry-init c = record {
  sound = subst IsHistogram (sym c.new-histogram.ensures) IsHistogram-none;
  said = subst (AreSaid SaysEntry []) (sym c.new-histogram.ensures) tt;
}

pub loop-entry-preserved : goal.loop-entry-preserved
loop-entry-preserved c =
    let now = c.loop-entry.histogram in
    let step = c.in_ok-step.step in
    let number = c.in_ok-step.number in
    let last : IsLast now step = subst (λ (es : List (ℕ × ℕ)). IsLast es step) c.by_step.ensures.numbers (c.if-not-is_last.ensures.0 refl) in
    record {
      sound = c.add.ensures.sound;
      said =
          AreSaid-more SaysEntry c.in_ok-entries.entries.now now c.add.new.self c.loop-entry.entry-index c.entry-item.result (step, number) c.loop-entry-test.true c.entry-item.is c.loop-entry.invariant.said c.in_ok-step.ensures.said
          (histogram-pushed now c.add.new.self step number c.loop-entry.invariant.sound c.add.ensures.sound (recursion_from_All (λ other. nat_cmp other step ≡ Less) (keys_of now) last) c.in_ok-step.ensures.step c.in_ok-step.ensures.some c.in_ok-step.ensures.fits c.in_ok-add.ensures.added);
    }

pub returns-in_err-step-clause-back : goal.returns-in_err-step-clause-back
returns-in_err-step-clause-back c all sound says =
    let next = entry_next (view c.args.value.now) c.in_ok-entries.entries.now all c.loop-entry.histogram c.loop-entry.entry-index c.entry-item.result c.in_ok-entries.ensures sound says c.loop-entry-test.true c.entry-item.is c.loop-entry.invariant.said in
    absurd (cc (c.in_err-step.ensures.back next.own next.entry.counted next.entry.some next.said))

pub returns-then-not-is_last-clause-back : goal.returns-then-not-is_last-clause-back
returns-then-not-is_last-clause-back c all sound says =
    let now = c.loop-entry.histogram in
    let step = c.in_ok-step.step in
    let next = entry_next (view c.args.value.now) c.in_ok-entries.entries.now all now c.loop-entry.entry-index c.entry-item.result c.in_ok-entries.ensures sound says c.loop-entry-test.true c.entry-item.is c.loop-entry.invariant.said in
    let last : IsLast now step = entry_last c.entry-item.result now (step, c.in_ok-step.number) next c.in_ok-step.ensures.said in
    absurd (false≢true (c.if-not-is_last.ensures.1 (subst (λ (es : List (ℕ × ℕ)). IsLast es step) (sym c.by_step.ensures.numbers) last)))

pub returns-clause-said : goal.returns-clause-said
returns-clause-said c = AreSaid-all SaysEntry (view c.args.value.now) c.in_ok-entries.entries.now c.loop-entry.histogram c.loop-entry.entry-index c.loop-entry-test.false c.in_ok-entries.ensures c.loop-entry.invariant.said

pub returns-clause-back : goal.returns-clause-back
returns-clause-back c all sound says = histogram_one (view c.args.value.now) c.loop-entry.histogram all (returns-clause-said c) says
