-- The share of a piece of work.
use Rattle.std.proofs.Common.{◌≡◌, ◌∙◌, ℕ, ◌+◌, ◌<◌, ltb, List, length, Option, Some, ap, sym}
use Rattle.std.proofs.lemmas.Bool.{cond-true, lt-ltb}
use Rattle.stage_graph.specs.Plain.{PlainGraph}
use Rattle.change_words.specs.declared.amount.Amount.{Amount}
use Rattle.fleet_summary.specs.Histogram.{capped}
use Rattle.span_groups.specs.declared.grouping.Counted.{Counted}
use Rattle.fleet_tries.specs.declared.pieces.Time.{Time}
use Rattle.fleet_tries.specs.Pieces.{amount_of, piece_amount, ticks_before, work_ticks}
use Rattle.fleet_tries.proofs.Places.{sum_more}

module _ (graph : PlainGraph) (stages : List (Option Counted)) (time : Time) (span place : ℕ) (amount : Amount) where
  abbrev before : ℕ
  before = ticks_before graph stages time span place

  abbrev upto : ℕ
  upto = ticks_before graph stages time span (place + 1)

  abbrev whole : ℕ
  whole = ticks_before graph stages time span (length graph.places)

  -- the ticks up to the end of the piece
  ends : (was own end : ℕ) → was ≡ before → own ≡ work_ticks graph stages time span place → end ≡ capped (was + own) → end ≡ upto
  ends was own end so_far mine is =
      is
      ∙ ap (λ (n : ℕ). capped (n + own)) so_far
      ∙ ap (λ (n : ℕ). capped (before + n)) mine
      ∙ sum_more (work_ticks graph stages time span) place

  pub shared : (was own end all : ℕ) (result : Amount) → was ≡ before → own ≡ work_ticks graph stages time span place → end ≡ capped (was + own) → all ≡ whole → 0 < own
      → result ≡ amount_of amount was end all → Some result ≡ piece_amount graph stages time span place (Some amount)
  shared was own end all result so_far mine is total some made =
      ap (λ (a : Amount). Some a)
      (made
      ∙ ap (λ (n : ℕ). amount_of amount n end all) so_far
      ∙ ap (λ (n : ℕ). amount_of amount before n all) (ends was own end so_far mine is)
      ∙ ap (λ (n : ℕ). amount_of amount before upto n) total)
      ∙ sym (cond-true (ltb 0 (work_ticks graph stages time span place)) (Some (amount_of amount before upto whole)) _ (ap (ltb 0) (sym mine) ∙ lt-ltb 0 own some))
