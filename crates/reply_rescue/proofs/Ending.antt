-- A stage's ends, one of which is taken away or acts later, keep the rules of ends.
use Rattle.std.proofs.Common.{◌≡◌, ◌+◌, ◌-◌, ◌^◌, ◌≤◌, ◌++◌, ℕ, Bool, true, min, List, [], Option, Some, None, length, take, drop, refl, ap, sym, ◌∙◌, subst, append-nil, arith, length-append, length-drop, take_all}
use Rattle.std.specs.Prelude.{All, IfSome, nat_le, slice_get}
use Rattle.std.specs.Option.{option_map, option_to_list}
use Rattle.std.specs.List.{list_all}
use Rattle.std.proofs.Math.ListN.{drop_of_length-le}
use Rattle.std.proofs.lemmas.Bool.{and_from, and_parts, le-leb, leb-true}
use Rattle.std.proofs.lemmas.List.{length-take}
use Rattle.std.proofs.lemmas.List.Elements.{All-append, All-cons, All-drop, All-nil, All-take}
use Rattle.std.proofs.lemmas.List.Sums.{AllPass-from_list_all, list_all-from_AllPass}
use Rattle.std.proofs.lemmas.Option.{get_or_from_slice_get, slice_get_past, slice_get_within}
use Rattle.stage_graph.specs.declared.end.Act.{Act}
use Rattle.stage_graph.specs.declared.end.Act.TheVariants.{Complete, CompleteExceptionally, Cancel, OrTimeout, CompleteOnTimeout}
use Rattle.stage_graph.specs.declared.end.End.{End}
use Rattle.stage_graph.specs.Checks.{are_after, are_ends, delay_of, is_end, is_tick}
use Rattle.reply_rescue.specs.Ends.{longer_act, longer_end, twice, with_instead, with_longer_end, without_end}

-- ---- an index of no end leaves the ends as they are

pub none_instead : (ends : List End) (index : ℕ) → length ends ≤ index → with_instead None ends index ≡ ends
none_instead ends index past =
    ap (λ (front : List End). front ++ drop (index + 1) ends) (take_all index ends past)
    ∙ ap (λ (back : List End). ends ++ back) (drop_of_length-le ends (omega (arith, past)))
    ∙ append-nil ends

-- ---- how many there are

short_instead : (other : Option End) (ends : List End) (index : ℕ) → length (option_to_list other) + (length ends - (index + 1)) + min index (length ends) ≤ length ends → length (with_instead other ends index) ≤ length ends
short_instead other ends index short =
    let all = length-append (take index ends) (option_to_list other ++ drop (index + 1) ends) in
    let back = length-append (option_to_list other) (drop (index + 1) ends) in
    let front = length-take index ends in
    let rest = length-drop (index + 1) ends in
    omega (arith, all, back, front, rest, short)

-- ---- each of them passes a test

passing_instead : (p : End → Bool) (other : Option End) (ends : List End) (index : ℕ) → IfSome other (λ end. p end ≡ true) → list_all p ends ≡ true → list_all p (with_instead other ends index) ≡ true
passing_instead p other ends index own all =
    let each = AllPass-from_list_all p ends all in
    list_all-from_AllPass p (with_instead other ends index)
    (All-append (λ (end : End). p end ≡ true) (take index ends) (option_to_list other ++ drop (index + 1) ends) (All-take (λ (end : End). p end ≡ true) index ends each)
    (All-append (λ (end : End). p end ≡ true) (option_to_list other) (drop (index + 1) ends) (one other own) (All-drop (λ (end : End). p end ≡ true) (index + 1) ends each))) where
      one : (other : Option End) → IfSome other (λ end. p end ≡ true) → All (λ (end : End). p end ≡ true) (option_to_list other)
      one None own = All-nil (λ (end : End). p end ≡ true)
      one (Some end) own = All-cons (λ (end : End). p end ≡ true) end [] own (All-nil (λ (end : End). p end ≡ true))

passes_at : (p : End → Bool) (ends : List End) (index : ℕ) → list_all p ends ≡ true → IfSome (slice_get ends index) (λ end. p end ≡ true)
passes_at p ends index all = of (slice_get ends index) refl where
  of : (there : Option End) → slice_get ends index ≡ there → IfSome there (λ end. p end ≡ true)
  of None is = tt
  of (Some end) is = subst (λ (end : End). p end ≡ true) (get_or_from_slice_get ends index end end is) (AllPass-from_list_all p ends all index end (slice_get_within ends index end is))

-- ---- a timeout with twice the delay

delay_fits : (act : Act) → is_tick (delay_of act) ≡ true → is_tick (delay_of (longer_act act)) ≡ true
delay_fits (Complete value) fits = refl
delay_fits (CompleteExceptionally name) fits = refl
delay_fits Cancel fits = refl
delay_fits (OrTimeout delay) fits = le-leb (twice delay) (2 ^ 40) (omega arith)
delay_fits (CompleteOnTimeout delay value) fits = le-leb (twice delay) (2 ^ 40) (omega arith)

longer_is_end : (end : End) → is_end end ≡ true → is_end (longer_end end) ≡ true
longer_is_end end fits =
    let parts = and_parts (is_tick end.at) (is_tick (delay_of end.act)) fits in
    and_from (is_tick end.at) (is_tick (delay_of (longer_act end.act))) parts.0 (delay_fits end.act parts.1)

longer_passes : (p : End → Bool) → ((end : End) → p end ≡ true → p (longer_end end) ≡ true) → (there : Option End) → IfSome there (λ end. p end ≡ true) → IfSome (option_map longer_end there) (λ end. p end ≡ true)
longer_passes p keeps None own = tt
longer_passes p keeps (Some end) own = keeps end own

-- ---- all rules

are_ends_by : (ends made : List End) → are_ends ends ≡ true → length made ≤ length ends → list_all is_end made ≡ true → are_ends made ≡ true
are_ends_by ends made fits short each =
    let few : length ends ≤ 16 = leb-true (length ends) 16 (and_parts (nat_le (length ends) 16) (list_all is_end ends) fits).0 in
    and_from (nat_le (length made) 16) (list_all is_end made) (le-leb (length made) 16 (omega (arith, few, short))) each

all_are_ends : (ends : List End) → are_ends ends ≡ true → list_all is_end ends ≡ true
all_are_ends ends fits = (and_parts (nat_le (length ends) 16) (list_all is_end ends) fits).1

pub without_are_ends : (ends : List End) (index : ℕ) → are_ends ends ≡ true → are_ends (without_end ends index) ≡ true
without_are_ends ends index fits =
    are_ends_by ends (without_end ends index) fits (short_instead None ends index (omega arith)) (passing_instead is_end None ends index tt (all_are_ends ends fits))

pub without_are_after : (created : ℕ) (ends : List End) (index : ℕ) → are_after created ends ≡ true → are_after created (without_end ends index) ≡ true
without_are_after created ends index fits = passing_instead (λ end. nat_le created end.at) None ends index tt fits

longer_short : (ends : List End) (index : ℕ) → length (with_longer_end ends index) ≤ length ends
longer_short ends index = of (slice_get ends index) refl where
  of : (there : Option End) → slice_get ends index ≡ there → length (with_longer_end ends index) ≤ length ends
  of None is = subst (λ (there : Option End). length (with_instead (option_map longer_end there) ends index) ≤ length ends) (sym is) (short_instead None ends index (omega arith))
  of (Some end) is =
      let within = slice_get_within ends index end is in
      subst (λ (there : Option End). length (with_instead (option_map longer_end there) ends index) ≤ length ends) (sym is) (short_instead (Some (longer_end end)) ends index (omega (arith, within)))

pub longer_are_ends : (ends : List End) (index : ℕ) → are_ends ends ≡ true → are_ends (with_longer_end ends index) ≡ true
longer_are_ends ends index fits =
    are_ends_by ends (with_longer_end ends index) fits (longer_short ends index)
    (passing_instead is_end (option_map longer_end (slice_get ends index)) ends index (longer_passes is_end longer_is_end (slice_get ends index) (passes_at is_end ends index (all_are_ends ends fits))) (all_are_ends ends fits))

pub longer_are_after : (created : ℕ) (ends : List End) (index : ℕ) → are_after created ends ≡ true → are_after created (with_longer_end ends index) ≡ true
longer_are_after created ends index fits =
    passing_instead (λ end. nat_le created end.at) (option_map longer_end (slice_get ends index)) ends index
    (longer_passes (λ end. nat_le created end.at) (λ end after. after) (slice_get ends index) (passes_at (λ end. nat_le created end.at) ends index fits)) fits

-- where no end has the index the ends stay
pub longer_past : (ends : List End) (index : ℕ) → length ends ≤ index → with_longer_end ends index ≡ ends
longer_past ends index past = ap (λ (there : Option End). with_instead (option_map longer_end there) ends index) (slice_get_past ends index past) ∙ none_instead ends index past
