-- The nearest ancestor that starts no later, by lines of 1, 2, 4 .. spans.
use Rattle.std.proofs.Common.{◌≡◌, ℕ, ◌+◌, ◌-◌, ◌<◌, ◌≤◌, ◌^◌, List, [], ◌∷◌, Bool, true, false, cond, Option, Some, None, get_or, length, refl, sym, ap, ◌∙◌, arith}
use Rattle.std.specs.Prelude.{◌||◌, Vec, find, is_some, nat_le}
use Rattle.std.specs.declared.alloc.Global.{Global}
use Rattle.std.specs.Option.{option_or}
use Rattle.std.proofs.lemmas.Bool.{false≢true}
use Rattle.std.proofs.lemmas.Bool.Decides.{nat_tests}
use Rattle.std.proofs.lemmas.List.Folds.{find-append}
use Rattle.std.proofs.lemmas.Option.{slice_get_read}
use Rattle.trace_relations.specs.declared.ancestry.Line.{Line}
use Rattle.trace_relations.specs.declared.moment.Interval.{Interval}
use Rattle.trace_relations.specs.Ancestry.{comes_first, first_among, first_with, host_of, line, most_spans, parent_at, start_at}
use Rattle.trace_relations.specs.Lines.{AreLevels, AreLines, HaveAll, line_at}
use Rattle.trace_relations.proofs.Circling.{power_more}
use Rattle.trace_relations.proofs.Lineage.{is_first, line-add, no_line}

-- the nearest of spans that starts no later
abbrev pub nearest : List Interval → ℕ → List ℕ → Option ℕ
nearest intervals start places = find (λ other. nat_le (start_at intervals other) start) places

abbrev is_reached : List Interval → ℕ → Option ℕ → Bool
is_reached intervals start None = false
is_reached intervals start (Some first) = nat_le (start_at intervals first) start

not_after : (a b x y : ℕ) → is_first a b x y ≡ true → a ≤ b
not_after a b x y p = grind (arith, nat_tests)

not_before : (a b x y : ℕ) → is_first a b x y ≡ false → b ≤ a
not_before a b x y p = grind (arith, nat_tests)

sooner_left : (a b s : ℕ) → a ≤ b → nat_le a s ≡ (nat_le b s || nat_le a s)
sooner_left a b s h = grind (arith, nat_tests)

sooner_right : (a b s : ℕ) → a ≤ b → nat_le a s ≡ (nat_le a s || nat_le b s)
sooner_right a b s h = grind (arith, nat_tests)

sooner : (intervals : List Interval) (x first s : ℕ) (c : Bool) → comes_first intervals first x ≡ c → nat_le (start_at intervals (cond c first x)) s ≡ (nat_le (start_at intervals x) s || nat_le (start_at intervals first) s)
sooner intervals x first s true p = sooner_left (start_at intervals first) (start_at intervals x) s (not_after (start_at intervals first) (start_at intervals x) first x p)
sooner intervals x first s false p = sooner_right (start_at intervals x) (start_at intervals first) s (not_before (start_at intervals first) (start_at intervals x) first x p)

or_false : (b : Bool) → b ≡ (b || false)
or_false true = refl
or_false false = refl

with_first : (intervals : List Interval) (x s : ℕ) (first : Option ℕ) → nat_le (start_at intervals (first_with intervals x first)) s ≡ (nat_le (start_at intervals x) s || is_reached intervals s first)
with_first intervals x s None = or_false (nat_le (start_at intervals x) s)
with_first intervals x s (Some first) = sooner intervals x first s _ refl

some_or : (b : Bool) (x : ℕ) (o : Option ℕ) → is_some (cond b (Some x) o) ≡ (b || is_some o)
some_or true x o = refl
some_or false x o = refl

reached : (intervals : List Interval) (s : ℕ) (places : List ℕ) → is_some (nearest intervals s places) ≡ is_reached intervals s (first_among intervals places)
reached intervals s [] = refl
reached intervals s (x ∷ xs) =
    some_or (nat_le (start_at intervals x) s) x (nearest intervals s xs)
    ∙ ap (λ b. nat_le (start_at intervals x) s || b) (reached intervals s xs)
    ∙ sym (with_first intervals x s (first_among intervals xs))

skipped : (o r : Option ℕ) → is_some o ≡ false → option_or o r ≡ r
skipped None r h = refl
skipped (Some x) r h = absurd (false≢true (sym h))

stayed : (o r : Option ℕ) → is_some o ≡ true → option_or o r ≡ o
stayed None r h = absurd (false≢true h)
stayed (Some x) r h = refl

test_false : (a s : ℕ) → s < a → nat_le a s ≡ false
test_false a s h = grind (arith, nat_tests)

test_true : (a s : ℕ) → a ≤ s → nat_le a s ≡ true
test_true a s h = grind (arith, nat_tests)

halves : (intervals : List Interval) (parents : List (Option ℕ)) (k : ℕ) (lines : List Line) (s at : ℕ) → AreLines intervals parents (2 ^ k) lines → nearest intervals s (line parents (2 ^ (k + 1)) (Some at)) ≡ option_or (nearest intervals s (line parents (2 ^ k) (Some at))) (nearest intervals s (line parents (2 ^ k) (line_at lines at).after))
halves intervals parents k lines s at are =
    ap (λ n. nearest intervals s (line parents n (Some at))) (sym (power_more k))
    ∙ ap (λ places. nearest intervals s places) (line-add parents (2 ^ k) (2 ^ k) (Some at))
    ∙ find-append _ (line parents (2 ^ k) (Some at)) _
    ∙ ap (λ o. option_or (nearest intervals s (line parents (2 ^ k) (Some at))) (nearest intervals s (line parents (2 ^ k) o))) (sym (are at).0)

first_reached : (intervals : List Interval) (parents : List (Option ℕ)) (k : ℕ) (lines : List Line) (s at : ℕ) → AreLines intervals parents (2 ^ k) lines → is_some (nearest intervals s (line parents (2 ^ k) (Some at))) ≡ nat_le (start_at intervals (line_at lines at).first) s
first_reached intervals parents k lines s at are = reached intervals s (line parents (2 ^ k) (Some at)) ∙ ap (λ o. is_reached intervals s o) (sym (are at).1)

-- the lines at a level, on the way down
pub level_at : (intervals : List Interval) (parents : List (Option ℕ)) (levels : List (Vec Line Global)) (passed : ℕ) (lines : Vec Line Global) → AreLevels intervals parents levels → passed < length levels → lines ≡ get_or levels (length levels - 1 - passed) lines → AreLines intervals parents (2 ^ (length levels - (passed + 1))) lines.items
level_at intervals parents levels passed lines are lt is =
    let e : length levels - 1 - passed ≡ length levels - (passed + 1) = omega arith in
    are (length levels - (passed + 1)) lines (slice_get_read levels (length levels) (length levels - (passed + 1)) lines refl (omega arith) (is ∙ ap (λ i. get_or levels i lines) e))

-- what the way down keeps: the host is in the line that begins at a span
abbrev pub IsHostFrom : List Interval → List (Option ℕ) → ℕ → ℕ → ℕ → Option ℕ → Type 0
IsHostFrom intervals parents place count passed at = host_of intervals parents place ≡ nearest intervals (start_at intervals place) (line parents (2 ^ (count - passed)) at)

more_of : (count passed : ℕ) → passed < count → count - passed ≡ count - (passed + 1) + 1
more_of count passed lt = omega arith

-- the first half of the line starts too late
pub gone_on : (intervals : List Interval) (parents : List (Option ℕ)) (place count passed at : ℕ) (lines : List Line) → passed < count → AreLines intervals parents (2 ^ (count - (passed + 1))) lines → start_at intervals place < start_at intervals (line_at lines at).first → IsHostFrom intervals parents place count passed (Some at) → IsHostFrom intervals parents place count (passed + 1) (line_at lines at).after
gone_on intervals parents place count passed at lines lt are late so_far =
    so_far
    ∙ ap (λ n. nearest intervals (start_at intervals place) (line parents (2 ^ n) (Some at))) (more_of count passed lt)
    ∙ halves intervals parents (count - (passed + 1)) lines (start_at intervals place) at are
    ∙ skipped _ _ (first_reached intervals parents (count - (passed + 1)) lines (start_at intervals place) at are ∙ test_false _ _ late)

-- the host is in the first half
pub stayed_at : (intervals : List Interval) (parents : List (Option ℕ)) (place count passed at : ℕ) (lines : List Line) → passed < count → AreLines intervals parents (2 ^ (count - (passed + 1))) lines → start_at intervals (line_at lines at).first ≤ start_at intervals place → IsHostFrom intervals parents place count passed (Some at) → IsHostFrom intervals parents place count (passed + 1) (Some at)
stayed_at intervals parents place count passed at lines lt are early so_far =
    so_far
    ∙ ap (λ n. nearest intervals (start_at intervals place) (line parents (2 ^ n) (Some at))) (more_of count passed lt)
    ∙ halves intervals parents (count - (passed + 1)) lines (start_at intervals place) at are
    ∙ stayed _ _ (first_reached intervals parents (count - (passed + 1)) lines (start_at intervals place) at are ∙ test_true _ _ early)

-- a line that has no span has no host
pub no_host : (intervals : List Interval) (parents : List (Option ℕ)) (place count passed : ℕ) → IsHostFrom intervals parents place count passed None → host_of intervals parents place ≡ None
no_host intervals parents place count passed h = h ∙ ap (λ places. nearest intervals (start_at intervals place) places) (no_line parents (2 ^ (count - passed)))

none_left : (count passed : ℕ) → passed ≡ count → count - passed ≡ 0
none_left count passed e = omega arith

-- a line of one span has it, if it starts no later
pub host_here : (intervals : List Interval) (parents : List (Option ℕ)) (place count passed at : ℕ) → passed ≡ count → IsHostFrom intervals parents place count passed (Some at) → host_of intervals parents place ≡ cond (nat_le (start_at intervals at) (start_at intervals place)) (Some at) None
unfolding line
host_here intervals parents place count passed at e h = h ∙ ap (λ n. nearest intervals (start_at intervals place) (line parents (2 ^ n) (Some at))) (none_left count passed e)

none_passed : (count : ℕ) → count ≡ count - 0
none_passed count = omega arith

-- the first ancestor
pub begun : (intervals : List Interval) (parents : List (Option ℕ)) (place count : ℕ) (parent : Option ℕ) → HaveAll parents (2 ^ count) → parent ≡ parent_at parents place → IsHostFrom intervals parents place count 0 parent
begun intervals parents place count parent all e =
    ap (λ o. nearest intervals (start_at intervals place) (line parents most_spans o)) (sym e)
    ∙ ap (λ places. nearest intervals (start_at intervals place) places) (all parent)
    ∙ ap (λ n. nearest intervals (start_at intervals place) (line parents (2 ^ n) parent)) (none_passed count)

later : (intervals : List Interval) (parents : List (Option ℕ)) (place count passed at s t : ℕ) (here : Line) (lines : List Line) → passed < count → AreLines intervals parents (2 ^ (count - (passed + 1))) lines → here ≡ line_at lines at → s ≡ start_at intervals place → t ≡ start_at intervals here.first → s < t → IsHostFrom intervals parents place count passed (Some at) → IsHostFrom intervals parents place count (passed + 1) here.after
later intervals parents place count passed at s t here lines lt are is s_is t_is late so_far =
    let t_at : t ≡ start_at intervals (line_at lines at).first = t_is ∙ ap (λ l. start_at intervals l.first) is in
    gone_on intervals parents place count passed at lines lt are (omega arith) so_far ∙ ap (λ l. nearest intervals (start_at intervals place) (line parents (2 ^ (count - (passed + 1))) l.after)) (sym is)

-- the way goes on after the line
pub gone_to : (intervals : List Interval) (parents : List (Option ℕ)) (place count passed at s t next : ℕ) (here : Line) (lines : List Line) → passed < count → AreLines intervals parents (2 ^ (count - (passed + 1))) lines → here ≡ line_at lines at → s ≡ start_at intervals place → t ≡ start_at intervals here.first → s < t → here.after ≡ Some next → IsHostFrom intervals parents place count passed (Some at) → IsHostFrom intervals parents place count (passed + 1) (Some next)
gone_to intervals parents place count passed at s t next here lines lt are is s_is t_is late after so_far =
    later intervals parents place count passed at s t here lines lt are is s_is t_is late so_far ∙ ap (λ o. nearest intervals (start_at intervals place) (line parents (2 ^ (count - (passed + 1))) o)) after

-- nothing is after the line
pub gone_out : (intervals : List Interval) (parents : List (Option ℕ)) (place count passed at s t : ℕ) (here : Line) (lines : List Line) → passed < count → AreLines intervals parents (2 ^ (count - (passed + 1))) lines → here ≡ line_at lines at → s ≡ start_at intervals place → t ≡ start_at intervals here.first → s < t → here.after ≡ None → IsHostFrom intervals parents place count passed (Some at) → None ≡ host_of intervals parents place
gone_out intervals parents place count passed at s t here lines lt are is s_is t_is late after so_far =
    sym (no_host intervals parents place count (passed + 1) (later intervals parents place count passed at s t here lines lt are is s_is t_is late so_far ∙ ap (λ o. nearest intervals (start_at intervals place) (line parents (2 ^ (count - (passed + 1))) o)) after))

-- the way stays
pub stayed_here : (intervals : List Interval) (parents : List (Option ℕ)) (place count passed at s t : ℕ) (here : Line) (lines : List Line) → passed < count → AreLines intervals parents (2 ^ (count - (passed + 1))) lines → here ≡ line_at lines at → s ≡ start_at intervals place → t ≡ start_at intervals here.first → t ≤ s → IsHostFrom intervals parents place count passed (Some at) → IsHostFrom intervals parents place count (passed + 1) (Some at)
stayed_here intervals parents place count passed at s t here lines lt are is s_is t_is early so_far =
    let t_at : t ≡ start_at intervals (line_at lines at).first = t_is ∙ ap (λ l. start_at intervals l.first) is in
    stayed_at intervals parents place count passed at lines lt are (omega arith) so_far

-- the end of the way
pub found_host : (intervals : List Interval) (parents : List (Option ℕ)) (place count passed at s t : ℕ) → passed ≡ count → IsHostFrom intervals parents place count passed (Some at) → s ≡ start_at intervals place → t ≡ start_at intervals at → t ≤ s → Some at ≡ host_of intervals parents place
found_host intervals parents place count passed at s t e h s_is t_is le =
    sym (host_here intervals parents place count passed at e h ∙ ap (λ b. cond b (Some at) None) (test_true (start_at intervals at) (start_at intervals place) (omega arith)))

pub missed_host : (intervals : List Interval) (parents : List (Option ℕ)) (place count passed at s t : ℕ) → passed ≡ count → IsHostFrom intervals parents place count passed (Some at) → s ≡ start_at intervals place → t ≡ start_at intervals at → s < t → None ≡ host_of intervals parents place
missed_host intervals parents place count passed at s t e h s_is t_is lt =
    sym (host_here intervals parents place count passed at e h ∙ ap (λ b. cond b (Some at) None) (test_false (start_at intervals at) (start_at intervals place) (omega arith)))
