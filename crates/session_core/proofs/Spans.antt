-- The spans of sessions stand at versions.
use Rattle.std.proofs.Common.{◌≡◌, ℕ, ◌<◌, ◌≤◌, Bool, true, false, if◌then◌else◌, List, [], ◌∷◌, length, Option, Some, None, IfSome, slice_get, refl, ap, sym, subst, ◌∙◌, arith}
use Rattle.std.proofs.lemmas.Map.Made.{lookup-map_values}
use Rattle.std.specs.Option.{option_map}
use Rattle.std.specs.Ordering.{nat_cmp, match_ordering}
use Rattle.std.specs.declared.cmp.Ordering.{Ordering}
use Rattle.std.specs.declared.cmp.Ordering.TheVariants.{Less, Equal, Greater}
use Rattle.std.specs.Map.{lookup, remove_entry}
use Rattle.std.specs.BTreeMap.{is_at, insert_entry}
use Rattle.version_store.specs.Plain.{PlainVersion, parent_of}
use Rattle.session_core.specs.declared.machine.Span.{Span}
use Rattle.std.specs.Prelude.{All}
use Rattle.session_core.specs.Machine.{Numbers, numbers_at}
use Rattle.session_core.specs.Kept.{StandAtVersions}
use Rattle.session_core.proofs.Standing.{climb_low}
use Rattle.session_core.specs.Standing.{parent_in, parent_at, numbers_of}
use Rattle.session_core.specs.MachineView.{Parts, sessions_of, state_of, IsSound, SpansBelow}

-- where an open session stands
abbrev pub span_at : Parts → ℕ → Option Span
span_at m session = lookup (is_at (nat_cmp session)) m.spans

abbrev pub with_spans : Parts → List (ℕ × Span) → Parts
with_spans m spans = record m { spans = spans }

-- the list of a session is the one that its span stands for
pub numbers : (m : Parts) (session : ℕ) (o : Option Span) → span_at m session ≡ o → numbers_at (state_of m) session ≡ option_map (numbers_of m.versions) o
numbers m session o is = lookup-map_values (numbers_of m.versions) (is_at (nat_cmp session)) m.spans ∙ ap (option_map (numbers_of m.versions)) is

pub same_spans : (m : Parts) (x : List (ℕ × Span)) → x ≡ m.spans → state_of (with_spans m x) ≡ state_of m
same_spans m x e = ap (λ (es : List (ℕ × Span)). record (state_of m) { sessions = sessions_of m.versions es }) e

SpansBelow-match : (n : ℕ) (o : Ordering) (a b c : List (ℕ × Span)) → SpansBelow n a → SpansBelow n b → SpansBelow n c → SpansBelow n (match_ordering o a b c)
SpansBelow-match n Less a b c x y z = x
SpansBelow-match n Equal a b c x y z = y
SpansBelow-match n Greater a b c x y z = z

pub SpansBelow-insert : (n : ℕ) (es : List (ℕ × Span)) (k : ℕ) (at : Span) → at.bottom < n → at.head < n → SpansBelow n es → SpansBelow n (insert_entry nat_cmp es k at)
SpansBelow-insert n [] k at low high all = ((low, high), tt)
SpansBelow-insert n (e ∷ es) k at low high all = SpansBelow-match n (nat_cmp k e.0) _ _ _ ((low, high), all) ((low, high), all.1) (all.0, SpansBelow-insert n es k at low high all.1)

SpansBelow-if : (n : ℕ) (b : Bool) (x y : List (ℕ × Span)) → SpansBelow n x → SpansBelow n y → SpansBelow n (if b then x else y)
SpansBelow-if n true x y a b = a
SpansBelow-if n false x y a b = b

SpansBelow-remove : (n : ℕ) (test : ℕ → Bool) (es : List (ℕ × Span)) → SpansBelow n es → SpansBelow n (remove_entry test es)
SpansBelow-remove n test [] all = tt
SpansBelow-remove n test (e ∷ es) all = SpansBelow-if n (test e.0) _ _ all.1 (all.0, SpansBelow-remove n test es all.1)

pub SpansBelow-more : (n m : ℕ) (es : List (ℕ × Span)) → n ≤ m → SpansBelow n es → SpansBelow m es
SpansBelow-more n m [] le all = tt
SpansBelow-more n m (e ∷ es) le all = ((omega (arith, le, all.0.0), omega (arith, le, all.0.1)), SpansBelow-more n m es le all.1)

found_if : (n : ℕ) (b : Bool) (at : Span) (o : Option Span) → (at.bottom < n) × (at.head < n) → IfSome o (λ x. (x.bottom < n) × (x.head < n)) → IfSome (if b then Some at else o) (λ x. (x.bottom < n) × (x.head < n))
found_if n true at o a b = a
found_if n false at o a b = b

SpansBelow-lookup : (n : ℕ) (test : ℕ → Bool) (es : List (ℕ × Span)) → SpansBelow n es → IfSome (lookup test es) (λ x. (x.bottom < n) × (x.head < n))
SpansBelow-lookup n test [] all = tt
SpansBelow-lookup n test (e ∷ es) all = found_if n (test e.0) e.1 (lookup test es) all.0 (SpansBelow-lookup n test es all.1)

-- bottom and head of an open session are versions
pub span_low : (m : Parts) (session : ℕ) (at : Span) → IsSound m → span_at m session ≡ Some at → (at.bottom < length m.versions) × (at.head < length m.versions)
span_low m session at sound is =
    let P : Option Span → Type 0 = λ o. IfSome o (λ x. (x.bottom < length m.versions) × (x.head < length m.versions)) in
    subst P is (SpansBelow-lookup (length m.versions) (is_at (nat_cmp session)) m.spans sound.spans)

sound_with : (m : Parts) (x : List (ℕ × Span)) → IsSound m → SpansBelow (length m.versions) x → IsSound (with_spans m x)
sound_with m x sound low = record { some = sound.some; few = sound.few; numbered = sound.numbered; parents = sound.parents; spans = low }

pub sound_same : (m : Parts) (x : List (ℕ × Span)) → IsSound m → x ≡ m.spans → IsSound (with_spans m x)
sound_same m x sound e = sound_with m x sound (subst (SpansBelow (length m.versions)) (sym e) sound.spans)

pub sound_put : (m : Parts) (x : List (ℕ × Span)) (session : ℕ) (at : Span) → IsSound m → at.bottom < length m.versions → at.head < length m.versions
    → x ≡ insert_entry nat_cmp m.spans session at → IsSound (with_spans m x)
sound_put m x session at sound low high e = sound_with m x sound (subst (SpansBelow (length m.versions)) (sym e) (SpansBelow-insert (length m.versions) m.spans session at low high sound.spans))

pub sound_removed : (m : Parts) (x : List (ℕ × Span)) (session : ℕ) → IsSound m → x ≡ remove_entry (is_at (nat_cmp session)) m.spans → IsSound (with_spans m x)
sound_removed m x session sound e = sound_with m x sound (subst (SpansBelow (length m.versions)) (sym e) (SpansBelow-remove (length m.versions) (is_at (nat_cmp session)) m.spans sound.spans))

pub number_is : (m : Parts) (k : ℕ) (v : PlainVersion) → IsSound m → slice_get m.versions k ≡ Some v → v.number ≡ k
number_is m k v sound is = let P : Option PlainVersion → Type 0 = λ o. IfSome o (λ x. x.number ≡ k) in subst P is (sound.numbered k)

pub parent_is : (m : Parts) (k : ℕ) (v : PlainVersion) → slice_get m.versions k ≡ Some v → parent_at m.versions k ≡ parent_of v
parent_is m k v is = ap parent_in is

-- the parent of a version is one
pub falls_below : (m : Parts) (k parent : ℕ) → IsSound m → k < length m.versions → parent_at m.versions k ≡ Some parent → parent < length m.versions
falls_below m k parent sound low is =
    let P : Option ℕ → Type 0 = λ o. IfSome o (λ q. q < k) in
    let less : parent < k = subst P is (sound.parents k) in
    omega (arith, less, low)

stand_by : (m : Parts) (session : ℕ) (o : Option Span) → IsSound m → span_at m session ≡ o
    → IfSome (option_map (numbers_of m.versions) o) (λ list. (list.head < length m.versions) × All (λ k. k < length m.versions) list.below)
stand_by m session None sound is = tt
stand_by m session (Some at) sound is =
    let low = (span_low m session at sound is).1 in
    (low, climb_low (parent_at m.versions) at.bottom at.head at.head (length m.versions) sound.parents low)

-- each number of a session's list is that of a version
pub stand_at_versions : (m : Parts) → IsSound m → StandAtVersions (state_of m)
stand_at_versions m sound session =
    let P : Option Numbers → Type 0 = λ o. IfSome o (λ list. (list.head < length m.versions) × All (λ k. k < length m.versions) list.below) in
    subst P (sym (numbers m session (span_at m session) refl)) (stand_by m session (span_at m session) sound refl)
