-- What holds of the latest so far.
use Rattle.std.proofs.Common.{◌≡◌, ◌≢◌, ◌⊎◌, inl, inr, ℕ, suc, zero, ◌+◌, ◌<◌, ◌≤◌, add-one, Bool, true, false, cond, ltb, eqb, length, Option, Some, None, refl, sym, ap, ◌∙◌, subst, arith}
use Rattle.std.specs.Prelude.{IfNone, IfSome}
use Rattle.std.proofs.lemmas.Bool.{cases_eq, cases_lt, true≢false, ltb-true, ltb-false, eqb-true, eqb-false}
use Rattle.std.proofs.lemmas.List.{get_or_past}
use Rattle.std.specs.Option.{option_and_then}
use Rattle.stage_graph.specs.declared.stage.Stage.{Stage}
use Rattle.stage_graph.specs.Plain.{PlainGraph}
use Rattle.tried_changes.specs.declared.last.Latest.{Latest}
use Rattle.tried_changes.specs.Last.{IsLast, final_moment, final_of, first_latest, later, latest_below, single_of}

-- of the places below one, none completes later
pub record IsLatest (moment_of : ℕ → Option ℕ) (n : ℕ) (latest : Latest) : Type 0 where
  pub low : latest.place < n
  pub completes : moment_of latest.place ≡ Some latest.moment
  pub most : (k tick : ℕ) → k < n → moment_of k ≡ Some tick → tick ≤ latest.moment
  pub alone : latest.is_alone ≡ true → (k tick : ℕ) → k < n → k ≢ latest.place → moment_of k ≡ Some tick → tick < latest.moment
  pub tied : latest.is_alone ≡ false → (k : ℕ) × (k < n) × (k ≢ latest.place) × (moment_of k ≡ Some latest.moment)

-- none completes, or that is the latest
abbrev pub Stands : (ℕ → Option ℕ) → ℕ → Option Latest → Type 0
Stands moment_of n None = (k : ℕ) → k < n → moment_of k ≡ None
Stands moment_of n (Some latest) = IsLatest moment_of n latest

some_none : {A : Type 0} (o : Option A) (x : A) → o ≡ Some x → o ≡ None → ⊥
some_none o x some none = cc

some_same : (o : Option ℕ) (x y : ℕ) → o ≡ Some x → o ≡ Some y → x ≡ y
some_same o x y first second = cc

before_or_at : (k n : ℕ) → k < suc n → (k < n) ⊎ (k ≡ n)
before_or_at k n low = elim (cases_eq k n) as (λ v. (k < n) ⊎ (k ≡ n)) [ inl same ↦ inr same | inr other ↦ inl (omega (arith, other)) ]

-- nothing is new where the next one does not complete
on_none : (f : ℕ → Option ℕ) (n : ℕ) (latest : Option Latest) → f n ≡ None → Stands f n latest → Stands f (suc n) latest
on_none f n None is stands = λ k low. elim (before_or_at k n low) as (λ v. f k ≡ None) [ inl below ↦ stands k below | inr same ↦ ap f same ∙ is ]
on_none f n (Some latest) is stands = record {
  low = omega (arith, stands.low);
  completes = stands.completes;
  most = λ k tick low at. elim (before_or_at k n low) as (λ v. tick ≤ latest.moment) [ inl below ↦ stands.most k tick below at | inr same ↦ absurd (some_none (f k) tick at (ap f same ∙ is)) ];
  alone = λ single k tick low other at. elim (before_or_at k n low) as (λ v. tick < latest.moment) [ inl below ↦ stands.alone single k tick below other at | inr same ↦ absurd (some_none (f k) tick at (ap f same ∙ is)) ];
  tied = λ several. let t = stands.tied several in (t.0, omega (arith, t.1), t.2, t.3);
}

-- the first that completes
on_first : (f : ℕ → Option ℕ) (n moment : ℕ) → f n ≡ Some moment → Stands f n None → IsLatest f (suc n) (first_latest n moment)
on_first f n moment is none = record {
  low = omega arith;
  completes = is;
  most = λ k tick low at. elim (before_or_at k n low) as (λ v. tick ≤ moment) [ inl below ↦ absurd (some_none (f k) tick at (none k below)) | inr same ↦ let e = some_same (f k) tick moment at (ap f same ∙ is) in omega arith ];
  alone = λ single k tick low other at. elim (before_or_at k n low) as (λ v. tick < moment) [ inl below ↦ absurd (some_none (f k) tick at (none k below)) | inr same ↦ absurd (other same) ];
  tied = λ several. absurd (true≢false several);
}

-- a later one
on_later : (f : ℕ → Option ℕ) (n moment : ℕ) (latest : Latest) → f n ≡ Some moment → IsLatest f n latest → latest.moment < moment → IsLatest f (suc n) (first_latest n moment)
on_later f n moment latest is stands less = record {
  low = omega arith;
  completes = is;
  most = λ k tick low at. elim (before_or_at k n low) as (λ v. tick ≤ moment) [ inl below ↦ omega (arith, stands.most k tick below at) | inr same ↦ let e = some_same (f k) tick moment at (ap f same ∙ is) in omega arith ];
  alone = λ single k tick low other at. elim (before_or_at k n low) as (λ v. tick < moment) [ inl below ↦ omega (arith, stands.most k tick below at) | inr same ↦ absurd (other same) ];
  tied = λ several. absurd (true≢false several);
}

-- one that is as late
on_tied : (f : ℕ → Option ℕ) (n moment : ℕ) (latest : Latest) → f n ≡ Some moment → IsLatest f n latest → latest.moment ≡ moment → IsLatest f (suc n) (record latest { is_alone = false })
on_tied f n moment latest is stands same_moment = record {
  low = omega (arith, stands.low);
  completes = stands.completes;
  most = λ k tick low at. elim (before_or_at k n low) as (λ v. tick ≤ latest.moment) [ inl below ↦ stands.most k tick below at | inr same ↦ let e = some_same (f k) tick moment at (ap f same ∙ is) in omega arith ];
  alone = λ single. absurd (true≢false (sym single));
  tied = λ several. (n, omega arith, λ same. omega (arith, stands.low), is ∙ ap Some (sym same_moment));
}

-- one that is earlier
on_earlier : (f : ℕ → Option ℕ) (n moment : ℕ) (latest : Latest) → f n ≡ Some moment → IsLatest f n latest → moment < latest.moment → IsLatest f (suc n) latest
on_earlier f n moment latest is stands less = record {
  low = omega (arith, stands.low);
  completes = stands.completes;
  most = λ k tick low at. elim (before_or_at k n low) as (λ v. tick ≤ latest.moment) [ inl below ↦ stands.most k tick below at | inr same ↦ let e = some_same (f k) tick moment at (ap f same ∙ is) in omega arith ];
  alone = λ single k tick low other at. elim (before_or_at k n low) as (λ v. tick < latest.moment) [ inl below ↦ stands.alone single k tick below other at | inr same ↦ let e = some_same (f k) tick moment at (ap f same ∙ is) in omega arith ];
  tied = λ several. let t = stands.tied several in (t.0, omega (arith, t.1), t.2, t.3);
}

on_some : (f : ℕ → Option ℕ) (n moment : ℕ) (latest : Latest) (less same : Bool) → ltb latest.moment moment ≡ less → eqb latest.moment moment ≡ same → f n ≡ Some moment → IsLatest f n latest → IsLatest f (suc n) (cond less (first_latest n moment) (cond same (record latest { is_alone = false }) latest))
on_some f n moment latest true same less_is same_is is stands = on_later f n moment latest is stands (ltb-true latest.moment moment less_is)
on_some f n moment latest false true less_is same_is is stands = on_tied f n moment latest is stands (eqb-true latest.moment moment same_is)
on_some f n moment latest false false less_is same_is is stands =
    let above : moment ≤ latest.moment = ltb-false latest.moment moment less_is in
    let other : latest.moment ≢ moment = eqb-false latest.moment moment same_is in
    on_earlier f n moment latest is stands (omega (arith, other))

on_next : (f : ℕ → Option ℕ) (n : ℕ) (latest : Option Latest) (moment : Option ℕ) → f n ≡ moment → Stands f n latest → Stands f (suc n) (later latest n moment)
on_next f n latest None is stands = on_none f n latest is stands
on_next f n None (Some moment) is stands = on_first f n moment is stands
on_next f n (Some latest) (Some moment) is stands = on_some f n moment latest (ltb latest.moment moment) (eqb latest.moment moment) refl refl is stands

latest_stands : (f : ℕ → Option ℕ) (n : ℕ) → Stands f n (latest_below f n)
latest_stands f zero = λ k low. absurd (omega arith)
latest_stands f (suc n) = on_next f n (latest_below f n) (f n) refl (latest_stands f n)

-- ---- at the end of the places

completes_below : (f : ℕ → Option ℕ) (n k tick : ℕ) → ((other : ℕ) → n ≤ other → f other ≡ None) → f k ≡ Some tick → k < n
completes_below f n k tick past at = elim (cases_lt k n) as (λ v. k < n) [ inl low ↦ low | inr high ↦ absurd (some_none (f k) tick at (past k high)) ]

pub alone_is_last : (f : ℕ → Option ℕ) (n : ℕ) (latest : Latest) → ((other : ℕ) → n ≤ other → f other ≡ None) → latest_below f n ≡ Some latest → latest.is_alone ≡ true → IsLast f latest.place
alone_is_last f n latest past is single =
    let stands : IsLatest f n latest = subst (λ (latest : Option Latest). Stands f n latest) is (latest_stands f n) in
    record {
      moment = latest.moment;
      completes = stands.completes;
      others = λ other earlier differs at. stands.alone single other earlier (completes_below f n other earlier past at) differs at;
    }

pub none_completes : (f : ℕ → Option ℕ) (n : ℕ) → ((other : ℕ) → n ≤ other → f other ≡ None) → latest_below f n ≡ None → (place : ℕ) → ¬ (IsLast f place)
none_completes f n past is place last =
    let stands : Stands f n None = subst (λ (latest : Option Latest). Stands f n latest) is (latest_stands f n) in
    some_none (f place) last.moment last.completes (stands place (completes_below f n place last.moment past last.completes))

pub tied_is_not_last : (f : ℕ → Option ℕ) (n : ℕ) (latest : Latest) → ((other : ℕ) → n ≤ other → f other ≡ None) → latest_below f n ≡ Some latest → latest.is_alone ≡ false → (place : ℕ) → ¬ (IsLast f place)
tied_is_not_last f n latest past is several place last =
    let stands : IsLatest f n latest = subst (λ (latest : Option Latest). Stands f n latest) is (latest_stands f n) in
    let t = stands.tied several in
    elim (cases_eq place latest.place) as (λ v. ⊥) [
      | inl same ↦
          let one : last.moment ≡ latest.moment = some_same (f place) last.moment latest.moment last.completes (ap f same ∙ stands.completes) in
          let less : latest.moment < last.moment = last.others t.0 latest.moment (λ e. t.2 (e ∙ same)) t.3 in
          omega arith
      | inr other ↦
          let less : latest.moment < last.moment = last.others latest.place latest.moment (λ e. other (sym e)) stands.completes in
          let most : last.moment ≤ latest.moment = stands.most place last.moment (completes_below f n place last.moment past last.completes) last.completes in
          omega arith
    ]

-- past the places none completes
pub past_places : (graph : PlainGraph) (other : ℕ) → length graph.places ≤ other → final_moment graph other ≡ None
past_places graph other high = ap (option_and_then (λ (stage : Stage). final_of graph other)) (get_or_past graph.places other None high)

-- ---- as the code has them

pub latest_more : (f : ℕ → Option ℕ) (n : ℕ) (latest next : Option Latest) (moment : Option ℕ) → latest ≡ latest_below f n → moment ≡ f n → next ≡ later latest n moment → next ≡ latest_below f (n + 1)
latest_more f n latest next moment so_far here is =
    is
    ∙ ap (λ (l : Option Latest). later l n moment) so_far
    ∙ ap (later (latest_below f n) n) here
    ∙ ap (latest_below f) (sym (add-one n))

pub latest_ended : (f : ℕ → Option ℕ) (n end : ℕ) (latest : Option Latest) → latest ≡ latest_below f n → n ≡ end → latest ≡ latest_below f end
latest_ended f n end latest so_far all = so_far ∙ ap (latest_below f) all

alone_if : (f : ℕ → Option ℕ) (n : ℕ) (latest : Latest) (b : Bool) → ((other : ℕ) → n ≤ other → f other ≡ None) → latest_below f n ≡ Some latest → latest.is_alone ≡ b → IfSome (cond b (Some latest.place) None) (IsLast f)
alone_if f n latest true past is single = alone_is_last f n latest past is single
alone_if f n latest false past is several = tt

last_of : (f : ℕ → Option ℕ) (n : ℕ) (latest : Option Latest) → ((other : ℕ) → n ≤ other → f other ≡ None) → latest_below f n ≡ latest → IfSome (single_of latest) (IsLast f)
last_of f n None past is = tt
last_of f n (Some latest) past is = alone_if f n latest latest.is_alone past is refl

pub last_told : (f : ℕ → Option ℕ) (n : ℕ) (latest : Option Latest) (result : Option ℕ) → ((other : ℕ) → n ≤ other → f other ≡ None) → latest ≡ latest_below f n → result ≡ single_of latest → IfSome result (IsLast f)
last_told f n latest result past is told = subst (λ (result : Option ℕ). IfSome result (IsLast f)) (sym told) (last_of f n latest past (sym is))

none_if : (f : ℕ → Option ℕ) (n : ℕ) (latest : Latest) (b : Bool) → ((other : ℕ) → n ≤ other → f other ≡ None) → latest_below f n ≡ Some latest → latest.is_alone ≡ b → IfNone (cond b (Some latest.place) None) ((place : ℕ) → ¬ (IsLast f place))
none_if f n latest true past is single = tt
none_if f n latest false past is several = tied_is_not_last f n latest past is several

none_of : (f : ℕ → Option ℕ) (n : ℕ) (latest : Option Latest) → ((other : ℕ) → n ≤ other → f other ≡ None) → latest_below f n ≡ latest → IfNone (single_of latest) ((place : ℕ) → ¬ (IsLast f place))
none_of f n None past is = none_completes f n past is
none_of f n (Some latest) past is = none_if f n latest latest.is_alone past is refl

pub none_told : (f : ℕ → Option ℕ) (n : ℕ) (latest : Option Latest) (result : Option ℕ) → ((other : ℕ) → n ≤ other → f other ≡ None) → latest ≡ latest_below f n → result ≡ single_of latest → IfNone result ((place : ℕ) → ¬ (IsLast f place))
none_told f n latest result past is told = subst (λ (result : Option ℕ). IfNone result ((place : ℕ) → ¬ (IsLast f place))) (sym told) (none_of f n latest past (sym is))
