-- Lists of states that grow, and that have states set.
use Rattle.std.proofs.Common.{◌≡◌, ℕ, zero, suc, ◌+◌, ◌-◌, ◌<◌, Bool, true, false, not, ◌&&◌, ◌||◌, ◌==◌, List, [], ◌∷◌, ◌++◌, length, set, take, get_or, refl, ap, sym, ◌∙◌, subst, arith, ⊎_elim}
use Rattle.std.specs.Prelude.{if◌then◌else◌, map}
use Rattle.std.proofs.Common.{get_or-set_same, get_or-set_other}
use Rattle.std.specs.Prelude.{All, Option, Some, None, IfSome, IsSome}
use Rattle.std.specs.List.{AllZip}
use Rattle.std.proofs.Math.ListN.{get_or-append}
use Rattle.std.proofs.Math.Seq.{get_or-append_right}
use Rattle.std.proofs.lemmas.Bool.{eqb-true, eq-eqb, ne_eqb, true≢false, false≢true, cases_lt, cases_eq, cond-true, cond-false}
use Rattle.std.proofs.lemmas.List.{get_or_past, get_or-map, length-set}
use Rattle.std.proofs.lemmas.List.Folds.{list_any_more}
use Rattle.propagate.specs.Written.{written}
use Rattle.stage_ops.specs.declared.state.State.{State}
use Rattle.stage_ops.specs.States.{pending, state_at}
use Rattle.rank_order.specs.Lists.{is_among}
use Rattle.propagate.proofs.Members.{flip_eq}

-- one more pending state changes nothing
pub pending_more : (states : List State) (s : ℕ) → state_at (states ++ pending ∷ []) s ≡ state_at states s
pending_more states s =
    ⊎_elim
    (λ within. get_or-append states (pending ∷ []) pending s within)
    (λ past. get_or-append_right states (pending ∷ []) s pending past ∙ one_pending (s - length states) ∙ sym (get_or_past states s pending past))
    (cases_lt s (length states)) where
      one_pending : (k : ℕ) → get_or (pending ∷ []) k pending ≡ pending
      one_pending zero = refl
      one_pending (suc k) = refl

-- a state set in a list of states
pub state_set : (states : List State) (u s : ℕ) (state : State) → u < length states → state_at (set states u state) s ≡ (if u == s then state else state_at states s)
state_set states u s state h =
    ⊎_elim
    (λ (e : u ≡ s).
    subst (λ v. state_at (set states u state) v ≡ state) e (get_or-set_same states u state pending h)
    ∙ sym (cond-true (u == s) state (state_at states s) (eq-eqb u s e)))
    (λ other.
    get_or-set_other states u s state pending (λ e. other (sym e))
    ∙ sym (cond-false (u == s) state (state_at states s) (ne_eqb u s other)))
    (cases_eq u s)

-- the places so far, and one more
pub among_next : (s i : ℕ) (xs : List ℕ) → i < length xs → is_among s (take (i + 1) xs) ≡ (is_among s (take i xs) || (get_or xs i 0 == s))
among_next s i xs h = sym (ap (λ b. is_among s (take i xs) || b) (flip_eq (get_or xs i 0) s) ∙ sym (list_any_more (λ x. s == x) xs i 0 h))

-- one more edited place, which is empty: it is pending
pub emptied_next : (live : ℕ → Bool) (place s : ℕ) (among : Bool) (was : State) → live place ≡ false
    → (if place == s then pending else (if among && not (live s) then pending else was)) ≡ (if (among || (place == s)) && not (live s) then pending else was)
emptied_next live place s among was empty =
    spread (live s) (place == s) among (λ e. subst (λ x. live x ≡ false) (eqb-true place s e) empty) where
      spread : (a b c : Bool) → (b ≡ true → a ≡ false) → (if b then pending else (if c && not a then pending else was)) ≡ (if (c || b) && not a then pending else was)
      spread true true c h = absurd (true≢false (h refl))
      spread false true true h = refl
      spread false true false h = refl
      spread a false true h = refl
      spread a false false h = refl

-- and one with a stage, whose state stays
pub filled_next : (live : ℕ → Bool) (place s : ℕ) (among : Bool) (was : State) → live place ≡ true
    → (if among && not (live s) then pending else was) ≡ (if (among || (place == s)) && not (live s) then pending else was)
filled_next live place s among was here =
    spread (live s) (place == s) among (λ e. subst (λ x. live x ≡ true) (eqb-true place s e) here) where
      spread : (a b c : Bool) → (b ≡ true → a ≡ true) → (if c && not a then pending else was) ≡ (if (c || b) && not a then pending else was)
      spread a b true h = refl
      spread true true false h = refl
      spread false true false h = absurd (false≢true (h refl))
      spread a false false h = refl

-- a list that is written stays as long as it is
pub written_long : {A : Type 0} (before : List A) (level : List ℕ) (others : List (Option A)) → length (written before level others) ≡ length before
written_long before [] others = refl
written_long before (u ∷ rest) [] = refl
written_long before (u ∷ rest) (None ∷ others) = written_long before rest others
written_long before (u ∷ rest) (Some x ∷ others) = written_long (set before u x) rest others ∙ length-set before u x

-- the level is written: each place of it has its state
pub level_written : (state : ℕ → State) (level : List ℕ) (before : List State) (s : ℕ) → All (λ place. place < length before) level
    → state_at (written before level (map (λ place. Some (state place)) level)) s ≡ (if is_among s level then state s else state_at before s)
level_written state [] before s within = refl
level_written state (u ∷ rest) before s within =
    level_written state rest (set before u (state u)) s (λ k d l. let inside = within (suc k) d (omega arith) in omega (arith, length-set before u (state u)))
    ∙ ap (λ x. if is_among s rest then state s else x) (state_set before u s (state u) (within 0 0 (omega arith)))
    ∙ turn (u == s) (s == u) (is_among s rest) (flip_eq u s) (λ same. ap state (eqb-true u s same)) where
      turn : (b e c : Bool) → b ≡ e → (b ≡ true → state u ≡ state s) → (if c then state s else (if b then state u else state_at before s)) ≡ (if e || c then state s else state_at before s)
      turn true true true same h = refl
      turn true true false same h = h refl
      turn false false true same h = refl
      turn false false false same h = refl
      turn true false c same h = absurd (true≢false same)
      turn false true c same h = absurd (false≢true same)

-- what is there is what was asked for, and nothing is missing
pub all_given : {T : Type 0} (asked : ℕ → T) (level : List ℕ) (results : List (Option T)) → AllZip (λ place result. IfSome result (λ given. given ≡ asked place)) level results → All IsSome results
    → results ≡ map (λ place. Some (asked place)) level
all_given asked [] [] zip all = refl
all_given asked [] (result ∷ rest) zip all = absurd zip
all_given asked (place ∷ level) [] zip all = absurd zip
all_given asked (place ∷ level) (None ∷ rest) zip all = absurd (false≢true (all 0 None (omega arith)))
all_given asked (place ∷ level) (Some given ∷ rest) zip all =
    ap (λ x. Some x ∷ rest) zip.0 ∙ ap (λ xs. Some (asked place) ∷ xs) (all_given asked level rest zip.1 (λ k d l. all (suc k) d (omega arith)))

-- an element of a mapped list
pub mapped_at : (state : ℕ → State) (level : List ℕ) (results : List (Option State)) (i : ℕ) (d : Option State) → results ≡ map (λ place. Some (state place)) level → i < length level → get_or results i d ≡ Some (state (get_or level i 0))
mapped_at state level results i d e within = ap (λ xs. get_or xs i d) e ∙ get_or-map (λ place. Some (state place)) level i 0 d within
