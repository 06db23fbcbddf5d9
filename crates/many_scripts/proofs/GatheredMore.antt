-- The clients' results, gathered one by one.
use Rattle.std.proofs.Common.{◌≡◌, ℕ, zero, suc, ◌<◌, ◌⊎◌, inl, inr, List, [], ◌∷◌, ◌++◌, append-nil, length, slice_index_or, arith, refl, map, sym, ap, ◌∙◌, subst, Result, Ok, Err, Contains, IfOk, IfErr, IsOkAnd, MatchResult}
use Rattle.std.specs.List.{AllZip, flat_map}
use Rattle.std.proofs.lemmas.List.{map-append}
use Rattle.std.proofs.lemmas.Grind.{flat_map-append}
use Rattle.many_scripts.specs.Gathered.{AreGathered, with_client}

pub gathered_more : {P C E : Type 0} (plays : List (Result P E)) (client : P → C) (text : P → List ℕ) (clients next : List C) (output more : List ℕ) (play : Result P E) (done : P)
    → AreGathered plays client text clients output → play ≡ Ok done → next ≡ clients ++ client done ∷ [] → more ≡ output ++ text done
    → AreGathered (plays ++ play ∷ []) client text next more
gathered_more plays client text clients next output more play done so_far is clients_are output_is = record {
  done = so_far.done ++ done ∷ [];
  plays_are = ap (λ p. plays ++ p ∷ []) is ∙ ap (λ l. l ++ Ok done ∷ []) so_far.plays_are ∙ sym (map-append Ok so_far.done (done ∷ []));
  clients_are = clients_are ∙ ap (λ l. l ++ client done ∷ []) so_far.clients_are ∙ sym (map-append client so_far.done (done ∷ []));
  output_is = output_is ∙ ap (λ l. l ++ text done) so_far.output_is ∙ ap (λ l. flat_map text so_far.done ++ l) (sym (append-nil (text done))) ∙ sym (flat_map-append text so_far.done (done ∷ []));
}

-- what holds of the two lists at each place holds of them in their order
pub all_zip : {X : Type 0} (P : X → X → Type 0) (xs ys : List X) → length ys ≡ length xs
    → ((i : ℕ) (d : X) → i < length xs → P (slice_index_or xs i d) (slice_index_or ys i d)) → AllZip P xs ys
all_zip P [] [] same each = tt
all_zip P [] (y ∷ ys) same each = absurd (omega (arith, same))
all_zip P (x ∷ xs) [] same each = absurd (omega (arith, same))
all_zip P (x ∷ xs) (y ∷ ys) same each = (
  each 0 x (omega arith),
  all_zip P xs ys (omega (arith, same)) (λ i d within. each (suc i) d (omega (arith, within))),
)

contains_more : {X : Type 0} (xs ys : List X) (x : X) → Contains xs x → Contains (xs ++ ys) x
contains_more [] ys x (k, below, at) = absurd (omega (arith, below))
contains_more (y ∷ xs) ys x (zero, below, at) = (0, omega arith, at)
contains_more (y ∷ xs) ys x (suc k, below, at) = let (j, within, is) = contains_more xs ys x (k, omega (arith, below), at) in (suc j, omega (arith, within), is)

contains_between : {X : Type 0} (xs : List X) (x : X) (ys : List X) → Contains (xs ++ x ∷ ys) x
contains_between [] x ys = (0, omega arith, refl)
contains_between (y ∷ xs) x ys = let (k, below, at) = contains_between xs x ys in (suc k, omega (arith, below), at)

module _ {S C T E : Type 0} (client : S → C) (text : S → Result T E) (items : T → List ℕ) where
  -- the clients and texts with those of one more seat
  pub seat_more : (seats : List S) (seat : S) (told : T) (clients next : List C) (output more : List ℕ)
      → AreGathered (map (λ s. with_client (client s) (text s)) seats) (λ (played : C × T). played.0) (λ played. items played.1) clients output
      → text seat ≡ Ok told → next ≡ clients ++ client seat ∷ [] → more ≡ output ++ items told
      → AreGathered (map (λ s. with_client (client s) (text s)) (seats ++ seat ∷ [])) (λ (played : C × T). played.0) (λ played. items played.1) next more
  seat_more seats seat told clients next output more so_far is clients_are output_is =
      subst (λ plays. AreGathered plays (λ (played : C × T). played.0) (λ played. items played.1) next more)
      (sym (map-append (λ s. with_client (client s) (text s)) seats (seat ∷ [])))
      (gathered_more (map (λ s. with_client (client s) (text s)) seats) (λ (played : C × T). played.0) (λ played. items played.1) clients next output more (with_client (client seat) (text seat)) (client seat, told)
      so_far (ap (with_client (client seat)) is) clients_are output_is)

  -- a seat that failed is among them
  pub seat_failed : (all yielded rest : List S) (seat : S) (fault : E) → all ≡ yielded ++ seat ∷ rest → text seat ≡ Err fault
      → Contains (map (λ s. with_client (client s) (text s)) all) (Err fault)
  seat_failed all yielded rest seat fault are is =
      subst (λ l. Contains l (Err fault))
      (ap (λ play. map (λ s. with_client (client s) (text s)) yielded ++ play ∷ map (λ s. with_client (client s) (text s)) rest) (ap (with_client (client seat)) (sym is))
      ∙ sym (map-append (λ s. with_client (client s) (text s)) yielded (seat ∷ rest))
      ∙ ap (map (λ s. with_client (client s) (text s))) (sym are))
      (contains_between (map (λ s. with_client (client s) (text s)) yielded) (Err fault) (map (λ s. with_client (client s) (text s)) rest))

  -- when no seat is left, these are the clients and texts of all
  pub seats_done : (all yielded rest : List S) (clients : List C) (output : List ℕ) → all ≡ yielded ++ rest → length rest ≡ 0
      → AreGathered (map (λ s. with_client (client s) (text s)) yielded) (λ (played : C × T). played.0) (λ played. items played.1) clients output
      → AreGathered (map (λ s. with_client (client s) (text s)) all) (λ (played : C × T). played.0) (λ played. items played.1) clients output
  seats_done all yielded [] clients output are none gathered =
      subst (λ l. AreGathered (map (λ s. with_client (client s) (text s)) l) (λ (played : C × T). played.0) (λ played. items played.1) clients output) (sym (are ∙ append-nil yielded)) gathered
  seats_done all yielded (s ∷ rest) clients output are none gathered = absurd (omega (arith, none))

module _ {S C T E W : Type 0} (client : S → C) (text : S → Result T E) (items : T → List ℕ) (clients : W → List C) (texts : W → List ℕ) (memory : E) where
  -- the result of the seats so far
  abbrev pub SoFar : List S → Result W E → Type 0
  SoFar seats gathered = MatchResult gathered
      (λ ended. AreGathered (map (λ s. with_client (client s) (text s)) seats) (λ (played : C × T). played.0) (λ played. items played.1) (clients ended) (texts ended))
      (λ fault. (fault ≡ memory) ⊎ Contains (map (λ s. with_client (client s) (text s)) seats) (Err fault))

  -- a seat that ended well, after others that did
  both : (seats : List S) (seat : S) (before after : W) (told : Result T E) → text seat ≡ told → SoFar seats (Ok before)
      → clients after ≡ clients before ++ client seat ∷ [] → IsOkAnd told (λ t. texts after ≡ texts before ++ items t)
      → SoFar (seats ++ seat ∷ []) (Ok after)
  both seats seat before after (Ok t) is so_far clients_are texts_are =
      seat_more client text items seats seat t (clients before) (clients after) (texts before) (texts after) so_far is clients_are texts_are
  both seats seat before after (Err fault) is so_far clients_are texts_are = absurd texts_are

  -- a fault of the seats so far is one of those with one more
  still : (seats : List S) (seat : S) (fault : E) → (fault ≡ memory) ⊎ Contains (map (λ s. with_client (client s) (text s)) seats) (Err fault)
      → (fault ≡ memory) ⊎ Contains (map (λ s. with_client (client s) (text s)) (seats ++ seat ∷ [])) (Err fault)
  still seats seat fault (inl is) = inl is
  still seats seat fault (inr there) =
      inr (subst (λ l. Contains l (Err fault)) (sym (map-append (λ s. with_client (client s) (text s)) seats (seat ∷ [])))
      (contains_more (map (λ s. with_client (client s) (text s)) seats) (with_client (client seat) (text seat) ∷ []) (Err fault) there))

  -- one more seat
  pub one_more : (seats : List S) (seat : S) (before after : Result W E) → SoFar seats before
      → IfOk after (λ a. IsOkAnd before (λ b. (clients a ≡ clients b ++ client seat ∷ []) × IsOkAnd (text seat) (λ t. texts a ≡ texts b ++ items t)))
      → IfErr after (λ fault. (fault ≡ memory) ⊎ ((before ≡ Err fault) ⊎ (text seat ≡ Err fault)))
      → SoFar (seats ++ seat ∷ []) after
  one_more seats seat (Ok b) (Ok a) so_far ok err = both seats seat b a (text seat) refl so_far ok.0 ok.1
  one_more seats seat (Err e) (Ok a) so_far ok err = absurd ok
  one_more seats seat before (Err fault) so_far ok (inl is) = inl is
  one_more seats seat before (Err fault) so_far ok (inr (inl is)) = still seats seat fault (subst (SoFar seats) is so_far)
  one_more seats seat before (Err fault) so_far ok (inr (inr is)) = inr (seat_failed client text items (seats ++ seat ∷ []) seats [] seat fault refl is)

  -- no seat is left
  pub all_gathered : (all yielded rest : List S) (gathered : Result W E) → all ≡ yielded ++ rest → length rest ≡ 0 → SoFar yielded gathered → SoFar all gathered
  all_gathered all yielded [] gathered are none so_far = subst (λ l. SoFar l gathered) (sym (are ∙ append-nil yielded)) so_far
  all_gathered all yielded (s ∷ rest) gathered are none so_far = absurd (omega (arith, none))

pub if_ok : {W E : Type 0} (P : W → Type 0) (Q : E → Type 0) (r : Result W E) → MatchResult r P Q → IfOk r P
if_ok P Q (Ok w) is = is
if_ok P Q (Err e) is = tt

pub if_err : {W E : Type 0} (P : W → Type 0) (Q : E → Type 0) (r : Result W E) → MatchResult r P Q → IfErr r Q
if_err P Q (Ok w) is = tt
if_err P Q (Err e) is = is

pub ok_follows : {W E : Type 0} (P Q : W → Type 0) (r : Result W E) → ((w : W) → P w → Q w) → IfOk r P → IfOk r Q
ok_follows P Q (Ok w) step is = step w is
ok_follows P Q (Err e) step is = tt

pub err_follows : {W E : Type 0} (P Q : E → Type 0) (r : Result W E) → ((e : E) → P e → Q e) → IfErr r P → IfErr r Q
err_follows P Q (Ok w) step is = tt
err_follows P Q (Err e) step is = step e is

pub ok_and : {W E : Type 0} (r : Result W E) (w : W) (P : W → Type 0) → r ≡ Ok w → P w → IsOkAnd r P
ok_and r w P is p = subst (λ (q : Result _ _). IsOkAnd q P) (sym is) p
