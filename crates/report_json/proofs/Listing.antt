-- Lists of JSON values, told one after the other; clauses at any result.
use Rattle.std.proofs.Common.{◌≡◌, ℕ, ◌+◌, ◌<◌, List, [], ◌∷◌, ◌++◌, length, take, get_or, Result, Ok, Err, OnErr, OnOk, refl, sym, ap, ◌∙◌, subst, append_assoc, append-nil}
use Rattle.std.specs.Prelude.{map}
use Rattle.std.specs.Borrow.{Bor}
use Rattle.std.proofs.lemmas.List.{take_more}
use Rattle.json.specs.Token.{Token}
use Rattle.serde_json.specs.Data.{Data}
use Rattle.report_rows.specs.Names.{bytes_of}
use Rattle.report_json.specs.Json.{text}
use Rattle.report_json.specs.Tokens.{Tells, TellsItems}
use Rattle.report_json.proofs.Pushed.{both_told, no_items_told, one_told}

-- a clause that is the same at every error
pub on_err : {T E P : Type 0} (r : Result T E) → P → OnErr r P
on_err (Ok x) p = tt
on_err (Err e) p = p

-- a clause that is so at every result
pub on_ok : {T E P : Type 0} (r : Result T E) → P → OnOk r P
on_ok (Ok x) p = p
on_ok (Err e) p = tt

map_append : {X Y : Type 0} (f : X → Y) (xs ys : List X) → map f (xs ++ ys) ≡ map f xs ++ map f ys
map_append f [] ys = refl
map_append f (x ∷ xs) ys = ap (λ rest. f x ∷ rest) (map_append f xs ys)

-- what is told of all but the rest of a list
pub record TellsBut {X : Type 0} (f : X → Data) (all rest : List X) (old new : List Token) : Type 0 where
  pub said : List X
  pub whole : all ≡ said ++ rest
  pub told : TellsItems (map f said) old new

-- nothing yet
pub none_of : {X : Type 0} (f : X → Data) (all : List X) (old new : List Token) → new ≡ old → TellsBut f all all old new
none_of f all old new is = record { said = []; whole = refl; told = rw is (no_items_told old) }

-- the next one
pub next_of : {X : Type 0} (f : X → Data) (all rest more : List X) (x : X) (old so_far new : List Token) → TellsBut f all rest old so_far → rest ≡ x ∷ more
    → Tells (f x) so_far new → TellsBut f all more old new
next_of f all rest more x old so_far new first next then = record {
  said = first.said ++ x ∷ [];
  whole = first.whole ∙ ap (λ l. first.said ++ l) next ∙ sym (append_assoc first.said (x ∷ []) more);
  told =
      subst (λ (ds : List Data). TellsItems ds old new) (sym (map_append f first.said (x ∷ [])))
      (both_told (map f first.said) (f x ∷ []) old so_far new first.told (one_told (f x) so_far new then));
}

-- all of them
pub all_of : {X : Type 0} (f : X → Data) (all rest : List X) (old new : List Token) → TellsBut f all rest old new → rest ≡ [] → TellsItems (map f all) old new
all_of {X = X} f all rest old new first none =
    subst (λ (xs : List X). TellsItems (map f xs) old new) (sym (first.whole ∙ ap (λ l. first.said ++ l) none ∙ append-nil first.said)) first.told

-- one more name
pub next_name : (names : List (Bor (List ℕ))) (i : ℕ) (d : Bor (List ℕ)) (old so_far new : List Token) → i < length names
    → TellsItems (map text (bytes_of (take i names))) old so_far → Tells (text (get_or names i d).now) so_far new → TellsItems (map text (bytes_of (take (i + 1) names))) old new
next_name names i d old so_far new within first then =
    let name = get_or names i d in
    subst (λ (ds : List Data). TellsItems ds old new)
    (sym (ap (λ l. map text (bytes_of l)) (take_more names i d within)
    ∙ ap (map text) (map_append (λ (text : Bor (List ℕ)). text.now) (take i names) (name ∷ [])) ∙ map_append text (bytes_of (take i names)) (name.now ∷ [])))
    (both_told (map text (bytes_of (take i names))) (text name.now ∷ []) old so_far new first (one_told (text name.now) so_far new then))
