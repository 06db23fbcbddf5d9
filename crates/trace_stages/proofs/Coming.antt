-- What is to come, visit by visit.
use Rattle.std.proofs.Common.{◌≡◌, ℕ, suc, ◌+◌, ◌<◌, List, [], ◌∷◌, ◌++◌, Option, map, reverse, length, refl, sym, ap, ◌∙◌, append_assoc, arith, length-append}
use Rattle.std.specs.Prelude.{flat_map}
use Rattle.std.proofs.lemmas.List.{append-nil, reverse-append}
use Rattle.trace_stages.specs.declared.tour.touring.Coming.{Coming}
use Rattle.trace_stages.specs.declared.tour.touring.Coming.TheVariants.{Leave}
use Rattle.trace_stages.specs.declared.tour.visit.Visit.{Visit}
use Rattle.trace_stages.specs.declared.tour.visit.Visit.TheVariants.{Enters, Leaves}
use Rattle.trace_stages.specs.Visits.{children, entered, entering, most_generations, pending, roots, visits, visits_coming}

flat_map-append : {X A : Type 0} (f : X → List A) (xs ys : List X) → flat_map f (xs ++ ys) ≡ flat_map f xs ++ flat_map f ys
flat_map-append f [] ys = refl
flat_map-append f (x ∷ xs) ys = ap (λ all. f x ++ all) (flat_map-append f xs ys) ∙ sym (append_assoc (f x) (flat_map f xs) (flat_map f ys))

flat_map-map : {X Y A : Type 0} (f : Y → List A) (g : X → Y) (xs : List X) → flat_map f (map g xs) ≡ flat_map (λ x. f (g x)) xs
flat_map-map f g [] = refl
flat_map-map f g (x ∷ xs) = ap (λ all. f (g x) ++ all) (flat_map-map f g xs)

-- the last of what is to come is the first
pub pending-last : (parents : List (Option ℕ)) (order : List ℕ) (rest all : List Coming) (next : Coming) → all ≡ rest ++ next ∷ [] → pending parents order all ≡ visits_coming parents order next ++ pending parents order rest
pending-last parents order rest all next e = ap (λ those. pending parents order those) e ∙ ap (λ those. flat_map (visits_coming parents order) those) (reverse-append rest (next ∷ []))

-- spans that were put first
pending-first : (parents : List (Option ℕ)) (order : List ℕ) (n : ℕ) (places : List ℕ) (rest all : List Coming) → reverse all ≡ map (entering n) places ++ reverse rest → pending parents order all ≡ flat_map (entered parents order n) places ++ pending parents order rest
pending-first parents order n places rest all e =
    ap (λ those. flat_map (visits_coming parents order) those) e
    ∙ flat_map-append (visits_coming parents order) (map (entering n) places) (reverse rest)
    ∙ ap (λ those. those ++ pending parents order rest) (flat_map-map (visits_coming parents order) (entering n) places)

-- a span is entered, and its children are put first
pub enters_above : (parents : List (Option ℕ)) (order : List ℕ) (place g n : ℕ) (before after : List Visit) (old more new : List Coming) (places : List ℕ) → g ≡ suc n → after ≡ before ++ Enters place ∷ [] → more ≡ old ++ Leave place ∷ [] → reverse new ≡ map (entering n) places ++ reverse more → places ≡ children parents order place → after ++ pending parents order new ≡ before ++ (entered parents order g place ++ pending parents order old)
unfolding entered
enters_above parents order place g n before after old more new places is_suc visited left put are =
    let to_come = pending-first parents order n places more new put
    ∙ ap (λ those. flat_map (entered parents order n) those ++ pending parents order more) are
    ∙ ap (λ those. flat_map (entered parents order n) (children parents order place) ++ those) (pending-last parents order old more (Leave place) left) in
    ap (λ those. those ++ pending parents order new) visited
    ∙ ap (λ those. (before ++ Enters place ∷ []) ++ those) to_come
    ∙ append_assoc before (Enters place ∷ []) (flat_map (entered parents order n) (children parents order place) ++ (Leaves place ∷ pending parents order old))
    ∙ ap (λ those. before ++ (Enters place ∷ those)) (sym (append_assoc (flat_map (entered parents order n) (children parents order place)) (Leaves place ∷ []) (pending parents order old)))
    ∙ ap (λ k. before ++ (entered parents order k place ++ pending parents order old)) (sym is_suc)

-- a span is entered that is too deep for children
pub enters_lowest : (parents : List (Option ℕ)) (order : List ℕ) (place g : ℕ) (before after : List Visit) (old new : List Coming) → g ≡ 0 → after ≡ before ++ Enters place ∷ [] → new ≡ old ++ Leave place ∷ [] → after ++ pending parents order new ≡ before ++ (entered parents order g place ++ pending parents order old)
unfolding entered
enters_lowest parents order place g before after old new is_zero visited left =
    ap (λ those. those ++ pending parents order new) visited
    ∙ ap (λ those. (before ++ Enters place ∷ []) ++ those) (pending-last parents order old new (Leave place) left)
    ∙ append_assoc before (Enters place ∷ []) (Leaves place ∷ pending parents order old)
    ∙ ap (λ k. before ++ (entered parents order k place ++ pending parents order old)) (sym is_zero)

-- the roots are put first
pub begins : (parents : List (Option ℕ)) (order : List ℕ) (before : List Visit) (none new : List Coming) (shown places : List ℕ) → before ≡ [] → none ≡ [] → shown ≡ places → places ≡ roots parents order → reverse new ≡ map (entering most_generations) shown ++ reverse none → before ++ pending parents order new ≡ visits parents order
begins parents order before none new shown places no_visit no_coming is_shown are put =
    ap (λ those. those ++ pending parents order new) no_visit
    ∙ pending-first parents order most_generations shown none new put
    ∙ ap (λ those. flat_map (entered parents order most_generations) shown ++ pending parents order those) no_coming
    ∙ append-nil (flat_map (entered parents order most_generations) shown)
    ∙ ap (λ those. flat_map (entered parents order most_generations) those) (is_shown ∙ are)

-- with each visit less is to come
pub less_to_come : (before after : List Visit) (a b : List Visit) → length after ≡ length before + 1 → after ++ a ≡ before ++ b → length a < length b
less_to_come before after a b one e = omega (arith, simp length-append at (ap length e))
