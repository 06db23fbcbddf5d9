-- What a tree has for each name after the entry of one name was set.
use Rattle.std.proofs.Common.{Bool, true, false, cond, ◌≡◌, ◌∙◌, ℕ, List, Option, Some, None, Result, Ok, Err, IfOk, sym, ap, refl}
use Rattle.std.specs.Str.{bytes_eq}
use Rattle.std.proofs.lemmas.Slice.Eq.{bytes_eq-Decides}
use Rattle.stage_graph.specs.declared.name_tree.Entry.{Entry}
use Rattle.stage_graph.specs.NameTrees.{decides, told_by}

pub one_way : (side : Bool) (answer : Option (Option ℕ)) → cond side answer answer ≡ answer
one_way true answer = refl
one_way false answer = refl

by_one : (side : Bool) (here : Bool) (said old other : Option (Option ℕ)) → (here ≡ true → side ≡ true) → cond side (cond here said old) other ≡ cond here said (cond side old other)
by_one true here said old other goes = refl
by_one false true said old other goes = let clash : false ≡ true = goes refl in cc
by_one false false said old other goes = refl

by_zero : (side : Bool) (here : Bool) (said old other : Option (Option ℕ)) → (here ≡ true → side ≡ false) → cond side other (cond here said old) ≡ cond here said (cond side other old)
by_zero false here said old other goes = refl
by_zero true true said old other goes = let clash : true ≡ false = goes refl in cc
by_zero true false said old other goes = refl

module _ (entry : Entry) (left : ℕ) (name : List ℕ) (old other : Option (Option ℕ)) where
  goes : (side : Bool) → decides entry.name left ≡ side → bytes_eq entry.name name ≡ true → decides name left ≡ side
  goes side is same = ap (λ name. decides name left) (sym ((bytes_eq-Decides entry.name name).0 same)) ∙ is

  -- what the branch selected by the name's bit has, the tree has for the name
  pub told_on_one : decides entry.name left ≡ true → cond (decides name left) (told_by entry name old) other ≡ told_by entry name (cond (decides name left) old other)
  told_on_one is = by_one (decides name left) (bytes_eq entry.name name) (Some entry.place) old other (goes true is)

  pub told_on_zero : decides entry.name left ≡ false → cond (decides name left) other (told_by entry name old) ≡ told_by entry name (cond (decides name left) other old)
  told_on_zero is = by_zero (decides name left) (bytes_eq entry.name name) (Some entry.place) old other (goes false is)

module _ (new old : Entry) (left : ℕ) (name : List ℕ) where
  abbrev both : Option (Option ℕ)
  both = told_by new name (told_by old name None)

  -- two names whose bits are the same here differ further down
  pub part_on_one : decides new.name left ≡ true → decides old.name left ≡ true → cond (decides name left) both None ≡ both
  part_on_one new_is old_is =
      told_on_one new left name (told_by old name None) None new_is
      ∙ ap (told_by new name) (told_on_one old left name None None old_is ∙ ap (told_by old name) (one_way (decides name left) None))

  pub part_on_zero : decides new.name left ≡ false → decides old.name left ≡ false → cond (decides name left) None both ≡ both
  part_on_zero new_is old_is =
      told_on_zero new left name (told_by old name None) None new_is
      ∙ ap (told_by new name) (told_on_zero old left name None None old_is ∙ ap (told_by old name) (one_way (decides name left) None))

  -- two names whose bits differ here go to different branches
  pub new_on_one : decides new.name left ≡ true → decides old.name left ≡ false → cond (decides name left) (told_by new name None) (told_by old name None) ≡ both
  new_on_one new_is old_is =
      told_on_one new left name None (told_by old name None) new_is
      ∙ ap (told_by new name) (told_on_zero old left name None None old_is ∙ ap (told_by old name) (one_way (decides name left) None))

  pub new_on_zero : decides new.name left ≡ false → decides old.name left ≡ true → cond (decides name left) (told_by old name None) (told_by new name None) ≡ both
  new_on_zero new_is old_is =
      told_on_zero new left name None (told_by old name None) new_is
      ∙ ap (told_by new name) (told_on_one old left name None None old_is ∙ ap (told_by old name) (one_way (decides name left) None))

-- the postcondition of a call, in other words
pub if_ok : {A E : Type 0} {P Q : A → Type 0} (answer : Result A E) → ((value : A) → P value → Q value) → IfOk answer P → IfOk answer Q
if_ok (Ok value) turn holds = turn value holds
if_ok (Err error) turn holds = tt
