-- The rows of groups so far.
use Rattle.std.proofs.Common.{ℕ, ◌≡◌, List, [], ◌∷◌, ◌++◌, Option, sym, refl, ap, ◌∙◌, subst, append_assoc, append-nil}
use Rattle.fleet_summary.specs.declared.group.GroupCounts.{GroupCounts}
use Rattle.fleet_answer.specs.declared.rows.GroupRow.{GroupRow}
use Rattle.fleet_answer.specs.declared.shares.Slowest.{Slowest}
use Rattle.fleet_answer.specs.Rows.{AreGroupRows, IsGroupRow}

abbrev Groups : Type 0
Groups = List (List ℕ × GroupCounts)

-- those of the groups that come before what is left
pub record HasRows (times : List (ℕ × ℕ)) (slowest : Option Slowest) (all left : Groups) (rows : List GroupRow) : Type 0 where
  pub before : Groups
  pub whole : before ++ left ≡ all
  pub are : AreGroupRows times slowest before rows

pub HasRows-none : (times : List (ℕ × ℕ)) (slowest : Option Slowest) (all : Groups) → HasRows times slowest all all []
HasRows-none times slowest all = record { before = []; whole = refl; are = tt }

more : (times : List (ℕ × ℕ)) (slowest : Option Slowest) (groups : Groups) (rows : List GroupRow) (group : List ℕ × GroupCounts) (row : GroupRow) →
    AreGroupRows times slowest groups rows → IsGroupRow times slowest group row → AreGroupRows times slowest (groups ++ group ∷ []) (rows ++ row ∷ [])
more times slowest [] [] group row are is = (is, tt)
more times slowest (g ∷ groups) (r ∷ rows) group row are is = (are.0, more times slowest groups rows group row are.1 is)
more times slowest [] (r ∷ rows) group row are is = absurd are
more times slowest (g ∷ groups) [] group row are is = absurd are

pub HasRows-more : (times : List (ℕ × ℕ)) (slowest : Option Slowest) (all left rest : Groups) (rows longer : List GroupRow) (group : List ℕ × GroupCounts) (row : GroupRow) →
    left ≡ group ∷ rest → longer ≡ rows ++ row ∷ [] → IsGroupRow times slowest group row → HasRows times slowest all left rows → HasRows times slowest all rest longer
HasRows-more times slowest all left rest rows longer group row next grown is has = record {
  before = has.before ++ group ∷ [];
  whole = append_assoc has.before (group ∷ []) rest ∙ ap (λ gs. has.before ++ gs) (sym next) ∙ has.whole;
  are = subst (AreGroupRows times slowest (has.before ++ group ∷ [])) (sym grown) (more times slowest has.before rows group row has.are is);
}

pub HasRows-all : (times : List (ℕ × ℕ)) (slowest : Option Slowest) (all left : Groups) (rows : List GroupRow) → left ≡ [] → HasRows times slowest all left rows → AreGroupRows times slowest all rows
HasRows-all times slowest all left rows none has =
    subst (λ (gs : Groups). AreGroupRows times slowest gs rows) (sym (append-nil has.before) ∙ ap (λ gs. has.before ++ gs) (sym none) ∙ has.whole) has.are
