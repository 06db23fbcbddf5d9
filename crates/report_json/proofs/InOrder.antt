-- The members of a report stand in the order of their names, also with the number of the line that is answered.
use Rattle.std.proofs.Common.{◌≡◌, ℕ, List, [], ◌∷◌, ◌++◌, Option, None, Some, Result, OnOk, codes, refl, ap, sym, ◌∙◌, subst}
use Rattle.json.specs.Token.{Token, begin_object, end_object}
use Rattle.serde_json.specs.Data.{no_members, put}
use Rattle.report_rows.specs.declared.head.Head.{Head}
use Rattle.report_rows.specs.declared.head.Head.TheVariants.{Times, Sweep}
use Rattle.report_rows.specs.declared.row.Row.{Row}
use Rattle.report_rows.specs.Report.{Report}
use Rattle.report_json.specs.Heads.{facts, facts_after, facts_before, facts_json, object_of}
use Rattle.report_json.specs.Json.{NamedValues, at_line, count, with}
use Rattle.report_json.specs.Tokens.{Tells, TellsRows, line_rows, members_in}
use Rattle.report_json.proofs.Pushed.{both_rows, report_told_between}

abbrev pub first : Head → NamedValues
first head = facts_json (facts_before head)

abbrev pub last : Head → List Row → NamedValues
last head rows = facts_json (facts_after head rows)

pub record InOrder (head : Head) (rows : List Row) : Type 0 where
  pub same : with no_members (facts_json (facts_before head ++ facts_after head rows)) ≡ members_in (first head ++ last head rows)
  pub sorted : with no_members (first head ++ last head rows) ≡ members_in (first head ++ last head rows)
  pub numbered : (line : ℕ) → put (codes "line") (count line) (with no_members (facts_json (facts_before head ++ facts_after head rows)))
      ≡ members_in (first head ++ (codes "line", count line) ∷ last head rows)
  pub stays : (line : ℕ) → with no_members (first head ++ (codes "line", count line) ∷ last head rows) ≡ members_in (first head ++ (codes "line", count line) ∷ last head rows)

-- each head is looked at by itself
pub in_order : (head : Head) (rows : List Row) → InOrder head rows
in_order (Times version) rows = record { same = refl; sorted = refl; numbered = λ line. refl; stays = λ line. refl }
in_order (Sweep version name moment None all) rows = record { same = refl; sorted = refl; numbered = λ line. refl; stays = λ line. refl }
in_order (Sweep version name moment (Some haste) all) rows = record { same = refl; sorted = refl; numbered = λ line. refl; stays = λ line. refl }
in_order _ rows = record { same = refl; sorted = refl; numbered = λ line. refl; stays = λ line. refl }

-- what a report says, told in these parts
pub said_told : {E : Type 0} (r : Result (Unit {0}) E) (line : Option ℕ) (report same : Report) (rows : List Row) (old one two three four new : List Token) → report ≡ same
    → rows ≡ same.rows → one ≡ old ++ begin_object ∷ [] → TellsRows (first report.head) one two → TellsRows (line_rows line) two three → TellsRows (last report.head rows) three four
    → OnOk r (new ≡ four ++ end_object ∷ []) → OnOk r (Tells (at_line line (object_of same)) old new)
said_told r line report same rows old one two three four new is are begun before number after ended =
    let order = in_order report.head report.rows in
    subst (λ (said : Report). OnOk r (Tells (at_line line (object_of said)) old new)) is
    (report_told_between r line (facts_json (facts report)) (first report.head) (last report.head report.rows) old one four new order.same order.sorted order.numbered order.stays begun
    (both_rows _ _ _ _ _ before (both_rows _ _ _ _ _ number (subst (λ (rows : List Row). TellsRows (last report.head rows) three four) (are ∙ ap (λ (it : Report). it.rows) (sym is)) after))) ended)
