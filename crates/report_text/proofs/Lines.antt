-- The content of lines, and of what is said.
use Rattle.std.proofs.Common.{◌≡◌, ℕ, List, [], ◌++◌, length, Option, Result, Ok, Err, ap, ◌∙◌, subst, append_assoc}
use Rattle.std.specs.Prelude.{OnOk}
use Rattle.std.specs.List.{flat_map}
use Rattle.text_io.specs.declared.stopped.Stopped.{Stopped}
use Rattle.text_io.specs.Writes.{Writes}
use Rattle.report_rows.specs.declared.head.Head.{Head}
use Rattle.report_rows.specs.Report.{Report}
use Rattle.report_rows.specs.declared.row.Row.{Row}
use Rattle.report_text.specs.Texts.{head_text, report_text, row_text}

-- that of a line that was empty, once its text was appended
pub in_the_line : (bytes line cleared text : List ℕ) → bytes ≡ line → line ≡ cleared ++ text → cleared ≡ [] → bytes ≡ text
in_the_line bytes line cleared text are is empty = are ∙ is ∙ ap (λ l. l ++ text) empty

-- that of a head, once the rows are counted
pub head_in_the_line : (bytes line cleared : List ℕ) (head : Head) (count rows : ℕ) → bytes ≡ line → line ≡ cleared ++ head_text head count → cleared ≡ [] → count ≡ rows
    → bytes ≡ head_text head rows
head_in_the_line bytes line cleared head count rows are is empty counted =
    in_the_line bytes line cleared (head_text head count) are is empty ∙ ap (head_text head) counted

-- what is written of its head and of its rows is written of a report
pub of_what_is_said : {W : Type 0} (held : W → Option (List ℕ)) (failures : W → ℕ) (a b : W) (r : Result (Unit {0}) Stopped) (seen said : Report) (rows : List Row)
    → seen ≡ said → rows ≡ said.rows → Writes held failures a b r (head_text seen.head (length rows) ++ flat_map row_text rows) → Writes held failures a b r (report_text said)
of_what_is_said held failures a b r seen said rows is are wrote =
    subst (λ (s : Report). Writes held failures a b r (head_text s.head (length said.rows) ++ flat_map row_text said.rows)) is
    (subst (λ (rows : List Row). Writes held failures a b r (head_text seen.head (length rows) ++ flat_map row_text rows)) are wrote)

-- two parts, one after the other
pub two_parts : {E : Type 0} (r : Result (Unit {0}) E) (old part_way new one other : List ℕ) → part_way ≡ old ++ one → OnOk r (new ≡ part_way ++ other) → OnOk r (new ≡ old ++ (one ++ other))
two_parts (Ok done) old part_way new one other is grown = grown ∙ ap (λ l. l ++ other) is ∙ append_assoc old one other
two_parts (Err error) old part_way new one other is grown = tt
