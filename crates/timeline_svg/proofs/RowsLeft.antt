-- The rows that are left.
use Rattle.std.proofs.Common.{◌≡◌, ℕ, ◌+◌, ◌<◌, List, ◌∷◌, ◌++◌, sym, ap, ◌∙◌, length, drop, get_or, drop-cons, add-one}
use Rattle.timeline.specs.declared.scale.Scale.{Scale}
use Rattle.timeline_svg.specs.declared.row.Row.{Row}
use Rattle.timeline_svg.specs.Frames.{row_y}
use Rattle.timeline_svg.specs.RowTexts.{row_text, rows_text}

-- the next row, and those after it
pub next_row : (scale : Scale) (rows : List Row) (index : ℕ) (row : Row) → row ≡ get_or rows index row → index < length rows
    → rows_text scale index (drop index rows) ≡ row_text scale (row_y index) row ++ rows_text scale (index + 1) (drop (index + 1) rows)
next_row scale rows index row is within =
    ap (rows_text scale index) (drop-cons rows index row within ∙ ap (λ n. get_or rows index row ∷ drop n rows) (sym (add-one index)))
    ∙ ap (λ (one : Row). row_text scale (row_y index) one ++ rows_text scale (index + 1) (drop (index + 1) rows)) (sym is)
