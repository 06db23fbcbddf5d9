use Rattle.std.proofs.Common.{ℕ, List, ◌+◌, ◌/◌, ◌++◌, ◌∙◌, ap, [], length}
use Rattle.std.specs.Prelude.{codes, string_bytes}
use Rattle.std.specs.List.{flat_map}
use Rattle.timeline_svg.specs.Deadlines.{deadline_text}
use Rattle.timeline_svg.specs.Frames.{bands_text, grid_text, head_text, unit_text}
use Rattle.timeline_svg.specs.RowTexts.{rows_text}
use Rattle.timeline_svg.specs.Trails.{trail_text}
use Rattle.timeline_svg.proofs.Texts.{after}
use Rattle.timeline_svg.proofs.picture.draw.Goals as goal

pub returns : goal.returns
returns c =
    let scale = c.args.scale.now in
    let rows = c.args.rows.now in
    let bottom = c.row_y-bottom.result in
    let head = head_text c.args.heading.now (scale.left + 1032) (bottom + 24) in
    let grid = flat_map (grid_text scale bottom) c.args.ticks.now in
    let deadline = deadline_text scale bottom c.args.heading.now.deadline in
    let bands_of = λ (unit : List ℕ). bands_text scale unit c.args.ticks.now (length rows / 50 + 1) in
    let bands = bands_of (unit_text (string_bytes c.args.heading.now.unit)) in
    let each_row = rows_text scale 0 rows in
    let trail = trail_text scale rows c.args.path.now in
    after [] (string_bytes c.push_trail.new.line) (string_bytes c.push_str.new.self) (head ++ grid ++ deadline ++ bands ++ each_row ++ trail) (codes "</svg>\n")
    (after [] (string_bytes c.push_rows.new.line) (string_bytes c.push_trail.new.line) (head ++ grid ++ deadline ++ bands ++ each_row) trail
    (after [] (string_bytes c.push_bands.new.line) (string_bytes c.push_rows.new.line) (head ++ grid ++ deadline ++ bands) each_row
    (after [] (string_bytes c.push_deadline.new.line) (string_bytes c.push_bands.new.line) (head ++ grid ++ deadline) bands
    (after [] (string_bytes c.push_grid.new.line) (string_bytes c.push_deadline.new.line) (head ++ grid) deadline
    (after [] (string_bytes c.push_head.new.line) (string_bytes c.push_grid.new.line) head grid
    (c.in_ok-push_head.ensures ∙ ap (λ line. line ++ head) c.new-text.ensures.bytes)
    c.in_ok-push_grid.ensures)
    c.in_ok-push_deadline.ensures)
    (c.in_ok-push_bands.ensures ∙ ap (λ unit. string_bytes c.push_deadline.new.line ++ bands_of unit)
    (c.as_str-2.ensures.value ∙ c.in_ok-unit.ensures ∙ ap unit_text c.as_str.ensures.value)))
    c.in_ok-push_rows.ensures)
    c.in_ok-push_trail.ensures)
    c.in_ok-push_str.ensures.bytes
    ∙ ap (λ (at : ℕ). head_text c.args.heading.now (scale.left + 1032) (at + 24) ++ flat_map (grid_text scale at) c.args.ticks.now ++ deadline_text scale at c.args.heading.now.deadline ++ bands ++ each_row ++ trail ++ codes "</svg>\n")
    c.row_y-bottom.ensures
