use Rattle.std.proofs.Common.{◌+◌, ◌++◌, ◌∙◌, ap}
use Rattle.std.specs.Prelude.{codes, string_bytes}
use Rattle.timeline_svg.specs.Escape.{cut}
use Rattle.timeline_svg.specs.RowTexts.{hit_text}
use Rattle.timeline_svg.proofs.Texts.{after, at_last, last_text}
use Rattle.timeline_svg.proofs.rows.push_name.Goals as goal

pub returns : goal.returns
returns c =
    let old = string_bytes c.args.line.now in
    let hit = hit_text c.args.top (c.args.top + 13) in
    let name = cut 40 (string_bytes c.args.row.now.name) in
    at_last c.push_str.result old (string_bytes c.push_cut.new.line) (string_bytes c.push_str.new.self) (hit ++ name) (codes "</text>")
    (after old (string_bytes c.push_hit.new.line) (string_bytes c.push_cut.new.line) hit name
    c.in_ok-push_hit.ensures
    (c.in_ok-push_cut.ensures ∙ ap (λ text. string_bytes c.push_hit.new.line ++ cut 40 text) c.as_str.ensures.value))
    (last_text c.push_str.result (string_bytes c.push_cut.new.line) (string_bytes c.push_str.new.self) (codes "</text>") c.push_str.ensures.bytes)
