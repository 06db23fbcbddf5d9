use Rattle.std.proofs.Common.{◌++◌, ◌∙◌, ap, List, ℕ}
use Rattle.std.specs.Prelude.{codes, string_bytes}
use Rattle.timeline_svg.specs.Escape.{element_text}
use Rattle.timeline_svg.proofs.Texts.{as_told, at_last}
use Rattle.timeline_svg.proofs.frame.push_lines.Goals as goal

pub returns : goal.returns
returns c =
    let old = string_bytes c.args.line.now in
    let title = string_bytes c.args.heading.now.title in
    let note = string_bytes c.args.heading.now.note in
    let first = λ (text : List ℕ). element_text (codes "<text class='heading' x='16' y='24'>") text (codes "</text>\n") in
    let second = λ (text : List ℕ). element_text (codes "<text class='note' x='16' y='43'>") text (codes "</text>\n") in
    at_last c.push_element-2.result old (string_bytes c.push_element.new.line) (string_bytes c.push_element-2.new.line) (first title) (second note)
    (c.in_ok-push_element.ensures ∙ ap (λ text. old ++ first text) c.as_str.ensures.value)
    (as_told c.push_element-2.result second (string_bytes c.push_element.new.line) (string_bytes c.push_element-2.new.line)
    c.as_str-2.result.now note c.as_str-2.ensures.value c.push_element-2.ensures)
