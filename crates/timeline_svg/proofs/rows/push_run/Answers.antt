use Rattle.std.proofs.Common.{◌++◌, ◌∙◌, ap}
use Rattle.std.specs.Prelude.{string_bytes}
use Rattle.timeline.specs.Places.{x_of}
use Rattle.timeline_svg.specs.RowTexts.{action_text, cut_text, end_text, queue_text, wait_text}
use Rattle.timeline_svg.proofs.Texts.{after, at_last}
use Rattle.timeline_svg.proofs.rows.push_run.Goals as goal

pub returns : goal.returns
returns c =
    let y = c.args.y in
    let old = string_bytes c.args.line.now in
    let wait = wait_text y c.args.from (x_of c.args.scale.now c.args.run.completed) in
    let queue = queue_text c.args.scale.now y c.args.run in
    let ran = action_text c.args.scale.now y c.args.run in
    let cut = cut_text c.args.scale.now y c.args.run.completed c.args.run.missed_end in
    let mark = end_text c.args.scale.now y c.args.run in
    at_last c.push_end.result old (string_bytes c.push_cut_off.new.line) (string_bytes c.push_end.new.line) (wait ++ queue ++ ran ++ cut) mark
    (after old (string_bytes c.push_action.new.line) (string_bytes c.push_cut_off.new.line) (wait ++ queue ++ ran) cut
    (after old (string_bytes c.push_queue.new.line) (string_bytes c.push_action.new.line) (wait ++ queue) ran
    (after old (string_bytes c.push_wait.new.line) (string_bytes c.push_queue.new.line) wait queue
    (c.in_ok-push_wait.ensures ∙ ap (λ to. old ++ wait_text y c.args.from to) c.x-to.ensures.value)
    c.in_ok-push_queue.ensures)
    c.in_ok-push_action.ensures)
    c.in_ok-push_cut_off.ensures)
    c.push_end.ensures
