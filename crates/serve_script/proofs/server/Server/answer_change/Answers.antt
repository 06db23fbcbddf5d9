use Rattle.std.proofs.Common.{ap, ◌∙◌, sym}
use Rattle.text_io.proofs.Written.{AppendsPrefix-none}
use Rattle.serve_script.proofs.Steps.{on_err}
use Rattle.session_core.specs.declared.event.Event.TheVariants.{Commit}
use Rattle.serve_script.specs.Answers.{answer_change, answer_event}
use Rattle.serve_script.proofs.Answering.{part_of}
use Rattle.serve_script.proofs.server.Server.answer_change.Goals as goal

pub returns-in_err-edit-in-Some-clause-err : goal.returns-in_err-edit-in-Some-clause-err
returns-in_err-edit-in-Some-clause-err g c = on_err _ (AppendsPrefix-none _ _)

pub returns-in_ok-edit-in-Some-clause-err : goal.returns-in_ok-edit-in-Some-clause-err
returns-in_ok-edit-in-Some-clause-err g c =
    part_of _ _ _ _ _
    (ap (λ base. (answer_change c.args.form c.args.self.now c.args.session base c.args.edits c.args.listed).0) c.in-Some.is
    ∙ ap (λ edits. (answer_event c.args.form c.args.self.now (Commit c.args.session c.in-Some.base edits) c.args.listed).0) (sym c.in_ok-edit-in-Some.ensures))
    c.answer_event.ensures.err

pub returns-in-None-clause-err : goal.returns-in-None-clause-err
returns-in-None-clause-err g c =
    part_of _ _ _ _ _ (ap (λ base. (answer_change c.args.form c.args.self.now c.args.session base c.args.edits c.args.listed).0) c.in-None.is) c.answer_head.ensures.err
