use Rattle.std.proofs.Common.{ap, ◌∙◌}
use Rattle.version_store.specs.Plain.{PlainVersion}
use Rattle.many_scripts.proofs.Heard.{answers_commit_at}
use Rattle.many_scripts.proofs.answering.answer_commit.Goals as goal

pub returns-clause-ok : goal.returns-clause-ok
returns-clause-ok g c =
    answers_commit_at c.args.access.now.form c.tell_reply.result c.args.client.now c.commit.new.client c.args.session c.number.result c.args.base.now c.deref-2.result.now c.args.edits c.in_ok-edit.edit c.args.listed c.in_ok-reply.reply
    (g.S.Sink.held c.args.sink.now) (g.S.Sink.held c.tell_reply.new.sink)
    c.requires.heard c.in_ok-reply.ensures.later c.in_ok-reply.ensures.commits c.in_ok-edit.ensures c.deref-2.ensures
    (c.number.ensures ∙ ap (λ (v : PlainVersion). v.number) c.deref.ensures) c.tell_reply.ensures.ok
