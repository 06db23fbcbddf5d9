use Rattle.many_scripts.proofs.Heard.{answers_event}
use Rattle.many_scripts.proofs.answering.answer_event.Goals as goal

pub returns-clause-ok : goal.returns-clause-ok
returns-clause-ok g c =
    answers_event c.args.access.now.form c.write_lone_reply.result c.args.client.now c.book.new.client c.args.event.now c.in_ok-reply.reply (g.S.Sink.held c.args.sink.now) (g.S.Sink.held c.write_lone_reply.new.sink)
    c.requires.heard c.in_ok-reply.ensures.later c.in_ok-reply.ensures.books c.write_lone_reply.ensures.ok
