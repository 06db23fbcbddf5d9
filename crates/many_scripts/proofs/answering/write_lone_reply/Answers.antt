use Rattle.std.proofs.Common.{OnOk, option_copied, subst}
use Rattle.std.specs.Io.KnownBytes.{Appends}
use Rattle.serve_script.specs.Told.{reply_told}
use Rattle.many_scripts.proofs.answering.write_lone_reply.Goals as goal

pub returns-clause-ok : goal.returns-clause-ok
returns-clause-ok g c =
    subst (λ base. OnOk c.tell_reply.result (Appends (g.S.Sink.held c.args.sink.now) (g.S.Sink.held c.tell_reply.new.sink) (reply_told c.args.access.now.form (option_copied base) c.args.event.now c.args.listed c.args.reply)))
    c.no_version-base.ensures c.tell_reply.ensures.ok
