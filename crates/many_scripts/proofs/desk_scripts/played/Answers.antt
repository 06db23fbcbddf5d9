use denote.Param.Send.{sendable}
use Rattle.std.proofs.Common.{arith}
use Rattle.desk.proofs.SharedCrossing.{stages_send, stages_sync}
use Rattle.many_scripts.proofs.Assembly.{comes_out, comes_to_fault, fresh_heard, fresh_new}
use Rattle.many_scripts.proofs.desk_scripts.played.Goals as goal

pub begun-requires-send-K-Stages : goal.begun-requires-send-K-Stages
begun-requires-send-K-Stages g c κs within = search (sendable, stages_send)

pub begun-requires-sync-K-Stages : goal.begun-requires-sync-K-Stages
begun-requires-sync-K-Stages g c κs within = search (sendable, stages_sync) depth 60 fits 100000

pub output_of-requires-send-K-Stages : goal.output_of-requires-send-K-Stages
output_of-requires-send-K-Stages g c κs within = search (sendable, stages_send)

pub output_of-requires-sync-K-Stages : goal.output_of-requires-sync-K-Stages
output_of-requires-sync-K-Stages g c κs within = search (sendable, stages_sync) depth 60 fits 100000

pub ended_by-ended-requires-clause-heard : goal.ended_by-ended-requires-clause-heard
ended_by-ended-requires-clause-heard g c κs within = fresh_heard c.in_ok-desk.clients.items _ _ c.in_ok-desk.ensures

pub ended_by-ended-requires-clause-new : goal.ended_by-ended-requires-clause-new
ended_by-ended-requires-clause-new g c κs within = fresh_new c.in_ok-desk.clients.items _ _ c.in_ok-desk.ensures

pub returns-clause-ok : goal.returns-clause-ok
returns-clause-ok g c =
    comes_out c.args.format g.R.Source.remaining g.R.Source.failures (λ ended. ended.clients.items) (λ ended. ended.texts.items) (λ output. output.items)
    c.ended_by-ended.result c.output_of.result c.args.graph _ _ c.in_ok-desk.clients.items c.args.scripts.items g.N.Naming.opening
    c.ended_by-ended.ensures.ok c.output_of.ensures.ok
    (let new = c.in_ok-desk.ensures.0 in let fits = c.args.scripts.ok.0 in omega (arith, new, fits))
    c.in_ok-desk.ensures c.requires.opening

pub returns-clause-err : goal.returns-clause-err
returns-clause-err g c = comes_to_fault c.args.format g.R.Source.remaining g.R.Source.failures c.ended_by-ended.result c.output_of.result c.args.scripts.items c.ended_by-ended.ensures.err c.output_of.ensures.err
