use Rattle.std.proofs.Common.{◌≡◌, ◌<◌, ◌-◌, ◌^◌, [], ◌++◌, length, take, drop, sym, ap, ◌∙◌, subst, MatchResult}
use Rattle.std.proofs.Math.Seq.{take-append_seam}
use Rattle.std.specs.List.{All, AllZip}
use Rattle.desk.specs.Clients.{ClientView}
use Rattle.many_scripts.specs.Playing.{HasHeard}
use Rattle.many_scripts.specs.Scripts.{EndsReading, IsPlay, IsReady}
use Rattle.many_scripts.proofs.Assembly.{alike, all_ready, all_scripts, all_seated, are_played, each_came_back, ends_so}
use Rattle.many_scripts.proofs.GatheredMore.{err_follows, ok_follows}
use Rattle.many_scripts.proofs.gathering.ended_by.Goals as goal

pub play_all-requires-clause-ready : goal.play_all-requires-clause-ready
play_all-requires-clause-ready g c κs within =
    let seats = c.in_ok-seats.seats.items in let clients = c.args.clients.items in let scripts = c.args.scripts.items in
    let are = c.in_ok-seats.ensures.seats in
    subst (All (λ seat. IsReady g.R.Source.failures seat.client seat.source)) (sym c.deref_mut.ensures.value)
    (all_ready seats (λ seat. seat.client) (λ seat. seat.source) g.R.Source.failures
    (all_seated seats _ _ clients scripts HasHeard are c.requires.heard)
    (all_seated seats _ _ clients scripts (λ (client : ClientView). client.calls ≡ []) are c.requires.new)
    (all_scripts seats _ _ clients scripts (λ script. g.R.Source.failures script < 2 ^ 64 - 1) are c.requires.reads))

pub returns-clause-ok : goal.returns-clause-ok
returns-clause-ok g c =
    let rest = drop (length c.play_all.new.seats) c.in_ok-seats.seats.items in
    ok_follows _ _ c.gather.result
    (λ ended gathered. are_played _ _ _ _ c.args.format g.R.Source.remaining g.R.Source.failures c.in_ok-seats.seats.items _ ended.clients.items c.args.clients.items c.args.scripts.items ended.texts.items
    (each_came_back (λ seat. seat.client) (λ seat. seat.source) (λ seat. seat.format) (λ seat. seat.text) (λ text. text.items) c.args.format g.R.Source.remaining g.R.Source.failures c.in_ok-seats.seats.items c.play_all.new.seats
    (take c.in_ok-seats.seats.len (c.play_all.new.seats ++ rest))
    (alike c.in_ok-seats.seats.items (λ seat. seat.format) c.args.format c.args.clients.items c.in_ok-seats.ensures.format)
    (ap (λ n. take n (c.play_all.new.seats ++ rest)) (sym (c.play_all.auto.seats ∙ c.deref_mut.ensures.len)) ∙ take-append_seam c.play_all.new.seats rest)
    (subst (λ seats. AllZip (λ before after. MatchResult after.text (λ text. IsPlay before.format g.R.Source.remaining g.R.Source.failures before.client before.source after.client text.items) (EndsReading g.R.Source.remaining g.R.Source.failures before.source)) seats c.play_all.new.seats) c.deref_mut.ensures.value c.play_all.ensures))
    gathered c.in_ok-seats.ensures.seats)
    c.gather.ensures.ok

pub returns-clause-err : goal.returns-clause-err
returns-clause-err g c =
    let rest = drop (length c.play_all.new.seats) c.in_ok-seats.seats.items in
    err_follows _ _ c.gather.result
    (λ fault ends. ends_so _ _ _ _ c.args.format g.R.Source.remaining g.R.Source.failures c.in_ok-seats.seats.items _ c.args.scripts.items fault c.args.clients.items c.in_ok-seats.ensures.seats
    (each_came_back (λ seat. seat.client) (λ seat. seat.source) (λ seat. seat.format) (λ seat. seat.text) (λ text. text.items) c.args.format g.R.Source.remaining g.R.Source.failures c.in_ok-seats.seats.items c.play_all.new.seats
    (take c.in_ok-seats.seats.len (c.play_all.new.seats ++ rest))
    (alike c.in_ok-seats.seats.items (λ seat. seat.format) c.args.format c.args.clients.items c.in_ok-seats.ensures.format)
    (ap (λ n. take n (c.play_all.new.seats ++ rest)) (sym (c.play_all.auto.seats ∙ c.deref_mut.ensures.len)) ∙ take-append_seam c.play_all.new.seats rest)
    (subst (λ seats. AllZip (λ before after. MatchResult after.text (λ text. IsPlay before.format g.R.Source.remaining g.R.Source.failures before.client before.source after.client text.items) (EndsReading g.R.Source.remaining g.R.Source.failures before.source)) seats c.play_all.new.seats) c.deref_mut.ensures.value c.play_all.ensures)) ends)
    c.gather.ensures.err
