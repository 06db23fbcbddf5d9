use Rattle.std.proofs.Common.{◌≡◌, ◌∙◌, ap, arith, length, map}
use Rattle.std.specs.Prelude.{nat_eq}
use Rattle.std.specs.HashMap.{get_by}
use Rattle.std.specs.List.{range_with_len}
use Rattle.trace_stages.specs.Beginnings.{all_begins, begun, begun_from, entry}
use Rattle.trace_stages.specs.Known.{plain_hads, plain_known}
use Rattle.trace_stages.proofs.Failing.{same_function}
use Rattle.trace_stages.proofs.Tables.{table_more}
use Rattle.trace_stages.specs.Joins.{plain_joined}
use Rattle.trace_stages.proofs.beginnings.all_entries.Goals as goal

pub loop-place-preserved : goal.loop-place-preserved
loop-place-preserved c = table_more plain_joined (entry (plain_known c.args.known.now) (λ other. get_by (nat_eq other) c.in_ok-begun.begun)) c.loop-place.entries.items c.push.new.self.items c.in_ok-joined.joined c.loop-place.place c.loop-place.invariant c.in_ok-joined.ensures c.in_ok-push.ensures.items

pub returns : goal.returns
returns c =
    let count : c.loop-place.place ≡ length c.args.known.now.relations.now.intervals.items = omega (arith, c.args.known.now.relations.now.intervals.ok.0) in
    c.loop-place.invariant
    ∙ ap (λ n. map (entry (plain_known c.args.known.now) (λ other. get_by (nat_eq other) c.in_ok-begun.begun)) (range_with_len 0 n)) count
    ∙ ap (λ those. map (entry (plain_known c.args.known.now) those) (range_with_len 0 (length c.args.known.now.relations.now.intervals.items)))
    (same_function (λ other. get_by (nat_eq other) c.in_ok-begun.begun) (begun (plain_known c.args.known.now)) (λ q. c.in_ok-begun.ensures q ∙ ap (λ those. begun_from (all_begins (plain_hads those)) q) c.deref.ensures.value))
