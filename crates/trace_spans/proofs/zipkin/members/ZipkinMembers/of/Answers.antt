use Rattle.std.proofs.Common.{sym, ap, ◌∙◌}
use Rattle.serde_json.specs.Data.{put}
use Rattle.json_trees.specs.Named.{put_all}
use Rattle.trace_spans.specs.Members.{unless_null}
use Rattle.trace_spans.specs.ZipkinMembers.{with_found}
use Rattle.trace_spans.proofs.MembersFound.{zipkin_members_in-put}
use Rattle.trace_spans.proofs.zipkin.members.ZipkinMembers.of.Goals as goal

pub loop-name-preserved : goal.loop-name-preserved
loop-name-preserved c =
    let so_far = c.loop-name.invariant.0 in
    let k = c.in-Some-next.name.now in
    let d = c.in-Some-next.value in (
      put k d so_far,
      c.loop-name.invariant.1 ∙ ap (λ ms. put_all ms so_far) c.in-Some-next.ensures.value,
      c.put.ensures
          ∙ ap (λ found. with_found k found c.loop-name.found) c.unless_null.ensures
          ∙ ap (with_found k (unless_null d)) c.loop-name.invariant.2
          ∙ sym (zipkin_members_in-put k d so_far),
    )
