use Rattle.std.proofs.Common.{refl, sym, ap, ◌∙◌}
use Rattle.serde_json.specs.Data.{no_members, put}
use Rattle.json_trees.specs.Named.{put_all}
use Rattle.trace_spans.specs.Members.{unless_null}
use Rattle.trace_spans.specs.Tags.{with_tag}
use Rattle.trace_spans.proofs.MembersFound.{tags_among-put}
use Rattle.trace_spans.proofs.zipkin.span.tags_among.Goals as goal

pub members-init : goal.members-init
members-init c = (no_members, refl, c.none-tags.ensures)

pub members-preserved : goal.members-preserved
members-preserved c =
    let so_far = c.members.invariant.0 in
    let k = c.in-Some.key.now in
    let d = c.in-Some.value in (
      put k d so_far,
      c.members.invariant.1 ∙ ap (λ ms. put_all ms so_far) c.in-Some.ensures.value,
      c.put.ensures
          ∙ ap (λ found. with_tag k found c.members.tags) c.unless_null.ensures
          ∙ ap (with_tag k (unless_null d)) c.members.invariant.2
          ∙ sym (tags_among-put k d so_far),
    )
