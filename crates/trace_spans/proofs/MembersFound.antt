-- How the members of spans are found in one walk.
use Rattle.std.proofs.Common.{◌≡◌, ℕ, List, Bool, true, false, true≢false, refl, sym, ap, ◌∙◌, if◌then◌else◌}
use Rattle.std.specs.Prelude.{codes, option_and_then}
use Rattle.std.specs.Str.{bytes_eq}
use Rattle.std.proofs.lemmas.Slice.Eq.{bytes_eq-Decides}
use Rattle.serde_json.specs.Data.{Data, Members, put}
use Rattle.serde_json.specs.Find.{get_member}
use Rattle.serde_json.proofs.Views.{get_member-put, get_member-put_other}
use Rattle.trace_spans.specs.Members.{unless_null}
use Rattle.trace_spans.specs.MemberTexts.{member_text}
use Rattle.trace_spans.specs.Places.{member_in, place_after}
use Rattle.trace_spans.specs.declared.member.Member.{Member}
use Rattle.trace_spans.specs.declared.member.Member.TheVariants as member
use Rattle.trace_spans.specs.JaegerMembers as jaeger
use Rattle.trace_spans.specs.OtlpMembers as otlp
use Rattle.trace_spans.specs.Tags.{tag_after, tag_among, tags_among, with_tag}
use Rattle.trace_spans.specs.ZipkinMembers as zipkin

after_put : (name k : List ℕ) (d : Data) (ms : Members) (same : Bool) → bytes_eq k name ≡ same → option_and_then unless_null (get_member name (put k d ms)) ≡ (if same then unless_null d else option_and_then unless_null (get_member name ms))
after_put name k d ms true e = ap (option_and_then unless_null) (ap (λ n. get_member n (put k d ms)) (sym ((bytes_eq-Decides k name).0 e)) ∙ get_member-put k d ms)
after_put name k d ms false e = ap (option_and_then unless_null) (get_member-put_other name k d ms (λ same. true≢false (sym ((bytes_eq-Decides k name).1 (sym same)) ∙ e)))

got : (m : Member) (k : List ℕ) (d : Data) (ms : Members) → member_in (put k d ms) m ≡ place_after k (unless_null d) m (member_in ms m)
got m k d ms = after_put (member_text m) k d ms (bytes_eq k (member_text m)) refl

-- one more member
pub otlp_members_in-put : (k : List ℕ) (d : Data) (ms : Members) → otlp.otlp_members_in (put k d ms) ≡ otlp.with_found k (unless_null d) (otlp.otlp_members_in ms)
otlp_members_in-put k d ms =
    rw (got member.OtlpTrace k d ms, got member.OtlpSpan k d ms, got member.OtlpParent k d ms, got member.Name k d ms, got member.Kind k d ms, got member.StartTimeUnixNano k d ms, got member.EndTimeUnixNano k d ms, got member.Links k d ms, got member.Status k d ms, got member.Attributes k d ms)
    refl

pub jaeger_members_in-put : (k : List ℕ) (d : Data) (ms : Members) → jaeger.jaeger_members_in (put k d ms) ≡ jaeger.with_found k (unless_null d) (jaeger.jaeger_members_in ms)
jaeger_members_in-put k d ms =
    rw (got member.JaegerTrace k d ms, got member.JaegerSpan k d ms, got member.JaegerParent k d ms, got member.OperationName k d ms, got member.References k d ms, got member.StartTime k d ms, got member.Duration k d ms, got member.Tags k d ms, got member.Process k d ms, got member.OwnProcess k d ms)
    refl

pub zipkin_members_in-put : (k : List ℕ) (d : Data) (ms : Members) → zipkin.zipkin_members_in (put k d ms) ≡ zipkin.with_found k (unless_null d) (zipkin.zipkin_members_in ms)
zipkin_members_in-put k d ms =
    rw (got member.OtlpTrace k d ms, got member.ZipkinSpan k d ms, got member.ZipkinParent k d ms, got member.Name k d ms, got member.Kind k d ms, got member.Timestamp k d ms, got member.Duration k d ms, got member.LocalEndpoint k d ms, got member.Tags k d ms, got member.Shared k d ms)
    refl

tag_got : (key k : List ℕ) (d : Data) (ms : Members) → tag_among (put k d ms) key ≡ tag_after k (unless_null d) key (tag_among ms key)
tag_got key k d ms = after_put key k d ms (bytes_eq k key) refl

-- one more tag
pub tags_among-put : (k : List ℕ) (d : Data) (ms : Members) → tags_among (put k d ms) ≡ with_tag k (unless_null d) (tags_among ms)
tags_among-put k d ms =
    rw (tag_got (codes "error") k d ms, tag_got (codes "otel.status_code") k d ms, tag_got (codes "span.kind") k d ms, tag_got (codes "error.type") k d ms, tag_got (codes "exception.type") k d ms, tag_got (codes "url.full") k d ms, tag_got (codes "http.url") k d ms, tag_got (codes "url.path") k d ms, tag_got (codes "http.target") k d ms, tag_got (codes "db.query.text") k d ms, tag_got (codes "db.statement") k d ms, tag_got (codes "rpc.method") k d ms, tag_got (codes "server.address") k d ms, tag_got (codes "net.peer.name") k d ms, tag_got (codes "peer.service") k d ms, tag_got (codes "messaging.destination.name") k d ms)
    refl
