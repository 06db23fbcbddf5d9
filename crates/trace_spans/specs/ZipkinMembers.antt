-- The members that are read of each span of Zipkin's, and how they are found in one walk.
use Rattle.std.specs.Prelude.{ℕ, List, Option}
use Rattle.serde_json.specs.Data.{Data, Members}
use Rattle.trace_spans.specs.Members.{member_of}
use Rattle.trace_spans.specs.Places.{member_in, place_after}
use Rattle.trace_spans.specs.declared.member.Member.{Member}
use Rattle.trace_spans.specs.declared.member.Member.TheVariants as member
use Rattle.trace_spans.specs.declared.zipkin.members.ZipkinMembers.{ZipkinMembers}

-- the members that a look-up finds
abbrev found_by : (Member → Option Data) → ZipkinMembers
found_by look = record {
  trace = look member.OtlpTrace;
  id = look member.ZipkinSpan;
  parent = look member.ZipkinParent;
  name = look member.Name;
  kind = look member.Kind;
  start = look member.Timestamp;
  duration = look member.Duration;
  endpoint = look member.LocalEndpoint;
  tags = look member.Tags;
  shared = look member.Shared;
}

-- each by a look-up of its own
abbrev pub zipkin_members_of : Data → ZipkinMembers
zipkin_members_of d = found_by (λ m. member_of m d)

abbrev pub zipkin_members_in : Members → ZipkinMembers
zipkin_members_in ms = found_by (member_in ms)

-- what was found is put into its place; what has none is passed over
abbrev pub with_found : List ℕ → Option Data → ZipkinMembers → ZipkinMembers
with_found name found members = record {
  trace = place_after name found member.OtlpTrace members.trace;
  id = place_after name found member.ZipkinSpan members.id;
  parent = place_after name found member.ZipkinParent members.parent;
  name = place_after name found member.Name members.name;
  kind = place_after name found member.Kind members.kind;
  start = place_after name found member.Timestamp members.start;
  duration = place_after name found member.Duration members.duration;
  endpoint = place_after name found member.LocalEndpoint members.endpoint;
  tags = place_after name found member.Tags members.tags;
  shared = place_after name found member.Shared members.shared;
}
