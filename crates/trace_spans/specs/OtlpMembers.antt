-- The members that are read of each span of OTLP/JSON, and how they are found in one walk.
use Rattle.std.specs.Prelude.{ℕ, List, Option}
use Rattle.serde_json.specs.Data.{Data, Members}
use Rattle.trace_spans.specs.Members.{member_of}
use Rattle.trace_spans.specs.Places.{member_in, place_after}
use Rattle.trace_spans.specs.declared.member.Member.{Member}
use Rattle.trace_spans.specs.declared.member.Member.TheVariants as member
use Rattle.trace_spans.specs.declared.otlp.members.OtlpMembers.{OtlpMembers}

-- the members that a look-up finds
abbrev found_by : (Member → Option Data) → OtlpMembers
found_by look = record {
  trace = look member.OtlpTrace;
  id = look member.OtlpSpan;
  parent = look member.OtlpParent;
  name = look member.Name;
  kind = look member.Kind;
  start = look member.StartTimeUnixNano;
  end = look member.EndTimeUnixNano;
  links = look member.Links;
  status = look member.Status;
  attributes = look member.Attributes;
}

-- each by a look-up of its own
abbrev pub otlp_members_of : Data → OtlpMembers
otlp_members_of d = found_by (λ m. member_of m d)

abbrev pub otlp_members_in : Members → OtlpMembers
otlp_members_in ms = found_by (member_in ms)

-- what was found is put into its place; what has none is passed over
abbrev pub with_found : List ℕ → Option Data → OtlpMembers → OtlpMembers
with_found name found members = record {
  trace = place_after name found member.OtlpTrace members.trace;
  id = place_after name found member.OtlpSpan members.id;
  parent = place_after name found member.OtlpParent members.parent;
  name = place_after name found member.Name members.name;
  kind = place_after name found member.Kind members.kind;
  start = place_after name found member.StartTimeUnixNano members.start;
  end = place_after name found member.EndTimeUnixNano members.end;
  links = place_after name found member.Links members.links;
  status = place_after name found member.Status members.status;
  attributes = place_after name found member.Attributes members.attributes;
}
