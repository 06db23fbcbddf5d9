-- The members that are read of each span of Jaeger JSON, and how they are found in one walk.
use Rattle.std.specs.Prelude.{ℕ, List, Option}
use Rattle.serde_json.specs.Data.{Data, Members}
use Rattle.trace_spans.specs.Members.{member_of}
use Rattle.trace_spans.specs.Places.{member_in, place_after}
use Rattle.trace_spans.specs.declared.member.Member.{Member}
use Rattle.trace_spans.specs.declared.member.Member.TheVariants as member
use Rattle.trace_spans.specs.declared.jaeger.members.JaegerMembers.{JaegerMembers}

-- the members that a look-up finds
abbrev found_by : (Member → Option Data) → JaegerMembers
found_by look = record {
  trace = look member.JaegerTrace;
  id = look member.JaegerSpan;
  parent = look member.JaegerParent;
  name = look member.OperationName;
  references = look member.References;
  start = look member.StartTime;
  duration = look member.Duration;
  tags = look member.Tags;
  process = look member.Process;
  own_process = look member.OwnProcess;
}

-- each by a look-up of its own
abbrev pub jaeger_members_of : Data → JaegerMembers
jaeger_members_of d = found_by (λ m. member_of m d)

abbrev pub jaeger_members_in : Members → JaegerMembers
jaeger_members_in ms = found_by (member_in ms)

-- what was found is put into its place; what has none is passed over
abbrev pub with_found : List ℕ → Option Data → JaegerMembers → JaegerMembers
with_found name found members = record {
  trace = place_after name found member.JaegerTrace members.trace;
  id = place_after name found member.JaegerSpan members.id;
  parent = place_after name found member.JaegerParent members.parent;
  name = place_after name found member.OperationName members.name;
  references = place_after name found member.References members.references;
  start = place_after name found member.StartTime members.start;
  duration = place_after name found member.Duration members.duration;
  tags = place_after name found member.Tags members.tags;
  process = place_after name found member.Process members.process;
  own_process = place_after name found member.OwnProcess members.own_process;
}
