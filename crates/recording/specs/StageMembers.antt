-- The members that a stage may have, and how they are found in one walk.
use Rattle.std.specs.Prelude.{ℕ, List, if◌then◌else◌, Option, Some}
use Rattle.std.specs.Str.{bytes_eq}
use Rattle.serde_json.specs.Data.{Data, Members}
use Rattle.serde_json.specs.Find.{get_member}
use Rattle.recording.specs.Members.{member_of}
use Rattle.recording.specs.MemberTexts.{member_text}
use Rattle.recording.specs.declared.member.Member.{Member}
use Rattle.recording.specs.declared.member.Member.TheVariants as member
use Rattle.recording.specs.declared.stage_members.StageMembers.{StageMembers}

-- the members that a look-up finds
abbrev found_by : (Member → Option Data) → StageMembers
found_by look = record {
  name = look member.Name;
  op = look member.Op;
  value = look member.Value;
  throws = look member.Throws;
  sources = look member.Sources;
  inner = look member.Inner;
  created = look member.Created;
  takes = look member.Takes;
  queued = look member.Queued;
  runs = look member.Runs;
  action = look member.Action;
  pin_result = look member.PinResult;
  pin_moment = look member.PinMoment;
  ends = look member.Ends;
}

-- each by a look-up of its own
abbrev pub stage_members_of : Data → StageMembers
stage_members_of d = found_by (λ m. member_of m d)

abbrev pub stage_members_in : Members → StageMembers
stage_members_in ms = found_by (λ m. get_member (member_text m) ms)

-- a member's place, after one of that name was found
abbrev place_after : List ℕ → Data → Member → Option Data → Option Data
place_after name d m before = if bytes_eq name (member_text m) then Some d else before

-- the member is put into its place; one that no stage has is passed over
abbrev pub with_found : List ℕ → Data → StageMembers → StageMembers
with_found name d found = record {
  name = place_after name d member.Name found.name;
  op = place_after name d member.Op found.op;
  value = place_after name d member.Value found.value;
  throws = place_after name d member.Throws found.throws;
  sources = place_after name d member.Sources found.sources;
  inner = place_after name d member.Inner found.inner;
  created = place_after name d member.Created found.created;
  takes = place_after name d member.Takes found.takes;
  queued = place_after name d member.Queued found.queued;
  runs = place_after name d member.Runs found.runs;
  action = place_after name d member.Action found.action;
  pin_result = place_after name d member.PinResult found.pin_result;
  pin_moment = place_after name d member.PinMoment found.pin_moment;
  ends = place_after name d member.Ends found.ends;
}
