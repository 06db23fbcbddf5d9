-- How a member of an object is found in a walk over all members.
use Rattle.std.specs.Prelude.{ℕ, List, if◌then◌else◌, Option, option_and_then}
use Rattle.std.specs.Str.{bytes_eq}
use Rattle.serde_json.specs.Data.{Data, Members}
use Rattle.serde_json.specs.Find.{get_member}
use Rattle.trace_spans.specs.Members.{unless_null}
use Rattle.trace_spans.specs.MemberTexts.{member_text}
use Rattle.trace_spans.specs.declared.member.Member.{Member}

-- the member, where it is among them and is not null
abbrev pub member_in : Members → Member → Option Data
member_in ms m = option_and_then unless_null (get_member (member_text m) ms)

-- a member's place, after one of that name was found, or null
abbrev pub place_after : List ℕ → Option Data → Member → Option Data → Option Data
place_after name found m before = if bytes_eq name (member_text m) then found else before
