-- Members of an object, in the form that is asked. Null is absence.
use Rattle.std.specs.Prelude.{ℕ, ◌^◌, ◌&&◌, List, [], Bool, length, nat_lt, if◌then◌else◌, Option, Some, None, is_some, option_map, option_and_then, Result, Ok, Err}
use Rattle.std.specs.Option.{ok_or}
use Rattle.std.specs.Str.{all_ascii_digits}
use Rattle.std.specs.Str.Parse.{digits_value}
use Rattle.serde_json.specs.Data.{Data, Num, Items, no_items}
use Rattle.serde_json.specs.Find.{get, as_null, as_str, as_array, as_number, as_object, as_u64}
use Rattle.trace_spans.specs.declared.fault.Fault.{Fault}
use Rattle.trace_spans.specs.declared.fault.Fault.TheVariants.{Shape}
use Rattle.trace_spans.specs.declared.member.Member.{Member}
use Rattle.trace_spans.specs.MemberTexts.{member_text}

-- what comes after a part: nothing after a fault
abbrev pub then_on : {A B : Type 0} → Result A Fault → (A → Result B Fault) → Result B Fault
then_on (Ok a) next = next a
then_on (Err fault) next = Err fault

abbrev pub unless_null : Data → Option Data
unless_null d = if is_some (as_null d) then None else Some d

-- the member of an object
unfoldable pub member_of : Member → Data → Option Data
member_of m d = option_and_then unless_null (get (member_text m) d)

-- a value of the form that is asked, or a fault of shape that names the member
abbrev pub of_form : {A : Type 0} → Member → (Data → Option A) → Data → Result A Fault
of_form m form d = ok_or (form d) (Shape m)

abbrev pub where_present : {A : Type 0} → Result A Fault → (Data → Result A Fault) → Option Data → Result A Fault
where_present absent form None = absent
where_present absent form (Some d) = form d

-- the member of an object, in its form, or what stands for it if absent
abbrev pub optional : {A : Type 0} → Member → A → (Data → Option A) → Data → Result A Fault
optional m default form d = where_present (Ok default) (of_form m form) (member_of m d)

-- the member is there, be it null
unfoldable pub has : Member → Data → Bool
has m d = is_some (get (member_text m) d)

unfoldable pub text_in : Member → Data → Result (List ℕ) Fault
text_in m d = optional m [] as_str d

unfoldable pub items_in : Member → Data → Result Items Fault
items_in m d = optional m no_items as_array d

abbrev pub an_object : Data → Option Data
an_object d = if is_some (as_object d) then Some d else None

unfoldable pub object_in : Member → Data → Result (Option Data) Fault
object_in m d = optional m None (λ v. option_map Some (an_object v)) d

-- an item of the list that is this member is an object
unfoldable pub item_in : Member → Data → Result (Unit {0}) Fault
item_in m d = if is_some (as_object d) then Ok tt else Err (Shape m)

abbrev pub below_64_bits : ℕ → Option ℕ
below_64_bits n = if nat_lt n (2 ^ 64) then Some n else None

-- a text of digits is the number that it spells
unfoldable pub spelled : List ℕ → Option ℕ
spelled text =
    if nat_lt 0 (length text) && all_ascii_digits text then below_64_bits (digits_value 10 text) else None

abbrev pub whole_of : Option (List ℕ) → Option Num → Option ℕ
whole_of (Some text) n = spelled text
whole_of None n = option_and_then as_u64 n

-- a whole number below 2 ^ 64, in a number or in digits
unfoldable pub whole_number : Data → Option ℕ
whole_number d = whole_of (as_str d) (as_number d)

unfoldable pub number_in : Member → Data → Result (Option ℕ) Fault
number_in m d = optional m None (λ v. option_map Some (whole_number v)) d
