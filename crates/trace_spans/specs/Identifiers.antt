-- Ids: up to 32 hexadecimal digits, or eight or sixteen bytes in base64; compared in lower case without leading zeros.
use Rattle.std.specs.Prelude.{ℕ, ◌&&◌, ◌||◌, ◌==◌, List, [], ◌∷◌, Bool, map, drop, length, nat_le, if◌then◌else◌, Option, Some, None, option_map, option_and_then, Result}
use Rattle.std.specs.Option.{ok_or}
use Rattle.std.specs.List.{list_all, prefix_len}
use Rattle.std.specs.Char.{to_ascii_lowercase}
use Rattle.std.specs.Str.{chars, encode_utf8_all}
use Rattle.serde_json.specs.Data.{Data}
use Rattle.trace_spans.specs.declared.fault.Fault.{Fault}
use Rattle.trace_spans.specs.declared.fault.Fault.TheVariants.{Shape}
use Rattle.trace_spans.specs.declared.member.Member.{Member}
use Rattle.trace_spans.specs.Base64Ids.{base64_id}
use Rattle.trace_spans.specs.Members.{then_on, text_in}

abbrev pub is_between : ℕ → ℕ → ℕ → Bool
is_between low high byte = nat_le low byte && nat_le byte high

-- `0` to `9`, `a` to `f`, `A` to `F`
abbrev pub is_hexadecimal : ℕ → Bool
is_hexadecimal byte = is_between 48 57 byte || is_between 97 102 byte || is_between 65 70 byte

unfoldable pub is_id : List ℕ → Bool
is_id text = nat_le (length text) 32 && list_all is_hexadecimal text

abbrev pub is_zero : ℕ → Bool
is_zero digit = digit == 48

abbrev pub without_zeros : List ℕ → List ℕ
without_zeros digits = drop (prefix_len is_zero digits) digits

-- an id as it is compared
unfoldable pub compared : List ℕ → List ℕ
compared id = encode_utf8_all (map to_ascii_lowercase (without_zeros (chars id)))

-- the id that a text is, as it is compared
unfoldable pub compared_text : List ℕ → Option (List ℕ)
compared_text text = if is_id text then Some (compared text) else option_map compared (base64_id text)

-- the digits of an id, in lower case, unless all are zeros
unfoldable pub told_digits : List ℕ → Option (List ℕ)
told_digits id = if list_all is_zero id then None else Some (map to_ascii_lowercase id)

-- the id that a text is, as it is told
unfoldable pub told_text : List ℕ → Option (List ℕ)
told_text text = if is_id text then told_digits text else option_and_then told_digits (base64_id text)

-- the id that a member is, empty if it is absent
unfoldable pub compared_in : Member → Data → Result (List ℕ) Fault
compared_in m d = then_on (text_in m d) (λ text. ok_or (compared_text text) (Shape m))

-- the id of a span, which has a digit that is not 0
unfoldable pub span_id_in : Member → Data → Result (List ℕ) Fault
span_id_in m d = then_on (text_in m d) (λ text. ok_or (told_text text) (Shape m))

-- an id, unless it is empty
abbrev pub one_unless_empty : List ℕ → List (List ℕ)
one_unless_empty [] = []
one_unless_empty (x ∷ xs) = (x ∷ xs) ∷ []
