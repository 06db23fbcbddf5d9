-- What a look into a JSON finds.
use Rattle.std.proofs.Common.{ℕ, ◌≡◌, List, true, Option, Some, None, is_some, option_and_then, refl, ap}
use Rattle.serde_json.specs.Data.{Num, unsigned, negative, float, Data, null, boolean, number, string, array, object}
use Rattle.serde_json.specs.Find.{as_null, as_number, as_str, as_u64}
use Rattle.fleet_text.specs.Json.{text_or_null}
use Rattle.json_objects.specs.Objects.{count_json}

count_of_number : (n : Num) (count : ℕ) → as_u64 n ≡ Some count → n ≡ unsigned count
count_of_number (unsigned n) count is = let same : n ≡ count = cc in ap unsigned same
count_of_number (negative z) count is = absurd (cc is)
count_of_number (float x) count is = absurd (cc is)

pub count_read : (d : Data) (count : ℕ) → option_and_then as_u64 (as_number d) ≡ Some count → d ≡ count_json count
count_read null count is = absurd (cc is)
count_read (boolean b) count is = absurd (cc is)
count_read (number n) count is = ap number (count_of_number n count is)
count_read (string s) count is = absurd (cc is)
count_read (array ds) count is = absurd (cc is)
count_read (object ms) count is = absurd (cc is)

pub text_read : (d : Data) (text : List ℕ) → as_str d ≡ Some text → d ≡ string text
text_read null text is = absurd (cc is)
text_read (boolean b) text is = absurd (cc is)
text_read (number n) text is = absurd (cc is)
text_read (string s) text is = let same : s ≡ text = cc in ap string same
text_read (array ds) text is = absurd (cc is)
text_read (object ms) text is = absurd (cc is)

pub null_read : (d : Data) → is_some (as_null d) ≡ true → d ≡ text_or_null None
null_read null is = refl
null_read (boolean b) is = absurd (cc is)
null_read (number n) is = absurd (cc is)
null_read (string s) is = absurd (cc is)
null_read (array ds) is = absurd (cc is)
null_read (object ms) is = absurd (cc is)

pub null_text : (d : Data) (text : Option (List ℕ)) → d ≡ text_or_null text → is_some (as_null d) ≡ true → text ≡ None
null_text d None is none = refl
null_text d (Some text) is none = absurd (cc (ap (λ e. is_some (as_null e)) is, none))
