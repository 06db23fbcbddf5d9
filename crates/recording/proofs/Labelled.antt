-- What a label tells, from the JSON that was read.
use Rattle.std.proofs.Common.{◌≡◌, ◌∙◌, ℕ, List, [], Bool, Option, Some, None, Ok, ap, sym}
use Rattle.std.specs.Option.{ok_or}
use Rattle.std.specs.Prelude.{codes, is_some, option_and_then, unwrap_or}
use Rattle.serde_json.specs.Data.{Data}
use Rattle.recording.specs.declared.fault.Fault.{Fault}
use Rattle.recording.specs.Labels.{count_in, deadline_label, is_imported, text_in, unit_label}
use Rattle.recording.specs.RecordingOf.{json_of, json_or_fault}

there : (json : Option Data) (d : Data) (fault : Fault) → ok_or json fault ≡ Ok d → json ≡ Some d
there None d fault is = cc
there (Some other) d fault is = cc

abbrev unit_by : Option Data → List ℕ
unit_by json = unwrap_or (option_and_then (text_in (codes "unit")) json) []

abbrev imported_by : Option Data → Bool
imported_by json = is_some (option_and_then (text_in (codes "trace")) json)

-- what the value tells that was read, the recording does
pub told_unit : (bytes : List ℕ) (d : Data) (unit : List ℕ) → json_or_fault bytes ≡ Ok d → unit ≡ unwrap_or (text_in (codes "unit") d) [] → unit ≡ unit_label bytes
told_unit bytes d unit is has = has ∙ sym (ap unit_by (there (json_of bytes) d _ is))

pub told_imported : (bytes : List ℕ) (d : Data) (imported : Bool) → json_or_fault bytes ≡ Ok d → imported ≡ is_some (text_in (codes "trace") d) → imported ≡ is_imported bytes
told_imported bytes d imported is has = has ∙ sym (ap imported_by (there (json_of bytes) d _ is))

pub told_deadline : (bytes : List ℕ) (d : Data) (deadline : Option ℕ) → json_or_fault bytes ≡ Ok d → deadline ≡ count_in (codes "deadline") d → deadline ≡ deadline_label bytes
told_deadline bytes d deadline is has = has ∙ sym (ap (option_and_then (count_in (codes "deadline"))) (there (json_of bytes) d _ is))
