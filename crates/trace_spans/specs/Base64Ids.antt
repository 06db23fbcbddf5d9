-- Ids in base64, as protobuf's own JSON has them: eight bytes or sixteen.
use Rattle.std.specs.Prelude.{ℕ, ◌==◌, ◌||◌, List, length, if◌then◌else◌, Option, Some, None, option_and_then}
use Rattle.std.specs.Result.{result_ok}
use Rattle.base64.specs.Engines.{standard}
use Rattle.base64.specs.GeneralPurpose.{decode_of}
use Rattle.hex.specs.Hex.{encode_lower}

abbrev pub id_of_bytes : List ℕ → Option (List ℕ)
id_of_bytes bytes = if length bytes == 8 || length bytes == 16 then Some (encode_lower bytes) else None

-- the hexadecimal digits of an id in base64
unfoldable pub base64_id : List ℕ → Option (List ℕ)
base64_id text = option_and_then id_of_bytes (result_ok (decode_of standard text))
