-- What the first node of a value tells.
use Rattle.std.specs.Prelude.{ℕ, Bool, true, false, List, Option, Some, None}
use Rattle.serde_json.specs.Data.{Num}
use Rattle.json_trees.specs.Cells.{Cell, null_cell, boolean_cell, number_cell, string_cell, key_cell, array_cell, object_cell}

abbrev pub string_in : Cell → Option (List ℕ)
string_in null_cell = None
string_in (boolean_cell b) = None
string_in (number_cell n) = None
string_in (string_cell s) = Some s
string_in (key_cell s) = None
string_in (array_cell n) = None
string_in (object_cell n) = None

abbrev pub number_in : Cell → Option Num
number_in null_cell = None
number_in (boolean_cell b) = None
number_in (number_cell n) = n
number_in (string_cell s) = None
number_in (key_cell s) = None
number_in (array_cell n) = None
number_in (object_cell n) = None

abbrev pub key_in : Cell → Option (List ℕ)
key_in null_cell = None
key_in (boolean_cell b) = None
key_in (number_cell n) = None
key_in (string_cell s) = None
key_in (key_cell s) = Some s
key_in (array_cell n) = None
key_in (object_cell n) = None

abbrev pub boolean_in : Cell → Option Bool
boolean_in null_cell = None
boolean_in (boolean_cell b) = Some b
boolean_in (number_cell n) = None
boolean_in (string_cell s) = None
boolean_in (key_cell s) = None
boolean_in (array_cell n) = None
boolean_in (object_cell n) = None

abbrev pub is_null_cell : Cell → Bool
is_null_cell null_cell = true
is_null_cell (boolean_cell b) = false
is_null_cell (number_cell n) = false
is_null_cell (string_cell s) = false
is_null_cell (key_cell s) = false
is_null_cell (array_cell n) = false
is_null_cell (object_cell n) = false

abbrev pub is_array_cell : Cell → Bool
is_array_cell null_cell = false
is_array_cell (boolean_cell b) = false
is_array_cell (number_cell n) = false
is_array_cell (string_cell s) = false
is_array_cell (key_cell s) = false
is_array_cell (array_cell n) = true
is_array_cell (object_cell n) = false

abbrev pub is_object_cell : Cell → Bool
is_object_cell null_cell = false
is_object_cell (boolean_cell b) = false
is_object_cell (number_cell n) = false
is_object_cell (string_cell s) = false
is_object_cell (key_cell s) = false
is_object_cell (array_cell n) = false
is_object_cell (object_cell n) = true
