use Rattle.std.proofs.Common.{◌≡◌, take}
use Rattle.std.specs.Str.Parse.{AllDigits, digits_value}
use Rattle.json_trees.proofs.numbers.short_integer.Given as goal

abbrev pub invariant-digits : goal.invariant-digits
invariant-digits l =
    AllDigits 10 (take l.digit-index l.digits) × (l.integer ≡ digits_value 10 (take l.digit-index l.digits))
