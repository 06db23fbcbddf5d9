-- What is read back.
use Rattle.std.specs.Prelude.{◌≡◌, Result, MatchResult}
use Rattle.fleet_text.specs.declared.read_fault.ReadFault.{ReadFault}
use Rattle.fleet_text.specs.declared.read_fault.ReadFault.TheVariants.{Memory}

-- what was read is this value, unless memory ran out
abbrev pub IsReadAs : {X : Type 0} → Result X ReadFault → X → Type 0
IsReadAs result value = MatchResult result (λ own. own ≡ value) (λ fault. fault ≡ Memory)
