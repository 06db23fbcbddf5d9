-- The numbers of the faults.
use Rattle.std.specs.Prelude.{ℕ, Result, Ok, Err}
use Rattle.many_scripts.specs.declared.fault.ManyFault.{ManyFault}
use Rattle.many_scripts.specs.declared.fault.ManyFault.TheVariants.{NoThread, Write, Read, Missing, Torn, Memory}

abbrev pub many_number : ManyFault → ℕ
many_number NoThread = 35
many_number Write = 40
many_number Read = 41
many_number Missing = 60
many_number Torn = 61
many_number Memory = 90

-- one if a write fault ended the call
abbrev pub failed_writes_of_many : {A : Type 0} → Result A ManyFault → ℕ
failed_writes_of_many (Ok a) = 0
failed_writes_of_many (Err NoThread) = 0
failed_writes_of_many (Err Write) = 1
failed_writes_of_many (Err Read) = 0
failed_writes_of_many (Err Missing) = 0
failed_writes_of_many (Err Torn) = 0
failed_writes_of_many (Err Memory) = 0
