-- Faults that lie below a mistake, but for memory.
use Rattle.std.proofs.Common.{◌≡◌, List, Result, Err, refl, ap}
use Rattle.stage_graph.specs.declared.edit.Edit.{Edit}
use Rattle.recording.specs.Reads.{IsRead}
use Rattle.recording.specs.declared.fault.Fault.{Fault}
use Rattle.recording.specs.declared.fault.Fault.TheVariants as fault
use Rattle.recording.specs.declared.step.Step.{Step}
use Rattle.change_words.specs.declared.fault.MakingFault.{MakingFault}
use Rattle.change_words.specs.declared.fault.MakingFault.TheVariants as making
use Rattle.change_words.specs.Making.{IsMade}
use Rattle.step_words.specs.declared.mistake.Mistake.TheVariants.{NoStep, NotMade}
use Rattle.step_words.specs.Changing.{or_not_made}
use Rattle.step_words.specs.Speaking.{or_no_step}

fault_read : (f : Fault) (meant : Result Step Fault) → IsRead (Err f) meant → (f ≡ fault.Memory → ⊥) → meant ≡ Err f
fault_read (fault.Refused refused) meant read none = absurd read
fault_read (fault.Cycle path) meant read none = absurd read
fault_read fault.TooLong meant read none = read
fault_read fault.Json meant read none = read
fault_read (fault.Shape member) meant read none = read
fault_read fault.ListSize meant read none = read
fault_read fault.Memory meant read none = absurd (none refl)

pub step_untold : (f : Fault) (meant : Result Step Fault) → IsRead (Err f) meant → (f ≡ fault.Memory → ⊥) → or_no_step meant ≡ Err (NoStep f)
step_untold f meant read none = ap or_no_step (fault_read f meant read none)

fault_made : (fault : MakingFault) (meant : Result (List Edit) MakingFault) → IsMade (Err fault) meant → (fault ≡ making.Memory → ⊥) → meant ≡ Err fault
fault_made (making.Refused refused) meant made none = made
fault_made (making.NotOneTimeout at count) meant made none = made
fault_made making.ListSize meant made none = made
fault_made making.Memory meant made none = absurd (none refl)

pub edits_unmade : (fault : MakingFault) (meant : Result (List Edit) MakingFault) → IsMade (Err fault) meant → (fault ≡ making.Memory → ⊥) → or_not_made meant ≡ Err (NotMade fault)
edits_unmade fault meant made none = ap or_not_made (fault_made fault meant made none)
