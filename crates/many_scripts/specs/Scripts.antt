-- What was read of scripts.
use Rattle.std.specs.Prelude.{◌≡◌, ◌<◌, ◌+◌, ◌-◌, ◌^◌, ◌⊎◌, ℕ, List, [], Option, length, Contains}
use Rattle.std.specs.List.{AllZip}
use Rattle.std.specs.Io.KnownBytes.{Appends, Consumes, IsAtEnd}
use Rattle.text_io.specs.Sink.{AppendsPrefix}
use Rattle.stage_graph.specs.Plain.{PlainGraph}
use Rattle.report_form.specs.declared.form.Format.{Format}
use Rattle.script_lines.specs.Lines.{lines_of}
use Rattle.desk.specs.Clients.{ClientView, SeesOn}
use Rattle.many_scripts.specs.Outputs.{IsOutput, script_text}
use Rattle.many_scripts.specs.Played.{IsPlayed}
use Rattle.many_scripts.specs.Playing.{HasHeard}
use Rattle.many_scripts.specs.declared.fault.ManyFault.{ManyFault}
use Rattle.many_scripts.specs.declared.fault.ManyFault.TheVariants.{Write, Read}

-- the script was read to its end, less than 2^30 bytes, and no read failed
pub record IsRead {R : Type 0} (remaining : R → Option (List ℕ)) (failures : R → ℕ) (script : R) (read : List ℕ) : Type 0 where
  pub after : R
  pub consumed : Consumes (remaining script) (remaining after) read
  pub to_the_end : IsAtEnd (remaining after)
  pub below_the_most : length read < 2 ^ 30
  pub no_failure : failures after ≡ failures script

-- a read of the script failed, or 2^30 bytes of it were read
pub record FailsToRead {R : Type 0} (remaining : R → Option (List ℕ)) (failures : R → ℕ) (script : R) : Type 0 where
  pub after : R
  pub read : List ℕ
  pub consumed : Consumes (remaining script) (remaining after) read
  pub fails : (failures after ≡ failures script + 1) ⊎ (length read ≡ 2 ^ 30)

-- a fault of reading comes only where it failed, and one of writing does not come
abbrev pub EndsReading : {R : Type 0} → (R → Option (List ℕ)) → (R → ℕ) → R → ManyFault → Type 0
EndsReading remaining failures script Read = FailsToRead remaining failures script
EndsReading remaining failures script Write = ⊥
EndsReading remaining failures script fault = Unit {0}

-- a new client knows of version 0, has made no call, and one more failed read of its script can be counted
pub record IsReady {R : Type 0} (failures : R → ℕ) (c : ClientView) (script : R) : Type 0 where
  pub heard : HasHeard c
  pub new : c.calls ≡ []
  pub reads : failures script < 2 ^ 64 - 1

-- what a new client has done and printed for its script, under the client's number
pub record IsPlay {R : Type 0} (format : Format) (remaining : R → Option (List ℕ)) (failures : R → ℕ) (c : ClientView) (script : R) (d : ClientView) (text : List ℕ) : Type 0 where
  pub read : List ℕ
  pub is_read : IsRead remaining failures script read
  pub number : d.number ≡ c.number
  pub told : List ℕ
  pub text_is : text ≡ script_text format c.number told
  pub played : IsPlayed format 1 c.number d.seen [] (lines_of read) d.calls told
  pub later : SeesOn c d

-- each script was read to its end, and this is the output for them
pub record IsOutputOf {R : Type 0} (format : Format) (remaining : R → Option (List ℕ)) (failures : R → ℕ) (graph : PlainGraph) (scripts : List R) (output : List ℕ) : Type 0 where
  pub read : List (List ℕ)
  pub are_read : AllZip (IsRead remaining failures) scripts read
  pub is_output : IsOutput format graph read output

-- a fault of reading comes only where it failed for some script, and one of writing does not come
abbrev pub EndsBy : {R : Type 0} → (R → Option (List ℕ)) → (R → ℕ) → List R → ManyFault → Type 0
EndsBy {R} remaining failures scripts Read = (script : R) × Contains scripts script × FailsToRead remaining failures script
EndsBy remaining failures scripts Write = ⊥
EndsBy remaining failures scripts fault = Unit {0}

-- ---- what `many` has done

-- the output for what was read of the scripts was written
abbrev pub Writes : {R : Type 0} → Format → (R → Option (List ℕ)) → (R → ℕ) → PlainGraph → List R → Option (List ℕ) → Option (List ℕ) → Type 0
Writes format remaining failures graph scripts held holds = (output : List ℕ) × IsOutputOf format remaining failures graph scripts output × Appends held holds output

-- at a fault of writing a prefix of such an output was written, and at any other nothing; a fault of reading comes only where it failed
abbrev pub EndsManyBy : {R : Type 0} → Format → (R → Option (List ℕ)) → (R → ℕ) → PlainGraph → List R → Option (List ℕ) → Option (List ℕ) → ManyFault → Type 0
EndsManyBy format remaining failures graph scripts held holds Write = (output : List ℕ) × IsOutputOf format remaining failures graph scripts output × AppendsPrefix held holds output
EndsManyBy format remaining failures graph scripts held holds fault = EndsBy remaining failures scripts fault × (holds ≡ held)
