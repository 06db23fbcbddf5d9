-- Replies and faults as JSON have no float and do not nest deep, so what is written of them reads back.
use Rattle.std.proofs.Common.{◌≡◌, ℕ, ◌≤◌, Bool, true, false, List, [], ◌∷◌, ◌++◌, Option, Some, None, codes, refl, sym, subst, arith}
use Rattle.std.specs.List.{AllByRecursion}
use Rattle.serde_json.specs.Data.{Data, Members, depth, put}
use Rattle.serde_json.specs.Read.{max_depth}
use Rattle.serde_json.specs.Written.{has_float}
use Rattle.stage_graph.specs.Numbers.{refusal_number as edit_number}
use Rattle.stage_graph.specs.declared.fault.Refusal.{Refusal as EditRefusal}
use Rattle.stage_graph.specs.declared.fault.Refusal.TheVariants as edit
use Rattle.version_store.specs.Plain.{PlainVersion}
use Rattle.recording.specs.MemberTexts.{member_text}
use Rattle.recording.specs.declared.fault.Fault.{Fault}
use Rattle.recording.specs.declared.fault.Fault.TheVariants as fault
use Rattle.session_core.specs.Refusals.{refusal_index, refusal_number}
use Rattle.session_core.specs.declared.event.Event.{Event}
use Rattle.session_core.specs.declared.refusal.Refusal.{Refusal}
use Rattle.session_core.specs.declared.refusal.Refusal.TheVariants as refusal
use Rattle.report_json.proofs.Exact.{IsExact, count_exact, object_exact, text_exact}
use Rattle.report_json.specs.Json.{NamedValues, count, text, with}
use Rattle.serve_script.specs.Values.{closed_json, dependent_members, detail_members, edit_name, fault_json, index_members, opened_json, refusal_json, refusal_name, refused}

-- members with more members
pub with-append : (held : Members) (named more : NamedValues) → with held (named ++ more) ≡ with (with held named) more
with-append held [] more = refl
with-append held (first ∷ named) more = with-append (put first.0 first.1 held) named more

-- ---- values that read back

abbrev AreExact : NamedValues → Type 0
AreExact named = AllByRecursion (λ m. IsExact 0 m.1) named

both : (named more : NamedValues) → AreExact named → AreExact more → AreExact (named ++ more)
both [] more h k = k
both (first ∷ named) more h k = (h.0, both named more h.1 k)

refused_exact : (number : ℕ) (name : List ℕ) (details : NamedValues) → AreExact details → IsExact 1 (refused number name details)
refused_exact number name details h =
    object_exact 0 ((codes "reply", text (codes "refused")) ∷ (codes "number", count number) ∷ (codes "name", text name) ∷ details)
    (text_exact 0 _, (count_exact 0 number, (text_exact 0 name, h)))

dependent_exact : (base : Option PlainVersion) (event : Event) (refusal : EditRefusal) → AreExact (dependent_members base event refusal)
dependent_exact base event (edit.InUse dependent) = (text_exact 0 _, tt)
dependent_exact base event edit.NoStage = tt
dependent_exact base event edit.NameTaken = tt
dependent_exact base event edit.BadName = tt
dependent_exact base event edit.Arity = tt
dependent_exact base event edit.NoSource = tt
dependent_exact base event edit.Limit = tt
dependent_exact base event edit.EndBeforeCreated = tt
dependent_exact base event edit.NoAction = tt
dependent_exact base event (edit.Expr fault) = tt

detail_exact : (base : Option PlainVersion) (event : Event) (r : Refusal) → AreExact (detail_members base event r)
detail_exact base event (refusal.Edits first) = dependent_exact base event first.refusal
detail_exact base event (refusal.Moved head) = (count_exact 0 _, tt)
detail_exact base event (refusal.Foreign version) = (count_exact 0 _, tt)
detail_exact base event refusal.Cycle = tt
detail_exact base event refusal.SessionOpen = tt
detail_exact base event refusal.NoSession = tt
detail_exact base event refusal.NoVersion = tt
detail_exact base event refusal.AtBottom = tt
detail_exact base event refusal.Full = tt
detail_exact base event refusal.BadSession = tt
detail_exact base event refusal.TooManySessions = tt

index_exact : (listed : Bool) (place : Option ℕ) → AreExact (index_members listed place)
index_exact true (Some index) = (count_exact 0 _, tt)
index_exact true None = tt
index_exact false place = tt

fault_exact : (f : Fault) → IsExact 1 (fault_json f)
fault_exact (fault.Refused stage) = refused_exact (edit_number stage.refusal) (edit_name stage.refusal) ((codes "at", count stage.at) ∷ []) (count_exact 0 stage.at, tt)
fault_exact (fault.Cycle path) = refused_exact 19 (codes "Cycle") [] tt
fault_exact fault.ListSize = refused_exact 21 (codes "ListSize") [] tt
fault_exact fault.Json = refused_exact 70 (codes "JSON") [] tt
fault_exact (fault.Shape member) = refused_exact 71 (codes "Shape") ((codes "member", text (member_text member)) ∷ []) (text_exact 0 (member_text member), tt)
fault_exact fault.TooLong = refused_exact 72 (codes "TooLong") [] tt
fault_exact fault.Memory = refused_exact 90 (codes "Memory") [] tt

-- ---- the same of a value that is one of these

abbrev pub ReadsBack : Data → Type 0
ReadsBack value = (has_float value ≡ false) × (depth value ≤ max_depth)

reads_back : (value form : Data) → value ≡ form → IsExact 1 form → ReadsBack value
reads_back value form is exact = subst ReadsBack (sym is) (exact.no_float, (let shallow = exact.shallow in omega (arith, shallow)))

pub opened_reads_back : (value : Data) (session version : ℕ) → value ≡ opened_json session version → ReadsBack value
opened_reads_back value session version is =
    reads_back value _ is
    (object_exact 0 ((codes "reply", text (codes "opened")) ∷ (codes "session", count session) ∷ (codes "version", count version) ∷ [])
    (text_exact 0 _, (count_exact 0 session, (count_exact 0 version, tt))))

pub closed_reads_back : (value : Data) (session : ℕ) → value ≡ closed_json session → ReadsBack value
closed_reads_back value session is =
    reads_back value _ is
    (object_exact 0 ((codes "reply", text (codes "closed")) ∷ (codes "session", count session) ∷ []) (text_exact 0 _, (count_exact 0 session, tt)))

pub refusal_reads_back : (value : Data) (base : Option PlainVersion) (event : Event) (listed : Bool) (r : Refusal) → value ≡ refusal_json base event listed r → ReadsBack value
refusal_reads_back value base event listed r is =
    reads_back value _ is
    (refused_exact (refusal_number r) (refusal_name r) (detail_members base event r ++ index_members listed (refusal_index r))
    (both (detail_members base event r) (index_members listed (refusal_index r)) (detail_exact base event r) (index_exact listed (refusal_index r))))

pub fault_reads_back : (value : Data) (f : Fault) → value ≡ fault_json f → ReadsBack value
fault_reads_back value f is = reads_back value _ is (fault_exact f)

pub refused_reads_back : (value : Data) (number : ℕ) (name : List ℕ) → value ≡ refused number name [] → ReadsBack value
refused_reads_back value number name is = reads_back value _ is (refused_exact number name [] tt)
