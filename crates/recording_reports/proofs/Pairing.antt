-- What is written of two recordings is what is to be written of the graphs that they name.
use Rattle.std.proofs.Common.{◌≡◌, ◌∙◌, ℕ, List, Option, Some, Result, Ok, Err, OnOk, sym, ap, subst}
use Rattle.std.specs.Io.KnownBytes.{Appends}
use Rattle.stage_graph.specs.Plain.{PlainGraph, place_named}
use Rattle.recording.specs.Reads.{IsNamed}
use Rattle.recording.specs.RecordingOf.{named}
use Rattle.version_store.specs.Plain.{PlainVersion, opening_version}
use Rattle.version_store.specs.Queries.{found}
use Rattle.report_form.specs.Told.{differences_told}
use Rattle.report_form.specs.declared.form.Form.{Form}
use Rattle.run_comparison.proofs.Counterparts.{placed}
use Rattle.recording_reports.specs.declared.pair_fault.PairFault.{PairFault}
use Rattle.recording_reports.specs.declared.pair_fault.PairFault.TheVariants.{Refused, NoStage, Write, Memory}
use Rattle.recording_reports.specs.declared.pair_fault.Which.TheVariants.{Good, Bad}
use Rattle.recording_reports.specs.Pairs.{IsCompared, IsComparedTo, IsPair, IsPairTo, IsWritten, pair_text}

-- ---- what is told of a view is told of its stage

pub of_bad_view : (form : Form) (good : PlainGraph) (at_good : ℕ) (seen version : PlainVersion) (at place : ℕ) → seen ≡ version → at ≡ place
    → differences_told form good at_good seen.graph at ≡ differences_told form good at_good version.graph place
of_bad_view form good at_good seen version at place is there =
    ap (λ (seen : PlainVersion). differences_told form good at_good seen.graph at) is ∙ ap (λ (at : ℕ). differences_told form good at_good version.graph at) there

pub of_good_view : (form : Form) (bad : PlainGraph) (at_bad : ℕ) (seen version : PlainVersion) (at place : ℕ) → seen ≡ version → at ≡ place
    → differences_told form seen.graph at bad at_bad ≡ differences_told form version.graph place bad at_bad
of_good_view form bad at_bad seen version at place is there =
    ap (λ (seen : PlainVersion). differences_told form seen.graph at bad at_bad) is ∙ ap (λ (at : ℕ). differences_told form version.graph at bad at_bad) there

pub all_of_the_text : {T E : Type 0} (r : Result T E) (a b : Option (List ℕ)) (text same : List ℕ) → text ≡ same → OnOk r (Appends a b text) → OnOk r (Appends a b same)
all_of_the_text r a b text same is all = subst (λ l. OnOk r (Appends a b l)) is all

-- ---- what stands in the recordings

-- the text of two versions, of which that of the bad run was read, and its stage looked up by its name
pub pair_to : (form : Form) (name bad : List ℕ) (good version : PlainVersion) (at_good place : ℕ) (graph : PlainGraph) → IsNamed (Ok graph) (named bad) → version ≡ opening_version graph
    → Ok place ≡ found (place_named version.graph.places name) → IsPairTo form name good at_good bad (pair_text form good at_good version place)
pair_to form name bad good version at_good place graph reads loaded finds = record {
  graph = graph;
  place = place;
  reads = reads;
  stands = sym (placed (place_named graph.places name) place (finds ∙ ap (λ (version : PlainVersion). found (place_named version.graph.places name)) loaded));
  is = ap (λ (version : PlainVersion). pair_text form good at_good version place) loaded;
}

-- ---- by how the call ended

pub compared_to : (form : Form) (name bad text : List ℕ) (good : PlainVersion) (at_good : ℕ) (old new : Option (List ℕ)) (r : Result (Unit {0}) PairFault) → IsPairTo form name good at_good bad text
    → IsWritten text old new r → IsComparedTo form name good at_good bad old new r
compared_to form name bad text good at_good old new (Ok done) is wrote = (text, is, wrote)
compared_to form name bad text good at_good old new (Err Write) is wrote = (text, is, wrote)
compared_to form name bad text good at_good old new (Err Memory) is wrote = (text, is, wrote)
compared_to form name bad text good at_good old new (Err (Refused which fault)) is wrote = absurd wrote
compared_to form name bad text good at_good old new (Err (NoStage which)) is wrote = absurd wrote

-- the good run was looked up too
with_good : (form : Form) (name good bad text : List ℕ) (graph : PlainGraph) (place : ℕ) → IsNamed (Ok graph) (named good) → Some place ≡ place_named graph.places name
    → IsPairTo form name (opening_version graph) place bad text → IsPair form name good bad text
with_good form name good bad text graph place reads stands is = record { graph = graph; place = place; reads = reads; stands = stands; paired = is }

compared_with : (form : Form) (name good bad : List ℕ) (graph : PlainGraph) (place : ℕ) (old new : Option (List ℕ)) (r : Result (Unit {0}) PairFault) → IsNamed (Ok graph) (named good)
    → Some place ≡ place_named graph.places name → IsComparedTo form name (opening_version graph) place bad old new r → IsCompared form name good bad old new r
compared_with form name good bad graph place old new (Ok done) reads stands to = (to.0, with_good form name good bad to.0 graph place reads stands to.1, to.2)
compared_with form name good bad graph place old new (Err Write) reads stands to = (to.0, with_good form name good bad to.0 graph place reads stands to.1, to.2)
compared_with form name good bad graph place old new (Err Memory) reads stands to = (to.0, with_good form name good bad to.0 graph place reads stands to.1, to.2)
compared_with form name good bad graph place old new (Err (Refused Good fault)) reads stands to = absurd to
compared_with form name good bad graph place old new (Err (Refused Bad fault)) reads stands to = to
compared_with form name good bad graph place old new (Err (NoStage Good)) reads stands to = absurd to
compared_with form name good bad graph place old new (Err (NoStage Bad)) reads stands to = to

pub compared : (form : Form) (name good bad : List ℕ) (version : PlainVersion) (place : ℕ) (graph : PlainGraph) (old new : Option (List ℕ)) (r : Result (Unit {0}) PairFault)
    → IsNamed (Ok graph) (named good) → version ≡ opening_version graph → Ok place ≡ found (place_named version.graph.places name)
    → IsComparedTo form name version place bad old new r → IsCompared form name good bad old new r
compared form name good bad version place graph old new r reads loaded finds to =
    compared_with form name good bad graph place old new r reads
    (sym (placed (place_named graph.places name) place (finds ∙ ap (λ (version : PlainVersion). found (place_named version.graph.places name)) loaded)))
    (subst (λ (version : PlainVersion). IsComparedTo form name version place bad old new r) loaded to)
