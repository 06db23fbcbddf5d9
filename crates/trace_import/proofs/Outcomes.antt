-- What each trace of a file came to.
use Rattle.std.proofs.Common.{◌≡◌, ◌∙◌, ℕ, true, false, List, [], ◌∷◌, ◌++◌, Option, Ok, Err, refl, ap, sym, append_assoc, append-nil}
use Rattle.std.proofs.KnownBytes.{Appends-kept, Keeps-refl}
use Rattle.std.proofs.lemmas.Bool.{false≢true}
use Rattle.std.specs.Io.KnownBytes.{Appends}
use Rattle.trace_relations.specs.declared.fault.RelationsFault.TheVariants as without
use Rattle.trace_spans.specs.Traces.{traces_of_bytes}
use Rattle.trace_spans.specs.declared.trace.Trace.{Trace}
use Rattle.trace_import.specs.Each.{AreImported, AreOutcomesOf, IsCutShort, IsImportedOne, IsOutcomeOf}
use Rattle.trace_import.specs.Faults.{ends_all}
use Rattle.trace_import.specs.Imported.{IsNotMade}
use Rattle.trace_import.specs.declared.each.Outcome.{Outcome}
use Rattle.trace_import.specs.declared.fault.ImportFault.{ImportFault}
use Rattle.trace_import.specs.declared.fault.ImportFault.TheVariants.{Refused, Unticked, TooManyStages, TooLong, Write, Memory}
use Rattle.trace_import.specs.declared.options.Mapping.{Mapping}

-- what one more trace came to
pub one_more : (mapping : Mapping) (traces : List Trace) (outcomes : List Outcome) (written : List ℕ) (trace : Trace) (outcome : Outcome) (line : List ℕ)
    → AreOutcomesOf mapping traces outcomes written → IsOutcomeOf mapping trace outcome line
    → AreOutcomesOf mapping (traces ++ trace ∷ []) (outcomes ++ outcome ∷ []) (written ++ line)
one_more mapping [] outcomes written trace outcome line are is =
    (outcome, [], line, [], ap (λ (l : List Outcome). l ++ outcome ∷ []) are.0, ap (λ (l : List ℕ). l ++ line) are.1 ∙ sym (append-nil line), is, (refl, refl))
one_more mapping (first ∷ traces) outcomes written trace outcome line are is = (
  are.0,
  are.1 ++ outcome ∷ [],
  are.2,
  are.3 ++ line,
  ap (λ (l : List Outcome). l ++ outcome ∷ []) are.4,
  ap (λ (l : List ℕ). l ++ line) are.5 ∙ append_assoc are.2 are.3 line,
  are.6,
  one_more mapping traces are.1 are.3 trace outcome line are.7 is,
)

-- a fault that ends all
pub ends : (mapping : Mapping) (trace : Trace) (held : Option (List ℕ)) (fault : ImportFault) → IsNotMade mapping trace fault → ends_all fault ≡ true → IsImportedOne mapping trace held held (Err fault)
ends mapping trace held (Refused fault) why all = absurd why
ends mapping trace held (Unticked (without.NoTime span)) why all = absurd (false≢true all)
ends mapping trace held (Unticked (without.TooLate late)) why all = absurd (false≢true all)
ends mapping trace held (Unticked without.TooManyStages) why all = absurd (false≢true all)
ends mapping trace held (Unticked without.Memory) why all = Keeps-refl held
ends mapping trace held TooManyStages why all = absurd (false≢true all)
ends mapping trace held TooLong why all = absurd (false≢true all)
ends mapping trace held Write why all = absurd why
ends mapping trace held Memory why all = Keeps-refl held

-- the lines of the first traces
pub cut_short : (bytes : List ℕ) (mapping : Mapping) (old new : Option (List ℕ)) (traces first rest : List Trace) (outcomes : List Outcome) (written : List ℕ)
    → traces_of_bytes bytes ≡ Ok traces → traces ≡ first ++ rest → AreOutcomesOf mapping first outcomes written → Appends old new written → IsCutShort bytes mapping old new
cut_short bytes mapping old new traces first rest outcomes written tells is are appends = record {
  first = first;
  begins = (rest, tells ∙ ap Ok is);
  outcomes = outcomes;
  written = written;
  are = are;
  appends = appends;
}

-- the trace behind the first ones ends all
pub stopped : (bytes : List ℕ) (mapping : Mapping) (old between new : Option (List ℕ)) (traces first : List Trace) (trace : Trace) (rest : List Trace) (outcomes : List Outcome) (written : List ℕ) (fault : ImportFault)
    → traces_of_bytes bytes ≡ Ok traces → traces ≡ first ++ trace ∷ rest → AreOutcomesOf mapping first outcomes written → Appends old between written
    → IsImportedOne mapping trace between new (Err fault) → AreImported bytes mapping old new (Err fault)
stopped bytes mapping old between new traces first trace rest outcomes written (Refused fault) tells is are appends one = absurd one
stopped bytes mapping old between new traces first trace rest outcomes written (Unticked (without.NoTime span)) tells is are appends one = absurd one
stopped bytes mapping old between new traces first trace rest outcomes written (Unticked (without.TooLate late)) tells is are appends one = absurd one
stopped bytes mapping old between new traces first trace rest outcomes written (Unticked without.TooManyStages) tells is are appends one = absurd one
stopped bytes mapping old between new traces first trace rest outcomes written (Unticked without.Memory) tells is are appends one =
    cut_short bytes mapping old new traces first (trace ∷ rest) outcomes written tells is are (Appends-kept old between new written appends one)
stopped bytes mapping old between new traces first trace rest outcomes written TooManyStages tells is are appends one = absurd one
stopped bytes mapping old between new traces first trace rest outcomes written TooLong tells is are appends one = absurd one
stopped bytes mapping old between new traces first trace rest outcomes written Write tells is are appends one = record {
  first = first;
  next = trace;
  begins = (rest, tells ∙ ap Ok (is ∙ sym (append_assoc first (trace ∷ []) rest)));
  outcomes = outcomes;
  written = written;
  are = are;
  line = one.0;
  is_line = one.1;
  between = between;
  appends = appends;
  appends_part = one.2;
}
stopped bytes mapping old between new traces first trace rest outcomes written Memory tells is are appends one =
    cut_short bytes mapping old new traces first (trace ∷ rest) outcomes written tells is are (Appends-kept old between new written appends one)
