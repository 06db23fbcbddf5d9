-- The stages that an import writes can be read back.
use Rattle.std.proofs.Common.{◌≡◌, ℕ, ◌<◌, ◌≤◌, ◌^◌, List, [], ◌∷◌, All, Bool, true, false, codes, if◌then◌else◌, map, IfSome, IsTrue, IsUtf8, Option, Some, None, option_map, refl, sym, subst, arith}
use Rattle.std.specs.List.{AllByRecursion as Each}
use Rattle.std.specs.Option.{option_to_list}
use Rattle.std.proofs.lemmas.Bool.Decides.{nat_tests}
use Rattle.std.proofs.lemmas.List.Elements.{All-from_recursion}
use Rattle.act_expr.specs.ExceptionName.{is_exception_name}
use Rattle.act_expr.specs.Expression.{depth}
use Rattle.recording.specs.Written.{IsWellFormed}
use Rattle.recording.specs.WrittenStages.{IsOp}
use Rattle.recording_back.specs.ReadBack.{IsLabelled, IsWritable}
use Rattle.stage_graph.specs.Checks.{is_tick}
use Rattle.trace_spans.specs.declared.span.Span.{Span}
use Rattle.trace_stages.specs.Naming.{PlainStage}
use Rattle.trace_stages.specs.declared.stage.Action.{Action}
use Rattle.trace_stages.specs.declared.stage.Action.TheVariants.{Null, PicksFirst, Throws, ThrowsIfFailed}
use Rattle.trace_stages.specs.declared.stage.Op.{Op as ImportedOp}
use Rattle.trace_stages.specs.declared.stage.Op.TheVariants as ops
use Rattle.trace_stages.specs.declared.stage.StageName.{StageName}
use Rattle.trace_import.specs.Actions.{exception_name, imported_action, throw_of}
use Rattle.trace_import.specs.Specs.{imported_op, imported_spec, labelled_stage, labelled_stages}
use Rattle.trace_import.specs.StageNames.{stage_name}
use Rattle.trace_import.specs.Texts.{HasTexts}
use Rattle.trace_laws.proofs.Loading.{AreFine}
use Rattle.trace_laws.proofs.Members.{IsIn, each_of, in_map}
use Rattle.trace_laws.proofs.Spelled.{all_stage_labels, name_text}

-- ---- operations and actions

op_written : (op : ImportedOp) → IsOp (imported_op op)
op_written ops.Async = tt
op_written ops.Manual = tt
op_written ops.ThenRun = tt
op_written ops.Handle = tt
op_written ops.WhenComplete = tt
op_written ops.ExceptionallyCompose = tt
op_written ops.AllOf = tt
op_written ops.AnyOf = tt

-- what is written is the name of an exception
named : (b : Bool) (name : List ℕ) → is_exception_name name ≡ b → is_exception_name (if b then name else codes "SpanFailed") ≡ true
named true name e = e
named false name e = refl

thrown_written : (name : List ℕ) → IsWellFormed (throw_of name)
thrown_written name = named (is_exception_name name) name refl

action_written : (spans : List Span) (action : Option Action) → IfSome (option_map (imported_action spans) action) IsWellFormed
action_written spans None = tt
action_written spans (Some Null) = tt
action_written spans (Some PicksFirst) = omega arith
action_written spans (Some (Throws exception)) = thrown_written (exception_name spans exception)
action_written spans (Some (ThrowsIfFailed exception)) = (tt, thrown_written (exception_name spans exception), tt)

action_shallow : (spans : List Span) (action : Option Action) → IfSome (option_map (imported_action spans) action) (λ e. depth e ≤ 100)
action_shallow spans None = tt
action_shallow spans (Some Null) = omega arith
action_shallow spans (Some PicksFirst) = omega arith
action_shallow spans (Some (Throws exception)) = omega arith
action_shallow spans (Some (ThrowsIfFailed exception)) = omega arith

tick_low : (n : ℕ) → IsTrue (is_tick n) → n < 2 ^ 64
tick_low n h = grind (arith, nat_tests)

each_map : {X Y : Type 0} (P : Y → Type 0) (f : X → Y) (xs : List X) → Each (λ x. P (f x)) xs → Each P (map f xs)
each_map P f [] h = tt
each_map P f (x ∷ xs) h = (h.0, each_map P f xs h.1)

each_weaker : {X : Type 0} (P : X → Type 0) (Q : X → Type 0) → ((x : X) → P x → Q x) → (xs : List X) → Each P xs → Each Q xs
each_weaker P Q f [] h = tt
each_weaker P Q f (x ∷ xs) h = (f x h.0, each_weaker P Q f xs h.1)

module _ (spans : List Span) (names : List (List ℕ)) (stages : List PlainStage) (are : AreFine names stages) where
  abbrev HasStage : StageName → Type 0
  HasStage source = IsIn (stage_name names source) (map (λ stage. stage_name names stage.name) stages)

  -- the name of a stage that is there is UTF-8
  source_text : (source : StageName) → HasStage source → IsUtf8 (stage_name names source)
  source_text source h =
      let of = in_map (λ (stage : PlainStage). stage_name names stage.name) stages (stage_name names source) h in
      let fine = are.fine of.0 of.1 in
      subst IsUtf8 (sym of.2) (name_text (stage_name names of.0.name) fine.named)

  sources_texts : (sources : List StageName) → Each HasStage sources → All IsUtf8 (map (stage_name names) sources)
  sources_texts sources all =
      All-from_recursion IsUtf8 (map (stage_name names) sources) (each_map IsUtf8 (stage_name names) sources (each_weaker HasStage (λ (source : StageName). IsUtf8 (stage_name names source)) source_text sources all))

  stage_written : (stage : PlainStage) → IsIn stage stages → IsWritable (imported_spec spans names stage)
  stage_written stage h =
      let fine = are.fine stage h in
      let shape = fine.shape in
      record {
        name = name_text (stage_name names stage.name) fine.named;
        sources = sources_texts stage.sources fine.sources;
        inner = sources_texts (option_to_list stage.inner) fine.inner;
        op = op_written stage.op;
        created = tick_low stage.created shape.created;
        queued = tick_low stage.queued shape.queued;
        runs = tick_low stage.runs shape.runs;
        action = action_written spans stage.action;
        shallow = action_shallow spans stage.action;
        pin_result = tt;
        pin_moment = tt;
        ends = λ k d low. absurd (omega arith);
        ticks = λ k d low. absurd (omega arith);
      }

  pub all_written : All HasTexts spans → All IsLabelled (labelled_stages spans names stages)
  all_written texts =
      All-from_recursion IsLabelled (labelled_stages spans names stages)
      (each_map IsLabelled (labelled_stage spans names) stages
      (each_of (λ (stage : PlainStage). IsLabelled (labelled_stage spans names stage)) stages (λ stage h. record { writable = stage_written stage h; labels = all_stage_labels spans texts stage.name })))
