-- The tokens of an answer that is a version's recording.
use Rattle.std.proofs.Common.{◌≡◌, ◌<◌, ◌^◌, ℕ, false, List, [], ◌∷◌, All, IfSome, Option, Some, None, codes, refl, ap, ◌∙◌, append-nil}
use Rattle.std.proofs.lemmas.List.Elements.{All-head, All-tail}
use Rattle.json.specs.Lex.{lex, between, fresh, punctuate}
use Rattle.json.specs.Print.{print}
use Rattle.json.specs.Tree.{json_tokens, HasNumbers, ItemsHaveNumbers}
use Rattle.json.proofs.Printed.Decimals.{IsNumber-decimal}
use Rattle.json.proofs.Printed.Tokens.{tokens-print}
use Rattle.json.proofs.Printed.Trees.{ArePrintable-json_tokens}
use Rattle.act_expr.specs.declared.outcome.Mode.{Mode}
use Rattle.stage_graph.specs.Plain.{PlainGraph}
use Rattle.stage_graph.specs.declared.stage.Spec.{Spec}
use Rattle.recording_text.specs.Json.{items_of, recording_json, stage_json}
use Rattle.recording_text.specs.Named.{specs_of}
use Rattle.recording_text.specs.Reports.{report_json, report_object}
use Rattle.recording_back.specs.Packed.{EachObjectHasItsTokens, HasItsTokens}
use Rattle.recording_back.proofs.Lexing.{print_then}
use Rattle.recording_back.proofs.Loading.{graph_writable}
use Rattle.recording_back.proofs.Plain.{each_numbers}
use Rattle.recording_back.proofs.TextTokens.{two}

stages_numbers : (stages : List Spec) → All (λ stage. HasNumbers (stage_json stage)) stages → ItemsHaveNumbers (items_of stage_json stages)
stages_numbers [] h = tt
stages_numbers (stage ∷ stages) h = (All-head (λ (s : Spec). HasNumbers (stage_json s)) stage stages h, stages_numbers stages (All-tail (λ (s : Spec). HasNumbers (stage_json s)) stage stages h))

recording_numbers : (mode : Mode) (stages : List Spec) → All (λ stage. HasNumbers (stage_json stage)) stages → HasNumbers (recording_json mode stages)
recording_numbers mode stages h = (two, (tt, (stages_numbers stages h, tt)))

report_numbers : (line : Option ℕ) (number : ℕ) (graph : PlainGraph) → IfSome line (λ n. n < 2 ^ 64) → number < 2 ^ 64
    → HasNumbers (recording_json graph.mode (specs_of graph)) → HasNumbers (report_json line number graph)
report_numbers None number graph within fits numbers = (numbers, (tt, (IsNumber-decimal number fits, tt)))
report_numbers (Some n) number graph within fits numbers = (IsNumber-decimal n within, (numbers, (tt, (IsNumber-decimal number fits, tt))))

line_feed : lex between (codes "\n") ≡ lex between []
unfolding lex
line_feed = refl

has_its_tokens : (line : Option ℕ) (number : ℕ) (graph : PlainGraph) → HasNumbers (report_json line number graph) → HasItsTokens line number graph
unfolding report_object
has_its_tokens line number graph numbers =
    let ts = json_tokens (report_json line number graph) in
    let printable = ArePrintable-json_tokens (report_json line number graph) numbers in
    let back = tokens-print ts printable in (
      back,
      ap (punctuate fresh) (print_then false ts (codes "\n") [] printable refl refl line_feed ∙ ap (lex between) (append-nil (print ts))) ∙ back,
    )

pub object_tokens : EachObjectHasItsTokens
object_tokens line number graph within fits sound typed =
    let stages = each_numbers (specs_of graph) (graph_writable graph sound typed) in
    has_its_tokens line number graph (report_numbers line number graph within fits (recording_numbers graph.mode (specs_of graph) stages))
