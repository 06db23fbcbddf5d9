-- Steps of the code that computes a stage's reason.
use Rattle.std.proofs.Common.{ℕ, inl, inr, ◌+◌, ◌<◌, ◌≤◌, ◌≡◌, cond, List, [], ◌∷◌, ◌++◌, length, take, Option, Some, None, sym, ap, ◌∙◌, arith, get_or, append_assoc, length-take}
use Rattle.std.specs.Prelude.{max}
use Rattle.std.specs.Option.{option_map, option_to_list}
use Rattle.std.proofs.lemmas.Bool.{eq-eqb}
use Rattle.std.proofs.lemmas.Bool.Decides.{eqb_tells}
use Rattle.std.proofs.lemmas.List.{take_more}
use Rattle.stage_graph.specs.declared.end.End.{End}
use Rattle.stage_ops.specs.declared.reason.Cause.TheVariants.{Ended}
use Rattle.stage_ops.specs.declared.reason.Reason.{Reason}
use Rattle.stage_ops.specs.declared.sources.Source.{Source}
use Rattle.stage_ops.specs.declared.state.Done.{Done}
use Rattle.stage_ops.specs.Earliest.{earliest}
use Rattle.stage_ops.specs.Ended.{set_by}
use Rattle.stage_ops.specs.Reasons.{at_once, candidates, explained, explained_moment, first_at, set_from}
use Rattle.stage_ops.specs.Sources.{latest}
use Rattle.stage_ops.specs.Waiting.{sooner_of}
use Rattle.stage_ops.proofs.EarliestLemmas.{earliest_push}

-- of one source: it came at the trigger, unless it came before the creation
pub one_first : (created : ℕ) (source : Source) → created ≤ source.moment → first_at (latest created (source ∷ [])) (source ∷ []) ≡ Some source
one_first created source early =
    let same : source.moment ≡ max source.moment created = omega arith in
    ap (λ b. cond b (Some source) None) (eq-eqb source.moment (max source.moment created) same)

pub one_none : (created : ℕ) (source : Source) → source.moment < created → first_at (latest created (source ∷ [])) (source ∷ []) ≡ None
one_none created source late = elim (eqb_tells source.moment (max source.moment created)) [
  | inl (is, same) ↦ absurd (omega (arith, same))
  | inr (is, differ) ↦ ap (λ b. cond b (Some source) None) is
]

-- what the ends set, with one more end
set_from_push : (index : ℕ) (ends : List End) (end : End)
    → set_from index (ends ++ end ∷ []) ≡ set_from index ends ++ explained (at_once (Ended (index + length ends))) (set_by end) ∷ []
set_from_push index [] end = let same : index ≡ index + 0 = omega arith in ap (λ i. explained (at_once (Ended i)) (set_by end) ∷ []) same
set_from_push index (first ∷ ends) end =
    let same : index + 1 + length ends ≡ index + length (first ∷ ends) = omega arith in
    ap (λ others. explained (at_once (Ended index)) (set_by first) ∷ others)
    (set_from_push (index + 1) ends end ∙ ap (λ i. set_from (index + 1) ends ++ explained (at_once (Ended i)) (set_by end) ∷ []) same)

pub candidates_more : (completion : Option Done) (reason : Reason) (ends : List End) (k : ℕ) → k < length ends → (end : End) → end ≡ get_or ends k end
    → earliest explained_moment (candidates completion reason (take (k + 1) ends))
    ≡ Some (sooner_of explained_moment (earliest explained_moment (candidates completion reason (take k ends))) (explained (at_once (Ended k)) (set_by end)))
candidates_more completion reason ends k within end here =
    let own = option_to_list (option_map (explained reason) completion) in
    let count : 0 + length (take k ends) ≡ k = omega (arith, length-take k ends) in
    ap (λ ends. earliest explained_moment (candidates completion reason ends)) (take_more ends k end within)
    ∙ ap (λ set. earliest explained_moment (own ++ set)) (set_from_push 0 (take k ends) (get_or ends k end))
    ∙ ap (earliest explained_moment) (sym (append_assoc own (set_from 0 (take k ends)) (explained (at_once (Ended (0 + length (take k ends)))) (set_by (get_or ends k end)) ∷ [])))
    ∙ earliest_push explained_moment (candidates completion reason (take k ends)) (explained (at_once (Ended (0 + length (take k ends)))) (set_by (get_or ends k end)))
    ∙ ap (λ i. Some (sooner_of explained_moment (earliest explained_moment (candidates completion reason (take k ends))) (explained (at_once (Ended i)) (set_by (get_or ends k end))))) count
    ∙ ap (λ end. Some (sooner_of explained_moment (earliest explained_moment (candidates completion reason (take k ends))) (explained (at_once (Ended k)) (set_by end)))) (sym here)
