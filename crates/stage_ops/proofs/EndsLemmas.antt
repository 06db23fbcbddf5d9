-- The earliest of a completion and the first ends, after one more end.
use Rattle.std.proofs.Common.{ℕ, ◌+◌, ◌<◌, ◌≡◌, List, [], ◌∷◌, ◌++◌, length, take, Option, Some, sym, ap, ◌∙◌, get_or, append_assoc}
use Rattle.std.specs.Prelude.{map}
use Rattle.std.specs.Option.{option_to_list}
use Rattle.std.proofs.lemmas.List.{take_more, map-append}
use Rattle.stage_graph.specs.declared.end.End.{End}
use Rattle.stage_ops.specs.declared.state.Done.{Done}
use Rattle.stage_ops.specs.Earliest.{earliest}
use Rattle.stage_ops.specs.Ended.{done_moment, set_by}
use Rattle.stage_ops.specs.Waiting.{sooner_of}
use Rattle.stage_ops.proofs.EarliestLemmas.{earliest_push}

-- the earliest of the completion and of these ends
abbrev pub earliest_with : Option Done → List End → Option Done
earliest_with done ends = earliest done_moment (option_to_list done ++ map set_by ends)

pub ended_more : (done : Option Done) (ends : List End) (k : ℕ) → k < length ends → (end : End) → end ≡ get_or ends k end
    → earliest_with done (take (k + 1) ends) ≡ Some (sooner_of done_moment (earliest_with done (take k ends)) (set_by end))
ended_more done ends k within end here =
    ap (earliest_with done) (take_more ends k end within)
    ∙ ap (λ set. earliest done_moment (option_to_list done ++ set)) (map-append set_by (take k ends) (get_or ends k end ∷ []))
    ∙ ap (earliest done_moment) (sym (append_assoc (option_to_list done) (map set_by (take k ends)) (set_by (get_or ends k end) ∷ [])))
    ∙ earliest_push done_moment (option_to_list done ++ map set_by (take k ends)) (set_by (get_or ends k end))
    ∙ ap (λ end. Some (sooner_of done_moment (earliest_with done (take k ends)) (set_by end))) (sym here)
