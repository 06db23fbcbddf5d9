use Rattle.std.proofs.Common.{◌++◌, ◌∷◌, [], ◌∙◌, List, Option, take, sym, ap, append-nil}
use Rattle.std.specs.Prelude.{filter_map}
use Rattle.std.specs.Option.{option_map}
use Rattle.std.specs.List.{cons_option}
use Rattle.std.proofs.lemmas.List.{map_push}
use Rattle.report_rows.specs.declared.row.Row.{Row}
use Rattle.report_rows.specs.Failures.{failure_row_at, named_row}
use Rattle.report_rows.proofs.Taking.{gives_more}
use Rattle.report_rows.proofs.named_failure.named_failures.Goals as goal
use Rattle.report_rows.proofs.named_failure.named_failures.Goals.{in-Some+in_ok-push, in_default}

pub loop-failure-preserved : goal.loop-failure-preserved
loop-failure-preserved g c =
    let row = failure_row_at c.args.version.now.graph c.args.arisen in
    let failures = c.as_slice-failure-items.result.now in
    let k = c.loop-failure.failure-index in
    let inv = c.loop-failure.invariant in
    let here = c.in_ok-one.ensures ∙ ap row c.failure-item.is in
    let next = gives_more row failures k c.failure-item.result c.loop-failure-test.true in
    elim c.match-branch-3.branch [
      | in-Some+in_ok-push w ↦
          rw (w.named-is, w.in_ok-push.ensures.items)
          (map_push named_row c.loop-failure.named.items w.in-Some.one
          ∙ ap (λ (rows : List Row). rows ++ named_row w.in-Some.one ∷ []) inv
          ∙ ap (λ (one : Option Row). filter_map row (take k failures) ++ cons_option one []) (sym (ap (option_map named_row) w.in-Some.is) ∙ here)
          ∙ sym next)
      | in_default w ↦
          rw w.named-is
          (inv ∙ sym (append-nil (filter_map row (take k failures)))
          ∙ ap (λ (one : Option Row). filter_map row (take k failures) ++ cons_option one []) (sym (ap (option_map named_row) w.in_default.is) ∙ here)
          ∙ sym next)
    ]
