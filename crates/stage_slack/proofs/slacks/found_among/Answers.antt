use Rattle.std.proofs.Common.{◌++◌, ◌∷◌, ◌∙◌, [], List, Option, None, Ok, append-nil, get_or, take, sym, ap}
use Rattle.std.specs.Prelude.{IsOk, filter_map}
use Rattle.std.specs.List.{cons_option}
use Rattle.std.proofs.lemmas.List.{get_or_default}
use Rattle.std.proofs.lemmas.List.Elements.{All-more}
use Rattle.stage_slack.specs.declared.slack.Slack.{Slack}
use Rattle.stage_slack.specs.Found.{slack_in}
use Rattle.stage_slack.proofs.Gathering.{found_more}
use Rattle.stage_slack.proofs.slacks.found_among.Goals as goal
use Rattle.stage_slack.proofs.slacks.found_among.Goals.{in-Some+in_ok-push, in_default}

pub loop-one-preserved : goal.loop-one-preserved
loop-one-preserved c =
    let within = c.args.within in
    let tried = c.as_slice-one-items.result.now in
    let k = c.loop-one.one-index in
    let inv = c.loop-one.invariant in
    let one = get_or tried k (Ok None) in
    let next = found_more within tried k one c.loop-one-test.true (get_or_default tried k (Ok None) one c.loop-one-test.true) in
    let own = c.in_ok-slack.ensures.kept in
    record {
      found = elim c.match-branch-2.branch [
        | in-Some+in_ok-push w ↦
            rw (w.found-is, w.in_ok-push.ensures.items)
            (ap (λ (found : List Slack). found ++ w.in-Some.slack ∷ []) inv.found
            ∙ ap (λ (one : Option Slack). filter_map (slack_in within) (take k tried) ++ cons_option one []) (sym w.in-Some.is ∙ own)
            ∙ sym next)
        | in_default w ↦
            rw w.found-is
            (inv.found ∙ sym (append-nil (filter_map (slack_in within) (take k tried)))
            ∙ ap (λ (one : Option Slack). filter_map (slack_in within) (take k tried) ++ cons_option one []) (sym w.in_default.is ∙ own)
            ∙ sym next)
      ];
      all = All-more (λ one. IsOk one) tried k (Ok None) c.loop-one-test.true inv.all c.in_ok-slack.ensures.well;
    }
