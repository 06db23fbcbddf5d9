use Rattle.std.proofs.Common.{◌≡◌, ◌<◌, ◌∙◌, ℕ, List, Result, Option, ap, refl, subst, sym}
use Rattle.std.specs.Prelude.{All, IsOk, IsPermutation, filter_map}
use Rattle.std.specs.List.{AllZip}
use Rattle.std.specs.List.Sorted.{IsNonDecreasingBy, IsStableByKey}
use Rattle.std.specs.Ordering.{nat_cmp}
use Rattle.std.proofs.lemmas.List.Sorted.{All-permutation}
use Rattle.stage_graph.specs.Plain.{PlainGraph}
use Rattle.stage_graph.specs.Sound.{IsSound}
use Rattle.time_sweep.specs.Waits.{waited_for}
use Rattle.time_sweep.proofs.ByKey.{sorted_by_key}
use Rattle.stage_slack.specs.declared.slack.Slack.{Slack}
use Rattle.stage_slack.specs.Found.{slack_in, Gives}
use Rattle.stage_slack.specs.Slacks.{above_keys, kept, least_first, order_key, slack_at, slacks, slacks_within, IsSlack}
use Rattle.stage_slack.proofs.Gathering.{all_below, all_found, each_slack, of_key}
use Rattle.stage_slack.proofs.slacks.slacks_of.Goals as goal

-- what is found, before it is ordered
all_of : {E : Type 0} (graph : PlainGraph) (target started : ℕ) (within : Option ℕ) (places : List ℕ) (tried : List (Result (Option Slack) E)) (found : List Slack) → started ≡ target → places ≡ waited_for graph.places target
    → AllZip (Gives (slack_at graph started)) places tried → found ≡ filter_map (slack_in within) tried → All (λ one. IsOk one) tried → found ≡ slacks_within graph target within
all_of graph target started within places tried found same are zip is all =
    is ∙ all_found (slack_at graph started) within places tried zip all
    ∙ ap (λ (started : ℕ). filter_map (λ (place : ℕ). kept within (slack_at graph started place)) places) same
    ∙ ap (filter_map (λ (place : ℕ). kept within (slack_at graph target place))) are

ordered_of : (graph : PlainGraph) (target : ℕ) (within : Option ℕ) (found ordered : List Slack) → found ≡ slacks_within graph target within → IsPermutation found ordered → IsNonDecreasingBy order_key ordered
    → IsStableByKey order_key nat_cmp found ordered → ordered ≡ slacks graph target within
ordered_of graph target within found ordered is permutation rising stable =
    sorted_by_key Slack order_key of_key (λ key. refl) (above_keys found) found ordered rising stable
    (All-permutation (λ (slack : Slack). order_key slack < above_keys found) found ordered permutation (all_below found))
    ∙ ap (λ (found : List Slack). least_first found) is

pub returns-clause-slacks : goal.returns-clause-slacks
returns-clause-slacks g c =
    let graph = c.args.version.now.graph in
    let target = c.args.target in
    let start = c.in_ok-start.start in
    let tried = c.in_ok-tried.tried.items in
    let zip : AllZip (Gives (slack_at graph start.target)) c.in_ok-places.places.items tried =
    subst (λ (places : List ℕ). AllZip (Gives (slack_at graph start.target)) places tried) c.as_slice.ensures.value c.in_ok-tried.ensures in
    let found = c.in_ok-found.found.items in
    let is = c.in_ok-found.ensures.found in
    let all = c.in_ok-found.ensures.all in
    let done = c.in_ok-ordered.ensures in
    ordered_of graph target c.args.within found c.in_ok-ordered.ordered.items
    (all_of graph target start.target c.args.within c.in_ok-places.places.items tried found c.in_ok-start.ensures.target c.in_ok-places.ensures.places zip is all)
    done.permutation done.ordered done.by_place

pub returns-clause-each : goal.returns-clause-each
returns-clause-each g c =
    let graph = c.args.version.now.graph in
    let target = c.args.target in
    let start = c.in_ok-start.start in
    let tried = c.in_ok-tried.tried.items in
    let zip : AllZip (Gives (slack_at graph start.target)) c.in_ok-places.places.items tried =
    subst (λ (places : List ℕ). AllZip (Gives (slack_at graph start.target)) places tried) c.as_slice.ensures.value c.in_ok-tried.ensures in
    let found = c.in_ok-found.found.items in
    let is = c.in_ok-found.ensures.found in
    let all = c.in_ok-found.ensures.all in
    let sound = subst IsSound c.graph.ensures.graph c.len.ensures.sound in
    All-permutation (IsSlack graph target) found c.in_ok-ordered.ordered.items c.in_ok-ordered.ensures.permutation
    (subst (All (IsSlack graph target)) (sym (all_of graph target start.target c.args.within c.in_ok-places.places.items tried found c.in_ok-start.ensures.target c.in_ok-places.ensures.places zip is all))
    (each_slack graph sound target c.args.within))
