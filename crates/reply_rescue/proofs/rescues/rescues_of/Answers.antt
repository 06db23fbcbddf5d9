use Rattle.std.proofs.Common.{◌≡◌, ◌<◌, ◌≤◌, ◌∙◌, ℕ, false, List, Result, Option, ap, arith, length, refl, subst, sym}
use Rattle.std.specs.Prelude.{All, IsOk, IsPermutation, filter_map, is_some}
use Rattle.std.specs.List.{AllZip, flat_map, sum_by}
use Rattle.std.specs.List.Sorted.{IsNonDecreasingBy, IsStableByKey}
use Rattle.std.specs.Ordering.{nat_cmp}
use Rattle.std.proofs.lemmas.List.Elements.{All-nil}
use Rattle.std.proofs.lemmas.List.Sorted.{All-permutation}
use Rattle.act_expr.specs.declared.outcome.Value.{Value}
use Rattle.stage_graph.specs.Plain.{PlainGraph}
use Rattle.stage_graph.specs.Sound.{IsSound}
use Rattle.time_sweep.specs.Waits.{waited_for}
use Rattle.time_sweep.proofs.ByKey.{sorted_by_key}
use Rattle.reply_rescue.specs.declared.rescue.Rescue.{Rescue}
use Rattle.reply_rescue.specs.declared.rescue.Rescues.{Rescues}
use Rattle.reply_rescue.specs.Found.{count_in, saved_in, Gives}
use Rattle.reply_rescue.specs.Rescues.{above_moments, rescue_moment, rescues, saves, soonest_first, trials, trials_at, IsRescue, Trial}
use Rattle.reply_rescue.proofs.Gathering.{all_below, all_counted, all_saved, as_many, each_count, few_places, few_trials, of_moment}
use Rattle.reply_rescue.specs.Replies.{reply_of}
use Rattle.time_sweep.specs.Sweep.{completion_of}
use Rattle.reply_rescue.proofs.Rescuing.{all_needed, each_rescue, none_needed}
use Rattle.reply_rescue.proofs.rescues.rescues_of.Goals as goal

-- what is found, before it is ordered
module _ {E : Type 0} (graph : PlainGraph) (target started : ℕ) (by : Option ℕ) (value : Value) (places : List ℕ) (tried : List (Result Rescues E)) (same : started ≡ target) (are : places ≡ waited_for graph.places target)
    (none : is_some (reply_of by (completion_of graph target)) ≡ false) (zip : AllZip (Gives (trials_at graph value) (saves graph started by)) places tried) (all : All (λ one. IsOk one) tried) where
  all_trials : flat_map (trials_at graph value) places ≡ trials graph target by value
  all_trials = ap (flat_map (trials_at graph value)) are ∙ sym (all_needed graph target by value none)

  count_of : (count : ℕ) → count ≡ sum_by count_in tried → count ≡ length (trials graph target by value)
  count_of count is = is ∙ all_counted (trials_at graph value) (saves graph started by) places tried zip all ∙ ap length all_trials

  saved_of : (saved : List Rescue) → saved ≡ flat_map saved_in tried → saved ≡ filter_map (saves graph target by) (trials graph target by value)
  saved_of saved is =
      is ∙ all_saved (trials_at graph value) (saves graph started by) places tried zip all
      ∙ ap (λ (started : ℕ). filter_map (saves graph started by) (flat_map (trials_at graph value) places)) same
      ∙ ap (filter_map (saves graph target by)) all_trials

ordered_of : (graph : PlainGraph) (target : ℕ) (by : Option ℕ) (value : Value) (saved ordered : List Rescue) → saved ≡ filter_map (saves graph target by) (trials graph target by value) → IsPermutation saved ordered
    → IsNonDecreasingBy rescue_moment ordered → IsStableByKey rescue_moment nat_cmp saved ordered → ordered ≡ rescues graph target by value
ordered_of graph target by value saved ordered is permutation rising stable =
    sorted_by_key Rescue rescue_moment of_moment (λ moment. refl) (above_moments saved) saved ordered rising stable
    (All-permutation (λ (rescue : Rescue). rescue_moment rescue < above_moments saved) saved ordered permutation (all_below saved))
    ∙ ap (λ (saved : List Rescue). soonest_first saved) is

-- ---- where the target has a value in time

pub returns-then-has_reply-clause-tried : goal.returns-then-has_reply-clause-tried
returns-then-has_reply-clause-tried g c =
    sym (ap length (none_needed c.args.version.now.graph c.args.target c.args.by c.args.value (sym c.has_reply.ensures ∙ c.if-has_reply.true)))

pub returns-then-has_reply-clause-rescues : goal.returns-then-has_reply-clause-rescues
returns-then-has_reply-clause-rescues g c =
    let graph = c.args.version.now.graph in
    c.new.ensures.items
    ∙ sym (ap (λ (trials : List Trial). soonest_first (filter_map (saves graph c.args.target c.args.by) trials)) (none_needed graph c.args.target c.args.by c.args.value (sym c.has_reply.ensures ∙ c.if-has_reply.true)))

pub returns-then-has_reply-clause-each : goal.returns-then-has_reply-clause-each
returns-then-has_reply-clause-each g c =
    let says = IsRescue c.args.version.now.graph c.args.target c.args.by c.args.value in subst (All says) (sym c.new.ensures.items) (All-nil says)

-- ---- where it has none

pub found_among-requires-clause-few : goal.found_among-requires-clause-few
found_among-requires-clause-few g c =
    let graph = c.args.version.now.graph in
    let start = c.in_ok-start.start in
    let tried = c.in_ok-tried.tried.items in
    let sound = subst IsSound c.graph.ensures.graph c.len.ensures.sound in
    let few = few_places graph sound c.args.target in
    let given = ap length c.in_ok-places.ensures.places in
    let same = as_many (trials_at graph c.args.value) (saves graph start.target c.args.by) c.as_slice.result.now tried c.in_ok-tried.ensures in
    let front = ap length c.as_slice.ensures.value in
    let back = ap length c.as_slice-2.ensures.value in
    omega (arith, few, given, same, front, back)

pub found_among-requires-clause-counts : goal.found_among-requires-clause-counts
found_among-requires-clause-counts g c =
    let graph = c.args.version.now.graph in
    let start = c.in_ok-start.start in
    let tried = c.in_ok-tried.tried.items in
    let sound = subst IsSound c.graph.ensures.graph c.len.ensures.sound in
    subst (All (λ one. count_in one ≤ 64)) (sym c.as_slice-2.ensures.value)
    (each_count (trials_at graph c.args.value) (saves graph start.target c.args.by) 64 (few_trials graph sound c.args.value) c.as_slice.result.now tried c.in_ok-tried.ensures)

pub returns-clause-tried : goal.returns-clause-tried
returns-clause-tried g c =
    let graph = c.args.version.now.graph in
    let start = c.in_ok-start.start in
    let tried = c.in_ok-tried.tried.items in
    let zip : AllZip (Gives (trials_at graph c.args.value) (saves graph start.target c.args.by)) c.in_ok-places.places.items tried =
    subst (λ (places : List ℕ). AllZip (Gives (trials_at graph c.args.value) (saves graph start.target c.args.by)) places tried) c.as_slice.ensures.value c.in_ok-tried.ensures in
    let all = subst (All (λ one. IsOk one)) c.as_slice-2.ensures.value c.in_ok-found.ensures.all in
    count_of graph c.args.target start.target c.args.by c.args.value c.in_ok-places.places.items tried c.in_ok-start.ensures.target c.in_ok-places.ensures.places (sym c.has_reply.ensures ∙ c.if-has_reply.false) zip all
    c.in_ok-found.found.tried (c.in_ok-found.ensures.tried ∙ ap (sum_by count_in) c.as_slice-2.ensures.value)

pub returns-clause-rescues : goal.returns-clause-rescues
returns-clause-rescues g c =
    let graph = c.args.version.now.graph in
    let start = c.in_ok-start.start in
    let tried = c.in_ok-tried.tried.items in
    let found = c.in_ok-found.found.saved.items in
    let zip : AllZip (Gives (trials_at graph c.args.value) (saves graph start.target c.args.by)) c.in_ok-places.places.items tried =
    subst (λ (places : List ℕ). AllZip (Gives (trials_at graph c.args.value) (saves graph start.target c.args.by)) places tried) c.as_slice.ensures.value c.in_ok-tried.ensures in
    let all = subst (All (λ one. IsOk one)) c.as_slice-2.ensures.value c.in_ok-found.ensures.all in
    let done = c.in_ok-saved.ensures in
    ordered_of graph c.args.target c.args.by c.args.value found c.in_ok-saved.saved.items
    (saved_of graph c.args.target start.target c.args.by c.args.value c.in_ok-places.places.items tried c.in_ok-start.ensures.target c.in_ok-places.ensures.places (sym c.has_reply.ensures ∙ c.if-has_reply.false) zip all
    found (c.in_ok-found.ensures.saved ∙ ap (flat_map saved_in) c.as_slice-2.ensures.value))
    done.permutation done.ordered done.by_trial

pub returns-clause-each : goal.returns-clause-each
returns-clause-each g c =
    let graph = c.args.version.now.graph in
    let start = c.in_ok-start.start in
    let tried = c.in_ok-tried.tried.items in
    let found = c.in_ok-found.found.saved.items in
    let says = IsRescue graph c.args.target c.args.by c.args.value in
    let zip : AllZip (Gives (trials_at graph c.args.value) (saves graph start.target c.args.by)) c.in_ok-places.places.items tried =
    subst (λ (places : List ℕ). AllZip (Gives (trials_at graph c.args.value) (saves graph start.target c.args.by)) places tried) c.as_slice.ensures.value c.in_ok-tried.ensures in
    let all = subst (All (λ one. IsOk one)) c.as_slice-2.ensures.value c.in_ok-found.ensures.all in
    All-permutation says found c.in_ok-saved.saved.items c.in_ok-saved.ensures.permutation
    (subst (All says)
    (sym (saved_of graph c.args.target start.target c.args.by c.args.value c.in_ok-places.places.items tried c.in_ok-start.ensures.target c.in_ok-places.ensures.places (sym c.has_reply.ensures ∙ c.if-has_reply.false) zip all
    found (c.in_ok-found.ensures.saved ∙ ap (flat_map saved_in) c.as_slice-2.ensures.value)))
    (each_rescue graph c.args.target c.args.by c.args.value))
