-- From what one more span begins.
use Rattle.std.proofs.Common.{◌≡◌, ℕ, ◌+◌, ◌<◌, List, [], ◌∷◌, ◌++◌, Bool, true, false, Option, Some, None, cond, get_or, length, take, refl, sym, ap, ◌∙◌}
use Rattle.std.specs.Prelude.{nat_eq, find, option_map}
use Rattle.std.specs.Option.{option_or}
use Rattle.std.proofs.lemmas.List.{append-nil, map-append, take_more}
use Rattle.std.proofs.lemmas.List.Concat.{flat_map-append}
use Rattle.trace_stages.specs.Beginnings.{all_begins, begun_from, joined_with_links}
use Rattle.trace_relations.specs.declared.moment.Interval.{Interval}
use Rattle.trace_relations.specs.declared.moment.Moment.{Moment}
use Rattle.trace_stages.specs.Known.{had_of, plain_hads}
use Rattle.trace_stages.specs.declared.walk.holding.Begin.{Begin}
use Rattle.trace_stages.specs.declared.walk.holding.Holding.{Holding}
use Rattle.trace_stages.specs.declared.walk.stage_id.StageId.{StageId}

one_begun : (begin : Begin) (b : Bool) (found rest : Option StageId) (others more : Option Begin) → option_map (λ those. those.from) others ≡ option_or found rest → option_map (λ those. those.from) more ≡ found → option_map (λ those. those.from) (cond b (Some begin) others) ≡ option_or (option_map (λ those. those.from) (cond b (Some begin) more)) rest
one_begun begin true found rest others more e f = refl
one_begun begin false found rest others more e f = e ∙ ap (λ o. option_or o rest) (sym f)

pub begun_from-append : (begins others : List Begin) (place : ℕ) → begun_from (begins ++ others) place ≡ option_or (begun_from begins place) (begun_from others place)
begun_from-append [] others place = refl
begun_from-append (begin ∷ begins) others place = one_begun begin (nat_eq begin.span place) (begun_from begins place) (begun_from others place) (find (λ those. nat_eq those.span place) (begins ++ others)) (find (λ those. nat_eq those.span place) begins) (begun_from-append begins others place) refl

alone : (begin : Begin) (b : Bool) → option_map (λ those. those.from) (cond b (Some begin) None) ≡ cond b (Some begin.from) None
alone begin true = refl
alone begin false = refl

or_more : (a b c : Option StageId) → option_or (option_or a b) c ≡ option_or a (option_or b c)
or_more None b c = refl
or_more (Some x) b c = refl

begun_more : (begins : List Begin) (i place : ℕ) (begin : Begin) → i < length begins → begun_from (take (i + 1) begins) place ≡ option_or (begun_from (take i begins) place) (cond (nat_eq (get_or begins i begin).span place) (Some (get_or begins i begin).from) None)
begun_more begins i place begin lt =
    ap (λ those. begun_from those place) (take_more begins i begin lt)
    ∙ begun_from-append (take i begins) (get_or begins i begin ∷ []) place
    ∙ ap (λ o. option_or (begun_from (take i begins) place) o) (alone (get_or begins i begin) (nat_eq (get_or begins i begin).span place))

-- one more begin is noted
pub one_noted : (begins : List Begin) (i : ℕ) (begin : Begin) (first old new : ℕ → Option StageId) → i < length begins → ((q : ℕ) → old q ≡ option_or (first q) (begun_from (take i begins) q)) → ((q : ℕ) → new q ≡ option_or (old q) (cond (nat_eq (get_or begins i begin).span q) (Some (get_or begins i begin).from) None)) → (q : ℕ) → new q ≡ option_or (first q) (begun_from (take (i + 1) begins) q)
one_noted begins i begin first old new lt so_far updated q =
    updated q
    ∙ ap (λ o. option_or o (cond (nat_eq (get_or begins i begin).span q) (Some (get_or begins i begin).from) None)) (so_far q)
    ∙ or_more (first q) (begun_from (take i begins) q) (cond (nat_eq (get_or begins i begin).span q) (Some (get_or begins i begin).from) None)
    ∙ ap (λ o. option_or (first q) o) (sym (begun_more begins i q begin lt))

begins_more : (holdings : List Holding) (i : ℕ) (holding : Holding) → i < length holdings → all_begins (plain_hads (take (i + 1) holdings)) ≡ all_begins (plain_hads (take i holdings)) ++ (get_or holdings i holding).begins.items
begins_more holdings i holding lt =
    ap (λ those. all_begins (plain_hads those)) (take_more holdings i holding lt)
    ∙ ap (λ those. all_begins those) (map-append had_of (take i holdings) (get_or holdings i holding ∷ []))
    ∙ flat_map-append (λ had. had.begins) (plain_hads (take i holdings)) (had_of (get_or holdings i holding) ∷ [])
    ∙ ap (λ those. all_begins (plain_hads (take i holdings)) ++ those) (append-nil (get_or holdings i holding).begins.items)

-- the begins of one more span are noted
pub all_noted : (holdings : List Holding) (i : ℕ) (holding : Holding) (begins : List Begin) (old new : ℕ → Option StageId) → i < length holdings → begins ≡ (get_or holdings i holding).begins.items → ((q : ℕ) → old q ≡ begun_from (all_begins (plain_hads (take i holdings))) q) → ((q : ℕ) → new q ≡ option_or (old q) (begun_from begins q)) → (q : ℕ) → new q ≡ begun_from (all_begins (plain_hads (take (i + 1) holdings))) q
all_noted holdings i holding begins old new lt is so_far updated q =
    updated q
    ∙ ap (λ those. option_or (old q) (begun_from those q)) is
    ∙ ap (λ o. option_or o (begun_from (get_or holdings i holding).begins.items q)) (so_far q)
    ∙ sym (begun_from-append (all_begins (plain_hads (take i holdings))) (get_or holdings i holding).begins.items q)
    ∙ ap (λ those. begun_from those q) (sym (begins_more holdings i holding lt))

lone : (intervals : List Interval) (until : Option Moment) (place : ℕ) (from : Option StageId) → joined_with_links intervals until place from [] ≡ record { joins = []; stage = from }
lone intervals until place None = refl
lone intervals until place (Some id) = refl

-- a span without links begins from what it has, with no joins
pub joined_without_links : (intervals : List Interval) (until : Option Moment) (place : ℕ) (from : Option StageId) (links : List ℕ) → links ≡ [] → joined_with_links intervals until place from links ≡ record { joins = []; stage = from }
joined_without_links intervals until place from links e = ap (λ those. joined_with_links intervals until place from those) e ∙ lone intervals until place from
