-- Joins that are put, and the order of stages.
use Rattle.std.proofs.Common.{◌≡◌, ℕ, suc, zero, ◌+◌, ◌<◌, List, [], ◌∷◌, ◌++◌, Bool, true, false, ◌&&◌, ◌||◌, Option, Some, None, cond, get_or, length, reverse, take, refl, sym, subst, ap, ◌∙◌, append_assoc, arith}
use Rattle.std.specs.Prelude.{is_some, map, nat_eq}
use Rattle.std.specs.List.{list_any}
use Rattle.std.proofs.lemmas.Bool.Decides.{nat_tests}
use Rattle.std.proofs.lemmas.List.{append-nil, reverse-append, take_more}
use Rattle.std.proofs.lemmas.List.Folds.{list_any-append}
use Rattle.std.proofs.lemmas.List.Sums.{fold-append}
use Rattle.trace_stages.specs.Known.{gave_up}
use Rattle.trace_stages.specs.Order.{Puts, attempts_before, first_source, is_entry, is_join, is_work, most_needed, needed, needs, ordered, put_end, put_stage, tried_before, visited}
use Rattle.trace_stages.specs.Scene.{PlainScene}
use Rattle.trace_stages.specs.declared.order.Put.{Put}
use Rattle.trace_stages.specs.declared.tour.visit.Visit.{Visit}
use Rattle.trace_stages.specs.declared.walk.stage_id.StageId.{StageId}
use Rattle.trace_stages.specs.declared.walk.stage_id.StageId.TheVariants.{Answer, Limit, Tried, Whole}

same_turned : (a b : ℕ) → nat_eq a b ≡ nat_eq b a
same_turned a b = grind (arith, nat_tests)

-- a pair is another where that is the pair
pub pairs_turned : (a b c d : ℕ) → (nat_eq a c && nat_eq b d) ≡ (nat_eq c a && nat_eq d b)
pairs_turned a b c d = ap (λ t. t && nat_eq b d) (same_turned a c) ∙ ap (λ t. nat_eq c a && t) (same_turned b d)

or_more : (t b : Bool) → cond t true b ≡ (b || (t || false))
or_more true true = refl
or_more true false = refl
or_more false true = refl
or_more false false = refl

-- one more stage is put
pub any_more : (p : StageId → Bool) (order : List StageId) (id : StageId) (t b c : Bool) → b ≡ list_any p order → p id ≡ t → c ≡ cond t true b → c ≡ list_any p (order ++ id ∷ [])
any_more p order id t b c so_far is put =
    put
    ∙ or_more t b
    ∙ ap (λ x. x || (t || false)) so_far
    ∙ ap (λ x. list_any p order || (x || false)) (sym is)
    ∙ sym (list_any-append p order (id ∷ []))

pub any_kept : (p : StageId → Bool) (order : List StageId) (id : StageId) (b : Bool) → b ≡ list_any p order → p id ≡ false → b ≡ list_any p (order ++ id ∷ [])
any_kept p order id b so_far is = any_more p order id false b b so_far is refl

or_turned : (a b : Bool) → (a || (b || false)) ≡ (b || a)
or_turned true true = refl
or_turned true false = refl
or_turned false true = refl
or_turned false false = refl

any-cons_last : (p : StageId → Bool) (ids : List StageId) (id : StageId) → list_any p (ids ++ id ∷ []) ≡ list_any p (id ∷ ids)
any-cons_last p ids id = list_any-append p ids (id ∷ []) ∙ or_turned (list_any p ids) (p id)

none_more : (p : StageId → Bool) (ids : List StageId) (id : StageId) → p id ≡ false → list_any p (ids ++ id ∷ []) ≡ list_any p ids
none_more p ids id is = any-cons_last p ids id ∙ ap (λ b. b || list_any p ids) is

any_turned : (p : StageId → Bool) (ids : List StageId) → list_any p (reverse ids) ≡ list_any p ids
any_turned p [] = refl
any_turned p (id ∷ ids) = ap (λ those. list_any p those) (reverse-append (id ∷ []) ids) ∙ any-cons_last p (reverse ids) id ∙ ap (λ b. p id || b) (any_turned p ids)

-- joins that are put in their order, and a stage that is none
pub any_put : (p : StageId → Bool) (order joins : List StageId) (id : StageId) (b : Bool) → p id ≡ false → b ≡ list_any p (order ++ joins) → b ≡ list_any p (order ++ (reverse joins ++ id ∷ []))
any_put p order joins id b is so_far =
    so_far
    ∙ list_any-append p order joins
    ∙ ap (λ x. list_any p order || x) (sym (any_turned p joins) ∙ sym (none_more p (reverse joins) id is))
    ∙ sym (list_any-append p order (reverse joins ++ id ∷ []))

needed_none : (scene : PlainScene) (order : List StageId) (n : ℕ) → needed scene order n None ≡ []
unfolding needed
needed_none scene order zero = refl
needed_none scene order (suc n) = refl

needed_met : (scene : PlainScene) (order : List StageId) (n : ℕ) (id : StageId) → needs order id ≡ false → needed scene order n (Some id) ≡ []
unfolding needed
needed_met scene order zero id h = refl
needed_met scene order (suc n) id h = rw h refl

needed_more : (scene : PlainScene) (order : List StageId) (n : ℕ) (id : StageId) → needs order id ≡ true → needed scene order (suc n) (Some id) ≡ id ∷ needed scene (order ++ id ∷ []) n (first_source scene id)
unfolding needed
needed_more scene order n id h = rw h refl

needed_zero : (scene : PlainScene) (order : List StageId) (source : Option StageId) → needed scene order 0 source ≡ []
unfolding needed
needed_zero scene order source = refl

-- nothing is left
pub chain_none : (scene : PlainScene) (order joins all : List StageId) (n : ℕ) (next : Option StageId) → next ≡ None → all ≡ joins ++ needed scene (order ++ joins) n next → joins ≡ all
chain_none scene order joins all n next is so_far =
    sym (so_far ∙ ap (λ o. joins ++ needed scene (order ++ joins) n o) is ∙ ap (λ rest. joins ++ rest) (needed_none scene (order ++ joins) n) ∙ append-nil joins)

-- the next is put
pub chain_met : (scene : PlainScene) (order joins all : List StageId) (n : ℕ) (next : Option StageId) (id : StageId) → next ≡ Some id → needs (order ++ joins) id ≡ false → all ≡ joins ++ needed scene (order ++ joins) n next → joins ≡ all
chain_met scene order joins all n next id is met so_far =
    sym (so_far ∙ ap (λ o. joins ++ needed scene (order ++ joins) n o) is ∙ ap (λ rest. joins ++ rest) (needed_met scene (order ++ joins) n id met) ∙ append-nil joins)

-- there are as many as may be
pub chain_full : (scene : PlainScene) (order joins all : List StageId) (n : ℕ) (next : Option StageId) → n ≡ 0 → all ≡ joins ++ needed scene (order ++ joins) n next → joins ≡ all
chain_full scene order joins all n next is so_far =
    sym (so_far ∙ ap (λ k. joins ++ needed scene (order ++ joins) k next) is ∙ ap (λ rest. joins ++ rest) (needed_zero scene (order ++ joins) next) ∙ append-nil joins)

-- one more is needed
pub chain_more : (scene : PlainScene) (order joins more all : List StageId) (n k : ℕ) (next after : Option StageId) (id : StageId) → n ≡ suc k → next ≡ Some id → needs (order ++ joins) id ≡ true → more ≡ joins ++ id ∷ [] → after ≡ first_source scene id → all ≡ joins ++ needed scene (order ++ joins) n next → all ≡ more ++ needed scene (order ++ more) k after
chain_more scene order joins more all n k next after id count is need put then so_far =
    so_far
    ∙ ap (λ o. joins ++ needed scene (order ++ joins) n o) is
    ∙ ap (λ m. joins ++ needed scene (order ++ joins) m (Some id)) count
    ∙ ap (λ rest. joins ++ rest) (needed_more scene (order ++ joins) k id need)
    ∙ sym (append_assoc joins (id ∷ []) (needed scene ((order ++ joins) ++ id ∷ []) k (first_source scene id)))
    ∙ ap (λ those. (joins ++ id ∷ []) ++ needed scene those k (first_source scene id)) (append_assoc order joins (id ∷ []))
    ∙ ap (λ o. (joins ++ id ∷ []) ++ needed scene (order ++ (joins ++ id ∷ [])) k o) (sym then)
    ∙ ap (λ those. those ++ needed scene (order ++ those) k after) (sym put)

pub visited_more : (scene : PlainScene) (visits : List Visit) (i : ℕ) (visit : Visit) (order new : List StageId) → i < length visits → order ≡ ordered scene (take i visits) → new ≡ visited scene order (get_or visits i visit) → new ≡ ordered scene (take (i + 1) visits)
visited_more scene visits i visit order new lt so_far is =
    is
    ∙ ap (λ those. visited scene those (get_or visits i visit)) so_far
    ∙ sym (ap (λ those. ordered scene those) (take_more visits i visit lt) ∙ fold-append (visited scene) [] (take i visits) (get_or visits i visit ∷ []))

pub put_more : (put : Put) (order joins more : List StageId) (id : StageId) → more ≡ joins ++ id ∷ [] → Puts put ((order ++ joins) ++ id ∷ []) → Puts put (order ++ more)
put_more put order joins more id is puts =
    let P : List StageId → Type 0 = λ those. Puts put those in
    subst P (append_assoc order joins (id ∷ []) ∙ ap (λ those. order ++ those) (sym is)) puts

-- ---- stages that are neither joins nor own work

is_false : (b : Bool) → (b || false) ≡ b
is_false true = refl
is_false false = refl

none_of : (p : StageId → Bool) (order more : List StageId) (b : Bool) → list_any p more ≡ false → b ≡ list_any p order → b ≡ list_any p (order ++ more)
none_of p order more b none so_far = so_far ∙ sym (list_any-append p order more ∙ ap (λ x. list_any p order || x) none ∙ is_false (list_any p order))

-- none of some stages is a join or own work
abbrev pub AreOfSpans : List StageId → Type 0
AreOfSpans ids = (span number : ℕ) → (list_any (is_join span number) ids ≡ false) × (list_any (is_entry span number) ids ≡ false) × (list_any (is_work span number) ids ≡ false)

pub puts_others : (put : Put) (order more : List StageId) → AreOfSpans more → Puts put order → Puts put (order ++ more)
puts_others put order more are puts = λ span number. (
  none_of (is_join span number) order more _ (are span number).0 (puts span number).0,
  none_of (is_entry span number) order more _ (are span number).1 (puts span number).1,
  none_of (is_work span number) order more _ (are span number).2 (puts span number).2,
)

pub limit_and_whole : (place : ℕ) → AreOfSpans (Limit place ∷ Whole place ∷ [])
limit_and_whole place = λ span number. (refl, refl, refl)

none_tried : (p : StageId → Bool) → ((place : ℕ) → p (Tried place) ≡ false) → (places : List ℕ) → list_any p (map Tried places) ≡ false
none_tried p none [] = refl
none_tried p none (place ∷ places) = rw (none place) (none_tried p none places)

all_tried : (places : List ℕ) → AreOfSpans (map Tried places)
all_tried places = λ span number. (none_tried (is_join span number) (λ place. refl) places, none_tried (is_entry span number) (λ place. refl) places, none_tried (is_work span number) (λ place. refl) places)

tried_or_none : (b : Bool) (places : List ℕ) → AreOfSpans (cond b [] (map Tried places))
tried_or_none true places = λ span number. (refl, refl, refl)
tried_or_none false places = all_tried places

pub tried_are_of_spans : (scene : PlainScene) (place : ℕ) → AreOfSpans (tried_before scene place)
tried_are_of_spans scene place = tried_or_none (is_some (scene.known.relations.attempts.next place)) (attempts_before scene most_needed (scene.known.relations.attempts.previous place))

-- ---- the attempts before one

before_none : (scene : PlainScene) (n : ℕ) → attempts_before scene n None ≡ []
unfolding attempts_before
before_none scene zero = refl
before_none scene (suc n) = refl

before_zero : (scene : PlainScene) (previous : Option ℕ) → attempts_before scene 0 previous ≡ []
unfolding attempts_before
before_zero scene previous = refl

before_more : (scene : PlainScene) (n place : ℕ) → attempts_before scene (suc n) (Some place) ≡ place ∷ attempts_before scene n (scene.known.relations.attempts.previous place)
unfolding attempts_before
before_more scene n place = refl

-- no attempt is left
pub tried_none : (scene : PlainScene) (n : ℕ) (ids all : List StageId) (previous : Option ℕ) → previous ≡ None → all ≡ ids ++ map Tried (attempts_before scene n previous) → ids ≡ all
tried_none scene n ids all previous is so_far =
    sym (so_far ∙ ap (λ o. ids ++ map Tried (attempts_before scene n o)) is ∙ ap (λ places. ids ++ map Tried places) (before_none scene n) ∙ append-nil ids)

-- there are as many as may be
pub tried_full : (scene : PlainScene) (n : ℕ) (ids all : List StageId) (previous : Option ℕ) → n ≡ 0 → all ≡ ids ++ map Tried (attempts_before scene n previous) → ids ≡ all
tried_full scene n ids all previous is so_far =
    sym (so_far ∙ ap (λ k. ids ++ map Tried (attempts_before scene k previous)) is ∙ ap (λ places. ids ++ map Tried places) (before_zero scene previous) ∙ append-nil ids)

-- one more
pub tried_more : (scene : PlainScene) (n k : ℕ) (ids new all : List StageId) (previous : Option ℕ) (place : ℕ) → n ≡ suc k → previous ≡ Some place → new ≡ ids ++ Tried place ∷ [] → all ≡ ids ++ map Tried (attempts_before scene n previous) → all ≡ new ++ map Tried (attempts_before scene k (scene.known.relations.attempts.previous place))
tried_more scene n k ids new all previous place count is pushed so_far =
    so_far
    ∙ ap (λ o. ids ++ map Tried (attempts_before scene n o)) is
    ∙ ap (λ m. ids ++ map Tried (attempts_before scene m (Some place))) count
    ∙ ap (λ places. ids ++ map Tried places) (before_more scene k place)
    ∙ sym (append_assoc ids (Tried place ∷ []) (map Tried (attempts_before scene k (scene.known.relations.attempts.previous place))))
    ∙ ap (λ those. those ++ map Tried (attempts_before scene k (scene.known.relations.attempts.previous place))) (sym pushed)

-- a call that was tried again goes on
pub tried_goes_on : (scene : PlainScene) (place : ℕ) → is_some (scene.known.relations.attempts.next place) ≡ true → tried_before scene place ≡ []
tried_goes_on scene place is = rw is refl

pub tried_all : (scene : PlainScene) (place : ℕ) → is_some (scene.known.relations.attempts.next place) ≡ false → tried_before scene place ≡ map Tried (attempts_before scene most_needed (scene.known.relations.attempts.previous place))
tried_all scene place is = rw is refl

-- ---- the end of a span

pub ended_plainly : (scene : PlainScene) (order : List StageId) (place : ℕ) → gave_up scene.known place ≡ false → put_end scene order place ≡ put_stage scene order (Whole place)
ended_plainly scene order place is = rw is refl

pub ended_by_limit : (scene : PlainScene) (order : List StageId) (place : ℕ) → gave_up scene.known place ≡ true → put_end scene order place ≡ put_stage scene order (Answer place) ++ (Limit place ∷ Whole place ∷ [])
ended_by_limit scene order place is = rw is refl

-- the limit and the whole after the answer
pub two_pushed : (ids more all : List StageId) (place : ℕ) → more ≡ ids ++ Limit place ∷ [] → all ≡ more ++ Whole place ∷ [] → all ≡ ids ++ (Limit place ∷ Whole place ∷ [])
two_pushed ids more all place is are = are ∙ ap (λ those. those ++ Whole place ∷ []) is ∙ append_assoc ids (Limit place ∷ []) (Whole place ∷ [])

-- stages of spans are put after those that are
pub puts_more : (put : Put) (order more all : List StageId) → AreOfSpans more → all ≡ order ++ more → Puts put order → Puts put all
puts_more put order more all are is puts =
    let P : List StageId → Type 0 = λ those. Puts put those in
    subst P (sym is) (puts_others put order more are puts)
