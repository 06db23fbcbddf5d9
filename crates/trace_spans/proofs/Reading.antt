-- What parts read one after another come to.
use Rattle.std.proofs.Common.{◌≡◌, List, [], ◌∷◌, ◌++◌, Result, Ok, Err, refl, ap, subst, sym, ◌∙◌, append_assoc}
use Rattle.std.proofs.lemmas.List.{append-nil}
use Rattle.serde_json.specs.Data.{Data, Items, no_items, item}
use Rattle.trace_spans.specs.declared.fault.Fault.{Fault}
use Rattle.trace_spans.specs.declared.fault.Fault.TheVariants.{TooLong, Json, NotATrace, Shape, SeveralTraces, NoTrace, Memory}
use Rattle.trace_spans.specs.Members.{then_on}
use Rattle.trace_spans.specs.Reads.{IsFault}

-- a fault in a part is the fault of what begins with it
pub fault_of_part : {B D : Type 0} (fault : Fault) (meant : Result B Fault) (next : B → Result D Fault) → IsFault fault meant → IsFault fault (then_on meant next)
fault_of_part Memory meant next h = tt
fault_of_part TooLong meant next h = rw h refl
fault_of_part Json meant next h = rw h refl
fault_of_part (NotATrace strange) meant next h = rw h refl
fault_of_part (Shape member) meant next h = rw h refl
fault_of_part (SeveralTraces traces) meant next h = rw h refl
fault_of_part NoTrace meant next h = rw h refl

-- a part after what was read before it, and what comes after both
pub after_both : {A : Type 0} (read : List A) (part rest : Result (List A) Fault) → then_on (then_on part (λ first. then_on rest (λ others. Ok (first ++ others)))) (λ all. Ok (read ++ all)) ≡ then_on (then_on part (λ more. Ok (read ++ more))) (λ now. then_on rest (λ others. Ok (now ++ others)))
after_both read (Ok first) (Ok others) = ap Ok (sym (append_assoc read first others))
after_both read (Ok first) (Err fault) = refl
after_both read (Err fault) rest = refl

-- the part that the next item is, in a loop over items, of which F reads the rest
pub part_added : {A : Type 0} (F : Items → Result (List A) Fault) (all : Result (List A) Fault) (old new : Items) (x : Data) (part : Result (List A) Fault) (read now : List A) → all ≡ then_on (F old) (λ rest. Ok (read ++ rest)) → old ≡ item x new → F (item x new) ≡ then_on part (λ first. then_on (F new) (λ others. Ok (first ++ others))) → then_on part (λ more. Ok (read ++ more)) ≡ Ok now → all ≡ then_on (F new) (λ rest. Ok (now ++ rest))
part_added F all old new x part read now so_far is step added =
    so_far
    ∙ ap (λ r. then_on r (λ rest. Ok (read ++ rest))) (ap F is ∙ step)
    ∙ after_both read part (F new)
    ∙ ap (λ r. then_on r (λ front. then_on (F new) (λ others. Ok (front ++ others)))) added

one_after : {A : Type 0} (read : List A) (first : A) (rest : Result (List A) Fault) → then_on (then_on rest (λ others. Ok ((first ∷ []) ++ others))) (λ all. Ok (read ++ all)) ≡ then_on rest (λ others. Ok ((read ++ first ∷ []) ++ others))
one_after read first (Ok others) = ap Ok (sym (append_assoc read (first ∷ []) others))
one_after read first (Err fault) = refl

-- the next item is one more
pub item_added : {A : Type 0} (F : Items → Result (List A) Fault) (all : Result (List A) Fault) (old new : Items) (x : Data) (one : Result A Fault) (read now : List A) (first : A) → all ≡ then_on (F old) (λ rest. Ok (read ++ rest)) → old ≡ item x new → F (item x new) ≡ then_on one (λ own. then_on (F new) (λ others. Ok ((own ∷ []) ++ others))) → one ≡ Ok first → now ≡ read ++ first ∷ [] → all ≡ then_on (F new) (λ rest. Ok (now ++ rest))
item_added F all old new x one read now first so_far is step told added =
    so_far
    ∙ ap (λ r. then_on r (λ rest. Ok (read ++ rest))) (ap F is ∙ step ∙ ap (λ r. then_on r (λ own. then_on (F new) (λ others. Ok ((own ∷ []) ++ others)))) told)
    ∙ one_after read first (F new)
    ∙ ap (λ front. then_on (F new) (λ rest. Ok (front ++ rest))) (sym added)

-- a fault in the part that the next item is
pub part_refused : {A B : Type 0} (fault : Fault) (F : Items → Result (List A) Fault) (all : Result (List A) Fault) (old new : Items) (x : Data) (part : Result B Fault) (next : B → Result (List A) Fault) (read : List A) → all ≡ then_on (F old) (λ rest. Ok (read ++ rest)) → old ≡ item x new → F (item x new) ≡ then_on part next → IsFault fault part → IsFault fault all
part_refused {A} fault F all old new x part next read so_far is step h =
    subst (λ (r : Result (List A) Fault). IsFault fault r) (sym (so_far ∙ ap (λ r. then_on r (λ rest. Ok (read ++ rest))) (ap F is ∙ step))) (fault_of_part fault (then_on part next) (λ rest. Ok (read ++ rest)) (fault_of_part fault part next h))

-- no item is left
pub none_left : {A : Type 0} (F : Items → Result (List A) Fault) (all : Result (List A) Fault) (old : Items) (read : List A) → all ≡ then_on (F old) (λ rest. Ok (read ++ rest)) → old ≡ no_items → F no_items ≡ Ok [] → all ≡ Ok read
none_left F all old read so_far is none = so_far ∙ ap (λ r. then_on r (λ rest. Ok (read ++ rest))) (ap F is ∙ none) ∙ ap Ok (append-nil read)

err_of_added : {A : Type 0} (r : Result (List A) Fault) (old : List A) (fault : Fault) → then_on r (λ more. Ok (old ++ more)) ≡ Err fault → r ≡ Err fault
err_of_added (Ok more) old fault e = absurd cc
err_of_added (Err own) old fault e = cc

-- where nothing but a list is added, a fault is that of the list
pub fault_of_added : {A : Type 0} (fault : Fault) (r : Result (List A) Fault) (old : List A) → IsFault fault (then_on r (λ more. Ok (old ++ more))) → IsFault fault r
fault_of_added Memory r old h = tt
fault_of_added TooLong r old h = err_of_added r old TooLong h
fault_of_added Json r old h = err_of_added r old Json h
fault_of_added (NotATrace strange) r old h = err_of_added r old (NotATrace strange) h
fault_of_added (Shape member) r old h = err_of_added r old (Shape member) h
fault_of_added (SeveralTraces traces) r old h = err_of_added r old (SeveralTraces traces) h
fault_of_added NoTrace r old h = err_of_added r old NoTrace h
