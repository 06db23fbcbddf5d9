-- What is read after a part that has no fault.
use Rattle.std.proofs.Common.{◌≡◌, List, ◌++◌, Result, Ok, sym, ap, subst, ◌∙◌}
use Rattle.trace_spans.specs.declared.fault.Fault.{Fault}
use Rattle.trace_spans.specs.Members.{then_on}
use Rattle.trace_spans.specs.Reads.{IsFault}
use Rattle.trace_spans.proofs.Reading.{after_both}

-- a fault in what comes after the part
pub fault_after : {A B : Type 0} (fault : Fault) (part : Result A Fault) (next : A → Result B Fault) (x : A) → part ≡ Ok x → IsFault fault (next x) → IsFault fault (then_on part next)
fault_after {A} {B} fault part next x is h = subst (λ (r : Result B Fault). IsFault fault r) (sym (ap (λ r. then_on r next) is)) h

-- and what that comes to
pub read_after : {A B : Type 0} (part : Result A Fault) (next : A → Result B Fault) (x : A) (all : Result B Fault) → part ≡ Ok x → next x ≡ all → then_on part next ≡ all
read_after part next x all is e = ap (λ r. then_on r next) is ∙ e

-- two lists, one after the other, of which the first was read
pub both_lists : {A B C : Type 0} (checked : Result A Fault) (u : A) (clock : Result B Fault) (x : B) (first rest : B → Result (List C) Fault) (old now : List C) → checked ≡ Ok u → clock ≡ Ok x → then_on (first x) (λ more. Ok (old ++ more)) ≡ Ok now → then_on (then_on checked (λ _. then_on clock (λ b. then_on (first b) (λ front. then_on (rest b) (λ others. Ok (front ++ others)))))) (λ more. Ok (old ++ more)) ≡ then_on (rest x) (λ others. Ok (now ++ others))
both_lists checked u clock x first rest old now is told begun =
    ap (λ r. then_on (then_on r (λ _. then_on clock (λ b. then_on (first b) (λ front. then_on (rest b) (λ others. Ok (front ++ others)))))) (λ more. Ok (old ++ more))) is
    ∙ ap (λ r. then_on (then_on r (λ b. then_on (first b) (λ front. then_on (rest b) (λ others. Ok (front ++ others))))) (λ more. Ok (old ++ more))) told
    ∙ after_both old (first x) (rest x)
    ∙ ap (λ r. then_on r (λ front. then_on (rest x) (λ others. Ok (front ++ others)))) begun
