-- One more entry of a legal log.
use Rattle.std.proofs.Common.{◌≡◌, ◌<◌, inl, List, [], ◌∷◌, ◌++◌, length, take, refl, ap, subst, sym, ◌∙◌, ℕ}
use Rattle.version_store.specs.Plain.{PlainVersion}
use Rattle.session_core.specs.declared.event.Entry.{Entry}
use Rattle.session_core.specs.Machine.{State, book}
use Rattle.session_core.specs.Log.{Enters, Leads, IsLegal, opening_of}
use Rattle.session_core.specs.Kept.{IsKept}
use Rattle.std.specs.Prelude.{Some}

Leads-snoc : (s : State) (log : List Entry) (t : State) (e : Entry) (u : State) → Leads s log t → Enters t e u → Leads s (log ++ e ∷ []) u
Leads-snoc s [] t e u same step = (u, subst (λ x. Enters x e u) (sym same) step, refl)
Leads-snoc s (x ∷ xs) t e u rest step = (rest.0, rest.1, Leads-snoc rest.0 xs t e u rest.2 step)

-- a legal log stays legal with the next entry
pub keeps : (s t : State) (log room longer : List Entry) (e : Entry) → IsKept s log → Enters s e t → 0 < length t.versions → opening_of t ≡ opening_of s → room ≡ log → longer ≡ room ++ e ∷ [] → IsKept t longer
keeps s t log room longer e kept step some same is more =
    let legal : IsLegal (log ++ e ∷ []) t = subst (λ (o : State). Leads o (log ++ e ∷ []) t) (sym same) (Leads-snoc (opening_of s) log s e t kept.legal step) in
    record { some = some; legal = subst (λ (l : List Entry). IsLegal l t) (sym (more ∙ ap (λ (l : List Entry). l ++ e ∷ []) is)) legal }

abbrev opened : List PlainVersion → ℕ → State
opened versions most = record { versions = take 1 versions; most = most; sessions = [] }

-- where the versions stay
pub keeps_versions : (s t : State) (log room longer : List Entry) (e : Entry) → IsKept s log → book s e.event ≡ Some (e.reply, t) → (t.versions ≡ s.versions) × (t.most ≡ s.most) → room ≡ log → longer ≡ room ++ e ∷ [] → IsKept t longer
keeps_versions s t log room longer e kept step same is more =
    keeps s t log room longer e kept (inl step) (subst (λ (xs : List PlainVersion). 0 < length xs) (sym same.0) kept.some)
    (ap (λ (xs : List PlainVersion). opened xs t.most) same.0 ∙ ap (opened s.versions) same.1) is more
