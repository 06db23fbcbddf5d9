-- Edits that are added one after the other.
use Rattle.std.proofs.Common.{◌≡◌, ◌∙◌, ℕ, List, [], ◌∷◌, ◌++◌, Option, Some, None, Result, Ok, Err, refl, sym, ap, subst}
use Rattle.std.specs.Prelude.{OnOk, ⊤}
use Rattle.std.proofs.lemmas.List.{append-nil, append_assoc}
use Rattle.stage_graph.specs.declared.edit.Edit.{Edit}
use Rattle.stage_graph.specs.declared.edit.Edit.TheVariants.{SetEnds}
use Rattle.stage_graph.specs.declared.end.End.{End}
use Rattle.change_words.specs.declared.assignment.TimeLimit.{TimeLimit}
use Rattle.change_words.specs.declared.timeouts.LimitFault.{LimitFault}
use Rattle.change_words.specs.declared.timeouts.LimitFault.TheVariants.{Timeouts, Memory}
use Rattle.change_words.specs.OwnEdits.{IsPushed, ends_edits_of, set_ends}
use Rattle.change_words.specs.Timeouts.{IsLimited, limited}

-- behind the same list
pub behind : (r : Result ⊤ LimitFault) (answer : Result (List Edit) ℕ) (front other new : List Edit) → front ≡ other → IsPushed r answer front new → IsPushed r answer other new
behind r answer front other new is pushed = subst (λ (front : List Edit). IsPushed r answer front new) is pushed

-- nothing is added where no limit is set
pub none_pushed : (name : List ℕ) (limit : Option TimeLimit) (ends : List End) (front new : List Edit) → limit ≡ None → new ≡ front → IsPushed (Ok tt) (ends_edits_of name limit ends) front new
none_pushed name limit ends front new none same =
    subst (λ (limit : Option TimeLimit). IsPushed (Ok tt) (ends_edits_of name limit ends) front new) (sym none) (same ∙ sym (append-nil front))

pub some_pushed : (r : Result ⊤ LimitFault) (name : List ℕ) (limit : Option TimeLimit) (some : TimeLimit) (ends : List End) (front new : List Edit) → limit ≡ Some some → IsPushed r (set_ends name (limited some ends)) front new → IsPushed r (ends_edits_of name limit ends) front new
some_pushed r name limit some ends front new is pushed =
    subst (λ (limit : Option TimeLimit). IsPushed r (ends_edits_of name limit ends) front new) (sym is) pushed

-- the ends with other timeouts are set
pub ends_pushed : (r : Result ⊤ LimitFault) (name : List ℕ) (ends : List End) (answer : Result (List End) ℕ) (front new : List Edit) → answer ≡ Ok ends → IsPushed r (Ok (SetEnds name ends ∷ [])) front new → IsPushed r (set_ends name answer) front new
ends_pushed r name ends answer front new is added =
    subst (λ (answer : Result (List End) ℕ). IsPushed r (set_ends name answer) front new) (sym is) added

-- they can't be set
pub ends_refused : (name : List ℕ) (fault : LimitFault) (answer : Result (List End) ℕ) (front : List Edit) → IsLimited (Err fault) answer → IsPushed (Err fault) (set_ends name answer) front front
ends_refused name (Timeouts count) answer front is = (ap (set_ends name) is, refl)
ends_refused name Memory answer front is = tt

three_on : (old one two three first second third : List Edit) → one ≡ old ++ first → two ≡ one ++ second → three ≡ two ++ third → three ≡ old ++ (first ++ second ++ third)
three_on old one two three first second third one_is two_is three_is =
    let grouped : old ++ first ++ second ++ third ≡ old ++ (first ++ second ++ third) = simp append_assoc in
    three_is ∙ ap (λ (l : List Edit). l ++ third) (two_is ∙ ap (λ (l : List Edit). l ++ second) one_is) ∙ grouped

-- three parts, of which the last may not be added
pub three_pushed : {E : Type 0} (r : Result ⊤ E) (old one two three first second third : List Edit) → one ≡ old ++ first → two ≡ one ++ second → OnOk r (three ≡ two ++ third) → OnOk r (three ≡ old ++ (first ++ second ++ third))
three_pushed (Ok done) old one two three first second third one_is two_is three_is = three_on old one two three first second third one_is two_is three_is
three_pushed (Err fault) old one two three first second third one_is two_is three_is = tt
