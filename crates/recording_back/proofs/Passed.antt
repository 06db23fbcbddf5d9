-- Labels are passed over: no member that is read has the name of one.
use Rattle.std.proofs.Common.{◌≡◌, ℕ, Bool, true, false, List, [], ◌∷◌, All, Option, Some, if◌then◌else◌, refl, ◌∙◌}
use Rattle.std.specs.Prelude.{not}
use Rattle.std.specs.List.{AllByRecursion as Each, list_all}
use Rattle.std.specs.Str.{bytes_eq}
use Rattle.std.proofs.lemmas.Bool.{and_parts}
use Rattle.std.proofs.lemmas.List.Elements.{All-head, All-tail}
use Rattle.serde_json.specs.Data.{Data, string}
use Rattle.recording.proofs.StagesReadBack.{look, or_later}
use Rattle.recording.specs.MemberTexts.{member_text}
use Rattle.recording.specs.declared.member.Member.{Member}
use Rattle.recording_text.specs.Labels.{PlainLabel, label_rows}
use Rattle.recording_back.specs.ReadBack.{IsLabel, is_unread}
use Rattle.recording_back.proofs.StageRows.{label_data, onto}

denied : (b : Bool) → not b ≡ true → b ≡ false
denied true h = absurd cc
denied false h = refl

-- a name that none of these members has
pub each_other : (members : List Member) (name : List ℕ) → is_unread members name ≡ true → Each (λ member. bytes_eq (member_text member) name ≡ false) members
each_other [] name h = tt
each_other (member ∷ members) name h =
    let parts = and_parts (not (bytes_eq (member_text member) name)) (list_all (λ (m : Member). not (bytes_eq (member_text m) name)) members) h in
    (denied (bytes_eq (member_text member) name) parts.0, each_other members name parts.1)

otherwise : (b : Bool) (here rest : Option Data) → b ≡ false → (if b then here else rest) ≡ rest
otherwise true here rest h = absurd cc
otherwise false here rest h = refl

-- what stands under another name is passed over
pub past_one : (sought name : List ℕ) (o : Option Data) (rows : List (List ℕ × Option Data)) → bytes_eq sought name ≡ false → look sought ((name, o) ∷ rows) ≡ look sought rows
past_one sought name o rows other = otherwise (bytes_eq sought name) (or_later o (look sought rows)) (look sought rows) other

abbrev ArePassed : List Member → List (List ℕ × Option Data) → List (List ℕ × Option Data) → Type 0
ArePassed members rows base = Each (λ member. look (member_text member) rows ≡ look (member_text member) base) members

none_passed : (members : List Member) (rows : List (List ℕ × Option Data)) → ArePassed members rows rows
none_passed [] rows = tt
none_passed (member ∷ members) rows = (refl, none_passed members rows)

one_passed : (members : List Member) (rows base : List (List ℕ × Option Data)) (name : List ℕ) (o : Option Data) → ArePassed members rows ((name, o) ∷ base)
    → Each (λ member. bytes_eq (member_text member) name ≡ false) members → ArePassed members rows base
one_passed [] rows base name o passed others = tt
one_passed (member ∷ members) rows base name o passed others =
    (passed.0 ∙ past_one (member_text member) name o base others.0, one_passed members rows base name o passed.1 others.1)

pub labels_passed : (members : List Member) (labels : List PlainLabel) (base : List (List ℕ × Option Data)) → All (IsLabel members) labels
    → Each (λ member. look (member_text member) (onto (label_rows labels) (label_data labels) base) ≡ look (member_text member) base) members
labels_passed members [] base h = none_passed members base
labels_passed members (label ∷ labels) base h =
    one_passed members (onto (label_rows (label ∷ labels)) (label_data (label ∷ labels)) base) base label.0 (Some (string label.1))
    (labels_passed members labels ((label.0, Some (string label.1)) ∷ base) (All-tail (IsLabel members) label labels h))
    (each_other members label.0 (All-head (IsLabel members) label labels h).unread)
