-- The parts of a word, one after the other.
use Rattle.std.proofs.Common.{◌≡◌, ◌∙◌, ℕ, ◌+◌, ◌<◌, ◌≤◌, List, length, drop, get_or, ltb, Result, Ok, Err, sym, ap, arith}
use Rattle.std.specs.List.{position_or_len, before_first, after_first, slice_split}
use Rattle.std.proofs.lemmas.Bool.{cond-true, cond-false, lt-ltb, le-ltb}
use Rattle.std.proofs.lemmas.List.{at_drop_more, at_drop_all}
use Rattle.change_words.specs.declared.change.Change.{Change}
use Rattle.change_words.specs.Changes.{WrongPart, begun, change_of, if_assigns, is_space, nothing_assigned, of_parts, with_part, with_parts}
use Rattle.change_words.specs.Results.{then_on}
use Rattle.change_words.specs.Words.{assignment_of, bare_of, is_equals, valued}

-- what the parts that are left assign, one part on
pub part_turn : (parts : List (List ℕ)) (n : ℕ) (part : List ℕ) (change : Change) → n < length parts → part ≡ get_or parts n part → with_parts (drop n parts) change ≡ then_on (with_part part change) (with_parts (drop (n + 1) parts))
part_turn parts n part change low here =
    at_drop_more (λ (left : List (List ℕ)). with_parts left change) parts n part low
    ∙ ap (λ (first : List ℕ). then_on (with_part first change) (with_parts (drop (n + 1) parts))) (sym here)

pub part_on : (parts : List (List ℕ)) (n : ℕ) (part : List ℕ) (change next : Change) → n < length parts → part ≡ get_or parts n part → with_part part change ≡ Ok next → with_parts (drop n parts) change ≡ with_parts (drop (n + 1) parts) next
part_on parts n part change next low here is =
    part_turn parts n part change low here ∙ ap (λ (made : Result Change WrongPart). then_on made (with_parts (drop (n + 1) parts))) is

pub part_refused : (parts : List (List ℕ)) (n : ℕ) (part : List ℕ) (change : Change) (wrong : WrongPart) → n < length parts → part ≡ get_or parts n part → with_part part change ≡ Err wrong → with_parts (drop n parts) change ≡ Err wrong
part_refused parts n part change wrong low here is =
    part_turn parts n part change low here ∙ ap (λ (made : Result Change WrongPart). then_on made (with_parts (drop (n + 1) parts))) is

-- all are done
pub parts_done : (parts : List (List ℕ)) (n : ℕ) (change : Change) → length parts ≤ n → with_parts (drop n parts) change ≡ Ok change
parts_done parts n change done = at_drop_all (λ (left : List (List ℕ)). with_parts left change) parts n done

-- ---- where the parts begin

pub at_space : (word name parts : List ℕ) → position_or_len is_space word < length word → name ≡ before_first is_space word → parts ≡ after_first is_space word → of_parts word name parts ≡ change_of word
at_space word name parts low name_is parts_is =
    ap (λ (first : List ℕ). of_parts word first parts) name_is
    ∙ ap (of_parts word (before_first is_space word)) parts_is
    ∙ sym (cond-true (ltb (position_or_len is_space word) (length word)) (of_parts word (before_first is_space word) (after_first is_space word)) (nothing_assigned word) (lt-ltb (position_or_len is_space word) (length word) low))

pub no_space : (word : List ℕ) → position_or_len is_space word ≡ length word → change_of word ≡ nothing_assigned word
no_space word none =
    cond-false (ltb (position_or_len is_space word) (length word)) (of_parts word (before_first is_space word) (after_first is_space word)) (nothing_assigned word) (le-ltb (position_or_len is_space word) (length word) (omega (arith, none)))

-- the same of a part, which `=` cuts
pub at_equals : (part key value : List ℕ) → position_or_len is_equals part < length part → key ≡ before_first is_equals part → value ≡ after_first is_equals part → valued key value ≡ assignment_of part
at_equals part key value low key_is value_is =
    ap (λ (first : List ℕ). valued first value) key_is
    ∙ ap (valued (before_first is_equals part)) value_is
    ∙ sym (cond-true (ltb (position_or_len is_equals part) (length part)) (valued (before_first is_equals part) (after_first is_equals part)) (bare_of part) (lt-ltb (position_or_len is_equals part) (length part) low))

pub no_equals : (part : List ℕ) → position_or_len is_equals part ≡ length part → bare_of part ≡ assignment_of part
no_equals part none =
    sym (cond-false (ltb (position_or_len is_equals part) (length part)) (valued (before_first is_equals part) (after_first is_equals part)) (bare_of part) (le-ltb (position_or_len is_equals part) (length part) (omega (arith, none))))

-- the parts of the change of a stage's name are read, or one is wrong
pub parts_then : (word name parts : List ℕ) (start change : Change) → start ≡ begun name → with_parts (slice_split is_space parts) start ≡ Ok change → of_parts word name parts ≡ if_assigns word change
parts_then word name parts start change begins is =
    ap (λ (from : Change). then_on (with_parts (slice_split is_space parts) from) (if_assigns word)) (sym begins)
    ∙ ap (λ (made : Result Change WrongPart). then_on made (if_assigns word)) is

pub parts_refused : (word name parts : List ℕ) (start : Change) (wrong : WrongPart) → start ≡ begun name → with_parts (slice_split is_space parts) start ≡ Err wrong → of_parts word name parts ≡ Err wrong
parts_refused word name parts start wrong begins is =
    ap (λ (from : Change). then_on (with_parts (slice_split is_space parts) from) (if_assigns word)) (sym begins)
    ∙ ap (λ (made : Result Change WrongPart). then_on made (if_assigns word)) is
