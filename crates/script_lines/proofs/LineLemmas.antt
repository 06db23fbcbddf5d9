-- The lines of a script, as they are read.
use Rattle.std.proofs.Common.{◌≡◌, ℕ, ◌+◌, ◌<◌, Bool, true, false, cond, nat_lt, List, map, [], ◌∷◌, ◌++◌, length, refl, sym, ap, ◌∙◌, subst, append_assoc, append-nil, arith, rules, Option, None, Some, length-append}
use Rattle.std.specs.List.{AllByRecursion}
use Rattle.std.proofs.lemmas.List.Splits.{slice_split_at, slice_split_none}
use Rattle.std.proofs.lemmas.List.Elements.{All-append, recursion_from_All}
use Rattle.script_lines.specs.Lines.{kept, too_long, is_break, line_in, lines_of, IsBegun, IsUnbroken, lines_past, line_begun, comes_after}

-- what is unbroken and then ends is one line
pub lines_of-end : (text bytes : List ℕ) (byte : ℕ) → IsUnbroken text → is_break byte ≡ true → lines_of (text ++ byte ∷ bytes) ≡ line_in text ∷ lines_of bytes
lines_of-end text bytes byte unbroken is_end = ap (map line_in) (slice_split_at is_break text byte bytes unbroken is_end)

-- what is unbroken is one line
pub lines_of-last : (text : List ℕ) → IsUnbroken text → lines_of text ≡ line_in text ∷ []
lines_of-last text unbroken = ap (map line_in) (slice_split_none is_break text unbroken)

pub line_in-long : (text : List ℕ) → 65536 < length text → line_in text ≡ Some too_long
line_in-long [] long = absurd (omega (arith, long))
line_in-long (a ∷ []) long = absurd (omega (arith, long))
line_in-long (a ∷ b ∷ text) long =
    let holds : nat_lt 65536 (length (a ∷ b ∷ text)) ≡ true = search (rules, long) in
    ap (λ t. Some (cond t too_long (kept (a ∷ b ∷ text)))) holds

-- a line that is too long already is skipped to its end
pub lines_of-long : (bytes text : List ℕ) → IsUnbroken text → 65536 < length text → lines_of (text ++ bytes) ≡ Some too_long ∷ lines_past bytes
lines_of-long [] text unbroken long = ap lines_of (append-nil text) ∙ lines_of-last text unbroken ∙ ap (λ l. l ∷ []) (line_in-long text long)
lines_of-long (byte ∷ bytes) text unbroken long =
    by_byte (is_break byte) refl (λ goes_on. lines_of-long bytes (text ++ byte ∷ []) (All-append (λ b. is_break b ≡ false) text (byte ∷ []) unbroken (search (rules, goes_on)))
    (let more = length-append text (byte ∷ []) in omega (arith, long, more))) where
      by_byte : (b : Bool) → is_break byte ≡ b → (is_break byte ≡ false → lines_of ((text ++ byte ∷ []) ++ bytes) ≡ Some too_long ∷ lines_past bytes)
          → lines_of (text ++ byte ∷ bytes) ≡ Some too_long ∷ cond b (lines_of bytes) (lines_past bytes)
      by_byte true is_end longer = lines_of-end text bytes byte unbroken is_end ∙ ap (λ l. l ∷ lines_of bytes) (line_in-long text long)
      by_byte false goes_on longer = ap lines_of (sym (append_assoc text (byte ∷ []) bytes)) ∙ longer goes_on

lines_past-by_recursion : (text bytes : List ℕ) → AllByRecursion (λ byte. is_break byte ≡ false) text → lines_past (text ++ bytes) ≡ lines_past bytes
lines_past-by_recursion [] bytes unbroken = refl
lines_past-by_recursion (byte ∷ text) bytes unbroken = ap (λ b. cond b (lines_of (text ++ bytes)) (lines_past (text ++ bytes))) unbroken.0 ∙ lines_past-by_recursion text bytes unbroken.1

pub lines_past-unbroken : (text bytes : List ℕ) → IsUnbroken text → lines_past (text ++ bytes) ≡ lines_past bytes
lines_past-unbroken text bytes unbroken = lines_past-by_recursion text bytes (recursion_from_All _ text unbroken)

-- more of a line that is kept, of one that becomes too long, and of one that is too long
pub comes_after-more : (text piece bytes : List ℕ) → comes_after (Some text) (piece ++ bytes) ≡ comes_after (Some (text ++ piece)) bytes
comes_after-more text piece bytes = ap lines_of (sym (append_assoc text piece bytes))

pub comes_after-too_long : (text piece bytes : List ℕ) → IsUnbroken text → IsUnbroken piece → 65536 < length text + length piece
    → comes_after (Some text) (piece ++ bytes) ≡ comes_after None bytes
comes_after-too_long text piece bytes unbroken goes_on long =
    comes_after-more text piece bytes ∙ lines_of-long bytes (text ++ piece) (All-append (λ b. is_break b ≡ false) text piece unbroken goes_on) (subst (λ n. 65536 < n) (sym (length-append text piece)) long)

pub comes_after-skipped : (piece bytes : List ℕ) → IsUnbroken piece → comes_after None (piece ++ bytes) ≡ comes_after None bytes
comes_after-skipped piece bytes unbroken = ap (λ l. Some too_long ∷ l) (lines_past-unbroken piece bytes unbroken)

-- the same of a line whose fields say which it is
pub becomes_too_long : (line : Option (List ℕ)) (was : Bool) (text piece bytes : List ℕ) → cond was None (Some text) ≡ line → was ≡ false → IsUnbroken text → IsUnbroken piece
    → 65536 < length text + length piece → comes_after line (piece ++ bytes) ≡ comes_after None bytes
becomes_too_long line was text piece bytes is kept_so_far unbroken goes_on long =
    ap (λ l. comes_after l (piece ++ bytes)) (sym is ∙ ap (λ b. cond b None (Some text)) kept_so_far) ∙ comes_after-too_long text piece bytes unbroken goes_on long

pub stays_too_long : (line : Option (List ℕ)) (was : Bool) (text piece bytes : List ℕ) → cond was None (Some text) ≡ line → was ≡ true → IsUnbroken piece
    → comes_after line (piece ++ bytes) ≡ comes_after line bytes
stays_too_long line was text piece bytes is skipped unbroken =
    let none : line ≡ None = sym is ∙ ap (λ b. cond b None (Some text)) skipped in
    ap (λ l. comes_after l (piece ++ bytes)) none ∙ comes_after-skipped piece bytes unbroken ∙ ap (λ l. comes_after l bytes) (sym none)

-- where the line ends
pub comes_after-end : (line : Option (List ℕ)) (bytes : List ℕ) → IsBegun line → comes_after line (10 ∷ bytes) ≡ line_begun line ∷ lines_of bytes
comes_after-end None bytes begun = refl
comes_after-end (Some text) bytes begun = lines_of-end text bytes 10 begun.0 refl

pub comes_after-last : (line : Option (List ℕ)) → IsBegun line → comes_after line [] ≡ line_begun line ∷ []
comes_after-last None begun = refl
comes_after-last (Some text) begun = ap lines_of (append-nil text) ∙ lines_of-last text begun.0

-- a line end comes in what follows
pub comes_after-line : (was is : Option (List ℕ)) (piece after bytes rest : List ℕ) → ((next : List ℕ) → comes_after was (piece ++ next) ≡ comes_after is next)
    → IsBegun is → rest ≡ piece ++ 10 ∷ after → comes_after was (rest ++ bytes) ≡ line_begun is ∷ lines_of (after ++ bytes)
comes_after-line was is piece after bytes rest goes_on begun parts =
    ap (λ l. comes_after was (l ++ bytes)) parts
    ∙ ap (comes_after was) (append_assoc piece (10 ∷ after) bytes)
    ∙ goes_on (10 ∷ (after ++ bytes))
    ∙ comes_after-end is (after ++ bytes) begun
