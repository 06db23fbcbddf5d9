-- The number of a script's line is no larger than the bytes before it allow.
use Rattle.std.proofs.Common.{◌≡◌, ℕ, ◌+◌, ◌≤◌, Bool, true, List, [], length, ap, subst, arith, Option}
use Rattle.script_lines.specs.LineReader.{ReadsPiece, TakesLine}
use Rattle.script_lines.specs.ReaderView.{ReaderView}

-- a line that ends takes a byte at least
pub takes_one : (reader taken next : ReaderView) (number most : ℕ) (ended : Bool) → ended ≡ true → TakesLine ended reader taken → next.waiting ≡ taken.waiting
    → number + length reader.waiting ≤ most → number + 1 + length next.waiting ≤ most
takes_one reader taken next number most ended is_end takes same within =
    let (taking, shorter) = subst (λ e. TakesLine e reader taken) is_end takes in
    let here = ap length same in
    omega (arith, shorter, here, within)

-- the line before the first byte is line 1
pub begins : (waiting : List ℕ) (left : ℕ) → waiting ≡ [] → 1 + length waiting + left ≤ left + 1
begins waiting left none = let empty = ap length none in omega (arith, empty)

-- a piece that is read is left no more
pub reads_on : (was number : ℕ) (before reader next : ReaderView) (more : Bool) (most : ℕ) (had left : Option (List ℕ)) → was + length before.waiting + before.left ≤ most → number ≤ was + length before.waiting
    → reader.left ≡ before.left → more ≡ true → ReadsPiece more reader next had left → number + length next.waiting + next.left ≤ most
reads_on was number before reader next more most had left within fewer same is_more piece =
    let (consumed, here, some) = subst (λ b. ReadsPiece b reader next had left) is_more piece in
    omega (arith, within, fewer, same, here)
