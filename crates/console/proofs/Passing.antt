-- The bytes of a script that pass through a chunk.
use Rattle.std.proofs.Common.{◌≡◌, ℕ, ◌+◌, ◌-◌, ◌≤◌, List, ◌++◌, length, take, drop, slice_range, sym, ap, ◌∙◌, arith, take_at, length-drop, drop-drop, take-append-drop}
use Rattle.std.proofs.lemmas.List.{drop-take, length-take-le}

-- the front of a part of a chunk was copied over a buffer, and the part begins past it then
pub passed_on : (items chunk given buffer : List ℕ) (taken filled count : ℕ) → items ≡ chunk → taken ≤ filled → filled ≤ length chunk → taken + count ≤ filled
    → given ≡ take count (slice_range items taken filled)
    → slice_range chunk taken filled ≡ take count (given ++ drop count buffer) ++ slice_range chunk (taken + count) filled
passed_on items chunk given buffer taken filled count same ordered within short copied =
    let part = slice_range chunk taken filled in
    let begin : given ≡ take count part = copied ∙ ap (λ l. take count (slice_range l taken filled)) same in
    let long : length part ≡ filled - taken = length-take-le (filled - taken) (drop taken chunk) (omega (arith, length-drop taken chunk)) in
    let size : length given ≡ count = ap length begin ∙ length-take-le count part (omega (arith, long, short)) in
    let copy : take count (given ++ drop count buffer) ≡ take count part = take_at given (drop count buffer) count size ∙ begin in
    let whole : count + (filled - (taken + count)) ≡ filled - taken = omega (arith, short) in
    let rest : drop count part ≡ slice_range chunk (taken + count) filled =
    ap (λ n. drop count (take n (drop taken chunk))) (sym whole)
    ∙ drop-take count (filled - (taken + count)) (drop taken chunk)
    ∙ ap (take (filled - (taken + count))) (drop-drop count taken chunk) in
    sym (take-append-drop count part) ∙ ap (λ l. l ++ drop count part) (sym copy) ∙ ap (λ l. take count (given ++ drop count buffer) ++ l) rest
