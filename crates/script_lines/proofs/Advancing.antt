-- A script that is read on to the end of a line.
use Rattle.std.proofs.Common.{◌≡◌, ℕ, ◌+◌, ◌<◌, ◌≤◌, Bool, true, false, List, [], ◌++◌, length, sym, ap, ◌∙◌, subst, arith, append_assoc, append-nil, length-append, Option}
use Rattle.std.specs.Io.KnownBytes.{Consumes}
use Rattle.std.proofs.KnownBytes.{Consumes-trans}
use Rattle.script_lines.specs.Lines.{IsBegun, comes_after, lines_of}
use Rattle.script_lines.specs.LineReader.{KeepsRead, ReadsOn, ReadsPiece, TakesLine}
use Rattle.script_lines.specs.ReaderView.{ReaderView}
use Rattle.script_lines.proofs.LineLemmas.{comes_after-last}

-- this much was read since the beginning, and less is left to go through
pub record Reading (before now : ReaderView) (had left : Option (List ℕ)) : Type 0 where
  pub kept : KeepsRead before now had left
  pub shorter : length now.waiting + now.left ≤ length before.waiting + before.left

-- the line continues, and the next piece is read
pub reads_more : (before now taken next : ReaderView) (had left still : Option (List ℕ)) (ended more : Bool)
    → Reading before now had left → ended ≡ false → TakesLine ended now taken → taken.left ≡ now.left
    → more ≡ true → ReadsPiece more taken next left still → next.line ≡ taken.line → Reading before next had still
reads_more before now taken next had left still ended more so_far goes_on takes same is_more piece line =
    let (taking, none) = subst (λ b. TakesLine b now taken) goes_on takes in
    let (consumed, counted, some) = subst (λ b. ReadsPiece b taken next left still) is_more piece in
    let joined = length-append so_far.kept.piece next.waiting in
    let was = so_far.kept.counted in
    let short = so_far.shorter in
    record {
      kept = record {
        piece = so_far.kept.piece ++ next.waiting;
        consumed = Consumes-trans had left still so_far.kept.piece next.waiting so_far.kept.consumed consumed;
        counted = omega (arith, joined, was, counted, same);
        lines = λ bytes.
            ap (λ l. lines_of (before.waiting ++ l)) (append_assoc so_far.kept.piece next.waiting bytes)
            ∙ so_far.kept.lines (next.waiting ++ bytes)
            ∙ taking (next.waiting ++ bytes)
            ∙ ap (λ l. comes_after l (next.waiting ++ bytes)) (sym line);
      };
      shorter = omega (arith, short, counted, same);
    }

-- the line continues, and the source has ended
pub reads_last : (before now taken next : ReaderView) (had left still : Option (List ℕ)) (ended more : Bool)
    → Reading before now had left → ended ≡ false → TakesLine ended now taken → taken.left ≡ now.left → 0 < taken.left → IsBegun taken.line
    → more ≡ false → ReadsPiece more taken next left still → next.line ≡ taken.line → ReadsOn false before next had still
reads_last before now taken next had left still ended more so_far goes_on takes same some begun is_more piece line =
    let (taking, none) = subst (λ b. TakesLine b now taken) goes_on takes in
    let (consumed, end, empty, kept) = subst (λ b. ReadsPiece b taken next left still) is_more piece in
    let was = so_far.kept.counted in
    record {
      piece = so_far.kept.piece;
      consumed = subst (Consumes had still) (append-nil so_far.kept.piece) (Consumes-trans had left still so_far.kept.piece [] so_far.kept.consumed consumed);
      counted = omega (arith, was, same, kept);
      gives = (
        ap (λ l. lines_of (before.waiting ++ l)) (sym (append-nil so_far.kept.piece))
            ∙ so_far.kept.lines []
            ∙ taking []
            ∙ ap (λ l. comes_after l []) (sym line)
            ∙ comes_after-last next.line (subst IsBegun (sym line) begun),
        empty,
        end,
        omega (arith, kept, some),
      );
    }

-- the line has ended
pub reads_line : (before now taken : ReaderView) (had left : Option (List ℕ)) (ended : Bool)
    → Reading before now had left → ended ≡ true → TakesLine ended now taken → taken.left ≡ now.left → ReadsOn true before taken had left
reads_line before now taken had left ended so_far is_end takes same =
    let (taking, shorter) = subst (λ b. TakesLine b now taken) is_end takes in
    let was = so_far.kept.counted in
    let short = so_far.shorter in
    record {
      piece = so_far.kept.piece;
      consumed = so_far.kept.consumed;
      counted = omega (arith, was, same);
      gives = (λ bytes. so_far.kept.lines bytes ∙ taking bytes, omega (arith, short, shorter, same));
    }
