use Rattle.std.proofs.Common.{[], ◌+◌, ◌++◌, arith, inl, inr, refl, ap, sym, ◌∙◌}
use Rattle.std.specs.Option.{option_map}
use Rattle.std.proofs.KnownBytes.{Consumes-kept, Consumes-nil}
use Rattle.std.proofs.lemmas.Result.{err_from_is_err_and}
use Rattle.text_io.proofs.Written.{Advances-kept, Advances-none, Advances-trans, AppendsPrefix-from_all, StopsShort-after, StopsShort-from_step}
use Rattle.script_lines.specs.Lines.{comes_after, line_begun, lines_of}
use Rattle.script_lines.specs.Seen.{seen}
use Rattle.serve_script.specs.declared.fault.ServeFault.TheVariants.{Read, Write}
use Rattle.serve_script.proofs.Steps.{answers_piece, ends, reads_end, reads_piece, serves_part, serves_part_at, stops_at_end, unfailed_in_answer, written_so_far}
use Rattle.serve_script.proofs.Counted.{begins, reads_on}
use Rattle.serve_script.specs.Answers.{answers_from, played_from}
use Rattle.serve_script.proofs.Playing.{played_at_end, plays_piece, then_plays}
use Rattle.serve_script.proofs.serving.serve_lines.Goals as goal

pub loop-sink-init : goal.loop-sink-init
loop-sink-init g c = (
  [],
  record {
    consumed = Consumes-nil _;
    counted = omega arith;
    numbered = begins c.args.lines.now.waiting c.args.lines.now.left c.requires.waiting;
    answered = Advances-none _ _ _ (λ bytes. ap (answers_from c.args.format 1 c.args.server.now)
        (ap (λ waiting. lines_of (waiting ++ bytes)) (sym c.requires.waiting) ∙ ap (λ line. comes_after line (c.args.lines.now.waiting ++ bytes)) (sym c.requires.begun)));
    played = λ bytes. ap (played_from c.args.format 1 c.args.server.now)
        (ap (λ waiting. lines_of (waiting ++ bytes)) (sym c.requires.waiting) ∙ ap (λ line. comes_after line (c.args.lines.now.waiting ++ bytes)) (sym c.requires.begun));
    reads = refl;
    writes = refl;
  },
)

pub returns-in_err-answer_waiting-clause-err : goal.returns-in_err-answer_waiting-clause-err
returns-in_err-answer_waiting-clause-err g c =
    let (read, so_far) = c.loop-sink.invariant in
    serves_part_at _ _ (err_from_is_err_and c.from_residual.result c.from_residual.ensures.1) _ _ read _ _ _ _ _ _ so_far.consumed
    (let all = so_far.counted in omega (arith, all))
    (written_so_far (answers_from c.args.format 1 c.args.server.now) read _ _ (StopsShort-after _ _ _ _ _ so_far.answered c.in_err-answer_waiting.ensures.err))
    (unfailed_in_answer _ _ _ _ _ so_far.reads)

pub returns-in_err-flush-clause-err : goal.returns-in_err-flush-clause-err
returns-in_err-flush-clause-err g c =
    let (read, so_far) = c.loop-sink.invariant in
    serves_part_at _ Write (err_from_is_err_and c.from_residual-in_err-flush.result c.from_residual-in_err-flush.ensures.1) _ _ read _ _ _ _ _ _ so_far.consumed
    (let all = so_far.counted in omega (arith, all))
    (written_so_far (answers_from c.args.format 1 c.args.server.now) read _ _
    (StopsShort-from_step _ _ _ _ (Advances-kept _ _ _ _ _ (Advances-trans _ _ _ _ _ _ so_far.answered c.in_ok-answer_waiting.ensures.ok) c.in_err-flush.ensures.held)))
    so_far.reads

pub returns-then-left-eq0-clause-err : goal.returns-then-left-eq0-clause-err
returns-then-left-eq0-clause-err g c =
    let (read, so_far) = c.loop-sink.invariant in
    let all = so_far.counted in
    let same = c.in_ok-answer_waiting.ensures.left in
    let is = c.left.ensures in
    let none = c.if-left-eq0.true in
    serves_part Read _ _ read _ _ _ _ _ _ so_far.consumed
    (omega (arith, all))
    (written_so_far (answers_from c.args.format 1 c.args.server.now) read _ _
    (StopsShort-from_step _ _ _ _ (Advances-kept _ _ _ _ _ (Advances-trans _ _ _ _ _ _ so_far.answered c.in_ok-answer_waiting.ensures.ok) c.in_ok-flush.ensures.held)))
    (inr (omega (arith, all, same, is, none), so_far.reads))

pub returns-in_err-read_more-clause-err : goal.returns-in_err-read_more-clause-err
returns-in_err-read_more-clause-err g c =
    let (read, so_far) = c.loop-sink.invariant in
    serves_part_at _ Read (err_from_is_err_and c.from_residual-in_err-read_more.result c.from_residual-in_err-read_more.ensures.1) _ _ read _ _ _ _ _ _ (Consumes-kept _ _ _ _ so_far.consumed c.in_err-read_more.ensures.err)
    (let all = so_far.counted in omega (arith, all))
    (written_so_far (answers_from c.args.format 1 c.args.server.now) read _ _
    (StopsShort-from_step _ _ _ _ (Advances-kept _ _ _ _ _ (Advances-trans _ _ _ _ _ _ so_far.answered c.in_ok-answer_waiting.ensures.ok) c.in_ok-flush.ensures.held)))
    (let failed = c.in_err-read_more.ensures.failures in let before = so_far.reads in inl (grind (arith, failed, before)))

pub returns-in_err-answer_any-clause-err : goal.returns-in_err-answer_any-clause-err
returns-in_err-answer_any-clause-err g c =
    let (read, so_far) = c.loop-sink.invariant in
    serves_part_at _ _ (err_from_is_err_and c.from_residual-in_err-answer_any.result c.from_residual-in_err-answer_any.ensures.1) _ _ read _ _ _ _ _ _
    (reads_end read c.answer_waiting.new.lines c.read_more.new.self _ _ _ _ so_far.consumed c.if-not-branch.true c.in_ok-read_more.ensures.ok).0
    (let all = so_far.counted in omega (arith, all))
    (stops_at_end (answers_from c.args.format 1 c.args.server.now) (answers_from c.args.format c.answer_waiting.new.number c.answer_waiting.new.server) read c.answer_waiting.new.lines (option_map seen c.line.result) _ _ _
    c.in_ok-answer_waiting.ensures.begun c.in_ok-answer_waiting.ensures.waiting (c.line.ensures ∙ ap line_begun c.in_ok-read_more.ensures.line)
    (Advances-kept _ _ _ _ _ (Advances-trans _ _ _ _ _ _ so_far.answered c.in_ok-answer_waiting.ensures.ok) c.in_ok-flush.ensures.held) c.in_err-answer_any.ensures.err)
    (unfailed_in_answer _ _ _ _ _ (let failed = c.in_ok-read_more.ensures.failures in let before = so_far.reads in grind (arith, failed, before)))

pub returns-in_err-flush-2-clause-err : goal.returns-in_err-flush-2-clause-err
returns-in_err-flush-2-clause-err g c =
    let (read, so_far) = c.loop-sink.invariant in
    serves_part_at _ Write (err_from_is_err_and c.from_residual-in_err-flush-2.result c.from_residual-in_err-flush-2.ensures.1) _ _ read _ _ _ _ _ _
    (reads_end read c.answer_waiting.new.lines c.read_more.new.self _ _ _ _ so_far.consumed c.if-not-branch.true c.in_ok-read_more.ensures.ok).0
    (let all = so_far.counted in omega (arith, all))
    (AppendsPrefix-from_all _ _ _
    (ends (answers_from c.args.format 1 c.args.server.now) (answers_from c.args.format c.answer_waiting.new.number c.answer_waiting.new.server) (answers_from c.args.format (c.answer_waiting.new.number + 1) c.answer_any.new.server) read c.answer_waiting.new.lines (option_map seen c.line.result) _ _ _ _
    c.in_ok-answer_waiting.ensures.begun c.in_ok-answer_waiting.ensures.waiting (c.line.ensures ∙ ap line_begun c.in_ok-read_more.ensures.line)
    (Advances-kept _ _ _ _ _ (Advances-trans _ _ _ _ _ _ so_far.answered c.in_ok-answer_waiting.ensures.ok) c.in_ok-flush.ensures.held) c.in_ok-answer_any.ensures.ok refl c.in_err-flush-2.ensures.held))
    (let failed = c.in_ok-read_more.ensures.failures in let before = so_far.reads in grind (arith, failed, before))

pub returns-then-not-branch-clause-ok : goal.returns-then-not-branch-clause-ok
returns-then-not-branch-clause-ok g c =
    let (read, so_far) = c.loop-sink.invariant in
    let end = reads_end read c.answer_waiting.new.lines c.read_more.new.self _ _ _ _ so_far.consumed c.if-not-branch.true c.in_ok-read_more.ensures.ok in
    let last_line = c.line.ensures ∙ ap line_begun c.in_ok-read_more.ensures.line in
    record {
      serves = record {
        read = read;
        consumed = end.0;
        to_the_end = end.1;
        below_the_most = let all = so_far.counted in let same = c.in_ok-answer_waiting.ensures.left in let is = c.left.ensures in let some = c.if-left-eq0.false in grind (arith, all, same, is, some);
        no_failure = let failed = c.in_ok-read_more.ensures.failures in let before = so_far.reads in grind (arith, failed, before);
        answered = ends (answers_from c.args.format 1 c.args.server.now) (answers_from c.args.format c.answer_waiting.new.number c.answer_waiting.new.server) (answers_from c.args.format (c.answer_waiting.new.number + 1) c.answer_any.new.server) read c.answer_waiting.new.lines (option_map seen c.line.result) _ _ _ _
            c.in_ok-answer_waiting.ensures.begun c.in_ok-answer_waiting.ensures.waiting (c.line.ensures ∙ ap line_begun c.in_ok-read_more.ensures.line)
            (Advances-kept _ _ _ _ _ (Advances-trans _ _ _ _ _ _ so_far.answered c.in_ok-answer_waiting.ensures.ok) c.in_ok-flush.ensures.held) c.in_ok-answer_any.ensures.ok refl c.in_ok-flush-2.ensures.held;
      };
      played = played_at_end (played_from c.args.format 1 c.args.server.now) (played_from c.args.format c.answer_waiting.new.number c.answer_waiting.new.server) (played_from c.args.format (c.answer_waiting.new.number + 1) c.answer_any.new.server) read c.answer_waiting.new.lines (option_map seen c.line.result) _
          c.in_ok-answer_waiting.ensures.begun c.in_ok-answer_waiting.ensures.waiting last_line (then_plays _ _ _ so_far.played c.in_ok-answer_waiting.ensures.played) c.in_ok-answer_any.ensures.played refl;
    }

pub loop-sink-preserved : goal.loop-sink-preserved
loop-sink-preserved g c =
    let (read, so_far) = c.loop-sink.invariant in
    let (consumed, counted) = reads_piece read c.answer_waiting.new.lines c.read_more.new.self _ _ _ _ _ so_far.consumed (let all = so_far.counted in let same = c.in_ok-answer_waiting.ensures.left in grind (arith, all, same)) c.if-not-branch.false c.in_ok-read_more.ensures.ok in (
      read ++ c.read_more.new.self.waiting,
      record {
        consumed = consumed;
        counted = counted;
        numbered = reads_on c.loop-sink.number c.answer_waiting.new.number c.loop-sink.lines c.answer_waiting.new.lines c.read_more.new.self _ _ _ _ so_far.numbered c.in_ok-answer_waiting.ensures.count c.in_ok-answer_waiting.ensures.left c.if-not-branch.false c.in_ok-read_more.ensures.ok;
        answered = answers_piece (answers_from c.args.format 1 c.args.server.now) (answers_from c.args.format c.answer_waiting.new.number c.answer_waiting.new.server) read c.answer_waiting.new.lines c.read_more.new.self _ _ _ _ _
            c.if-not-branch.false c.in_ok-read_more.ensures.ok c.in_ok-read_more.ensures.line c.in_ok-answer_waiting.ensures.waiting
            (Advances-kept _ _ _ _ _ (Advances-trans _ _ _ _ _ _ so_far.answered c.in_ok-answer_waiting.ensures.ok) c.in_ok-flush.ensures.held);
        played = plays_piece (played_from c.args.format 1 c.args.server.now) (played_from c.args.format c.answer_waiting.new.number c.answer_waiting.new.server) read c.answer_waiting.new.lines c.read_more.new.self
            c.in_ok-read_more.ensures.line c.in_ok-answer_waiting.ensures.waiting (then_plays _ _ _ so_far.played c.in_ok-answer_waiting.ensures.played);
        reads = let failed = c.in_ok-read_more.ensures.failures in let before = so_far.reads in grind (arith, failed, before);
        writes = let more = c.in_ok-answer_waiting.ensures.failures in let flushed = c.in_ok-flush.ensures.failures in let before = so_far.writes in grind (arith, more, flushed, before);
      },
    )
