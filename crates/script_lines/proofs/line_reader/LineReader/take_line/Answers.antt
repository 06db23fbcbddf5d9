use Rattle.std.proofs.Common.{◌∷◌, ◌++◌, sym, ap, ◌∙◌, subst, ◌<◌, length}
use Rattle.std.specs.List.{slice_range}
use Rattle.script_lines.specs.Lines.{line_begun, lines_of}
use Rattle.script_lines.proofs.LineLemmas.{comes_after-line}
use Rattle.script_lines.proofs.LineReading.{slice_range-past}
use Rattle.script_lines.proofs.line_reader.LineReader.take_line.Goals as goal

pub returns-in_ok-extend-in-Some-clause-takes : goal.returns-in_ok-extend-in-Some-clause-takes
returns-in_ok-extend-in-Some-clause-takes c =
    let reader = c.self.inside in
    let parts = ap (λ items. slice_range items reader.taken reader.filled) (sym c.deref.ensures.value) ∙ c.in-Some.ensures.some.1 in
    let past = slice_range-past reader.buffer.items reader.taken reader.filled c.in-Some.line.now c.in-Some._after.now c.self.invariant.ascending c.self.invariant.within parts in
    rw (← c.self.view_is) (
      (λ bytes. comes_after-line reader.line c.extend.new.self c.in-Some.line.now c.in-Some._after.now bytes _ c.in_ok-extend-in-Some.ensures.more c.in_ok-extend-in-Some.ensures.begun parts
          ∙ ap (λ rest. line_begun c.extend.new.self ∷ lines_of (rest ++ bytes)) (sym past.0)),
      subst (λ rest. length rest < length (slice_range reader.buffer.items reader.taken reader.filled)) (sym past.0) past.2,
    )
