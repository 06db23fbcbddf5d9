use Rattle.std.proofs.Common.{◌++◌, length, take, drop, sym, ap, ◌∙◌, refl}
use Rattle.std.proofs.Math.Seq.{take-append_seam}
use Rattle.script_lines.proofs.ReadMore.{reads_piece}
use Rattle.script_lines.proofs.line_reader.LineReader.read_more.Goals as goal

pub returns-clause-ok : goal.returns-clause-ok
returns-clause-ok g c =
    let ok = c.in_ok-count.ensures.ok in
    let bound = c.in_ok-count.ensures.bound in
    let rest = drop (length c.read_part.new.buffer) c.self.inside.buffer.items in
    rw (← c.self.view_is)
    (reads_piece _ c.in_ok-count.count c.self.inside.left refl _ c.read_part.new.buffer (g.R.Source.remaining c.args.source.now) (g.R.Source.remaining c.read_part.new.source)
    (ap (λ n. take n (c.read_part.new.buffer ++ rest)) (sym (c.read_part.auto.buffer ∙ c.deref_mut.ensures.len)) ∙ take-append_seam c.read_part.new.buffer rest)
    bound.0 bound.1 ok.0 ok.1)
