use Rattle.std.proofs.Common.{arith}
use Rattle.script_lines.proofs.LineLemmas.{becomes_too_long, stays_too_long}
use Rattle.script_lines.proofs.partial_line.PartialLine.extend.Goals as goal

pub returns-else-piece-len-clause-more : goal.returns-else-piece-len-clause-more
returns-else-piece-len-clause-more c bytes =
    becomes_too_long _ _ _ _ bytes c.self.view_is c.if-not-self.true c.self.invariant.unbroken c.requires
    (let over = c.if-piece-len.false in let len = c.len.ensures in let same = c.self.inside.text.ok.0 in let short = c.self.invariant.short in grind (arith, over, len, same))

pub returns-else-not-self-clause-more : goal.returns-else-not-self-clause-more
returns-else-not-self-clause-more c bytes = stays_too_long _ _ _ _ bytes c.self.view_is c.if-not-self.false c.requires
