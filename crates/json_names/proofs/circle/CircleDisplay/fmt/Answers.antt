use Rattle.std.proofs.Common.{take, ap, ◌∙◌, arith}
use Rattle.std.proofs.Output.{has_written_append, has_written_of_eq}
use Rattle.json_names.specs.declared.circle.TheConstants.{MOST_TOLD}
use Rattle.json_names.proofs.CircleTexts.{few, many}
use Rattle.json_names.proofs.circle.CircleDisplay.fmt.Goals as goal

pub returns-in_ok-write-2-clause-writes : goal.returns-in_ok-write-2-clause-writes
returns-in_ok-write-2-clause-writes g c plain ok =
    let first = c.in_ok-write.ensures.writes plain ok in
    let told = c.told.ensures ∙ ap (take MOST_TOLD) c.as_slice-names.ensures.value in
    let rest = rw c.as_slice-names.ensures.value at (c.in_ok-write-2.ensures.writes first.plain ok) in
    has_written_of_eq _ _ _ _ _ (many c.args.self.now.names.items c.told.result.now told (omega (arith, c.as_slice-names.ensures.len))) (has_written_append _ _ _ _ _ _ first rest)

pub returns-else-all-gt-MOST_TOLD-clause-writes : goal.returns-else-all-gt-MOST_TOLD-clause-writes
returns-else-all-gt-MOST_TOLD-clause-writes g c plain ok =
    let told = c.told.ensures ∙ ap (take MOST_TOLD) c.as_slice-names.ensures.value in
    has_written_of_eq _ _ _ _ _ (few c.args.self.now.names.items c.told.result.now told (omega (arith, c.as_slice-names.ensures.len))) (c.in_ok-write.ensures.writes plain ok)
