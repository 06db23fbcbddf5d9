use Rattle.std.proofs.Common.{sym, ap, ◌∙◌}
use Rattle.std.specs.Option.{option_copied}
use Rattle.scratch_eval.proofs.Querying.{follows_ranks}
use Rattle.scratch_eval.proofs.answers.Answers.state.Goals as goal

pub returns-in-Some-clause-soon : goal.returns-in-Some-clause-soon
returns-in-Some-clause-soon c = follows_ranks c.args.self.now c.args.place c.in-Some.answer.now (sym c.get.ensures ∙ ap option_copied c.in-Some.is)
