use Rattle.std.proofs.Common.{◌≡◌, ◌∙◌, None, ap, rules}
use Rattle.std.specs.Option.{option_to_list}
use Rattle.trace_relations.proofs.Pairing.{pair_none, pair_some}
use Rattle.trace_relations.proofs.clocks.pair_of.Goals as goal

pub returns-in_err-caller-clause-said : goal.returns-in_err-caller-clause-said
returns-in_err-caller-clause-said c = λ span is.
    let none : c.from_residual.result ≡ None = search rules in
    ap option_to_list none ∙ pair_none c.args.spans.now c.args.references.now c.args.place span c.requires.references is c.in_err-caller.ensures

pub returns-clause-said : goal.returns-clause-said
returns-clause-said c = λ span is. c.pair_at.ensures.said span is ∙ pair_some c.args.spans.now c.args.references.now c.args.place c.in_ok-caller.caller span c.requires.references is c.in_ok-caller.ensures
