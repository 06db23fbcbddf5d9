use Rattle.std.proofs.Common.{◌∙◌, Ok, Err, sym}
use Rattle.command_line.proofs.Percents.{hundredths_read}
use Rattle.command_line.proofs.percent.hundredths_of.Goals as goal

pub returns-in-Ok : goal.returns-in-Ok
returns-in-Ok c = c.within_most.ensures ∙ sym (hundredths_read {E = Unit {0}} c.args.digits.now (Ok c.in-Ok.number) (sym c.if-not-are_digits.ensures) c.in-Ok.ensures.value.0)

pub returns-in-Err : goal.returns-in-Err
returns-in-Err c = sym (hundredths_read {E = Unit {0}} c.args.digits.now (Err tt) (sym c.if-not-are_digits.ensures) c.in-Err.ensures.value.0)
