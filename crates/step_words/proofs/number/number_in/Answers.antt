use Rattle.std.proofs.Common.{Ok, Err, sym}
use Rattle.step_words.proofs.Digits.{number_read}
use Rattle.step_words.proofs.number.number_in.Goals as goal

pub returns-in-Ok : goal.returns-in-Ok
returns-in-Ok c = number_read {E = Unit {0}} c.args.text.now (Ok c.in-Ok.number) (sym c.if-not-are_digits.ensures) c.in-Ok.ensures.value.0

pub returns-in-Err : goal.returns-in-Err
returns-in-Err c = number_read {E = Unit {0}} c.args.text.now (Err tt) (sym c.if-not-are_digits.ensures) c.in-Err.ensures.value.0
