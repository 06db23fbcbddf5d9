use Rattle.std.proofs.Common.{◌∙◌, Ok, Err, sym, ap}
use Rattle.change_words.specs.Numbers.{are_digits}
use Rattle.change_words.proofs.Digits.{signed_back, signed_read, signed_unread}
use Rattle.change_words.proofs.number.signed_of.Goals as goal

pub returns-then-not-are_digits : goal.returns-then-not-are_digits
returns-then-not-are_digits c = sym (signed_unread c.args.text.now (sym (c.if-not-are_digits.ensures ∙ ap are_digits c.without_minus.ensures)))

pub returns-in-Ok : goal.returns-in-Ok
returns-in-Ok c =
    let read = signed_read {E = Unit {0}} c.args.text.now (Ok c.in-Ok.number) (sym (c.if-not-are_digits.ensures ∙ ap are_digits c.without_minus.ensures)) c.in-Ok.ensures.value.0 in
    signed_back (Unit {0}) c.args.text.now c.in-Ok.number c.in-Ok.ensures.value.0 read

pub returns-in-Err : goal.returns-in-Err
returns-in-Err c = sym (signed_read {E = Unit {0}} c.args.text.now (Err tt) (sym (c.if-not-are_digits.ensures ∙ ap are_digits c.without_minus.ensures)) c.in-Err.ensures.value.0)
