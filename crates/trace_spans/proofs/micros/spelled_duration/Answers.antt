use Rattle.std.proofs.Common.{Some, None, lit<, sym, ap, ◌∙◌}
use Rattle.std.specs.Prelude.{option_map}
use Rattle.std.proofs.lemmas.Str.Pattern.{strip_prefix_char}
use Rattle.trace_spans.specs.Micros.{lasting}
use Rattle.trace_spans.proofs.Durations.{from_none}
use Rattle.trace_spans.proofs.micros.spelled_duration.Goals as goal

pub returns-in-Some-spelled-2 : goal.returns-in-Some-spelled-2
returns-in-Some-spelled-2 c =
    let none = strip_prefix_char 45 c.args.text.now None c.in-None.ensures.cases (lit< tt) in
    ap Some c.lasting.ensures ∙ ap (option_map lasting) c.in-Some-spelled-2.ensures ∙ sym (from_none c.args.text.now none)

pub returns-in-None-spelled-2 : goal.returns-in-None-spelled-2
returns-in-None-spelled-2 c =
    let none = strip_prefix_char 45 c.args.text.now None c.in-None.ensures.cases (lit< tt) in
    ap (option_map lasting) c.in-None-spelled-2.ensures ∙ sym (from_none c.args.text.now none)
