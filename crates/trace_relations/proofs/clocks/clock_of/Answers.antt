use Rattle.std.proofs.Common.{◌≡◌, ◌∙◌, ap, rules, subst, sym}
use Rattle.std.specs.Prelude.{string_bytes}
use Rattle.std.specs.HashMap.{get_by_text}
use Rattle.trace_relations.specs.Keys.{AreShort, key_of}
use Rattle.trace_relations.proofs.ClockFinding.{clock_found, clock_missed, known_found, known_more}
use Rattle.trace_relations.proofs.clocks.clock_of.Goals as goal

pub returns-in-Some-clause-found : goal.returns-in-Some-clause-found
returns-in-Some-clause-found c = λ before has at.
    let is : string_bytes c.push_texts.new.key ≡ key_of c.args.span.now.clock = search rules in
    let short : AreShort c.args.span.now.clock = subst AreShort c.parts.ensures c.in_ok-push_texts.ensures.short in
    clock_found c.args.known.now before c.args.span.now (string_bytes c.push_texts.new.key) c.in-Some.first.now c.args.place has short is (ap (get_by_text c.args.known.now) (sym c.as_str.ensures.value) ∙ sym c.in-Some.ensures.value)

pub returns-in-Some-clause-known : goal.returns-in-Some-clause-known
returns-in-Some-clause-known c = λ before has at.
    let is : string_bytes c.push_texts.new.key ≡ key_of c.args.span.now.clock = search rules in
    let short : AreShort c.args.span.now.clock = subst AreShort c.parts.ensures c.in_ok-push_texts.ensures.short in
    known_found c.args.known.now before c.args.span.now (string_bytes c.push_texts.new.key) c.in-Some.first.now has short is (ap (get_by_text c.args.known.now) (sym c.as_str.ensures.value) ∙ sym c.in-Some.ensures.value)

pub returns-clause-found : goal.returns-clause-found
returns-clause-found c = λ before has at.
    let is : string_bytes c.push_texts.new.key ≡ key_of c.args.span.now.clock = search rules in
    let short : AreShort c.args.span.now.clock = subst AreShort c.parts.ensures c.in_ok-push_texts.ensures.short in
    clock_missed c.args.known.now before c.args.span.now (string_bytes c.push_texts.new.key) c.args.place has short is (ap (get_by_text c.args.known.now) (sym c.as_str.ensures.value) ∙ sym c.in_default.ensures.value)

pub returns-clause-known : goal.returns-clause-known
returns-clause-known c = λ before has at.
    let is : string_bytes c.push_texts.new.key ≡ key_of c.args.span.now.clock = search rules in
    let short : AreShort c.args.span.now.clock = subst AreShort c.parts.ensures c.in_ok-push_texts.ensures.short in
    known_more c.args.known.now c.insert.new.self before c.args.span.now c.push_texts.new.key c.args.place has short is at (ap (get_by_text c.args.known.now) (sym c.as_str.ensures.value) ∙ sym c.in_default.ensures.value) c.in_ok-insert.ensures.updates
