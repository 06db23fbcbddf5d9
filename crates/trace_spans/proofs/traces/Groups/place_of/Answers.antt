use Rattle.std.proofs.Common.{◌≡◌, Some, None, cond, refl, sym, ap, ◌∙◌}
use Rattle.std.specs.HashMap.{get_by_text}
use Rattle.std.specs.Str.{bytes_eq}
use Rattle.std.specs.String.{string_bytes}
use Rattle.std.proofs.lemmas.Map.Text.{hash_map_updates_text}
use Rattle.trace_spans.specs.Groups.{place_in}
use Rattle.trace_spans.specs.Traces.{ids_of}
use Rattle.trace_spans.proofs.Grouping.{begins, stays}
use Rattle.trace_spans.proofs.traces.Groups.place_of.Goals as goal

pub returns-in-Some : goal.returns-in-Some
returns-in-Some c = λ spans are.
    let id = c.args.trace.now in
    let at : place_in (ids_of spans) c.args.trace.now ≡ Some c.in-Some.place.now =
    sym (are.1 id) ∙ ap (get_by_text c.args.self.now.places) (sym c.in_ok-id.ensures.ok) ∙ sym c.in-Some.ensures.value in
    stays c.args.self.now (ids_of spans) spans id c.in-Some.place.now are at

pub returns : goal.returns
returns c = λ spans are.
    let id = c.args.trace.now in
    let none : place_in (ids_of spans) c.args.trace.now ≡ None =
    sym (are.1 id) ∙ ap (get_by_text c.args.self.now.places) (sym c.in_ok-id.ensures.ok) ∙ sym c.in_default.ensures.value in
    begins c.args.self.now (record { groups = c.push.new.self; places = c.insert.new.self }) spans id c.len-place.result are none
    (rw (c.in_ok-push.ensures.items, c.in_ok-new.ensures, c.new-2.ensures) refl)
    (λ other.
    hash_map_updates_text (string_bytes c.in_ok-id.id) c.args.self.now.places c.insert.new.self (Some c.len-place.result) c.in_ok-insert.ensures.updates other
    ∙ ap (λ bytes. cond (bytes_eq bytes other) (Some c.len-place.result) (get_by_text c.args.self.now.places other)) c.in_ok-id.ensures.ok)
    (c.len-place.ensures ∙ c.args.self.now.groups.ok.0)
