use Rattle.std.proofs.Common.{ℕ, List, ◌==◌, ◌++◌, ◌∙◌, ap, length, sym}
use Rattle.json.specs.Json.{string}
use Rattle.recording_text.specs.Json.{list_tokens}
use Rattle.recording_text.proofs.Pushing.{some_pushed}
use Rattle.recording_text.proofs.members.push_named_list.Goals as goal

pub returns : goal.returns
returns c =
    some_pushed c.token-2.result string c.args.name.now c.args.names.now c.args.line.now c.key.new.self c.token.new.self c.push_each_name.new.line c.token-2.new.self
    (ap (λ (l : List (List ℕ)). length l == 0) (sym c.as_slice.ensures) ∙ sym c.is_empty.ensures ∙ c.if-is_empty.false) c.in_ok-key.ensures c.in_ok-token.ensures
    (c.in_ok-push_each_name.ensures ∙ ap (λ (l : List (List ℕ)). c.token.new.self ++ list_tokens string l) c.as_slice-2.ensures) c.token-2.ensures
