use Rattle.std.proofs.Common.{◌≡◌, ◌-◌, ◌∙◌, ◌∷◌, refl, ap, sym, drop, length, take, get_or}
use Rattle.session_core.specs.declared.event.Entry.{Entry}
use Rattle.desk.proofs.Logs.{head_rest}
use Rattle.desk.proofs.client.rest_after.Goals as goal

pub returns-then-same : goal.returns-then-same
returns-then-same c =
    let calls = c.args.calls.now in
    let call = c.call-item.result in
    let first : get_or calls 0 call ≡ call = sym c.call-item.is in
    head_rest calls call c.in-len1-up.len_at_least ∙ ap (λ (e : Entry). e ∷ take (length calls - 1) (drop 1 calls)) (first ∙ c.if-same.ensures.0 refl)
