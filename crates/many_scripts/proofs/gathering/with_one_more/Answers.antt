use Rattle.std.proofs.Common.{◌≡◌, [], ◌∷◌, ◌++◌, IsOkAnd}
use Rattle.many_scripts.proofs.GatheredMore.{ok_and}
use Rattle.many_scripts.proofs.gathering.with_one_more.Goals as goal

pub returns-clause-ok : goal.returns-clause-ok
returns-clause-ok g c =
    ok_and c.args.gathered c.in_ok-ended.ended
    (λ before. (c.add_client.new.clients.items ≡ before.clients.items ++ c.args.client ∷ []) × IsOkAnd c.args.text (λ told. c.add_client.new.output.items ≡ before.texts.items ++ told.items))
    c.in_ok-ended.was
    (c.in_ok-add_client.ensures.clients, ok_and c.args.text c.in_ok-text.text (λ told. c.add_client.new.output.items ≡ c.in_ok-ended.ended.texts.items ++ told.items) c.in_ok-text.was c.in_ok-add_client.ensures.output)
