-- The limits that the tests of a sound stage imply.
use Rattle.std.proofs.Common.{ℕ, ◌≤◌, ◌^◌, ◌≡◌, Bool, true, false, ◌&&◌, List, [], ◌∷◌, length, Option, Some, None, refl, arith}
use Rattle.std.specs.Prelude.{All, nat_le}
use Rattle.std.specs.List.{list_all}
use Rattle.std.proofs.lemmas.Bool.{leb-true}
use Rattle.std.proofs.lemmas.List.Elements.{All-nil, All-cons}
use Rattle.stage_graph.specs.declared.end.End.{End}
use Rattle.stage_graph.specs.declared.stage.Stage.{Stage}
use Rattle.stage_graph.specs.Checks.{delay_of, is_tick, is_pin, is_end}
use Rattle.stage_ops.specs.Among.{IsSoundAmong, IsEarlyEnd, IsLimited}

both : (a b : Bool) → (a && b) ≡ true → (a ≡ true) × (b ≡ true)
both true b holds = (refl, holds)
both false b holds = cc

early_end : (end : End) → is_end end ≡ true → IsEarlyEnd end
early_end end holds =
    let parts = both (is_tick end.at) (is_tick (delay_of end.act)) holds in
    record { at = leb-true end.at (2 ^ 40) parts.0; delay = leb-true (delay_of end.act) (2 ^ 40) parts.1 }

early_ends : (ends : List End) → list_all is_end ends ≡ true → All IsEarlyEnd ends
early_ends [] holds = All-nil IsEarlyEnd
early_ends (end ∷ ends) holds =
    let parts = both (is_end end) (list_all is_end ends) holds in
    All-cons IsEarlyEnd end ends (early_end end parts.0) (early_ends ends parts.1)

early_pin : (pin : Option ℕ) → is_pin pin ≡ true → (moment : ℕ) → pin ≡ Some moment → moment ≤ 2 ^ 40
early_pin None holds moment is = cc
early_pin (Some pin) holds moment is = let early : pin ≤ 2 ^ 40 = leb-true pin (2 ^ 40) holds in let same : pin ≡ moment = cc in omega (arith, early, same)

pub limits : (count : ℕ) (stage : Stage) → IsSoundAmong count stage → IsLimited count stage
limits count stage sound = record {
  few_inner = leb-true (length stage.inner) 1024 sound.lawful.few_inner;
  feeds = sound.feeds;
  created = leb-true stage.created (2 ^ 40) sound.lawful.created;
  queued = leb-true stage.queued (2 ^ 40) sound.lawful.queued;
  runs = leb-true stage.runs (2 ^ 40) sound.lawful.runs;
  pinned = early_pin stage.pin_moment sound.lawful.pin;
  ends = early_ends stage.ends (both (nat_le (length stage.ends) 16) (list_all is_end stage.ends) sound.lawful.ends).1;
}
