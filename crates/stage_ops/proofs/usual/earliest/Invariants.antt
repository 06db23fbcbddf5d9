use Rattle.std.proofs.Common.{◌≡◌, ◌≤◌, ◌^◌, take}
use Rattle.std.specs.Prelude.{IfSome}
use Rattle.std.specs.Option.{option_map}
use Rattle.stage_ops.specs.States.{seen_at, state_at}
use Rattle.stage_ops.specs.Earliest.{earliest}
use Rattle.stage_ops.specs.Sources.{completed, moment_of}
use Rattle.stage_ops.specs.Usual.{as_source}
use Rattle.stage_ops.proofs.usual.earliest.Given as goal

abbrev pub invariant-loop-place : goal.invariant-loop-place
invariant-loop-place g l = record {
  source : earliest moment_of (completed (seen_at (state_at (g.L.Look.states l.look))) (take l.place-index l.places)) ≡ option_map as_source l.first;
  early : IfSome l.first (λ normal. normal.moment ≤ 2 ^ 62);
}
