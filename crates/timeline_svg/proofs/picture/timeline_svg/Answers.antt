use Rattle.std.proofs.Common.{◌∙◌, List, ℕ, ap}
use Rattle.timeline_svg.specs.Pictures.{picture}
use Rattle.timeline_svg.proofs.picture.timeline_svg.Goals as goal

pub returns : goal.returns
returns c = record {
  scale = c.in_ok-scale.scale;
  scaled = c.in_ok-scale.ensures;
  ticks = c.in_ok-ticks.ticks.items;
  axis = c.in_ok-ticks.ensures.axis;
  drawn = c.in_ok-text.ensures
      ∙ ap (λ (ticks : List ℕ). picture c.args.heading.now c.in_ok-scale.scale ticks c.args.rows.now c.args.path.now) c.as_slice.ensures.value;
}
