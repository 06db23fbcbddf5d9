use Rattle.std.proofs.Common.{◌∙◌, List, ℕ, Option, ap}
use Rattle.std.specs.Prelude.{map}
use Rattle.std.specs.Option.{option_and_then}
use Rattle.span_groups.specs.declared.grouping.Counted.{Counted}
use Rattle.span_groups.specs.Grouping.{counted_at}
use Rattle.span_groups.specs.Groups.{counted_as}
use Rattle.span_groups.specs.Numbered.{numbered}
use Rattle.span_groups.proofs.Naming.{all_counted, apart, each_grouped}
use Rattle.span_groups.proofs.making.grouping_of.Goals as goal

pub returns : goal.returns
returns c =
    let made = c.in_ok-made.made in
    let is = c.in_ok-made.ensures in
    let groups = made.groups.items in
    let numbers = made.numbers.items in
    record {
      apart = apart made.known.entries groups is.known;
      counted = is.counted;
      inhabited = is.inhabited;
      each = each_grouped groups c.args.names.now numbers is.numbers;
      stages_are = λ place.
          ap (λ (stages : List (Option Counted)). option_and_then (counted_as groups) (counted_at stages place))
          (c.in_ok-stages.ensures ∙ ap (λ (those : List ℕ). map (numbered those) c.args.stages.now) c.as_slice.ensures.value)
          ∙ all_counted groups c.args.names.now numbers is.numbers c.args.stages.now place;
    }
