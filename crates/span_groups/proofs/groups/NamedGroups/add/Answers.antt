use Rattle.std.proofs.Common.{◌≡◌, ◌∙◌, ◌++◌, ◌∷◌, [], ℕ, sym, subst, arith}
use Rattle.span_groups.specs.Grouping.{name_of}
use Rattle.span_groups.specs.Groups.{AreNumbers}
use Rattle.span_groups.proofs.Naming.{as_many, counted_more, counted_then, inhabited_more, inhabited_then, known_still, named_then, numbers_more, numbers_still, same_names}
use Rattle.span_groups.proofs.groups.NamedGroups.add.Goals as goal

pub returns : goal.returns
returns c names was =
    let known = c.args.self.now.known.entries in
    let groups = c.args.self.now.groups.items in
    let numbers = c.args.self.now.numbers.items in
    let name = c.args.name.now in
    let number = c.in_ok-number.number in
    let known_then = c.number_of.new.known.entries in
    let groups_then = c.number_of.new.groups.items in
    let groups_new = c.count_span.new.groups.items in
    let made = c.in_ok-number.ensures in
    let each_then : AreNumbers names groups_then numbers = numbers_still groups groups_then (named_then known groups groups_then name made.groups) names numbers was.numbers in
    let same : (k : ℕ) → name_of groups_new k ≡ name_of groups_then k = same_names groups_then groups_new name number made.number c.count_span.ensures in
    record {
      known = known_still known_then groups_then groups_new same made.known;
      counted = counted_more groups_then groups_new name number made.number c.count_span.ensures known_then made.known names
          (counted_then known groups groups_then name made.groups c.requires names numbers was.numbers was.counted)
          (let many = as_many groups names numbers was.numbers in omega (arith, many, c.len.ensures, c.args.self.now.numbers.ok.0));
      inhabited = inhabited_more groups_then groups_new name number made.number c.count_span.ensures (inhabited_then known groups groups_then name made.groups was.inhabited known_then made.known number made.number);
      numbers = subst (AreNumbers (names ++ name ∷ []) groups_new) (sym c.in_ok-push.ensures.items)
          (numbers_more groups_new names numbers name number (numbers_still groups_then groups_new (λ k other here. same k ∙ here) names numbers each_then) (same number ∙ made.number));
    }
