use Rattle.std.proofs.Common.{List, ℕ, Err, sym, ap, ◌∙◌, subst}
use Rattle.std.proofs.lemmas.Result.{err_from_is_err_and}
use Rattle.serde_json.specs.View.{view}
use Rattle.fleet_summary.specs.declared.group.GroupCounts.{GroupCounts}
use Rattle.fleet_text.specs.declared.read_fault.ReadFault.{ReadFault}
use Rattle.fleet_text.specs.Back.{IsReadAs}
use Rattle.fleet_text.proofs.ReadTables.{IsGroup-parts}
use Rattle.fleet_text.proofs.Said.{group_one}
use Rattle.fleet_text.proofs.reading_groups.group_in.Goals as goal

pub returns-in_err-histogram_of-4-clause-back : goal.returns-in_err-histogram_of-4-clause-back
returns-in_err-histogram_of-4-clause-back c group sound says =
    let p = err_from_is_err_and c.from_residual-in_err-histogram_of-4.result c.from_residual-in_err-histogram_of-4.ensures.1 in
    subst (λ r. IsReadAs {X = List ℕ × GroupCounts} r group) (sym (p.1 ∙ ap (λ (fault : ReadFault). Err fault) p.2)) (c.in_err-histogram_of-4.ensures.back group.1.times_then sound.times_then says.times_then)

pub returns-then-counts-gt0-clause-sound : goal.returns-then-counts-gt0-clause-sound
returns-then-counts-gt0-clause-sound c =
    IsGroup-parts _ c.if-counts-gt0.true c.in_ok-count_of.ensures.fits c.in_ok-count_of-2.ensures.fits c.in_ok-count_of-3.ensures.fits c.in_ok-count_of-4.ensures.fits
    c.in_ok-histogram_of.ensures.sound c.in_ok-histogram_of-2.ensures.sound c.in_ok-histogram_of-3.ensures.sound c.in_ok-histogram_of-4.ensures.sound

pub returns-then-counts-gt0-clause-back : goal.returns-then-counts-gt0-clause-back
returns-then-counts-gt0-clause-back c group sound says =
    group_one (view c.args.value.now) _ group
    (record {
      name = c.in_ok-name.ensures.said;
      traces = c.in_ok-count_of.ensures.said;
      spans = c.in_ok-count_of-2.ensures.said;
      paths = c.in_ok-count_of-3.ensures.said;
      sooner = c.in_ok-count_of-4.ensures.said;
      ran = c.in_ok-histogram_of.ensures.said;
      queued = c.in_ok-histogram_of-2.ensures.said;
      times = c.in_ok-histogram_of-3.ensures.said;
      times_then = c.in_ok-histogram_of-4.ensures.said;
    }) says
