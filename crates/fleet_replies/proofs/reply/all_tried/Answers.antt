use Rattle.std.proofs.Common.{◌∙◌, Some, ap, sym, take}
use Rattle.std.specs.Option.{option_map}
use Rattle.std.proofs.lemmas.Option.{slice_get-get_or}
use Rattle.change_words.specs.declared.change.Change.{Change}
use Rattle.fleet_tries.specs.Tried.{made_of}
use Rattle.fleet_replies.specs.Replies.{IsTried}
use Rattle.fleet_replies.proofs.Trying.{all_made, unmade}
use Rattle.fleet_replies.proofs.Zips.{zip_next}
use Rattle.fleet_replies.proofs.reply.all_tried.Goals as goal

pub loop-number-preserved : goal.loop-number-preserved
loop-number-preserved g c =
    let graph = c.args.version.now.graph in
    let changes = c.args.changes.now in
    let change = c.index-changes-number.result in
    zip_next (IsTried graph c.args.grouping.now c.args.reply c.args.facts.now) c.loop-number.tried.items c.push.new.self.items changes c.loop-number.number c.in-Ok.after change
    c.loop-number-test.true c.index-changes-number.is c.in_ok-push-in-Ok.ensures.items c.in-Ok.ensures c.loop-number.invariant

pub returns-in_default : goal.returns-in_default
returns-in_default g c =
    let graph = c.args.version.now.graph in
    let grouping = c.args.grouping.now in
    let changes = c.args.changes.now in
    let facts = c.args.facts.now in
    let number = c.loop-number.number in
    let change = c.index-changes-number.result in
    record {
      here =
          ap (option_map (made_of graph grouping)) (slice_get-get_or changes number change c.loop-number-test.true)
          ∙ ap (λ (one : Change). Some (made_of graph grouping one)) (sym c.index-changes-number.is)
          ∙ ap Some (unmade graph grouping c.args.reply facts change c.in-Err.fault c.in_default.not-Memory c.in-Err.ensures);
      before = all_made graph grouping c.args.reply facts (take number changes) c.loop-number.tried.items c.loop-number.invariant;
    }
