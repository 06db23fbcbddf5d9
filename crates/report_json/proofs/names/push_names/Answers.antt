use Rattle.std.proofs.Common.{ap, refl}
use Rattle.std.specs.Prelude.{map}
use Rattle.std.proofs.lemmas.List.{take_all}
use Rattle.report_rows.specs.Names.{bytes_of}
use Rattle.report_json.specs.Json.{text}
use Rattle.report_json.proofs.Listing.{next_name}
use Rattle.report_json.proofs.Pushed.{begun_told, list_told}
use Rattle.report_json.proofs.names.push_names.Goals as goal

pub loop-name-init : goal.loop-name-init
loop-name-init c = begun_told _ _ c.in_ok-begin_list.ensures

pub loop-name-preserved : goal.loop-name-preserved
loop-name-preserved c =
    next_name c.args.names.now c.loop-name.name-index _ _ _ _ c.loop-name-test.true c.loop-name.invariant c.in_ok-string.ensures

pub returns : goal.returns
returns c =
    list_told c.end_list.result _ _ _ _ _ _ (ap (λ names. map text (bytes_of names)) (take_all c.loop-name.name-index c.args.names.now c.loop-name-test.false))
    refl c.loop-name.invariant c.end_list.ensures
