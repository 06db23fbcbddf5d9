use Rattle.std.proofs.Common.{◌*◌}
use Rattle.std.proofs.lemmas.Slice.Zip.{AllZip-map}
use Rattle.std.proofs.lemmas.Result.{IfOk-weaker}
use Rattle.library_tests.proofs.runners.doubled.Goals as goal

pub returns : goal.returns
returns g c = IfOk-weaker c.run.result _ _ (λ results plain. AllZip-map (λ number. 2 * number) c.args.numbers.now results.items plain) c.run.ensures.results
