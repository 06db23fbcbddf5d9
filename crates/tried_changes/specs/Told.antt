-- What is told of a trial.
use Rattle.std.specs.Prelude.{ℕ, List, [], ◌++◌, unwrap_or}
use Rattle.version_store.specs.Plain.{PlainVersion}
use Rattle.report_rows.specs.declared.comparison.Comparison.TheVariants as compared
use Rattle.report_rows.specs.declared.what.What.{What}
use Rattle.report_rows.specs.declared.what.What.TheVariants.{Change, Path}
use Rattle.report_form.specs.Told.{comparison_told, report_told}
use Rattle.report_form.specs.declared.form.Form.{Form}

abbrev pub told : Form → PlainVersion → What → List ℕ
told form version what = unwrap_or (report_told form version what) []

-- what became of the stage at a place; which stages moved, and which came to something else, against the version before; and its path
abbrev pub trial_text : Form → PlainVersion → PlainVersion → ℕ → List ℕ
trial_text form version before place =
    told form version (Change place) ++ comparison_told form compared.Drift version before
    ++ comparison_told form compared.Changes version before ++ told form version (Path place)
