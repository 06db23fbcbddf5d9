-- The form of an answer.
use Rattle.std.specs.Prelude.{ℕ, Option}
use Rattle.report_form.specs.declared.form.Form.{Form}
use Rattle.report_form.specs.declared.form.Form.TheVariants as form
use Rattle.report_form.specs.declared.form.Format.{Format}
use Rattle.report_form.specs.declared.form.Format.TheVariants.{Text, Json}

-- what answers the line of this number of a script; None where there is no script
abbrev pub form_of : Format → Option ℕ → Form
form_of Text line = form.Text
form_of Json line = form.Json line
