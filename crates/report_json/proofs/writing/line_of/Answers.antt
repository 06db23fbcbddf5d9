use Rattle.std.proofs.Common.{◌≡◌, ◌++◌, ℕ, List, ap, subst}
use Rattle.std.specs.Prelude.{IfOk}
use Rattle.json.specs.Token.{Token}
use Rattle.text_io.specs.Writes.{line_end}
use Rattle.report_json.specs.Heads.{object_of}
use Rattle.report_json.specs.Json.{at_line}
use Rattle.report_json.specs.Tokens.{Tells}
use Rattle.report_json.proofs.ExactReports.{report_shallow}
use Rattle.report_json.proofs.Listing.{on_ok}
use Rattle.report_json.proofs.Pushed.{text_of_told, told_reads_back}
use Rattle.report_json.proofs.writing.line_of.Goals as goal

pub returns-clause-line : goal.returns-clause-line
returns-clause-line g c =
    let told = subst (λ (before : List Token). Tells (at_line c.args.number (object_of c.args.said.now)) before c.push_said.new.line) c.new-line.ensures c.in_ok-push_said.ensures in
    subst (λ (text : List ℕ). IfOk c.ended.result (λ bytes. bytes.items ≡ text)) (ap (λ text. text ++ line_end) (text_of_told _ _ told)) c.ended.ensures.bytes

pub returns-clause-reads_back : goal.returns-clause-reads_back
returns-clause-reads_back g c =
    let told = subst (λ (before : List Token). Tells (at_line c.args.number (object_of c.args.said.now)) before c.push_said.new.line) c.new-line.ensures c.in_ok-push_said.ensures in
    on_ok c.ended.result (told_reads_back _ _ told c.ended.ensures.reads_back (report_shallow c.args.number c.args.said.now))
