use Rattle.std.proofs.Common.{◌≡◌, ◌++◌, ◌≤◌, ℕ, List, Option, None, Some, ap, arith, subst}
use Rattle.std.specs.Prelude.{IfOk}
use Rattle.json.specs.Token.{Token}
use Rattle.serde_json.specs.Data.{depth}
use Rattle.serde_json.specs.Read.{max_depth}
use Rattle.text_io.specs.Writes.{line_end}
use Rattle.report_json.specs.Json.{at_line}
use Rattle.report_json.specs.Tokens.{Tells}
use Rattle.report_json.specs.Versions.{at_version_json}
use Rattle.report_json.proofs.Listing.{on_ok}
use Rattle.report_json.proofs.Pushed.{text_of_told, told_reads_back}
use Rattle.report_json.proofs.line_answers.at_version_line.Goals as goal

shallow : (number : Option ℕ) (reply : List ℕ) (version : ℕ) → depth (at_line number (at_version_json reply version)) ≤ max_depth
shallow None reply version = omega arith
shallow (Some line) reply version = omega arith

pub returns-clause-line : goal.returns-clause-line
returns-clause-line c =
    let told = subst (λ (before : List Token). Tells (at_line c.args.number (at_version_json c.args.reply.now c.args.version)) before c.push_at_version.new.line) c.new-line.ensures c.in_ok-push_at_version.ensures in
    subst (λ (text : List ℕ). IfOk c.ended.result (λ bytes. bytes.items ≡ text)) (ap (λ text. text ++ line_end) (text_of_told _ _ told)) c.ended.ensures.bytes

pub returns-clause-reads_back : goal.returns-clause-reads_back
returns-clause-reads_back c =
    let told = subst (λ (before : List Token). Tells (at_line c.args.number (at_version_json c.args.reply.now c.args.version)) before c.push_at_version.new.line) c.new-line.ensures c.in_ok-push_at_version.ensures in
    on_ok c.ended.result (told_reads_back _ _ told c.ended.ensures.reads_back (shallow c.args.number c.args.reply.now c.args.version))
