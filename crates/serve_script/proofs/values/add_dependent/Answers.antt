use Rattle.std.proofs.Common.{◌≡◌, OnOk, codes, option_copied, subst, sym}
use Rattle.serde_json.specs.Data.{put}
use Rattle.report_json.specs.Json.{text, with}
use Rattle.report_json.specs.Objects.{held}
use Rattle.serve_script.specs.Values.{dependent_members}
use Rattle.serve_script.proofs.values.add_dependent.Goals as goal

pub returns-in-InUse : goal.returns-in-InUse
returns-in-InUse g c =
    subst (λ refusal. OnOk c.text.result (held c.text.new.self ≡ with (held c.args.object.now) (dependent_members (option_copied c.args.base) c.args.event.now refusal))) (sym c.in-InUse.is)
    (subst (λ name. OnOk c.text.result (held c.text.new.self ≡ put (codes "dependent") (text name) (held c.args.object.now))) c.dependent_name.ensures c.text.ensures)
