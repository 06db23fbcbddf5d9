use Rattle.std.proofs.Common.{◌∷◌, [], ap, codes, refl}
use Rattle.std.specs.Option.{option_map}
use Rattle.reply_rescue.specs.Ends.{twice}
use Rattle.report_rows.specs.declared.tried_change.TriedChange.TheVariants.{TwiceTheDelay}
use Rattle.report_rows.specs.Ends.{delay_in, end_text, set_at}
use Rattle.report_json.specs.Changes.{flag, tried_members}
use Rattle.report_json.specs.Json.{count, optional, text}
use Rattle.report_json.proofs.Pushed.{member_is, next_row, object_told, one_row}
use Rattle.report_json.proofs.changes.push_longer_end.Goals as goal

pub returns : goal.returns
returns c =
    let end = c.args.end.now in
    object_told
    ((codes "at", count (set_at end)) ∷ (codes "delay", optional count (delay_in end)) ∷ (codes "do", text (end_text end)) ∷ (codes "end", count c.args.index)
    ∷ (codes "kind", text (codes "twiceTheDelay")) ∷ (codes "longer", optional count (option_map twice (delay_in end))) ∷ (codes "only", flag c.args.is_only) ∷ [])
    refl c.end_object.result (tried_members (TwiceTheDelay c.args.index end c.args.is_only)) _ _ _ _ refl c.in_ok-begin_object.ensures
    (next_row _ _ _ _ _ _
    (next_row _ _ _ _ _ _
    (next_row _ _ _ _ _ _
    (next_row _ _ _ _ _ _
    (next_row _ _ _ _ _ _
    (next_row _ _ _ _ _ _
    (one_row _ _ _ _ (member_is _ _ _ _ _ (ap count c.set_at-at.ensures) c.in_ok-count.ensures))
    (member_is _ _ _ _ _ (ap (optional count) c.delay-delay.ensures) c.in_ok-optional_count.ensures))
    (member_is _ _ _ _ _ (ap text c.kind-kind.ensures) c.in_ok-text.ensures))
    c.in_ok-count-2.ensures)
    c.in_ok-text-2.ensures)
    (member_is _ _ _ _ _ (ap (optional count) c.longer-longer.ensures) c.in_ok-optional_count-2.ensures))
    c.in_ok-flag.ensures)
    c.end_object.ensures
