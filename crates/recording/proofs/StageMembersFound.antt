-- How the members of a stage are found in one walk.
use Rattle.std.proofs.Common.{◌≡◌, ℕ, List, Bool, true, false, codes, Some, None, true≢false, refl, sym, ap, ◌∙◌, if◌then◌else◌}
use Rattle.std.specs.Str.{bytes_eq}
use Rattle.std.proofs.lemmas.Slice.Eq.{bytes_eq-Decides}
use Rattle.serde_json.specs.Data.{Data, null, boolean, number, string, array, object, Members, no_members, put}
use Rattle.serde_json.specs.Find.{get_member, as_object}
use Rattle.serde_json.proofs.Views.{get_member-put, get_member-put_other}
use Rattle.recording.specs.StageMembers.{stage_members_of, stage_members_in, with_found}

after_put : (name k : List ℕ) (d : Data) (ms : Members) (same : Bool) → bytes_eq k name ≡ same → get_member name (put k d ms) ≡ (if same then Some d else get_member name ms)
after_put name k d ms true e = ap (λ n. get_member n (put k d ms)) (sym ((bytes_eq-Decides k name).0 e)) ∙ get_member-put k d ms
after_put name k d ms false e = get_member-put_other name k d ms (λ same. true≢false (sym ((bytes_eq-Decides k name).1 (sym same)) ∙ e))

got : (name k : List ℕ) (d : Data) (ms : Members) → get_member name (put k d ms) ≡ (if bytes_eq k name then Some d else get_member name ms)
got name k d ms = after_put name k d ms (bytes_eq k name) refl

-- one more member
pub stage_members_in-put : (k : List ℕ) (d : Data) (ms : Members) → stage_members_in (put k d ms) ≡ with_found k d (stage_members_in ms)
stage_members_in-put k d ms =
    rw (got (codes "name") k d ms, got (codes "op") k d ms, got (codes "value") k d ms, got (codes "throws") k d ms, got (codes "sources") k d ms, got (codes "inner") k d ms, got (codes "created") k d ms, got (codes "takes") k d ms, got (codes "queued") k d ms, got (codes "runs") k d ms, got (codes "action") k d ms, got (codes "pinResult") k d ms, got (codes "pinMoment") k d ms, got (codes "ends") k d ms)
    refl

-- what is no object has none
pub stage_members_of_none : (d : Data) → as_object d ≡ None → stage_members_in no_members ≡ stage_members_of d
stage_members_of_none null e = refl
stage_members_of_none (boolean b) e = refl
stage_members_of_none (number n) e = refl
stage_members_of_none (string s) e = refl
stage_members_of_none (array ds) e = refl
stage_members_of_none (object ms) e = absurd (cc)
