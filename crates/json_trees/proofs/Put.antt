-- What a look-up finds among members that were put in one after another.
use Rattle.std.proofs.Common.{◌≡◌, ℕ, List, [], ◌∷◌, Bool, true, false, cond, Option, Some, None, bytes_eq, true≢false, refl, sym, ap, ◌∙◌}
use Rattle.std.proofs.lemmas.Slice.Eq.{bytes_eq-Decides}
use Rattle.serde_json.specs.Data.{Data, Members, no_members, object, put}
use Rattle.serde_json.specs.Find.{get, get_member}
use Rattle.serde_json.proofs.Views.{get_member-put, get_member-put_other}
use Rattle.json_trees.specs.Named.{put_all, last_named}

after_put : (name k : List ℕ) (d : Data) (ms : Members) (same : Bool) → bytes_eq k name ≡ same → get_member name (put k d ms) ≡ cond same (Some d) (get_member name ms)
after_put name k d ms true e =
    let named : k ≡ name = (bytes_eq-Decides k name).0 e in
    ap (λ n. get_member n (put k d ms)) (sym named) ∙ get_member-put k d ms
after_put name k d ms false e = get_member-put_other name k d ms (λ same. true≢false (sym ((bytes_eq-Decides k name).1 (sym same)) ∙ e))

among : (name : List ℕ) (ps : List (List ℕ × Data)) (ms : Members) → get_member name (put_all ps ms) ≡ last_named name (get_member name ms) ps
among name [] ms = refl
among name (p ∷ ps) ms = among name ps (put p.0 p.1 ms) ∙ ap (λ o. last_named name o ps) (after_put name p.0 p.1 ms (bytes_eq p.0 name) refl)

pub get_last : (name : List ℕ) (d : Data) (ps : List (List ℕ × Data)) → d ≡ object (put_all ps no_members) → last_named name None ps ≡ get name d
get_last name d ps e = sym (ap (get name) e ∙ among name ps no_members)

pub one_more : (name k : List ℕ) (d : Data) (o : Option Data) (all ps : List (List ℕ × Data)) (same : Bool) → all ≡ (k, d) ∷ ps → bytes_eq k name ≡ same
    → last_named name (cond same (Some d) o) ps ≡ last_named name o all
one_more name k d o all ps same is e = ap (λ b. last_named name (cond b (Some d) o) ps) (sym e) ∙ ap (last_named name o) (sym is)
