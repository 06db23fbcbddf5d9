-- Members that are put one after the other.
use Rattle.std.proofs.Common.{ℕ, ◌≡◌, List, ap, ◌∙◌}
use Rattle.serde_json.specs.Data.{Data, Members, put}

-- one more member, whose value is known
pub put_more : (name : List ℕ) (d own : Data) (before after told : Members) → after ≡ put name d before → d ≡ own → before ≡ told → after ≡ put name own told
put_more name d own before after told is same so_far = is ∙ ap (λ (e : Data). put name e before) same ∙ ap (λ (ms : Members). put name own ms) so_far
