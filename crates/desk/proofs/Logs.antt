-- What a log has of one client.
use Rattle.std.proofs.Common.{◌≡◌, ◌≢◌, ℕ, ◌+◌, ◌-◌, ◌<◌, ◌≤◌, ◌==◌, true, List, [], ◌∷◌, ◌++◌, length, take, drop, get_or, refl, ap, sym, ◌∙◌, arith, eq-eqb}
use Rattle.std.proofs.lemmas.List.{append_cancel_left, take-append-drop, drop_more}
use Rattle.std.proofs.Math.Seq.{take-length}
use Rattle.std.proofs.lemmas.List.Elements.{filter-append}
use Rattle.session_core.specs.declared.event.Entry.{Entry}
use Rattle.desk.specs.Clients.{entries_of}

-- a list that is not empty is its first element and the others
pub head_rest : (xs : List Entry) (d : Entry) → 1 ≤ length xs → xs ≡ get_or xs 0 d ∷ take (length xs - 1) (drop 1 xs)
head_rest [] d some = absurd (omega (arith, some))
head_rest (x ∷ xs) d some =
    let n : length (x ∷ xs) - 1 ≡ length xs = omega arith in
    ap (λ (ys : List Entry). x ∷ ys) (sym (ap (λ (k : ℕ). take k xs) n ∙ take-length xs))

mine_first : (who : ℕ) (e : Entry) (es : List Entry) → e.who ≡ who → entries_of who (e ∷ es) ≡ e ∷ entries_of who es
mine_first who e es is = let test : (e.who == who) ≡ true = eq-eqb e.who who is in rw test refl

-- where the next entry is the client's, its entries go on with it
pub entries_go_on : (who : ℕ) (log : List Entry) (i : ℕ) (d : Entry) → i < length log → (get_or log i d).who ≡ who
    → entries_of who log ≡ entries_of who (take i log) ++ (get_or log i d ∷ entries_of who (drop (i + 1) log))
entries_go_on who log i d in_range is =
    ap (entries_of who) (sym (take-append-drop i log))
    ∙ (filter-append (λ (e : Entry). e.who == who) (take i log) (drop i log)
    ∙ ap (λ (es : List Entry). entries_of who (take i log) ++ es) (ap (entries_of who) (drop_more log i d in_range) ∙ mine_first who (get_or log i d) (drop (i + 1) log) is))

-- where the client's next call is not the log's next entry of it, the calls are not what the log has
pub disagrees : (who : ℕ) (log calls rest : List Entry) (i : ℕ) (d : Entry) → i < length log → (get_or log i d).who ≡ who
    → calls ≡ entries_of who (take i log) ++ rest → ((later : List Entry) → rest ≢ get_or log i d ∷ later) → calls ≢ entries_of who log
disagrees who log calls rest i d in_range is so_far other same =
    other (entries_of who (drop (i + 1) log))
    (append_cancel_left (entries_of who (take i log)) rest (get_or log i d ∷ entries_of who (drop (i + 1) log)) (sym so_far ∙ (same ∙ entries_go_on who log i d in_range is)))
