-- What was added to a line, token by token.
use Rattle.std.proofs.Common.{◌≡◌, ℕ, suc, ◌+◌, ◌^◌, ◌<◌, ◌≤◌, max, ℤ, pos, negsuc, List, [], ◌∷◌, ◌++◌, Option, None, Some, Result, Ok, Err, OnOk, FitsSigned, w64, codes, decimal, refl, sym, ap, ap₂, ◌∙◌, subst, append_assoc, append-nil, arith}
use Rattle.std.specs.Fmt.{signed_decimal}
use Rattle.std.specs.List.{AllByRecursion, flat_map}
use Rattle.std.specs.Prelude.{option_and_then, option_map}
use Rattle.json.specs.Json.{Json, if_last, value}
use Rattle.json.specs.Lex.{tokens}
use Rattle.json.specs.Print.{print}
use Rattle.json.specs.Token.{Token, begin_array, begin_object, end_array, end_object, key}
use Rattle.json.specs.Tree.{items_tokens, members_tokens, depth as json_depth, items_depth as json_items_depth, members_depth as json_members_depth}
use Rattle.json.proofs.Printed.Trees.{value-json_tokens}
use Rattle.serde_json.specs.Data as tree
use Rattle.serde_json.specs.Data.{Data, null, boolean, number, string, array, Items, no_items, item, Members, no_members, member, put, depth, items_depth, members_depth}
use Rattle.serde_json.specs.Find.{of_integer}
use Rattle.serde_json.specs.Read.{max_depth, of_items, of_json, of_members, read}
use Rattle.serde_json.specs.View.{items_of}
use Rattle.serde_json.specs.Written.{compact_text, items_outline, members_outline, outline}
use Rattle.serde_json.proofs.Numbers.{number_of-decimal, number_of-negative}
use Rattle.serde_json.proofs.Texts.{print-outline}
use Rattle.report_json.specs.Json.{NamedValues, at_line, count, list, object, with}
use Rattle.report_json.specs.Tokens.{ReadsBack, Tells, TellsItems, TellsMember, TellsRows, data_tokens, line_rows, members_in, rows_tokens}

-- ---- numbers

pub count_reads : (n : ℕ) → n < 2 ^ 64 → ReadsBack (count n)
count_reads n h = ap (option_map number) (number_of-decimal n h)

pub count_told : {E : Type 0} (r : Result (Unit {0}) E) (n : ℕ) (old new : List Token) → n < 2 ^ 64 → OnOk r (new ≡ old ++ Token.number (decimal n) ∷ []) → OnOk r (Tells (count n) old new)
count_told (Ok done) n old new h told = record { tokens = told; reads = count_reads n h }
count_told (Err fault) n old new h told = tt

integer_reads : (z : ℤ) → FitsSigned w64 z → ReadsBack (number (of_integer z))
integer_reads (pos n) h = ap (option_map number) (number_of-decimal n (omega (arith, h)))
integer_reads (negsuc n) h = ap (option_map number) (number_of-negative n (omega (arith, h)))

integer_tokens : (z : ℤ) → Token.number (signed_decimal z) ∷ [] ≡ data_tokens (number (of_integer z))
integer_tokens (pos n) = refl
integer_tokens (negsuc n) = refl

pub integer_told : {E : Type 0} (r : Result (Unit {0}) E) (z same : ℤ) (old new : List Token) → FitsSigned w64 z → same ≡ z → OnOk r (new ≡ old ++ Token.number (signed_decimal same) ∷ [])
    → OnOk r (Tells (number (of_integer z)) old new)
integer_told (Ok done) z same old new h is told = record { tokens = told ∙ ap (λ w. old ++ Token.number (signed_decimal w) ∷ []) is ∙ ap (λ l. old ++ l) (integer_tokens z); reads = integer_reads z h }
integer_told (Err fault) z same old new h is told = tt

-- ---- members

pub member_is : (name : List ℕ) (d e : Data) (old new : List Token) → d ≡ e → TellsMember name d old new → TellsMember name e old new
member_is name d e old new is told = record { tokens = told.tokens ∙ ap (λ x. old ++ key name ∷ data_tokens x) is; reads = rw (← is) told.reads }

pub named_told : (name : List ℕ) (d : Data) (old so_far new : List Token) → so_far ≡ old ++ key name ∷ [] → Tells d so_far new → TellsMember name d old new
named_told name d old so_far new named told = record {
  tokens = told.tokens ∙ ap (λ l. l ++ data_tokens d) named ∙ append_assoc old (key name ∷ []) (data_tokens d);
  reads = told.reads;
}

pub one_row : (name : List ℕ) (d : Data) (old new : List Token) → TellsMember name d old new → TellsRows ((name, d) ∷ []) old new
one_row name d old new told = record { tokens = told.tokens ∙ ap (λ l. old ++ key name ∷ l) (sym (append-nil (data_tokens d))); reads = (told.reads, tt) }

-- the only one, added by the call that is returned
pub only_row : {E : Type 0} (r : Result (Unit {0}) E) (name : List ℕ) (d e : Data) (old new : List Token) → d ≡ e → OnOk r (TellsMember name d old new)
    → OnOk r (TellsRows ((name, e) ∷ []) old new)
only_row (Ok done) name d e old new is told = one_row name e old new (member_is name d e old new is told)
only_row (Err fault) name d e old new is told = tt

rows_append : (xs ys : NamedValues) → rows_tokens (xs ++ ys) ≡ rows_tokens xs ++ rows_tokens ys
rows_append [] ys = refl
rows_append (x ∷ xs) ys = ap (λ l. (key x.0 ∷ data_tokens x.1) ++ l) (rows_append xs ys) ∙ sym (append_assoc (key x.0 ∷ data_tokens x.1) (rows_tokens xs) (rows_tokens ys))

all_read : (xs ys : NamedValues) → AllByRecursion (λ m. ReadsBack m.1) xs → AllByRecursion (λ m. ReadsBack m.1) ys → AllByRecursion (λ m. ReadsBack m.1) (xs ++ ys)
all_read [] ys h k = k
all_read (x ∷ xs) ys h k = (h.0, all_read xs ys h.1 k)

pub next_row : (rows : NamedValues) (name : List ℕ) (d : Data) (old so_far new : List Token) → TellsRows rows old so_far → TellsMember name d so_far new → TellsRows (rows ++ (name, d) ∷ []) old new
next_row rows name d old so_far new first then =
    let last : TellsRows ((name, d) ∷ []) so_far new = one_row name d so_far new then in record {
      tokens = last.tokens ∙ ap (λ l. l ++ rows_tokens ((name, d) ∷ [])) first.tokens ∙ append_assoc old (rows_tokens rows) (rows_tokens ((name, d) ∷ [])) ∙ ap (λ l. old ++ l) (sym (rows_append rows ((name, d) ∷ [])));
      reads = all_read rows ((name, d) ∷ []) first.reads last.reads;
    }

-- the same where that was the last to be added
pub last_row : {E : Type 0} (r : Result (Unit {0}) E) (rows : NamedValues) (name : List ℕ) (d e : Data) (old so_far new : List Token) → d ≡ e → TellsRows rows old so_far
    → OnOk r (TellsMember name d so_far new) → OnOk r (TellsRows (rows ++ (name, e) ∷ []) old new)
last_row (Ok done) rows name d e old so_far new is first then = next_row rows name e old so_far new first (member_is name d e so_far new is then)
last_row (Err fault) rows name d e old so_far new is first then = tt

-- the same where the data of the last one are added by the call that is returned
pub then_row : {E : Type 0} (r : Result (Unit {0}) E) (rows : NamedValues) (name : List ℕ) (d : Data) (old so_far named new : List Token) → TellsRows rows old so_far → named ≡ so_far ++ key name ∷ []
    → OnOk r (Tells d named new) → OnOk r (TellsRows (rows ++ (name, d) ∷ []) old new)
then_row (Ok done) rows name d old so_far named new first is told = next_row rows name d old so_far new first (named_told name d so_far named new is told)
then_row (Err fault) rows name d old so_far named new first is told = tt

pub both_rows : (xs ys : NamedValues) (old so_far new : List Token) → TellsRows xs old so_far → TellsRows ys so_far new → TellsRows (xs ++ ys) old new
both_rows xs ys old so_far new first then = record {
  tokens =
      then.tokens ∙ ap (λ l. l ++ rows_tokens ys) first.tokens ∙ append_assoc old (rows_tokens xs) (rows_tokens ys)
      ∙ ap (λ l. old ++ l) (sym (rows_append xs ys));
  reads = all_read xs ys first.reads then.reads;
}

-- the same where the call that added the last ones is returned
pub then_rows : {E : Type 0} (r : Result (Unit {0}) E) (xs ys : NamedValues) (old so_far new : List Token) → TellsRows xs old so_far → OnOk r (TellsRows ys so_far new)
    → OnOk r (TellsRows (xs ++ ys) old new)
then_rows (Ok done) xs ys old so_far new first then = both_rows xs ys old so_far new first then
then_rows (Err fault) xs ys old so_far new first then = tt

pub no_rows_told : (old : List Token) → TellsRows [] old old
no_rows_told old = record { tokens = sym (append-nil old); reads = tt }

-- the number of the line, where there is one
pub number_told : {E : Type 0} (r : Result (Unit {0}) E) (line : Option ℕ) (amount : ℕ) (old new : List Token) → line ≡ Some amount
    → OnOk r (TellsMember (codes "line") (count amount) old new) → OnOk r (TellsRows (line_rows line) old new)
number_told (Ok done) line amount old new is told = rw is (one_row (codes "line") (count amount) old new told)
number_told (Err fault) line amount old new is told = tt

-- ---- objects

members_listed : (rows : NamedValues) → members_tokens (members_outline (members_in rows)) ≡ rows_tokens rows ++ end_object ∷ []
members_listed [] = refl
members_listed (row ∷ rows) = ap (λ l. key row.0 ∷ (data_tokens row.1 ++ l)) (members_listed rows) ∙ sym (append_assoc (key row.0 ∷ data_tokens row.1) (rows_tokens rows) (end_object ∷ []))

members_read : (rows : NamedValues) (found : Members) → AllByRecursion (λ m. ReadsBack m.1) rows → of_members (members_outline (members_in rows)) found ≡ Some (with found rows)
members_read [] found h = refl
members_read (row ∷ rows) found h = rw h.0 (members_read rows (put row.0 row.1 found) h.1)

module _ (rows : NamedValues) (sorted : with no_members rows ≡ members_in rows) where
  object_of : (ms : Members) (old one two three : List Token) → ms ≡ members_in rows
      → one ≡ old ++ begin_object ∷ [] → TellsRows rows one two → three ≡ two ++ end_object ∷ [] → Tells (tree.object ms) old three
  object_of ms old one two three is begun told ended = record {
    tokens =
        ended ∙ ap (λ l. l ++ end_object ∷ []) (told.tokens ∙ ap (λ l. l ++ rows_tokens rows) begun) ∙ in_a_row old (rows_tokens rows)
        ∙ ap (λ l. old ++ begin_object ∷ l) (sym (members_listed rows)) ∙ ap (λ ms. old ++ data_tokens (tree.object ms)) (sym is);
    reads =
        ap (λ ms. of_json (outline (tree.object ms))) is ∙ ap (option_map tree.object) (members_read rows no_members told.reads)
        ∙ ap (λ ms. Some (tree.object ms)) (sorted ∙ sym is);
  } where
    in_a_row : (old rows : List Token) → ((old ++ begin_object ∷ []) ++ rows) ++ end_object ∷ [] ≡ old ++ begin_object ∷ (rows ++ end_object ∷ [])
    in_a_row old rows = simp append_assoc

  -- the object of these members, in the order of their names
  pub object_told : {E : Type 0} (r : Result (Unit {0}) E) (named : NamedValues) (old one two three : List Token) → with no_members named ≡ members_in rows
      → one ≡ old ++ begin_object ∷ [] → TellsRows rows one two → OnOk r (three ≡ two ++ end_object ∷ []) → OnOk r (Tells (object named) old three)
  object_told (Ok done) named old one two three is begun told ended = object_of (with no_members named) old one two three is begun told ended
  object_told (Err fault) named old one two three is begun told ended = tt

-- the same with the number of the line that is answered, whose name is between those of two rows of others
pub report_told_between : {E : Type 0} (r : Result (Unit {0}) E) (line : Option ℕ) (named first last : NamedValues) (old one two three : List Token)
    → with no_members named ≡ members_in (first ++ last)
    → with no_members (first ++ last) ≡ members_in (first ++ last)
    → ((amount : ℕ) → put (codes "line") (count amount) (with no_members named) ≡ members_in (first ++ (codes "line", count amount) ∷ last))
    → ((amount : ℕ) → with no_members (first ++ (codes "line", count amount) ∷ last) ≡ members_in (first ++ (codes "line", count amount) ∷ last))
    → one ≡ old ++ begin_object ∷ [] → TellsRows (first ++ (line_rows line ++ last)) one two → OnOk r (three ≡ two ++ end_object ∷ []) → OnOk r (Tells (at_line line (object named)) old three)
report_told_between (Err fault) line named first last old one two three is sorted stands stays begun told ended = tt
report_told_between (Ok done) None named first last old one two three is sorted stands stays begun told ended = object_of (first ++ last) sorted _ old one two three is begun told ended
report_told_between (Ok done) (Some amount) named first last old one two three is sorted stands stays begun told ended =
    object_of (first ++ (codes "line", count amount) ∷ last) (stays amount) _ old one two three (stands amount) begun told ended

-- the same where that name is before all others
pub report_told : {E : Type 0} (r : Result (Unit {0}) E) (line : Option ℕ) (named rows : NamedValues) (old one two three : List Token) → with no_members named ≡ members_in rows
    → with no_members rows ≡ members_in rows
    → ((amount : ℕ) → put (codes "line") (count amount) (with no_members named) ≡ members_in ((codes "line", count amount) ∷ rows))
    → ((amount : ℕ) → with no_members ((codes "line", count amount) ∷ rows) ≡ members_in ((codes "line", count amount) ∷ rows))
    → one ≡ old ++ begin_object ∷ [] → TellsRows (line_rows line ++ rows) one two → OnOk r (three ≡ two ++ end_object ∷ []) → OnOk r (Tells (at_line line (object named)) old three)
report_told r line named rows = report_told_between r line named [] rows

-- ---- lists

pub no_items_told : (old : List Token) → TellsItems [] old old
no_items_told old = record { tokens = sym (append-nil old); reads = tt }

data_append : (xs ys : List Data) → flat_map data_tokens (xs ++ ys) ≡ flat_map data_tokens xs ++ flat_map data_tokens ys
data_append [] ys = refl
data_append (x ∷ xs) ys = ap (λ l. data_tokens x ++ l) (data_append xs ys) ∙ sym (append_assoc (data_tokens x) (flat_map data_tokens xs) (flat_map data_tokens ys))

items_read : (xs ys : List Data) → AllByRecursion ReadsBack xs → AllByRecursion ReadsBack ys → AllByRecursion ReadsBack (xs ++ ys)
items_read [] ys h k = k
items_read (x ∷ xs) ys h k = (h.0, items_read xs ys h.1 k)

pub both_told : (xs ys : List Data) (old so_far new : List Token) → TellsItems xs old so_far → TellsItems ys so_far new → TellsItems (xs ++ ys) old new
both_told xs ys old so_far new first then = record {
  tokens =
      then.tokens ∙ ap (λ l. l ++ flat_map data_tokens ys) first.tokens ∙ append_assoc old (flat_map data_tokens xs) (flat_map data_tokens ys)
      ∙ ap (λ l. old ++ l) (sym (data_append xs ys));
  reads = items_read xs ys first.reads then.reads;
}

pub one_told : (d : Data) (old new : List Token) → Tells d old new → TellsItems (d ∷ []) old new
one_told d old new told = record { tokens = told.tokens ∙ ap (λ l. old ++ l) (sym (append-nil (data_tokens d))); reads = (told.reads, tt) }

pub begun_told : (old new : List Token) → new ≡ old → TellsItems [] old new
begun_told old new is = rw is (no_items_told old)

items_listed : (ds : List Data) → items_tokens (items_outline (items_of ds)) ≡ flat_map data_tokens ds ++ end_array ∷ []
items_listed [] = refl
items_listed (d ∷ ds) = ap (λ l. data_tokens d ++ l) (items_listed ds) ∙ sym (append_assoc (data_tokens d) (flat_map data_tokens ds) (end_array ∷ []))

items_made : (ds : List Data) → AllByRecursion ReadsBack ds → of_items (items_outline (items_of ds)) ≡ Some (items_of ds)
items_made [] h = refl
items_made (d ∷ ds) h = rw (h.0, items_made ds h.1) refl

list_of : (ds : List Data) (old one two three : List Token) → one ≡ old ++ begin_array ∷ [] → TellsItems ds one two → three ≡ two ++ end_array ∷ [] → Tells (list ds) old three
list_of ds old one two three begun told ended = record {
  tokens =
      ended ∙ ap (λ l. l ++ end_array ∷ []) (told.tokens ∙ ap (λ l. l ++ flat_map data_tokens ds) begun) ∙ in_a_row old (flat_map data_tokens ds)
      ∙ ap (λ l. old ++ begin_array ∷ l) (sym (items_listed ds));
  reads = ap (option_map array) (items_made ds told.reads);
} where
  in_a_row : (old items : List Token) → ((old ++ begin_array ∷ []) ++ items) ++ end_array ∷ [] ≡ old ++ begin_array ∷ (items ++ end_array ∷ [])
  in_a_row old items = simp append_assoc

-- the list of these items
pub list_told : {E : Type 0} (r : Result (Unit {0}) E) (ds same : List Data) (old one two three : List Token) → ds ≡ same → one ≡ old ++ begin_array ∷ [] → TellsItems ds one two
    → OnOk r (three ≡ two ++ end_array ∷ []) → OnOk r (Tells (list same) old three)
list_told (Ok done) ds same old one two three is begun told ended = subst (λ (items : List Data). Tells (list items) old three) is (list_of ds old one two three begun told ended)
list_told (Err fault) ds same old one two three is begun told ended = tt

-- ---- the line of an object, and what is read of it

mutual
  outline_depth : (d : Data) → json_depth (outline d) ≡ depth d
  outline_depth null = refl
  outline_depth (boolean b) = refl
  outline_depth (number n) = refl
  outline_depth (string s) = refl
  outline_depth (array ds) = ap suc (items_outline_depth ds)
  outline_depth (tree.object ms) = ap suc (members_outline_depth ms)

  items_outline_depth : (ds : Items) → json_items_depth (items_outline ds) ≡ items_depth ds
  items_outline_depth no_items = refl
  items_outline_depth (item d ds) = ap₂ max (outline_depth d) (items_outline_depth ds)

  members_outline_depth : (ms : Members) → json_members_depth (members_outline ms) ≡ members_depth ms
  members_outline_depth no_members = refl
  members_outline_depth (member name d ms) = ap₂ max (outline_depth d) (members_outline_depth ms)

-- what is read where this is found
abbrev whole : Option (Json × List Token) → Option Data
whole found = option_and_then of_json (option_and_then (λ p. if_last p.0 p.1) found)

pub text_of_told : (d : Data) (line : List Token) → Tells d [] line → print line ≡ compact_text d
text_of_told d line told = ap print told.tokens ∙ print-outline d

pub told_reads_back : (d : Data) (line : List Token) → Tells d [] line → tokens (print line) ≡ line → depth d ≤ max_depth → read (compact_text d) ≡ Some d
told_reads_back d line told same shallow =
    ap read (sym (text_of_told d line told))
    ∙ ap (λ found. whole (value max_depth found)) (same ∙ told.tokens ∙ sym (append-nil (data_tokens d)))
    ∙ ap whole (value-json_tokens (outline d) max_depth [] (let same_depth = outline_depth d in omega (arith, same_depth, shallow)))
    ∙ told.reads
