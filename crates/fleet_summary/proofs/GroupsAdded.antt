-- What is counted of a group, added to a table of them.
use Rattle.std.proofs.Common.{ℕ, ◌≡◌, ◌+◌, ◌^◌, ◌<◌, Bool, true, false, cond, List, [], ◌∷◌, Option, Some, None, IfSome, length, get_or, take, sym, refl, ap, ◌∙◌, subst, arith}
use Rattle.std.specs.BTreeMap.{insert_entry, is_at}
use Rattle.std.specs.List.{AllByRecursion}
use Rattle.std.specs.List.Sorted.{IsStrictlySortedBy}
use Rattle.std.specs.Map.{keys_of, lookup, remove_entry, values_of}
use Rattle.std.specs.Option.{option_map_or}
use Rattle.std.specs.Ordering.{is_eq}
use Rattle.std.proofs.lemmas.List.Elements.{All-nil, recursion_from_All}
use Rattle.std.proofs.lemmas.List.Sums.{sum_by_more}
use Rattle.std.proofs.lemmas.Map.Views.{All-map-remove_entry, All-values-insert_entry, IfSome-lookup_from_All}
use Rattle.fleet_summary.specs.declared.facts.GroupFacts.{GroupFacts}
use Rattle.fleet_summary.specs.declared.group.GroupCounts.{GroupCounts}
use Rattle.fleet_summary.specs.Histogram.{capped}
use Rattle.fleet_summary.specs.GroupCounters.{GroupCounter, IsGroup, group_amount, group_facts_at}
use Rattle.fleet_summary.specs.Groups.{IsGroups, amount_of, facts_of}
use Rattle.fleet_summary.specs.Names.{name_cmp}
use Rattle.fleet_summary.proofs.Keys.{name_cmp-total}
use Rattle.fleet_summary.proofs.Tables.{IsPart, IsPart-all, IsPart-more, IsPart-none, read_at-added}

abbrev pub reads : GroupCounter → Option GroupCounts → ℕ
reads counter counts = option_map_or (λ own. group_amount own counter) counts 0

reads-fits : (counter : GroupCounter) (counts : Option GroupCounts) → IfSome counts IsGroup → reads counter counts < 2 ^ 64
reads-fits counter None is = omega arith
reads-fits counter (Some own) is = is.fits counter

pub amount_of-fits : (groups : List (List ℕ × GroupCounts)) (name : List ℕ) (counter : GroupCounter) → IsGroups groups → amount_of groups name counter < 2 ^ 64
amount_of-fits groups name counter is = reads-fits counter (lookup (is_at (name_cmp name)) groups) (IfSome-lookup_from_All IsGroup (is_at (name_cmp name)) groups is.each)

twice : {X : Type 0} (b : Bool) (x y z : X) → cond b x (cond b y z) ≡ cond b x z
twice true x y z = refl
twice false x y z = refl

-- after the group's counts were taken out, added to and put back
pub amount_of-added : (before between after : List (List ℕ × GroupCounts)) (name : List ℕ) (own put counts : GroupCounts) (counter : GroupCounter) → IsGroups before →
    ((other : List ℕ) → lookup (is_at (name_cmp other)) between ≡ cond (is_at (name_cmp name) other) None (lookup (is_at (name_cmp other)) before)) →
    ((other : List ℕ) → lookup (is_at (name_cmp other)) after ≡ cond (is_at (name_cmp name) other) (Some put) (lookup (is_at (name_cmp other)) between)) →
    group_amount own counter ≡ amount_of before name counter → group_amount put counter ≡ capped (group_amount own counter + group_amount counts counter) →
    (other : List ℕ) → amount_of after other counter ≡ capped (amount_of before other counter + cond (is_eq (name_cmp other name)) (group_amount counts counter) 0)
amount_of-added before between after name own put counts counter is taken set was sum =
    read_at-added name_cmp-total (reads counter) before after name (Some put) (group_amount counts counter)
    (sum ∙ ap (λ n. capped (n + group_amount counts counter)) was)
    (λ other. amount_of-fits before other counter is)
    (λ other. set other ∙ ap (cond (is_at (name_cmp name) other) (Some put)) (taken other) ∙ twice (is_at (name_cmp name) other) (Some put) None (lookup (is_at (name_cmp other)) before))

pub IsGroups-taken : (before after : List (List ℕ × GroupCounts)) (name : List ℕ) → IsGroups before → after ≡ remove_entry (is_at (name_cmp name)) before → IsStrictlySortedBy name_cmp (keys_of after) → IsGroups after
IsGroups-taken before after name is entries ordered = record {
  ordered = ordered;
  each = rw entries (All-map-remove_entry (is_at (name_cmp name)) (λ (e : List ℕ × GroupCounts). e.1) IsGroup before is.each);
}

pub IsGroups-put : (before after : List (List ℕ × GroupCounts)) (name : List ℕ) (put : GroupCounts) → IsGroups before → after ≡ insert_entry name_cmp before name put → IsStrictlySortedBy name_cmp (keys_of after) → IsGroup put → IsGroups after
IsGroups-put before after name put is entries ordered group = record {
  ordered = ordered;
  each = rw entries (All-values-insert_entry name_cmp name put IsGroup before is.each group);
}

pub IsGroups-none : IsGroups []
unfolding IsStrictlySortedBy
IsGroups-none = record { ordered = tt; each = All-nil IsGroup }

-- What was added of another table, and what is left of it, come to the whole.
pub record IsGroupsPart (before added now left : List (List ℕ × GroupCounts)) : Type 0 where
  pub whole : (counter : GroupCounter) → IsPart name_cmp (reads counter) (λ name. amount_of before name counter) (λ name. amount_of now name counter) added left
  pub some : AllByRecursion IsGroup (values_of left)
  pub groups : IsGroups now

pub IsGroupsPart-none : (before added left : List (List ℕ × GroupCounts)) → left ≡ added → IsGroups before → IsGroups added → IsGroupsPart before added before left
IsGroupsPart-none before added left is own groups = record {
  whole = λ counter. IsPart-none name_cmp (reads counter) (λ name. amount_of before name counter) added left is;
  some = subst (λ es. AllByRecursion IsGroup (values_of es)) (sym is) (recursion_from_All IsGroup (values_of added) groups.each);
  groups = own;
}

pub IsGroupsPart-some : (before added now left rest : List (List ℕ × GroupCounts)) (name : List ℕ) (counts : GroupCounts) → left ≡ (name, counts) ∷ rest → IsGroupsPart before added now left → 0 < counts.traces
IsGroupsPart-some before added now left rest name counts is part = (subst (λ es. AllByRecursion IsGroup (values_of es)) is part.some).0.some

pub IsGroupsPart-more : (before added now later left rest : List (List ℕ × GroupCounts)) (name : List ℕ) (counts : GroupCounts) → left ≡ (name, counts) ∷ rest → IsGroupsPart before added now left →
    ((other : List ℕ) (counter : GroupCounter) → amount_of later other counter ≡ capped (amount_of now other counter + cond (is_eq (name_cmp other name)) (group_amount counts counter) 0)) → IsGroups later → IsGroupsPart before added later rest
IsGroupsPart-more before added now later left rest name counts is part adds groups = record {
  whole = λ counter. IsPart-more name_cmp (reads counter) (λ other. amount_of before other counter) (λ other. amount_of now other counter) (λ other. amount_of later other counter) added left rest name counts is (part.whole counter) (λ other. adds other counter);
  some = (subst (λ es. AllByRecursion IsGroup (values_of es)) is part.some).1;
  groups = groups;
}

pub IsGroupsPart-all : (before added now left : List (List ℕ × GroupCounts)) → left ≡ [] → IsGroupsPart before added now left → IsGroups added →
    (name : List ℕ) (counter : GroupCounter) → amount_of now name counter ≡ capped (amount_of before name counter + amount_of added name counter)
IsGroupsPart-all before added now left none part is name counter =
    IsPart-all name_cmp-total (reads counter) refl (λ other. amount_of before other counter) (λ other. amount_of now other counter) added left none (part.whole counter) is.ordered (λ other. amount_of-fits now other counter part.groups) name

-- what the groups of a trace add, one after another
abbrev pub IsFactsPart : ℕ → List GroupFacts → List (List ℕ × GroupCounts) → List (List ℕ × GroupCounts) → ℕ → Type 0
IsFactsPart time facts before now index = (name : List ℕ) (counter : GroupCounter) → amount_of now name counter ≡ capped (amount_of before name counter + facts_of time (take index facts) name counter)

pub IsFactsPart-none : (time : ℕ) (facts : List GroupFacts) (before : List (List ℕ × GroupCounts)) → IsGroups before → IsFactsPart time facts before before 0
IsFactsPart-none time facts before is name counter = omega (arith, amount_of-fits before name counter is)

cond-capped : (b : Bool) (before number : ℕ) → capped (before + cond b (capped number) 0) ≡ capped (before + cond b number 0)
cond-capped true before number = omega arith
cond-capped false before number = refl

pub IsFactsPart-more : (time : ℕ) (facts : List GroupFacts) (before now later : List (List ℕ × GroupCounts)) (index : ℕ) (group : GroupFacts) (counts : GroupCounts) → index < length facts → group ≡ get_or facts index group →
    ((counter : GroupCounter) → group_amount counts counter ≡ capped (group_facts_at time group counter)) → IsFactsPart time facts before now index →
    ((other : List ℕ) (counter : GroupCounter) → amount_of later other counter ≡ capped (amount_of now other counter + cond (is_eq (name_cmp other group.name)) (group_amount counts counter) 0)) → IsFactsPart time facts before later (index + 1)
IsFactsPart-more time facts before now later index group counts within there of part adds name counter =
    let weigh : GroupFacts → ℕ = λ own. cond (is_eq (name_cmp name own.name)) (group_facts_at time own counter) 0 in
    let more : facts_of time (take (index + 1) facts) name counter ≡ facts_of time (take index facts) name counter + weigh (get_or facts index group) = sum_by_more weigh facts index group within in
    let item : weigh (get_or facts index group) ≡ weigh group = ap weigh (sym there) in
    let before_it : amount_of now name counter ≡ capped (amount_of before name counter + facts_of time (take index facts) name counter) = part name counter in
    let after_it : amount_of later name counter ≡ capped (amount_of now name counter + weigh group) =
    adds name counter ∙ ap (λ n. capped (amount_of now name counter + cond (is_eq (name_cmp name group.name)) n 0)) (of counter) ∙ cond-capped (is_eq (name_cmp name group.name)) (amount_of now name counter) (group_facts_at time group counter) in
    omega (arith, more, item, before_it, after_it)
