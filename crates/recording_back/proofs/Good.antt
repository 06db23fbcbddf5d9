-- The JSON of a stage has numbers, is not nested too deep, and is read as the stage.
use Rattle.std.proofs.Common.{◌≡◌, ◌≤◌, ◌<◌, ◌^◌, ℕ, pos, negsuc, List, [], ◌∷◌, All, Some, decimal, refl, arith, w64, FitsSigned}
use Rattle.std.proofs.lemmas.List.Elements.{All-head, All-tail}
use Rattle.json.specs.Json as json
use Rattle.json.specs.Json.{Json}
use Rattle.json.specs.Print.{IsNumber}
use Rattle.json.specs.Tree as tree
use Rattle.json.specs.Tree.{HasNumbers, ItemsHaveNumbers}
use Rattle.json.proofs.Printed.Decimals.{IsNumber-decimal, IsNumber-signed_decimal}
use Rattle.serde_json.specs.Data.{Data, string, Items}
use Rattle.serde_json.specs.Read.{of_json, of_items}
use Rattle.serde_json.proofs.Numbers.{number_of-decimal, number_of-negative}
use Rattle.act_expr.specs.Expression.{Expression, depth, literal, argument, binary, conditional, is_null, failed, is_wrapped, cause_is, throw}
use Rattle.act_expr.specs.declared.outcome.Value.{Value}
use Rattle.act_expr.specs.declared.outcome.Value.TheVariants.{Null, Num as Long}
use Rattle.act_expr.specs.declared.outcome.Outcome.{Outcome}
use Rattle.act_expr.specs.declared.outcome.Outcome.TheVariants as outcome
use Rattle.act_expr.specs.declared.expr.Position.TheVariants.{First, Second}
use Rattle.stage_graph.specs.declared.end.Act.{Act}
use Rattle.stage_graph.specs.declared.end.Act.TheVariants.{Complete, CompleteExceptionally, Cancel, OrTimeout, CompleteOnTimeout}
use Rattle.stage_graph.specs.Checks.{delay_of}
use Rattle.recording.specs.Written.{written, IsWellFormed}
use Rattle.recording.specs.WrittenStages as forms
use Rattle.recording.specs.WrittenStages.{IsValue, IsOutcome, IsAct}
use Rattle.recording_text.specs.Json.{items_of, count, value_json, action_json, outcome_json, end_json}

-- the JSON has numbers for its numbers, is nested so deep at most, and is read as the value
pub record IsGood (most : ℕ) (j : Json) (d : Data) : Type 0 where
  pub numbers : HasNumbers j
  pub shallow : tree.depth j ≤ most
  pub read : of_json j ≡ Some d

pub good_deeper : (n m : ℕ) (j : Json) (d : Data) → n ≤ m → IsGood n j d → IsGood m j d
good_deeper n m j d le good = record { numbers = good.numbers; shallow = omega (arith, good.shallow); read = good.read }

pub string_good : (s : List ℕ) → IsGood 0 (json.string s) (string s)
string_good s = record { numbers = tt; shallow = omega arith; read = refl }

pub count_good : (n : ℕ) → n < 2 ^ 64 → IsGood 0 (count n) (forms.count n)
count_good n h = record { numbers = IsNumber-decimal n h; shallow = omega arith; read = rw (number_of-decimal n h) refl }

below : (n : ℕ) → FitsSigned w64 (pos n) → n < 2 ^ 63
below n h = omega (arith, h)

above : (n : ℕ) → FitsSigned w64 (negsuc n) → n < 2 ^ 63
above n h = omega (arith, h)

pub value_good : (v : Value) → IsValue v → IsGood 0 (value_json v) (forms.written_value v)
value_good Null h = record { numbers = tt; shallow = omega arith; read = refl }
value_good (Long (pos n)) h = record { numbers = IsNumber-signed_decimal (pos n) (below n h); shallow = omega arith; read = rw (number_of-decimal n (omega (arith, below n h))) refl }
value_good (Long (negsuc n)) h = record { numbers = IsNumber-signed_decimal (negsuc n) (above n h); shallow = omega arith; read = rw (number_of-negative n (above n h)) refl }

-- ---- actions

small : (n : ℕ) → n < 2 → IsNumber (decimal n)
small n h = IsNumber-decimal n (omega arith)

pub action_numbers : (e : Expression) → IsWellFormed e → HasNumbers (action_json e)
action_numbers (literal Null) h = tt
action_numbers (literal (Long (pos n))) h = IsNumber-signed_decimal (pos n) (below n h)
action_numbers (literal (Long (negsuc n))) h = IsNumber-signed_decimal (negsuc n) (above n h)
action_numbers (argument First) h = (tt, (small 0 (omega arith), tt))
action_numbers (argument Second) h = (tt, (small 1 (omega arith), tt))
action_numbers (binary op l r) h = (tt, (action_numbers l h.0, (action_numbers r h.1, tt)))
action_numbers (conditional c t e) h = (tt, (action_numbers c h.0, (action_numbers t h.1, (action_numbers e h.2, tt))))
action_numbers (is_null e) h = (tt, (action_numbers e h, tt))
action_numbers failed h = (tt, tt)
action_numbers is_wrapped h = (tt, tt)
action_numbers (cause_is x) h = (tt, (tt, tt))
action_numbers (throw x) h = (tt, (tt, tt))

pub action_shallow : (e : Expression) → tree.depth (action_json e) ≤ depth e
action_shallow (literal Null) = omega arith
action_shallow (literal (Long z)) = omega arith
action_shallow (argument p) = omega arith
action_shallow (binary op l r) = omega (arith, action_shallow l, action_shallow r)
action_shallow (conditional c t e) = omega (arith, action_shallow c, action_shallow t, action_shallow e)
action_shallow (is_null e) = omega (arith, action_shallow e)
action_shallow failed = omega arith
action_shallow is_wrapped = omega arith
action_shallow (cause_is x) = omega arith
action_shallow (throw x) = omega arith

pub action_read : (e : Expression) → IsWellFormed e → of_json (action_json e) ≡ Some (written e)
action_read (literal Null) h = refl
action_read (literal (Long (pos n))) h = rw (number_of-decimal n (omega (arith, below n h))) refl
action_read (literal (Long (negsuc n))) h = rw (number_of-negative n (above n h)) refl
action_read (argument First) h = rw (number_of-decimal 0 (omega arith)) refl
action_read (argument Second) h = rw (number_of-decimal 1 (omega arith)) refl
action_read (binary op l r) h = rw (action_read l h.0, action_read r h.1) refl
action_read (conditional c t e) h = rw (action_read c h.0, action_read t h.1, action_read e h.2) refl
action_read (is_null e) h = rw (action_read e h) refl
action_read failed h = refl
action_read is_wrapped h = refl
action_read (cause_is x) h = refl
action_read (throw x) h = refl

pub action_good : (e : Expression) → IsWellFormed e → IsGood (depth e) (action_json e) (written e)
action_good e h = record { numbers = action_numbers e h; shallow = action_shallow e; read = action_read e h }

-- ---- outcomes and ends

pub outcome_good : (o : Outcome) → IsOutcome o → IsGood 1 (outcome_json o) (forms.written_outcome o)
unfolding forms.members_of
outcome_good (outcome.Value v) h =
    let good = value_good v h in
    record { numbers = (good.numbers, tt); shallow = omega (arith, good.shallow); read = rw good.read refl }
outcome_good (outcome.Bare name) h = record { numbers = (tt, tt); shallow = omega arith; read = refl }
outcome_good (outcome.Wrapped name) h = record { numbers = (tt, tt); shallow = omega arith; read = refl }

pub end_good : (at : ℕ) (act : Act) → IsAct act → at < 2 ^ 64 → delay_of act < 2 ^ 64
    → IsGood 1 (end_json (record { at = at; act = act })) (forms.written_end (record { at = at; act = act }))
unfolding forms.members_of
end_good at (Complete v) h a d =
    let good = value_good v h in
    record { numbers = ((count_good at a).numbers, (tt, (good.numbers, tt))); shallow = omega (arith, good.shallow); read = rw ((count_good at a).read, good.read) refl }
end_good at (CompleteExceptionally name) h a d =
    record { numbers = ((count_good at a).numbers, (tt, (tt, tt))); shallow = omega arith; read = rw ((count_good at a).read) refl }
end_good at Cancel h a d =
    record { numbers = ((count_good at a).numbers, (tt, tt)); shallow = omega arith; read = rw ((count_good at a).read) refl }
end_good at (OrTimeout delay) h a d =
    record { numbers = ((count_good at a).numbers, (tt, ((count_good delay d).numbers, tt))); shallow = omega arith; read = rw ((count_good at a).read, (count_good delay d).read) refl }
end_good at (CompleteOnTimeout delay v) h a d =
    let good = value_good v h in
    record {
      numbers = ((count_good at a).numbers, (tt, ((count_good delay d).numbers, (good.numbers, tt))));
      shallow = omega (arith, good.shallow);
      read = rw ((count_good at a).read, (count_good delay d).read, good.read) refl;
    }

-- ---- lists

pub record AreGood (most : ℕ) (js : json.Items) (ds : Items) : Type 0 where
  pub numbers : ItemsHaveNumbers js
  pub shallow : tree.items_depth js ≤ most
  pub read : of_items js ≡ Some ds

pub items_good : {A : Type 0} (most : ℕ) (write : A → Json) (meant : A → Data) (list : List A) → All (λ a. IsGood most (write a) (meant a)) list
    → AreGood most (items_of write list) (forms.items_of meant list)
items_good most write meant [] h = record { numbers = tt; shallow = omega arith; read = refl }
items_good {A} most write meant (a ∷ rest) h =
    let first = All-head (λ (x : A). IsGood most (write x) (meant x)) a rest h in
    let others = items_good most write meant rest (All-tail (λ (x : A). IsGood most (write x) (meant x)) a rest h) in
    record { numbers = (first.numbers, others.numbers); shallow = omega (arith, first.shallow, others.shallow); read = rw (first.read, others.read) refl }

pub strings_good : (names : List (List ℕ)) → AreGood 0 (items_of json.string names) (forms.items_of string names)
strings_good [] = record { numbers = tt; shallow = omega arith; read = refl }
strings_good (name ∷ names) =
    let others = strings_good names in
    record { numbers = (tt, others.numbers); shallow = omega (arith, others.shallow); read = rw others.read refl }
