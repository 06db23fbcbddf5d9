-- The lines that are left, and what was written of a text.
use Rattle.std.proofs.Common.{◌≡◌, ℕ, ◌+◌, ◌<◌, ◌≤◌, Bool, true, false, ◌||◌, List, ◌∷◌, ◌++◌, length, drop, drop-cons, add-one, Option, Some, None, Result, Ok, Err, OnOk, OnErr, refl, sym, ap, ◌∙◌, append_assoc, arith}
use Rattle.std.specs.Prelude.{is_some}
use Rattle.std.specs.Io.KnownBytes.{Appends}
use Rattle.std.proofs.KnownBytes.{Appends-trans}
use Rattle.text_io.specs.Sink.{AppendsBut, AppendsPrefix}
use Rattle.text_io.proofs.Written.{AppendsPrefix-after}
use Rattle.stage_graph.specs.declared.stage.Stage.{Stage}
use Rattle.stage_graph.specs.Plain.{stage_at}
use Rattle.recording_text.specs.Named.{named_among}
use Rattle.json.specs.Token.{Token}
use Rattle.recording_text.specs.Json.{list_tokens, stage_json}
use Rattle.recording_text.specs.Reports.{place_count, place_tokens}
use Rattle.recording_text.specs.Texts.{lines, place_text}

-- a clause that is the same at every error
pub on_err : {T E P : Type 0} (r : Result T E) → P → OnErr r P
on_err (Ok x) p = tt
on_err (Err e) p = p

-- ---- the lines of the places that are left

lines_here : (places rest : List (Option Stage)) (later : Bool) (here : Option Stage)
    → lines later (named_among places (here ∷ rest)) ≡ place_text places later here ++ lines (later || is_some here) (named_among places rest)
lines_here places rest true None = refl
lines_here places rest false None = refl
lines_here places rest true (Some stage) = refl
lines_here places rest false (Some stage) = refl

pub next_lines : (places : List (Option Stage)) (later next : Bool) (i : ℕ) → i < length places → next ≡ (later || is_some (stage_at places i))
    → lines later (named_among places (drop i places)) ≡ place_text places later (stage_at places i) ++ lines next (named_among places (drop (i + 1) places))
next_lines places later next i within is =
    ap (λ rest. lines later (named_among places rest)) (drop-cons places i None within ∙ ap (λ n. stage_at places i ∷ drop n places) (sym (add-one i)))
    ∙ lines_here places (drop (i + 1) places) later (stage_at places i)
    ∙ ap (λ b. place_text places later (stage_at places i) ++ lines b (named_among places (drop (i + 1) places))) (sym is)

-- ---- the stages that are left

count_here : (places rest : List (Option Stage)) (here : Option Stage) → length (named_among places (here ∷ rest)) ≡ place_count here + length (named_among places rest)
count_here places rest None = omega arith
count_here places rest (Some stage) = omega arith

next_rest : (places : List (Option Stage)) (i : ℕ) → i < length places → drop i places ≡ stage_at places i ∷ drop (i + 1) places
next_rest places i within = drop-cons places i None within ∙ ap (λ n. stage_at places i ∷ drop n places) (sym (add-one i))

pub next_count : (places : List (Option Stage)) (i : ℕ) → i < length places
    → length (named_among places (drop i places)) ≡ place_count (stage_at places i) + length (named_among places (drop (i + 1) places))
next_count places i within = ap (λ rest. length (named_among places rest)) (next_rest places i within) ∙ count_here places (drop (i + 1) places) (stage_at places i)

pub at_most_one : (here : Option Stage) → place_count here ≤ 1
at_most_one None = omega arith
at_most_one (Some stage) = omega arith

tokens_here : (places rest : List (Option Stage)) (here : Option Stage)
    → list_tokens stage_json (named_among places (here ∷ rest)) ≡ place_tokens places here ++ list_tokens stage_json (named_among places rest)
tokens_here places rest None = refl
tokens_here places rest (Some stage) = refl

-- the tokens of the next place are those that come next
pub next_tokens : (places : List (Option Stage)) (i : ℕ) (line next whole : List Token) → i < length places
    → line ++ list_tokens stage_json (named_among places (drop i places)) ≡ whole → next ≡ line ++ place_tokens places (stage_at places i)
    → next ++ list_tokens stage_json (named_among places (drop (i + 1) places)) ≡ whole
next_tokens places i line next whole within so_far is =
    ap (λ l. l ++ list_tokens stage_json (named_among places (drop (i + 1) places))) is
    ∙ append_assoc line (place_tokens places (stage_at places i)) (list_tokens stage_json (named_among places (drop (i + 1) places)))
    ∙ ap (λ l. line ++ l) (sym (ap (λ rest. list_tokens stage_json (named_among places rest)) (next_rest places i within) ∙ tokens_here places (drop (i + 1) places) (stage_at places i)))
    ∙ so_far

-- a prefix of the next piece
pub stops_in_next : (a b c : Option (List ℕ)) (text rest piece more : List ℕ) → AppendsBut rest a b text → rest ≡ piece ++ more → AppendsPrefix b c piece → AppendsPrefix a c text
stops_in_next a b c text rest piece more so_far next (left, here) = (
  left ++ more,
  record {
    written = so_far.written ++ here.written;
    appends = Appends-trans a b c _ _ so_far.appends here.appends;
    whole = so_far.whole ∙ ap (λ l. so_far.written ++ l) (next ∙ ap (λ l. l ++ more) here.whole ∙ append_assoc here.written left more) ∙ sym (append_assoc so_far.written here.written (left ++ more));
  },
)

-- the next piece
pub writes_on : (a b c : Option (List ℕ)) (text rest piece more : List ℕ) → AppendsBut rest a b text → rest ≡ piece ++ more → Appends b c piece → AppendsBut more a c text
writes_on a b c text rest piece more so_far next here = record {
  written = so_far.written ++ piece;
  appends = Appends-trans a b c _ _ so_far.appends here;
  whole = so_far.whole ∙ ap (λ l. so_far.written ++ l) next ∙ sym (append_assoc so_far.written piece more);
}

-- ---- a head, lines and an end

module _ {E : Type 0} (r : Result (Unit {0}) E) (a b c d : Option (List ℕ)) (head lines end : List ℕ) (first : Appends a b head) (second : Appends b c lines) where
  pub whole_written : OnOk r (Appends c d end) → OnOk r (Appends a d (head ++ lines ++ end))
  whole_written = go r
    where
      go : (s : Result (Unit {0}) E) → OnOk s (Appends c d end) → OnOk s (Appends a d (head ++ lines ++ end))
      go (Ok done) last = Appends-trans a c d (head ++ lines) end (Appends-trans a b c head lines first second) last
      go (Err fault) last = tt

  pub end_stopped : OnErr r (AppendsPrefix c d end) → OnErr r (AppendsPrefix a d (head ++ lines ++ end))
  end_stopped = go r
    where
      go : (s : Result (Unit {0}) E) → OnErr s (AppendsPrefix c d end) → OnErr s (AppendsPrefix a d (head ++ lines ++ end))
      go (Ok done) last = tt
      go (Err fault) last = AppendsPrefix-after a c d (head ++ lines) end (Appends-trans a b c head lines first second) last

-- ---- a head, and what comes after it

module _ {E : Type 0} (a b c : Option (List ℕ)) (head rest : List ℕ) (first : Appends a b head) where
  pub both_written : (r : Result (Unit {0}) E) → OnOk r (Appends b c rest) → OnOk r (Appends a c (head ++ rest))
  both_written (Ok done) then = Appends-trans a b c head rest first then
  both_written (Err fault) then = tt

  pub rest_stopped : (r : Result (Unit {0}) E) → OnErr r (AppendsPrefix b c rest) → OnErr r (AppendsPrefix a c (head ++ rest))
  rest_stopped (Ok done) then = tt
  rest_stopped (Err fault) then = AppendsPrefix-after a b c head rest first then
