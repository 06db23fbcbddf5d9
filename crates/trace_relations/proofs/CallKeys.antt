-- The keys of calls.
use Rattle.std.proofs.Common.{◌≡◌, ℕ, ◌<◌, ◌^◌, List, [], ◌++◌, Bool, true, false, length, Some, None, sym, ap, ◌∙◌, subst}
use Rattle.std.specs.Prelude.{option_and_then, slice_get}
use Rattle.std.specs.Fmt.{decimal}
use Rattle.std.proofs.lemmas.Bool.{cond-false, cond-true, true≢false}
use Rattle.std.proofs.lemmas.List.Elements.{All-cons}
use Rattle.std.proofs.lemmas.Option.{none-some, same_Some}
use Rattle.trace_spans.specs.declared.span.Span.{Span}
use Rattle.trace_relations.specs.Attempts.{CallsOf}
use Rattle.trace_relations.specs.Calls.{call_texts}
use Rattle.trace_relations.specs.GroupKeys.{IsShort, IsShortCall, call_key, group_key, is_failing, key_if_failing, key_with}
use Rattle.trace_relations.specs.Keys.{AreShort, key_of, measured}

-- the number of a caller, and what tells a call from others
pub key_is : (caller : ℕ) (span : Span) (first text between new number : List ℕ) → first ≡ [] → number ≡ decimal caller → text ≡ number → between ≡ first ++ measured text → new ≡ between ++ key_of (call_texts span) → new ≡ call_key caller span
key_is caller span first text between new number none number_is text_is one two = two ∙ ap (λ so_far. so_far ++ key_of (call_texts span)) (one ∙ ap (λ those. those ++ measured text) none ∙ ap measured (text_is ∙ number_is))

pub call_is_short : (caller : ℕ) (span : Span) (text : List ℕ) → caller < 2 ^ 64 → text ≡ decimal caller → length text < 2 ^ 64 → AreShort (call_texts span) → IsShortCall caller span
call_is_short caller span text low text_is short texts = record {
  number = low;
  texts = All-cons (λ each. length each < 2 ^ 64) (decimal caller) (call_texts span) (subst (λ each. length each < 2 ^ 64) text_is short) texts;
}

-- ---- the key of a call, if it has one

pub no_caller : (calls : CallsOf) (failing : List Bool) (place : ℕ) → calls.callers place ≡ None → None ≡ group_key calls failing place
no_caller calls failing place none = sym (ap (option_and_then (key_if_failing calls failing place)) none)

pub none_fails : (calls : CallsOf) (failing : List Bool) (place caller : ℕ) → calls.callers place ≡ Some caller → is_failing failing caller ≡ false → None ≡ group_key calls failing place
none_fails calls failing place caller is low = sym (ap (option_and_then (key_if_failing calls failing place)) is ∙ cond-false (is_failing failing caller) (key_with (slice_get calls.spans place) caller) None low)

pub no_span : (calls : CallsOf) (failing : List Bool) (place caller : ℕ) → calls.callers place ≡ Some caller → is_failing failing caller ≡ true → slice_get calls.spans place ≡ None → None ≡ group_key calls failing place
no_span calls failing place caller is fails none =
    sym (ap (option_and_then (key_if_failing calls failing place)) is ∙ cond-true (is_failing failing caller) (key_with (slice_get calls.spans place) caller) None fails ∙ ap (λ o. key_with o caller) none)

pub has_key : (calls : CallsOf) (failing : List Bool) (place caller : ℕ) (span : Span) (key : List ℕ) → calls.callers place ≡ Some caller → is_failing failing caller ≡ true → slice_get calls.spans place ≡ Some span → key ≡ call_key caller span → Some key ≡ group_key calls failing place
has_key calls failing place caller span key is fails there key_is =
    ap Some key_is
    ∙ sym (ap (option_and_then (key_if_failing calls failing place)) is ∙ cond-true (is_failing failing caller) (key_with (slice_get calls.spans place) caller) None fails ∙ ap (λ o. key_with o caller) there)

-- ---- those that have one are short

pub short_without_caller : (calls : CallsOf) (failing : List Bool) (place : ℕ) → calls.callers place ≡ None → IsShort calls failing place
short_without_caller calls failing place none = λ other span is fails there. absurd (none-some other (sym none ∙ is))

pub short_unless_failing : (calls : CallsOf) (failing : List Bool) (place caller : ℕ) → calls.callers place ≡ Some caller → is_failing failing caller ≡ false → IsShort calls failing place
short_unless_failing calls failing place caller is low = λ other span also fails there.
    let same : caller ≡ other = same_Some caller other (sym is ∙ also) in
    absurd (true≢false (sym fails ∙ sym (ap (is_failing failing) same) ∙ low))

pub short_without_span : (calls : CallsOf) (failing : List Bool) (place : ℕ) → slice_get calls.spans place ≡ None → IsShort calls failing place
short_without_span calls failing place none = λ other span is fails there. absurd (none-some span (sym none ∙ there))

pub short_call : (calls : CallsOf) (failing : List Bool) (place caller : ℕ) (span : Span) → calls.callers place ≡ Some caller → slice_get calls.spans place ≡ Some span → IsShortCall caller span → IsShort calls failing place
short_call calls failing place caller span is there short = λ other another also fails also_there.
    let same : caller ≡ other = same_Some caller other (sym is ∙ also) in
    let spans : span ≡ another = same_Some span another (sym there ∙ also_there) in
    subst (λ each. IsShortCall each another) same (subst (IsShortCall caller) spans short)
