-- Lists that are of Zipkin's.
use Rattle.std.proofs.Common.{◌≡◌, List, Bool, true, false, cond, Option, Some, None, Result, refl, sym, ap, ◌∙◌}
use Rattle.std.specs.Prelude.{is_some, option_and_then}
use Rattle.std.proofs.lemmas.Bool.{false≢true}
use Rattle.serde_json.specs.Data.{Data, Items, no_items, item}
use Rattle.serde_json.specs.Find.{as_array}
use Rattle.trace_spans.specs.declared.fault.Fault.{Fault}
use Rattle.trace_spans.specs.declared.span.Span.{Span}
use Rattle.trace_spans.specs.Zipkin.{are_spans, list_told, zipkin_spans, zipkin_told}

by_test : {A : Type 0} (b : Bool) (x : A) → is_some (cond b (Some x) None) ≡ true → cond b (Some x) None ≡ Some x
by_test true x e = refl
by_test false x e = absurd (false≢true e)

listed : (ds : Items) → is_some (list_told ds) ≡ true → list_told ds ≡ Some (zipkin_spans ds)
listed no_items e = absurd (false≢true e)
listed (item d ds) e = by_test (are_spans (item d ds)) (zipkin_spans (item d ds)) e

-- what is told in a list
pub told_list : (text : Data) (ds : Items) → is_some (zipkin_told text) ≡ true → as_array text ≡ Some ds → zipkin_told text ≡ Some (zipkin_spans ds)
unfolding zipkin_told
told_list text ds e is = ap (option_and_then list_told) is ∙ listed ds (ap (λ o. is_some (option_and_then list_told o)) (sym is) ∙ e)

-- what is no such list
pub told_none : (told : Option (Result (List Span) Fault)) → is_some told ≡ false → told ≡ None
told_none None e = refl
told_none (Some told) e = absurd (false≢true (sym e))
