-- How the written text grows.
use Rattle.std.proofs.Common.{◌≡◌, ℕ, ◌-◌, List, [], ◌++◌, length, take, drop, refl, sym, ap, ◌∙◌, subst, append_assoc, append-nil, take-append-drop, Option}
use Rattle.std.specs.Io.KnownBytes.{Appends, Keeps}
use Rattle.std.proofs.KnownBytes.{Appends-nil, Appends-trans, Appends-kept}
use Rattle.std.proofs.lemmas.List.{take_rest}
use Rattle.text_io.specs.Sink.{AppendsBut, AppendsPrefix, Advances, StopsShort}

pub nothing_yet : (held : Option (List ℕ)) (text : List ℕ) → AppendsBut text held held text
nothing_yet held text = record { written = []; appends = Appends-nil held; whole = refl }

pub AppendsPrefix-none : (held : Option (List ℕ)) (text : List ℕ) → AppendsPrefix held held text
AppendsPrefix-none held text = (text, nothing_yet held text)

-- one more piece from the front of the rest
pub AppendsBut-more : (a b c : Option (List ℕ)) (text rest piece : List ℕ) → AppendsBut (piece ++ rest) a b text → Appends b c piece → AppendsBut rest a c text
AppendsBut-more a b c text rest piece so_far here = record {
  written = so_far.written ++ piece;
  appends = Appends-trans a b c so_far.written piece so_far.appends here;
  whole = so_far.whole ∙ sym (append_assoc so_far.written piece rest);
}

-- nothing is left
pub Appends-from_all : (a b : Option (List ℕ)) (text rest : List ℕ) → AppendsBut rest a b text → rest ≡ [] → Appends a b text
Appends-from_all a b text rest so_far none =
    subst (Appends a b) (sym (so_far.whole ∙ ap (λ l. so_far.written ++ l) none ∙ append-nil so_far.written)) so_far.appends

-- a prefix of what comes next
pub AppendsPrefix-after : (a b c : Option (List ℕ)) (text more : List ℕ) → Appends a b text → AppendsPrefix b c more → AppendsPrefix a c (text ++ more)
AppendsPrefix-after a b c text more first (rest, next) = (
  rest,
  record {
    written = text ++ next.written;
    appends = Appends-trans a b c text next.written first next.appends;
    whole = ap (λ l. text ++ l) next.whole ∙ sym (append_assoc text next.written rest);
  },
)

-- a prefix of a longer text
pub AppendsPrefix-longer : (a b : Option (List ℕ)) (text more : List ℕ) → AppendsPrefix a b text → AppendsPrefix a b (text ++ more)
AppendsPrefix-longer a b text more (rest, so_far) = (
  rest ++ more,
  record {
    written = so_far.written;
    appends = so_far.appends;
    whole = ap (λ l. l ++ more) so_far.whole ∙ append_assoc so_far.written rest more;
  },
)

pub AppendsPrefix-from_all : (a b : Option (List ℕ)) (text : List ℕ) → Appends a b text → AppendsPrefix a b text
AppendsPrefix-from_all a b text all = ([], record { written = text; appends = all; whole = sym (append-nil text) })

-- the next bytes were taken from the front of the rest
pub AppendsBut-taken : (a b c : Option (List ℕ)) (text rest : List ℕ) (n : ℕ) → AppendsBut rest a b text → Appends b c (take n rest)
    → AppendsBut (take (length rest - n) (drop n rest)) a c text
AppendsBut-taken a b c text rest n so_far here =
    subst (λ l. AppendsBut l a c text) (sym (take_rest rest n))
    (AppendsBut-more a b c text (drop n rest) (take n rest) (subst (λ l. AppendsBut l a b text) (sym (take-append-drop n rest)) so_far) here)

module _ {X : Type 0} where
  -- one step after another
  pub Advances-trans : (f g h : X → List ℕ) (a b c : Option (List ℕ)) → Advances f g a b → Advances g h b c → Advances f h a c
  Advances-trans f g h a b c first next = record {
    written = first.written ++ next.written;
    appends = Appends-trans a b c _ _ first.appends next.appends;
    left = λ x. first.left x ∙ ap (λ l. first.written ++ l) (next.left x) ∙ sym (append_assoc first.written next.written (h x));
  }

  pub Advances-none : (f g : X → List ℕ) (a : Option (List ℕ)) → ((x : X) → f x ≡ g x) → Advances f g a a
  Advances-none f g a same = record { written = []; appends = Appends-nil a; left = same }

  -- the same, for another continuation
  pub Advances-at : {Y : Type 0} (f g : X → List ℕ) (h k : Y → List ℕ) (a b : Option (List ℕ)) (at : Y → X)
      → ((y : Y) → h y ≡ f (at y)) → ((y : Y) → g (at y) ≡ k y) → Advances f g a b → Advances h k a b
  Advances-at f g h k a b at before after step = record {
    written = step.written;
    appends = step.appends;
    left = λ y. before y ∙ step.left (at y) ∙ ap (λ l. step.written ++ l) (after y);
  }

  pub Advances-kept : (f g : X → List ℕ) (a b c : Option (List ℕ)) → Advances f g a b → Keeps b c → Advances f g a c
  Advances-kept f g a b c step kept = record { written = step.written; appends = Appends-kept a b c _ step.appends kept; left = step.left }

  pub StopsShort-after : (f g : X → List ℕ) (a b c : Option (List ℕ)) → Advances f g a b → StopsShort g b c → StopsShort f a c
  StopsShort-after f g a b c first stop x = subst (AppendsPrefix a c) (sym (first.left x)) (AppendsPrefix-after a b c first.written (g x) first.appends (stop x))

  pub StopsShort-at : {Y : Type 0} (f : X → List ℕ) (h : Y → List ℕ) (a b : Option (List ℕ)) (at : Y → X) → ((y : Y) → h y ≡ f (at y)) → StopsShort f a b → StopsShort h a b
  StopsShort-at f h a b at before stop y = subst (AppendsPrefix a b) (sym (before y)) (stop (at y))

  -- a failure after a step leaves a prefix of the whole written
  pub StopsShort-from_step : (f g : X → List ℕ) (a b : Option (List ℕ)) → Advances f g a b → StopsShort f a b
  StopsShort-from_step f g a b step x = (g x, record { written = step.written; appends = step.appends; whole = step.left x })
