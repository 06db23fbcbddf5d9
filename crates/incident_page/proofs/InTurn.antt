-- What is written escaped, one text after the other.
use Rattle.std.proofs.Common.{◌≡◌, ℕ, List, ◌++◌, Option, Result, Ok, Err, refl, sym, ap, ◌∙◌, subst}
use Rattle.text_io.proofs.Writing.{both_pieces, none_yet, stops_in_next}
use Rattle.text_io.specs.declared.stopped.Stopped.{Stopped}
use Rattle.text_io.specs.Writes.{Writes}
use Rattle.incident_page.specs.Escaped.{escaped}
use Rattle.incident_page.proofs.Escaping.{escaped_append}

abbrev pub Ended : Type 0
Ended = Result (Unit {0}) Stopped

module _ {W : Type 0} (held : W → Option (List ℕ)) (failures : W → ℕ) where
  -- what is said of an error is said of a result that is this error
  pub ended : (a b : W) (r : Ended) (e fault : Stopped) (text : List ℕ) → r ≡ Err e → e ≡ fault → Writes held failures a b (Err fault) text → Writes held failures a b r text
  ended a b r e fault text is same wrote = subst (λ (r : Ended). Writes held failures a b r text) (sym (is ∙ ap (λ (e : Stopped). Err e) same)) wrote

  pub of_the_same : (a b : W) (r : Ended) (text same : List ℕ) → text ≡ same → Writes held failures a b r text → Writes held failures a b r same
  of_the_same a b r text same is wrote = subst (Writes held failures a b r) is wrote

  -- the first of two texts is not written to its end
  pub in_first : (a b : W) (fault : Stopped) (first second : List ℕ) → Writes held failures a b (Err fault) first → Writes held failures a b (Err fault) (first ++ second)
  in_first a b fault first second wrote =
      stops_in_next held failures a a b (Err fault) fault fault (first ++ second) (first ++ second) first second refl refl (none_yet held failures a (first ++ second)) refl wrote

  -- the first is written, and this is what becomes of the second
  pub in_second : (a b c : W) (x : Unit {0}) (r : Ended) (first second : List ℕ) → Writes held failures a b (Ok x) first → Writes held failures b c r second
      → Writes held failures a c r (first ++ second)
  in_second a b c x r first second one two = both_pieces held failures a b c r first first second one.ok one.counted refl two

  -- ---- the same of escaped texts, which are these

  pub stops_in_one : (a b : W) (r : Ended) (e fault : Stopped) (bytes one two : List ℕ) → r ≡ Err e → e ≡ fault → bytes ≡ one → Writes held failures a b (Err fault) (escaped bytes)
      → Writes held failures a b r (escaped (one ++ two))
  stops_in_one a b r e fault bytes one two is same are wrote =
      ended a b r e fault (escaped (one ++ two)) is same
      (subst (Writes held failures a b (Err fault)) (ap (λ (one : List ℕ). escaped one ++ escaped two) are ∙ sym (escaped_append one two)) (in_first a b fault (escaped bytes) (escaped two) wrote))

  pub ends_by_two : (a b c : W) (x : Unit {0}) (r : Ended) (bytes others one two : List ℕ) → bytes ≡ one → others ≡ two → Writes held failures a b (Ok x) (escaped bytes)
      → Writes held failures b c r (escaped others) → Writes held failures a c r (escaped (one ++ two))
  ends_by_two a b c x r bytes others one two are so first second =
      subst (Writes held failures a c r)
      (ap (λ (one : List ℕ). escaped one ++ escaped others) are ∙ ap (λ (two : List ℕ). escaped one ++ escaped two) so ∙ sym (escaped_append one two))
      (in_second a b c x r (escaped bytes) (escaped others) first second)

  -- a text that is another one, behind the first
  pub behind_one : (a b : W) (r : Ended) (one bytes two : List ℕ) → bytes ≡ two → Writes held failures a b r (escaped (one ++ bytes)) → Writes held failures a b r (escaped (one ++ two))
  behind_one a b r one bytes two are wrote = subst (λ (text : List ℕ). Writes held failures a b r (escaped (one ++ text))) are wrote

  -- ---- three texts

  pub stops_in_first : (a b : W) (r : Ended) (e fault : Stopped) (bytes one two three : List ℕ) → r ≡ Err e → e ≡ fault → bytes ≡ one → Writes held failures a b (Err fault) (escaped bytes)
      → Writes held failures a b r (escaped (one ++ two ++ three))
  stops_in_first a b r e fault bytes one two three is same are wrote =
      stops_in_one a b r e fault (one ++ two) (one ++ two) three is same refl (stops_in_one a b (Err fault) fault fault bytes one two refl refl are wrote)

  pub stops_in_second : (a b c : W) (x : Unit {0}) (r : Ended) (e fault : Stopped) (bytes others one two three : List ℕ) → r ≡ Err e → e ≡ fault → bytes ≡ one → others ≡ two
      → Writes held failures a b (Ok x) (escaped bytes) → Writes held failures b c (Err fault) (escaped others) → Writes held failures a c r (escaped (one ++ two ++ three))
  stops_in_second a b c x r e fault bytes others one two three is same are so first second =
      stops_in_one a c r e fault (one ++ two) (one ++ two) three is same refl (ends_by_two a b c x (Err fault) bytes others one two are so first second)

  pub ends_by_third : (a b c d : W) (x y : Unit {0}) (r : Ended) (bytes others last one two three : List ℕ) → bytes ≡ one → others ≡ two → last ≡ three
      → Writes held failures a b (Ok x) (escaped bytes) → Writes held failures b c (Ok y) (escaped others) → Writes held failures c d r (escaped last)
      → Writes held failures a d r (escaped (one ++ two ++ three))
  ends_by_third a b c d x y r bytes others last one two three are so then first second third =
      ends_by_two a c d y r (one ++ two) last (one ++ two) three refl then (ends_by_two a b c x (Ok y) bytes others one two are so first second) third
