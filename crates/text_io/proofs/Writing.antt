-- What calls write of a text, one after the other.
use Rattle.std.proofs.Common.{◌≡◌, ℕ, ◌+◌, List, [], ◌++◌, Option, Result, Ok, Err, OnErr, refl, sym, ap, ◌∙◌, subst, append_assoc, append-nil, arith}
use Rattle.std.specs.Io.KnownBytes.{Appends}
use Rattle.std.proofs.KnownBytes.{Appends-trans}
use Rattle.text_io.specs.Sink.{AppendsBut, AppendsPrefix}
use Rattle.text_io.proofs.Written.{AppendsBut-more, AppendsPrefix-longer, AppendsPrefix-none, Appends-from_all, nothing_yet}
use Rattle.text_io.specs.declared.stopped.Stopped.{Stopped}
use Rattle.text_io.specs.declared.stopped.Stopped.TheVariants.{Memory, Write}
use Rattle.text_io.specs.Writes.{failures_in}
use Rattle.text_io.specs.Writes.{Writes, WritesBut}

-- a clause that is the same at every error
pub on_err : {T E P : Type 0} (r : Result T E) → P → OnErr r P
on_err (Ok x) p = tt
on_err (Err e) p = p

pub of_the_text : {T E : Type 0} (r : Result T E) (a b : Option (List ℕ)) (text same : List ℕ) → text ≡ same → OnErr r (AppendsPrefix a b text) → OnErr r (AppendsPrefix a b same)
of_the_text r a b text same is stop = subst (λ l. OnErr r (AppendsPrefix a b l)) is stop

abbrev pub Ended : Type 0
Ended = Result (Unit {0}) Stopped

module _ {W : Type 0} (held : W → Option (List ℕ)) (failures : W → ℕ) where
  -- what is said of a result is said of an equal one
  at : (a b : W) (r : Ended) (e fault : Stopped) (text : List ℕ) → r ≡ Err e → e ≡ fault → Writes held failures a b (Err fault) text → Writes held failures a b r text
  at a b r e fault text is same wrote = subst (λ (r : Ended). Writes held failures a b r text) (sym (is ∙ ap (λ (e : Stopped). Err e) same)) wrote

  -- ---- one call

  -- a write of all bytes
  pub wrote_all : (a b : W) (x : Unit {0}) (bytes text : List ℕ) → Appends (held a) (held b) bytes → failures b ≡ failures a + 0 → bytes ≡ text → Writes held failures a b (Ok x) text
  wrote_all a b x bytes text all same is = record { ok = subst (Appends (held a) (held b)) is all; err = tt; counted = same }

  -- a write that failed
  pub wrote_part : (a b : W) (r : Ended) (e : Stopped) (bytes text : List ℕ) → r ≡ Err e → e ≡ Write → AppendsPrefix (held a) (held b) bytes → failures b ≡ failures a + 1 → bytes ≡ text
      → Writes held failures a b r text
  wrote_part a b r e bytes text ended fault part more is =
      at a b r e Write text ended fault (record { ok = tt; err = subst (AppendsPrefix (held a) (held b)) is part; counted = more })

  -- memory ran out before anything was written
  pub wrote_none : (a : W) (r : Ended) (e : Stopped) (text : List ℕ) → r ≡ Err e → e ≡ Memory → Writes held failures a a r text
  wrote_none a r e text ended fault =
      let same : failures a ≡ failures a + 0 = omega arith in at a a r e Memory text ended fault (record { ok = tt; err = AppendsPrefix-none (held a) text; counted = same })

  -- a write of a first piece that failed
  pub wrote_first_part : (a b : W) (r : Ended) (e : Stopped) (bytes first second : List ℕ) → r ≡ Err e → e ≡ Write → AppendsPrefix (held a) (held b) bytes → failures b ≡ failures a + 1
      → bytes ≡ first → Writes held failures a b r (first ++ second)
  wrote_first_part a b r e bytes first second ended fault part more is =
      at a b r e Write (first ++ second) ended fault
      (record { ok = tt; err = AppendsPrefix-longer (held a) (held b) first second (subst (AppendsPrefix (held a) (held b)) is part); counted = more })

  -- ---- one after the other

  pub none_yet : (a : W) (text : List ℕ) → WritesBut held failures a a text text
  none_yet a text = record { appended = nothing_yet (held a) text; unfailed = refl }

  -- the next piece
  pub writes_next : (a b c : W) (x : Unit {0}) (text rest piece more : List ℕ) → WritesBut held failures a b rest text → rest ≡ piece ++ more → Writes held failures b c (Ok x) piece
      → WritesBut held failures a c more text
  writes_next a b c x text rest piece more so_far next here = record {
    appended = AppendsBut-more (held a) (held b) (held c) text more piece (subst (λ l. AppendsBut l (held a) (held b) text) next so_far.appended) here.ok;
    unfailed = let before = so_far.unfailed in let now = here.counted in omega (arith, before, now);
  }

  prefix : (a b c : W) (text rest piece more : List ℕ) → rest ≡ piece ++ more → AppendsBut rest (held a) (held b) text → AppendsPrefix (held b) (held c) piece → AppendsPrefix (held a) (held c) text
  prefix a b c text rest piece more next before (left, stop) = (
    left ++ more,
    record {
      written = before.written ++ stop.written;
      appends = Appends-trans (held a) (held b) (held c) before.written stop.written before.appends stop.appends;
      whole =
          before.whole ∙ ap (λ l. before.written ++ l) (next ∙ ap (λ l. l ++ more) stop.whole ∙ append_assoc stop.written left more)
          ∙ sym (append_assoc before.written stop.written (left ++ more));
    },
  )

  -- the next piece fails
  pub stops_in_next : (a b c : W) (r : Ended) (e fault : Stopped) (text rest piece more : List ℕ) → r ≡ Err e → e ≡ fault → WritesBut held failures a b rest text → rest ≡ piece ++ more
      → Writes held failures b c (Err fault) piece → Writes held failures a c r text
  stops_in_next a b c r e fault text rest piece more ended same so_far next here = at a c r e fault text ended same (record {
    ok = tt;
    err = prefix a b c text rest piece more next so_far.appended here.err;
    counted = here.counted ∙ ap (λ n. n + failures_in (Err fault)) so_far.unfailed;
  })

  -- nothing is left
  pub all_written : (a b : W) (x : Unit {0}) (text rest : List ℕ) → WritesBut held failures a b rest text → rest ≡ [] → Writes held failures a b (Ok x) text
  all_written a b x text rest so_far none =
      let before = so_far.unfailed in
      let same : failures b ≡ failures a + 0 = omega (arith, before) in
      record { ok = Appends-from_all (held a) (held b) text rest so_far.appended none; err = tt; counted = same }

  -- the last piece, whatever became of it
  pub last_piece : (a b c : W) (r : Ended) (text rest piece : List ℕ) → WritesBut held failures a b rest text → rest ≡ piece → Writes held failures b c r piece → Writes held failures a c r text
  last_piece a b c (Ok x) text rest piece so_far next here = all_written a c x text [] (writes_next a b c x text rest piece [] so_far (next ∙ sym (append-nil piece)) here) refl
  last_piece a b c (Err fault) text rest piece so_far next here = stops_in_next a b c (Err fault) fault fault text rest piece [] refl refl so_far (next ∙ sym (append-nil piece)) here

  -- one piece and then another one
  pub both_pieces : (a b c : W) (r : Ended) (bytes first second : List ℕ) → Appends (held a) (held b) bytes → failures b ≡ failures a + 0 → bytes ≡ first
      → Writes held failures b c r second → Writes held failures a c r (first ++ second)
  both_pieces a b c r bytes first second all same is here =
      let unfailed : failures b ≡ failures a = omega (arith, same) in
      let so_far : WritesBut held failures a b second (first ++ second) = record {
        appended = record { written = first; appends = subst (Appends (held a) (held b)) is all; whole = refl };
        unfailed = unfailed;
      } in
      last_piece a b c r (first ++ second) second second so_far refl here
