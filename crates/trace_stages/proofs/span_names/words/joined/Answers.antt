use Rattle.std.proofs.Common.{◌≡◌, ◌+◌, ◌<◌, ◌∷◌, drop, true, false, get_or, length, not, subst, sym, ap, ◌∙◌}
use Rattle.std.specs.Prelude.{◌==◌, string_bytes}
use Rattle.std.specs.Str.{IsAscii}
use Rattle.std.proofs.lemmas.List.{at_drop_more}
use Rattle.trace_stages.specs.Words.{has_some, is_word_character, joined, with_letter}
use Rattle.trace_stages.proofs.WordJoining.{ascii_letter, below_128, joined_from, joined_letter, joined_none, joined_other, no_ascii, some_in}
use Rattle.trace_stages.proofs.span_names.words.joined.Goals as goal
use Rattle.trace_stages.proofs.span_names.words.joined.Goals.{then-is_word_character+in_ok-push_letter, else-is_word_character}

pub loop-byte-init : goal.loop-byte-init
loop-byte-init c = record {
  joins = joined_none c.args.text.now ∙ ap (λ words. joined_from words false c.args.text.now) (sym c.clear.ensures.bytes);
  ascii = no_ascii _ c.clear.ensures.bytes;
}

pub loop-byte-preserved : goal.loop-byte-preserved
loop-byte-preserved c =
    let text = c.args.text.now in
    let i = c.loop-byte.byte-index in
    let words = string_bytes c.loop-byte.words in
    let same = c.as_bytes-byte-items.ensures.value in
    let within : i < length text = subst (λ bytes. i < length bytes) same c.loop-byte-test.true in
    let next : joined text ≡ joined_from words c.loop-byte.is_apart (get_or text i 0 ∷ drop (i + 1) text) =
    c.loop-byte.invariant.joins ∙ at_drop_more (joined_from words c.loop-byte.is_apart) text i 0 within in
    let tells : is_word_character (get_or text i 0) ≡ c.is_word_character.result =
    ap (λ bytes. is_word_character (get_or bytes i 0)) (sym same) ∙ sym c.is_word_character.ensures in
    elim c.if-is_word_character.branch [
      | then-is_word_character+in_ok-push_letter w ↦
          let is : is_word_character (get_or text i 0) ≡ true = tells ∙ w.if-is_word_character.true in
          let new : string_bytes c.if-is_word_character.words ≡ with_letter words c.loop-byte.is_apart (get_or text i 0) =
          ap string_bytes w.words-is ∙ w.in_ok-push_letter.ensures ∙ ap (λ bytes. with_letter words c.loop-byte.is_apart (get_or bytes i 0)) same in
          record {
            joins = joined_letter text words _ c.loop-byte.is_apart (get_or text i 0) (drop (i + 1) text) next is new
                ∙ ap (λ b. joined_from (string_bytes c.if-is_word_character.words) b (drop (i + 1) text)) (sym w.is_apart-is);
            ascii = ascii_letter words _ c.loop-byte.is_apart (get_or text i 0) c.loop-byte.invariant.ascii (below_128 _ is) new;
          }
      | else-is_word_character w ↦
          let is : is_word_character (get_or text i 0) ≡ false = tells ∙ w.if-is_word_character.false in
          let apart : c.if-is_word_character.is_apart ≡ has_some words =
          w.is_apart-is ∙ ap not (w.is_empty-is_apart.ensures ∙ ap (λ those. length those == 0) w.as_str.ensures.value) ∙ some_in words in
          record {
            joins = joined_other text words c.loop-byte.is_apart _ (get_or text i 0) (drop (i + 1) text) next is apart
                ∙ ap (λ those. joined_from those c.if-is_word_character.is_apart (drop (i + 1) text)) (ap string_bytes (sym w.words-is));
            ascii = subst (λ those. IsAscii (string_bytes those)) (sym w.words-is) c.loop-byte.invariant.ascii;
          }
    ]
