-- A text that has no space.
use Rattle.std.proofs.Common.{◌≡◌, ◌∙◌, ℕ, ◌+◌, List, [], length, refl, sym, ap, arith}
use Rattle.std.specs.List.{position_or_len}
use Rattle.std.specs.Str.{chars, trim, trim_end, trim_start}
use Rattle.std.proofs.lemmas.List.{drop_all, take_all}
use Rattle.step_words.specs.Cut.{first_word, is_space, other_words}

trim_nothing : trim [] ≡ []
unfolding trim_start trim_end chars
trim_nothing = refl

pub whole_word : (text : List ℕ) → position_or_len is_space text ≡ length text → text ≡ first_word text
whole_word text none = sym (take_all (position_or_len is_space text) text (omega (arith, none)))

pub no_others : (text : List ℕ) → position_or_len is_space text ≡ length text → [] ≡ other_words text
no_others text none = sym (ap trim (drop_all (position_or_len is_space text + 1) text (omega (arith, none))) ∙ trim_nothing)
