-- What is written one after the other.
use Rattle.std.proofs.Common.{ℕ, List, ◌++◌, Option, Result, Ok, Err, OnErr}
use Rattle.std.specs.Io.KnownBytes.{Appends}
use Rattle.text_io.specs.Sink.{AppendsPrefix}
use Rattle.std.proofs.KnownBytes.{Appends-trans}
use Rattle.text_io.proofs.Written.{AppendsPrefix-after, AppendsPrefix-longer}

-- a part of the first of four texts
pub in_first : (a b : Option (List ℕ)) (one two three four : List ℕ) → AppendsPrefix a b one → AppendsPrefix a b (one ++ two ++ three ++ four)
in_first a b one two three four first = AppendsPrefix-longer a b (one ++ two ++ three) four (AppendsPrefix-longer a b (one ++ two) three (AppendsPrefix-longer a b one two first))

-- a part of the second
pub in_second : (a b c : Option (List ℕ)) (one two three four : List ℕ) → Appends a b one → AppendsPrefix b c two → AppendsPrefix a c (one ++ two ++ three ++ four)
in_second a b c one two three four first second =
    AppendsPrefix-longer a c (one ++ two ++ three) four (AppendsPrefix-longer a c (one ++ two) three (AppendsPrefix-after a b c one two first second))

-- a part of the third
pub in_third : (a b c d : Option (List ℕ)) (one two three four : List ℕ) → Appends a b one → Appends b c two → AppendsPrefix c d three → AppendsPrefix a d (one ++ two ++ three ++ four)
in_third a b c d one two three four first second third =
    AppendsPrefix-longer a d (one ++ two ++ three) four (AppendsPrefix-after a c d (one ++ two) three (Appends-trans a b c one two first second) third)

-- a part of the fourth
pub in_fourth : {T E : Type 0} (r : Result T E) (a b c d e : Option (List ℕ)) (one two three four : List ℕ) → Appends a b one → Appends b c two → Appends c d three
    → OnErr r (AppendsPrefix d e four) → OnErr r (AppendsPrefix a e (one ++ two ++ three ++ four))
in_fourth (Ok x) a b c d e one two three four first second third fourth = tt
in_fourth (Err fault) a b c d e one two three four first second third fourth =
    AppendsPrefix-after a d e (one ++ two ++ three) four (Appends-trans a c d (one ++ two) three (Appends-trans a b c one two first second) third) fourth
