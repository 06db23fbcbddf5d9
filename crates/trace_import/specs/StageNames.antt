-- The texts that name stages.
use Rattle.std.specs.Prelude.{ℕ, List, [], ◌++◌, codes, nat_lt, if◌then◌else◌, Option, Some, None, slice_get}
use Rattle.std.specs.Fmt.{decimal}
use Rattle.trace_stages.specs.declared.stage.StageName.{StageName}
use Rattle.trace_stages.specs.declared.stage.StageName.TheVariants.{Start, Whole, Join, Work, Tried, Limit, Answer}

abbrev pub text_or_none : Option (List ℕ) → List ℕ
text_or_none None = []
text_or_none (Some text) = text

-- the name of the span at a place
abbrev pub name_at : List (List ℕ) → ℕ → List ℕ
name_at names place = text_or_none (slice_get names place)

-- .join, .join-2, .join-3 ..
abbrev pub numbered : List ℕ → ℕ → List ℕ
numbered ending number = if nat_lt 1 number then ending ++ codes "-" ++ decimal number else ending

-- the span of a stage
abbrev pub place_of : StageName → ℕ
place_of (Whole place) = place
place_of (Start place) = place
place_of (Join place number) = place
place_of (Work place number) = place
place_of (Tried place) = place
place_of (Limit place) = place
place_of (Answer place) = place

-- what a stage has after the name of its span
abbrev pub ending_of : StageName → List ℕ
ending_of (Whole place) = []
ending_of (Start place) = codes ".start"
ending_of (Join place number) = numbered (codes ".join") number
ending_of (Work place number) = numbered (codes ".work") number
ending_of (Tried place) = codes ".tried"
ending_of (Limit place) = codes ".limit"
ending_of (Answer place) = codes ".answer"

-- NAME, NAME.start, or the name of another stage of NAME
abbrev pub stage_name : List (List ℕ) → StageName → List ℕ
stage_name names (Whole place) = name_at names place
stage_name names (Start place) = name_at names place ++ codes ".start"
stage_name names (Join place number) = name_at names place ++ numbered (codes ".join") number
stage_name names (Work place number) = name_at names place ++ numbered (codes ".work") number
stage_name names (Tried place) = name_at names place ++ codes ".tried"
stage_name names (Limit place) = name_at names place ++ codes ".limit"
stage_name names (Answer place) = name_at names place ++ codes ".answer"
