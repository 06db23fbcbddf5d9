-- What a call writes of a text to a sink: all of it if it ends well, and else what comes before the failure. The sink counts a failed write.
use Rattle.std.specs.Prelude.{◌≡◌, ℕ, ◌+◌, List, [], ◌∷◌, Option, Result, Ok, Err, OnOk, OnErr}
use Rattle.std.specs.Io.KnownBytes.{Appends}
use Rattle.text_io.specs.Sink.{AppendsBut, AppendsPrefix}
use Rattle.text_io.specs.declared.stopped.Stopped.{Stopped}
use Rattle.text_io.specs.declared.stopped.Stopped.TheVariants as stopped

-- what a line ends with
abbrev pub line_end : List ℕ
line_end = 10 ∷ []

-- the count of failed writes: one if a failed write ended the call
abbrev pub failures_in : Result (Unit {0}) Stopped → ℕ
failures_in (Ok done) = 0
failures_in (Err stopped.Write) = 1
failures_in (Err stopped.Memory) = 0

module _ {W : Type 0} (held : W → Option (List ℕ)) (failures : W → ℕ) (before after : W) where
  -- the text, or where the call fails a beginning of it
  pub record Writes (result : Result (Unit {0}) Stopped) (text : List ℕ) : Type 0 where
    pub ok : OnOk result (Appends (held before) (held after) text)
    pub err : OnErr result (AppendsPrefix (held before) (held after) text)
    pub counted : failures after ≡ failures before + failures_in result

  -- the text up to this rest of it, and nothing failed
  pub record WritesBut (rest text : List ℕ) : Type 0 where
    pub appended : AppendsBut rest (held before) (held after) text
    pub unfailed : failures after ≡ failures before
