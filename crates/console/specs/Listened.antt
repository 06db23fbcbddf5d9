-- What a source that listens has left of its script, and how many of its reads failed.
use Rattle.std.specs.Prelude.{ℕ, Bool, List, length, slice_range, Option}
use Rattle.std.specs.Io.KnownBytes.{prepend_known}
use Rattle.text_io.specs.Counted.{read_failures, reader_of}
use Rattle.console.specs.Stopping.{has_stopped, unless_stopped}
use Rattle.console.specs.declared.listening.ListeningSource.{ListeningSource}

abbrev pub failed_reads : {R : Type 0} → ListeningSource R → ℕ
failed_reads listening = read_failures listening.reader

-- whether a refused step has ended the script
abbrev pub is_ended : {R : Type 0} → ListeningSource R → Bool
is_ended listening = has_stopped listening.teller

-- what was read of the script and is not given on yet
abbrev pub waiting : {R : Type 0} → ListeningSource R → List ℕ
waiting listening = slice_range listening.chunk.items listening.taken listening.filled

-- what is to be given on, where it is known: what waits, and then what the reader has left
abbrev pub script_left : {R : Type 0} → (R → Option (List ℕ)) → ListeningSource R → Option (List ℕ)
script_left remaining listening =
    unless_stopped listening.teller (length listening.chunk.items) (prepend_known (waiting listening) (remaining (reader_of listening.reader)))
