-- The words for the recordings to begin with.
use Rattle.std.specs.Prelude.{ℕ, List, codes}
use Rattle.recording_forms.specs.declared.form.Form.{Form}
use Rattle.recording_forms.specs.declared.form.Form.TheVariants.{First, Timeout, Timer, Retry, Fallback, Breaker, Cache, Queue, Race, Batch}

abbrev pub name_of : Form → List ℕ
name_of First = codes "first"
name_of Timeout = codes "timeout"
name_of Timer = codes "timer"
name_of Retry = codes "retry"
name_of Fallback = codes "fallback"
name_of Breaker = codes "breaker"
name_of Cache = codes "cache"
name_of Queue = codes "queue"
name_of Race = codes "race"
name_of Batch = codes "batch"
