-- The exit status of what is told in place of an answer.
use Rattle.std.specs.Prelude.{ℕ}
use Rattle.clap.specs.declared.error.kind.ErrorKind.{ErrorKind}
use Rattle.clap.specs.declared.error.kind.ErrorKind.TheVariants.{DisplayHelp, DisplayVersion}

-- help and the version that were asked for are no mistake; all else is one of the command line
abbrev pub told_status : ErrorKind → ℕ
told_status DisplayHelp = 0
told_status DisplayVersion = 0
told_status _ = 2
