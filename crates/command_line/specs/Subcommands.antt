-- The words for what the program can be told to do.
use Rattle.std.specs.Prelude.{ℕ, List, codes}
use Rattle.command_line.specs.declared.subcommand.Subcommand.{Subcommand}
use Rattle.command_line.specs.declared.subcommand.Subcommand.TheVariants.{Report, Explain, Sweep, Slack, Rescue, Ends, Failures, Try, Compare, Draw, Page, Check, Serve, Console, Export, Many, Import, Fleet, New}

abbrev pub word_of : Subcommand → List ℕ
word_of Report = codes "report"
word_of Explain = codes "explain"
word_of Sweep = codes "sweep"
word_of Slack = codes "slack"
word_of Rescue = codes "rescue"
word_of Ends = codes "ends"
word_of Failures = codes "failures"
word_of Try = codes "try"
word_of Compare = codes "compare"
word_of Draw = codes "draw"
word_of Page = codes "page"
word_of Check = codes "check"
word_of Serve = codes "serve"
word_of Console = codes "console"
word_of Export = codes "export"
word_of Many = codes "many"
word_of Import = codes "import"
word_of Fleet = codes "fleet"
word_of New = codes "new"
