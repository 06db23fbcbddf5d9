-- How faults of changes are printed.
use Rattle.std.specs.Prelude.{ℕ, List, ◌++◌, codes}
use Rattle.std.specs.Fmt.{decimal}
use Rattle.stage_graph.specs.Numbers.{refusal_number}
use Rattle.stage_graph.specs.Texts.{refusal_text}
use Rattle.change_words.specs.declared.fault.MakingFault.{MakingFault}
use Rattle.change_words.specs.declared.fault.MakingFault.TheVariants.{Refused, NotOneTimeout, ListSize, Memory}

abbrev pub making_number : MakingFault → ℕ
making_number (Refused refused) = refusal_number refused.refusal
making_number (NotOneTimeout at count) = 22
making_number ListSize = 21
making_number Memory = 90

-- as a list of edits is refused in a script
abbrev pub making_text : MakingFault → List ℕ
making_text (Refused refused) = codes "refused " ++ refusal_text refused.refusal ++ codes " in " ++ decimal refused.at
making_text (NotOneTimeout at count) = codes "refused 22 NotOneTimeout in " ++ decimal at
making_text ListSize = codes "refused 21 ListSize"
making_text Memory = codes "refused 90 Memory"
