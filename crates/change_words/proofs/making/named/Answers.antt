use Rattle.change_words.proofs.MakingLemmas.{lawful_from_sound}
use Rattle.change_words.proofs.making.named.Goals as goal

pub returns-clause-lawful : goal.returns-clause-lawful
returns-clause-lawful g c = lawful_from_sound c.args.graph.now.places _ c.stage.result c.stage.ensures.sound
