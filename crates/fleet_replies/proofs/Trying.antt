-- Changes that were tried were made.
use Rattle.std.proofs.Common.{ℕ, ◌≡◌, List, [], ◌∷◌, Err, is_ok, ap, refl}
use Rattle.std.specs.Prelude.{All, IsOk}
use Rattle.std.specs.List.{AllZip}
use Rattle.std.proofs.lemmas.List.Elements.{All-cons, All-nil}
use Rattle.stage_graph.specs.Plain.{PlainGraph}
use Rattle.change_words.specs.declared.change.Change.{Change}
use Rattle.change_words.specs.declared.fault.MakingFault.{MakingFault}
use Rattle.change_words.specs.declared.fault.MakingFault.TheVariants.{Refused, NotOneTimeout, ListSize, Memory}
use Rattle.fleet_summary.specs.declared.facts.TraceFacts.{TraceFacts}
use Rattle.span_groups.specs.declared.grouping.Grouping.{Grouping}
use Rattle.fleet_tries.specs.Tried.{AreTriedFacts, made_of}
use Rattle.fleet_replies.specs.Replies.{IsTried}

module _ (graph : PlainGraph) (grouping : Grouping) (place : ℕ) (facts : TraceFacts) where
  pub all_made : (changes : List Change) (tried : List TraceFacts) → AllZip (IsTried graph grouping place facts) changes tried → All (λ (change : Change). IsOk (made_of graph grouping change)) changes
  all_made [] tried zip = All-nil (λ (change : Change). IsOk (made_of graph grouping change))
  all_made (change ∷ changes) [] zip = absurd zip
  all_made (change ∷ changes) (after ∷ tried) zip = All-cons (λ (change : Change). IsOk (made_of graph grouping change)) change changes (ap is_ok zip.0.1) (all_made changes tried zip.1)

  -- one that was not tried, while there was memory, is not made
  pub unmade : (change : Change) (fault : MakingFault) → ¬ (fault ≡ Memory) → AreTriedFacts graph grouping place facts change (Err fault) → made_of graph grouping change ≡ Err fault
  unmade change (Refused refused) other tried = tried
  unmade change (NotOneTimeout at count) other tried = tried
  unmade change ListSize other tried = tried
  unmade change Memory other tried = absurd (other refl)
