use Rattle.std.proofs.Common.{take}
use Rattle.fleet_summary.specs.Histogram.{IsHistogram}
use Rattle.fleet_text.specs.Says.{SaysEntry}
use Rattle.fleet_text.proofs.ReadLists.{AreSaid}
use Rattle.fleet_text.proofs.reading_histogram.histogram_in.Given as goal

abbrev pub invariant-loop-entry : goal.invariant-loop-entry
invariant-loop-entry l = record {
  sound : IsHistogram l.histogram;
  said : AreSaid SaysEntry (take l.entry-index l.entries) l.histogram;
}
