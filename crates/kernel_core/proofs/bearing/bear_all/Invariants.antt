use Rattle.std.proofs.Common.{◌≡◌, ◌≤◌}
use Rattle.script_types.specs.Scripts.{tables_of}
use Rattle.kernel_core_facts.specs.table_births.Births.{AreUnderWay, atlas_state_in, count_born}
use Rattle.kernel_core_facts.specs.kernel_invariant.Beginnings.{Beginning}
use Rattle.kernel_core_facts.specs.Bearing.{HasBorneSome, IsInBirths, RunsInBirths}
use Rattle.kernel_core.proofs.bearing.bear_all.Given as goal

abbrev pub invariant-loop : goal.invariant-loop
invariant-loop g l = record {
  in_births : IsInBirths g.D.Disk l.core;
  under_way : AreUnderWay (tables_of l.script) l.progress l.core.cells;
  count : l.counter ≤ count_born (atlas_state_in l.core.cells);
  made : HasBorneSome (tables_of l.script) l.fn.core l.core;
  run : g.D.Disk.tells → (b : Beginning) → b.script ≡ tables_of l.script → RunsInBirths g.D.Disk b l.fn.core
      → RunsInBirths g.D.Disk b l.core;
}
