use Rattle.std.proofs.Common.{◌≡◌, ◌-◌, ◌≤◌, ◌++◌, List, length}
use Rattle.base_types.specs.declared.histories.Entry.{Entry}
use Rattle.plain_steps.specs.model_kernel.State.{KernelState}
use Rattle.script_types.specs.Scripts.{tables_of}
use Rattle.plain_runs.specs.Standing.{Stands}
use Rattle.plain_runs.proofs.plays.replay.Given as goal

abbrev pub ghost-next : goal.ghost-next
ghost-next g a = g.s

-- so many entries were made
abbrev pub invariant-loop-made : goal.invariant-loop-made
invariant-loop-made g l = record {
  few : l.made ≤ l.entries;
  stands : (w : KernelState) → (es : List Entry) → Stands g.s (tables_of l.fn.script) w l.fn.run es → (fs : List Entry) × (length fs ≡ l.made) × Stands g.s (tables_of l.fn.script) w l.run (es ++ fs);
}

abbrev pub decreases-loop-made : goal.decreases-loop-made
decreases-loop-made g l = l.entries - l.made
