-- The kernel that parts are.
use Rattle.std.specs.Prelude.{List, Option}
use Rattle.kernel_core_facts.specs.cell_states.declared.cells.Cell.{Cell}
use Rattle.kernel_core_facts.specs.kernel_commit_facts.Parts.{Noted, parts_of}
use Rattle.kernel_core_facts.specs.store_facts.State.{State}
use Rattle.kernel_core_facts.specs.Kernels.{Held}
use Rattle.kernel_core_facts.specs.kernel_invariant.declared.stopping.Stopped.{Stopped}

abbrev pub held_of : {D : Type 0} → State D → List Cell → Noted → Option Stopped → Held D
held_of store cells noted stop = record { parts = parts_of store cells noted; stop = stop }
