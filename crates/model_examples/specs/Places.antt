-- What the worked runs begin from, and what the rules look at behind each entry, with its state named.
use Rattle.std.specs.Prelude.{◌==◌, ℕ, Some, if◌then◌else◌}
use Rattle.base_types.specs.declared.histories.Entry.{Entry}
use Rattle.model_run_laws.specs.model_kernel.Histories.{Run, after_snap, after_step, noting}
use Rattle.model_run_laws.specs.model_kernel.State.{AtlasCell, Cell, ContainerCell, ContainerState, KernelState, LocusCell, LocusState, NotBorn}
use Rattle.model_examples.specs.Snapshots.{one_container_one_locus, version_at}

abbrev pub cell_of : ContainerState → LocusState → ℕ → Cell
cell_of c l x = if x == 0 then AtlasCell one_container_one_locus else if x == 1 then ContainerCell c else if x == 41 then LocusCell l else NotBorn

-- the atlas at 2, a container and a locus at 1, each on record by itself
abbrev pub world : ContainerState → LocusState → KernelState
world c l = λ x. record { cell = cell_of c l x; version = version_at x; stamp = λ y. if x == y then version_at x else 0 }

-- behind a Step of this locus, which leaves this state
abbrev pub stepped : Run → Entry → LocusState → KernelState → Run
stepped r e l v = noting (after_step r e (Some l) v)

-- behind a Snap of this entity
abbrev pub snapped : Run → ℕ → Run
snapped r x = noting (after_snap r x)
