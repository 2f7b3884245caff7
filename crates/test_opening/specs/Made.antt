-- A kernel over an image in which nothing is stored.
use Rattle.std.specs.Prelude.{ℕ}
use Rattle.edge_disk.specs.declared.disk.Disk.{Ghosts}
use Rattle.table_opened.specs.model_kernel.Histories.{Policy}
use Rattle.table_opened.specs.model_kernel.State.{Supply, empty_state}
use Rattle.open_kernel.specs.kernel_core_facts.Kernels.{Held, Lives}
use Rattle.open_image.specs.kernel_laws.Opening.{empty_script}

-- THE KERNEL BEGINS WITH NOTHING: with each supply and policy it is live in the run of nobody that begins in the state of nothing, with so
-- many steps of each locus
abbrev pub GoesFromNothing : {D : Type 0} → Ghosts D → ℕ → Held D → Type 0
GoesFromNothing disks steps k = (since : ℕ) × ((s : Supply) (p : Policy) → Lives disks
    (record { supply = s; policy = p; script = empty_script steps; state = empty_state; since = since; first = disks.clock k.parts.store.disk }) k)
