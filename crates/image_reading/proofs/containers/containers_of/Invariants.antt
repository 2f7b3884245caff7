-- The containers so far are there.
use Rattle.std.proofs.Common.{◌≡◌, ◌<◌, ◌≤◌, ◌+◌, ℕ, length, slice_get}
use Rattle.std.specs.Prelude.{All}
use Rattle.edge_disk.specs.Image.{block_at}
use Rattle.plain_states.specs.Plains.{container_cell}
use Rattle.log_reading.specs.log_facts.Reads.{ReadsOnly}
use Rattle.image_shown_facts.specs.image_fits.Chosen.{parts_of}
use Rattle.image_shown_facts.specs.States.{IsCellOf, IsSparseContainer}
use Rattle.image_reading.proofs.containers.containers_of.Given as goal

abbrev pub ghost-container_at : goal.ghost-container_at
ghost-container_at g a = g.s

abbrev pub invariant-loop-place : goal.invariant-loop-place
invariant-loop-place g l =
    let disk = g.D.Disk in
    record {
      many : length l.containers.items ≡ l.place;
      cells : (i : ℕ) → i < l.place → IsCellOf disk.tells g.s (block_at (disk.reading l.fn.disk)) (i + 1) (parts_of l.entities (i + 1)) (container_cell g.s (slice_get l.containers.items i));
      sparse : All (IsSparseContainer g.s) l.containers.items;
      later : disk.faults l.fn.disk ≤ disk.faults l.disk;
      same : ReadsOnly disk l.fn.disk l.disk;
    }
