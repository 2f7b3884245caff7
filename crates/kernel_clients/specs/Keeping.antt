-- What is found of a runtime's objects behind a stop.
use Rattle.std.specs.Prelude.{◌≡◌, ℕ, Ok, Err}
use Rattle.edge_disk.specs.MemoryDisk.{moments_of, reading_of}
use Rattle.edge_managers.specs.Managers.{counted_word, is_due}
use Rattle.command_open.specs.command_promises.Openings.{Managers}
use Rattle.kernel_core.specs.kernel_invariant.Beginnings.{Beginning, IsLegal}
use Rattle.kernel_core.specs.kernel_invariant.Left.{IsCutImage}
use Rattle.image_reading.specs.declared.image.ImageFacts.{ImageFacts}
use Rattle.image_reading.specs.image_blocks.Checks.{Bad}
use Rattle.image_reading.specs.plain_states.Plains.{cells_of}
use Rattle.log_reading.specs.declared.faults.ReadingFault.TheVariants.{Foreign}
use Rattle.kernel_clients.specs.declared.stopping.Found.{Found}

-- the answers of the managers that the program has
abbrev pub managers : Managers
managers = record { supply = counted_word; policy = is_due }

-- A CUT OF THE RUN IS FOUND: the history is a legal run, and the image that the stop left means the state after the part of it which the
-- greatest closed choice over its first k records cuts off, where these hold all that was acknowledged by the moment of the stop. What was read
-- is this state, entity by entity, and the image is never refused.
pub record FindsCut (b : Beginning) (f : Found) : Type 0 where
  pub legal : IsLegal b f.history.items
  pub image : IsCutImage b f.history.items f.marks.items (moments_of f.disk) f.stopped (reading_of f.left)
  pub objects : (facts : ImageFacts) → f.facts ≡ Ok facts → (x : ℕ) → cells_of counted_word facts.state x ≡ (image.state x).cell
  pub accepted : (bad : Bad) → f.facts ≡ Err (Foreign bad) → ⊥
