-- The records of a Stable: where a kernel stands with those of the entities below a number.
use Rattle.std.specs.Prelude.{◌≡◌, ℕ, ◌+◌, ◌*◌, ◌<◌, ◌≤◌, if◌then◌else◌, filter, List, ◌++◌, length, nat_lt, None, Some}
use Rattle.edge_disk.specs.declared.disk.Disk.{Ghosts}
use Rattle.base_types.specs.Edges.{upto}
use Rattle.base_types.specs.declared.histories.Entry.{Entry}
use Rattle.image_facts.specs.model_kernel.Histories.{commits_of, has_changed}
use Rattle.image_facts.specs.model_kernel.State.{Supply}
use Rattle.table_steps.specs.table_laws.Tables.{AreClean}
use Rattle.kernel_book_laws.specs.kernel_record_facts.Cells.{words_on}
use Rattle.model_serial_turns.specs.model_serial.Serial.{first_snaps}
use Rattle.kernel_book_laws.specs.store_facts.State.{books}
use Rattle.kernel_book_laws.specs.kernel_laws.Going.{AreSnaps}
use Rattle.kernel_book_laws.specs.kernel_invariant.Beginnings.{Beginning, completed, run_of}
use Rattle.kernel_book_laws.specs.Matching.{newest_of, version_of}
use Rattle.kernel_commit_facts.specs.Parts.{Parts, StandsAs}
use Rattle.kernel_commit_facts.specs.Pieces.{CountsWithin}
use Rattle.kernel_commit_facts.specs.Steady.{IsSound, steps_to_come}

-- five kept records of the entities below the number, four of the others
abbrev pub most_at : ℕ → ℕ → ℕ
most_at i y = if nat_lt y i then 5 else 4

-- IN A RUN: the Snaps of the changed entities below the number stand behind the front, the first ones of an owed Stable, and it is owed still
pub record IsUnderway (b : Beginning) (actor i : ℕ) (front es : List Entry) : Type 0 where
  pub snaps : List Entry
  pub are : AreSnaps snaps
  pub made : ℕ
  pub first : snaps ≡ first_snaps made b.supply b.script (run_of b front)
  pub entries : es ≡ front ++ snaps
  pub owed : (run_of b es).owed ≡ Some actor
  pub untried : (run_of b es).tried ≡ None
  pub same_state : (run_of b es).state ≡ (run_of b front).state
  pub same_steps : (run_of b es).steps ≡ (run_of b front).steps
  pub commits : completed b es ≡ completed b front ++ commits_of (run_of b front) (filter (has_changed (run_of b front)) (upto i))

module _ {D : Type 0} (disks : Ghosts D) where
  -- WHATEVER THE DISK TELLS: those below the number have their newest record, the others are as they were
  pub record GoesThrough (i : ℕ) (old now : Parts D) : Type 0 where
    pub sound : IsSound disks (most_at i) now
    pub before : (y : ℕ) → y < i → newest_of now.cells y ≡ version_of now.cells y
    pub after : (y : ℕ) → i ≤ y → newest_of now.cells y ≡ newest_of old.cells y
    pub versions : (y : ℕ) → version_of now.cells y ≡ version_of old.cells y
    pub epoch : (books now.store).place.epoch ≤ (books old.store).place.epoch + i
    pub snaps : List Entry
    pub entries : now.noted.entries ≡ old.noted.entries ++ snaps
    pub more : List ℕ
    pub marks : now.noted.marks ≡ old.noted.marks ++ more
    pub few : (length snaps ≤ i) × (length more ≤ i)
    pub fewer_marks : length more ≤ length snaps
    pub room : now.noted.room ≡ old.noted.room
    pub to_come : steps_to_come now.cells ≤ steps_to_come old.cells
    pub clean : disks.tells → (s : Supply) → AreClean s (words_on (disks.reading old.store.disk)) old.cells → AreClean s (words_on (disks.reading now.store.disk)) now.cells
    pub counts : CountsWithin disks (i * 1556) old.store now.store

  pub record RunsThrough (b : Beginning) (actor i : ℕ) (old now : Parts D) : Type 0 where
    pub stands : StandsAs disks b now
    pub under : IsUnderway b actor i old.noted.entries now.noted.entries
