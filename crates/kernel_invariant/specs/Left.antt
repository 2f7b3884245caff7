-- What a stop leaves: an image that means the cut of commits which hold all that are acknowledged by then.
use Rattle.std.specs.Prelude.{◌≡◌, ◌≤◌, ◌<◌, ◌+◌, ◌-◌, ◌^◌, ℕ, List, [], ◌++◌, count_by, length, slice_get, Some, if◌then◌else◌, ◌∷◌, ◌⊎◌}
use Rattle.edge_disk.specs.declared.disk.Disk.{Ghosts}
use Rattle.edge_disk.specs.Image.{Image}
use Rattle.store_books.specs.base_types.declared.histories.Entry.{Entry}
use Rattle.model_sound_states.specs.model_kernel.Choices.{Commit, IsGreatest}
use Rattle.model_sound_states.specs.model_kernel.Histories.{event_of}
use Rattle.model_sound_states.specs.model_kernel.Parts.{after, part_of}
use Rattle.model_sound_states.specs.model_kernel.Scripts.{Script}
use Rattle.model_sound_states.specs.model_kernel.State.{KernelState, Supply}
use Rattle.store_books.specs.image_meaning.Meaning.{Means}
use Rattle.kernel_invariant.specs.Beginnings.{Beginning, completed, first_commits, with_tried}
use Rattle.kernel_invariant.specs.Marks.{completes}
use Rattle.kernel_invariant.specs.Records.{StoresCommits}

-- THE STATE THAT RECORDS MAKE: that of the part of the history which their greatest closed choice cuts off
pub record IsCutState (s : Supply) (script : Script) (w : KernelState) (es : List Entry) (cs : List Commit) (v : KernelState) : Type 0 where
  pub cut : ℕ → ℕ
  pub greatest : IsGreatest (λ x. (w x).version) cs cut
  pub state : v ≡ after (event_of s script) w (part_of cut es)

-- The first k commits hold those of the opened image, and all that are acknowledged by the moment t: those of each front whose entries'
-- marks, counted from the moment `since`, are at most t. The tried one is acknowledged by no moment. Marks tell of moments only while
-- the clock, which stands at `now`, is short of its end.
pub record HoldAcknowledged (b : Beginning) (es : List Entry) (marks : List ℕ) (now t k : ℕ) : Type 0 where
  pub opened : length (completed b []) ≤ k
  pub some : k ≤ length (with_tried b es)
  pub acknowledged : now < 2 ^ 64 - 1 → (fs gs : List Entry) → es ≡ fs ++ gs → ((i mark : ℕ) → i < count_by completes fs → slice_get marks i ≡ Some mark → b.since + mark ≤ t)
      → length (completed b fs) ≤ k

-- THE IMAGE IS A CUT of the history: it is accepted, and means the state after the part that the greatest closed choice over such
-- first commits makes.
pub record IsCutImage (b : Beginning) (es : List Entry) (marks : List ℕ) (now t : ℕ) (c : Image) : Type 0 where
  pub k : ℕ
  pub holds : HoldAcknowledged b es marks now t k
  pub state : KernelState
  pub cut : IsCutState b.supply b.script b.state es (first_commits b es k) state
  pub means : Means b.supply c state

-- A stop at any moment since the first left such an image.
abbrev pub LeavesCuts : {D : Type 0} → Beginning → Ghosts D → List Entry → List ℕ → D → Type 0
LeavesCuts b disks es marks disk = (t : ℕ) (c : Image) → b.first ≤ t → disks.left_since disk t c → IsCutImage b es marks (disks.clock disk) t c

-- ONE ENTRY MORE

-- the marks with that of an entry, if it completes commits
abbrev pub marks_with : List ℕ → Entry → ℕ → List ℕ
marks_with marks e m = if completes e then marks ++ m ∷ [] else marks

-- what a commit for the next entry leaves: the commits so far are stored, or those and the entry's, tried or made
abbrev pub StoresNext : Beginning → List Entry → Entry → ℕ → Image → Type 0
StoresNext b es e count c = StoresCommits b es count (completed b es) c ⊎ StoresCommits b (es ++ e ∷ []) count (with_tried b (es ++ e ∷ [])) c

-- so many calls were begun since the beginning, short of the clock's end
abbrev pub IsAtMark : {D : Type 0} → Beginning → Ghosts D → ℕ → D → Type 0
IsAtMark b disks m disk = disks.clock disk < 2 ^ 64 - 1 → disks.clock disk ≡ b.since + m
