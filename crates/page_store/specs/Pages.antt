-- What the calls of a page store do to its blocks and to its counts.
use Rattle.std.specs.Prelude.{◌≡◌, ◌⊎◌, ℕ, ◌≤◌, Bool, true, ◌||◌, IsTrue, List, Result, IsErrOf, OnOk}
use Rattle.edge_disk.specs.Counts.{Rose}
use Rattle.page_store.specs.declared.faults.PageFault.{PageFault}
use Rattle.page_store.specs.declared.faults.PageFault.TheVariants.{ReadFault, WriteFault, Shut}

-- A fault of a read or a write comes only where the count of faults rose, and shuts the store. Shut comes exactly of a
-- store that is shut, and a call that succeeds doesn't shut it.
pub record HasPageCause {T : Type 0} (before now : ℕ) (was_shut is_shut : Bool) (result : Result T PageFault) : Type 0 where
  pub later : before ≤ now
  pub shut : was_shut ≡ true → IsErrOf result Shut
  pub was : IsErrOf result Shut → was_shut ≡ true
  pub read : IsErrOf result ReadFault → Rose before now × (is_shut ≡ true)
  pub write : IsErrOf result WriteFault → Rose before now × (is_shut ≡ true)
  pub stays : was_shut ≡ true → is_shut ≡ true
  pub same_on_ok : OnOk result (is_shut ≡ was_shut)

-- a read fails so, or finds the store shut
abbrev pub IsReadFault : PageFault → Type 0
IsReadFault e = (e ≡ ReadFault) ⊎ (e ≡ Shut)

-- a write fails so, or finds the store shut
abbrev pub IsWriteFault : PageFault → Type 0
IsWriteFault e = (e ≡ WriteFault) ⊎ (e ≡ Shut)

-- the words of each block that is held or that a kept record names, but for these, are the same
abbrev pub SameWords : {B : Type 0} → (B → ℕ → Bool) → (B → ℕ → Bool) → (B → ℕ → List ℕ) → (ℕ → Type 0) → B → B → Type 0
SameWords held kept words these old new = (n : ℕ) → IsTrue (held old n || kept old n) → (these n → ⊥) → words new n ≡ words old n

-- the same blocks are held and free
pub record SameBlocks {B : Type 0} (held : B → ℕ → Bool) (free : B → ℕ) (old new : B) : Type 0 where
  pub same_held : held new ≡ held old
  pub same_free : free new ≡ free old

-- no call of the store's blocks was made: it is shut as before, and the counts are the same
pub record SameCounts {B : Type 0} (is_shut : B → Bool) (faults written read_calls : B → ℕ) (old new : B) : Type 0 where
  pub same_shut : is_shut new ≡ is_shut old
  pub same_faults : faults new ≡ faults old
  pub same_written : written new ≡ written old
  pub same_read_calls : read_calls new ≡ read_calls old
