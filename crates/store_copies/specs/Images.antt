-- What images mean that store the records of a state, and the two records of a copy in it.
use Rattle.std.specs.Prelude.{◌≡◌, ℕ, List, [], ◌∷◌, ◌++◌}
use Rattle.std.specs.List.{AllByRecursion}
use Rattle.edge_disk.specs.Image.{Image}
use Rattle.store_told.specs.model_kernel.Choices.{IsGreatest}
use Rattle.store_told.specs.model_kernel.State.{KernelState, Supply, Text, empty_state}
use Rattle.store_told.specs.model_cut_laws.Agreeing.{nothing}
use Rattle.store_told.specs.model_cut_laws.Records.{commits_of}
use Rattle.store_told.specs.image_meaning.Meaning.{Means}
use Rattle.store_told.specs.image_meaning.Stores.{Kept, Stores, recs_of}
use Rattle.store_told.specs.Told.{ArePagesApart, IsToldRecord}
use Rattle.model_copies.specs.model_sound_states.States.{IsSoundState}
use Rattle.model_copies.specs.Copies.{IsCopied}
use Rattle.model_copies.specs.Needing.{LeavesCopy}

-- the record tells what its entity is in the state
abbrev pub TellsIn : Supply → KernelState → Kept → Type 0
TellsIn s w k = IsToldRecord s (λ x n. w x) k

-- THE RECORDS ARE THOSE OF THE STATE: each tells what its entity is there, and their greatest closed choice takes the state's versions
pub record AreRecordsOf (s : Supply) (v : KernelState) (ks : List Kept) : Type 0 where
  pub each : AllByRecursion (TellsIn s v) ks
  pub greatest : IsGreatest nothing (commits_of (recs_of ks)) (λ x. (v x).version)

-- a sound state, in which what has version 0 is as in the state of nothing
pub record IsMeantState (s : Supply) (v : KernelState) : Type 0 where
  pub sound : IsSoundState s v
  pub unwritten : (x : ℕ) → (v x).version ≡ 0 → v x ≡ empty_state x

-- THE ATLAS'S RECORD of a copy
pub record IsAtlasRecord (s : Supply) (w : KernelState) (a : Kept) : Type 0 where
  pub is_atlas : a.rec.entity ≡ 0
  pub tells : TellsIn s w a

-- and the copy's own
pub record IsCopyRecord (s : Supply) (name fresh : Text) (v w : KernelState) (b : Kept) : Type 0 where
  pub leaves : LeavesCopy name fresh v w
  pub is_copy : b.rec.entity ≡ leaves.number
  pub tells : TellsIn s w b

-- THE LAW of the first commit: the state's records alone, or these with the atlas's new one, mean the state
pub record MeansBefore (s : Supply) (v : KernelState) (count : ℕ) (ks : List Kept) (a : Kept) : Type 0 where
  pub greatest : IsGreatest nothing (commits_of (recs_of (ks ++ a ∷ []))) (λ x. (v x).version)
  pub none : (c : Image) → Stores count ks c → Means s c v
  pub one : (c : Image) → Stores count (ks ++ a ∷ []) c → Means s c v

abbrev pub FirstCommitLaw : Type 0
FirstCommitLaw = (s : Supply) (name fresh : Text) (v w : KernelState) (count : ℕ) (ks : List Kept) (a : Kept) → IsMeantState s v → IsCopied name fresh v w
    → AreRecordsOf s v ks → IsAtlasRecord s w a → ArePagesApart count (ks ++ a ∷ []) → MeansBefore s v count ks a

-- THE LAW of the second: with both new ones they mean the copy
pub record MeansCopy (s : Supply) (w : KernelState) (count : ℕ) (ks : List Kept) (a b : Kept) : Type 0 where
  pub greatest : IsGreatest nothing (commits_of (recs_of (ks ++ a ∷ b ∷ []))) (λ x. (w x).version)
  pub both : (c : Image) → Stores count (ks ++ a ∷ b ∷ []) c → Means s c w

abbrev pub SecondCommitLaw : Type 0
SecondCommitLaw = (s : Supply) (name fresh : Text) (v w : KernelState) (count : ℕ) (ks : List Kept) (a b : Kept) → IsMeantState s v → IsCopied name fresh v w
    → AreRecordsOf s v ks → IsAtlasRecord s w a → IsCopyRecord s name fresh v w b → ArePagesApart count (ks ++ a ∷ b ∷ []) → MeansCopy s w count ks a b
