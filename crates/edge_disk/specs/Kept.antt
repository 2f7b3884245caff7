-- What a disk stands for after the writes and syncs that it has kept.
use Rattle.std.specs.Prelude.{◌≡◌, ◌≤◌, ◌<◌, ℕ, Bool, true, false, ◌⊎◌, List, [], ◌∷◌, ◌++◌, length, take, drop, fold, replicate, slice_set, slice_index_or, All, Contains}
use Rattle.std.proofs.Props.{props}
use Rattle.edge_disk.specs.Image.{Image, IsBlock, IsImage, SameOutside, block_at}
use Rattle.edge_disk.specs.declared.calls.Call.{Call}
use Rattle.edge_disk.specs.declared.calls.Call.TheVariants.{Write, FailedWrite, Sync, FailedSync}
use Rattle.edge_disk.specs.declared.calls.Torn.{Torn}
use Rattle.edge_disk.specs.declared.calls.Torn.TheVariants.{Old, New, Fill}

-- a disk between two calls: its blocks as the last sync left them, as they read, and the blocks written since
pub record Standing : Type 0 where
  pub stable : Image
  pub reading : Image
  pub pending : List ℕ

-- a disk with nothing pending
abbrev pub settled : Image → Standing
settled image = record { stable = image; reading = image; pending = [] }

-- the disk after a call: a write that failed reads as before, and its block is pending too
abbrev pub after : Standing → Call → Standing
after s (Write at block) = record { stable = s.stable; reading = slice_set s.reading at block; pending = at ∷ s.pending }
after s (FailedWrite at) = record { stable = s.stable; reading = s.reading; pending = at ∷ s.pending }
after s Sync = settled s.reading
after s FailedSync = s

-- the disk after these calls, the first of them first
abbrev pub standing : Image → List Call → Standing
standing first calls = fold after (settled first) calls

-- a stop may leave any bytes in the pending blocks, and the others as the last sync left them
pub record MayLeave (s : Standing) (c : Image) : Type 0 where
  pub whole : IsImage (length s.stable) c
  pub same : SameOutside (Contains s.pending) s.stable c

-- a stop at some moment from t up to now might have left this
abbrev pub MightHaveLeft : Image → List Call → ℕ → ℕ → Image → Type 0
MightHaveLeft first calls now t c = (k : ℕ) × (t ≤ k) × (k ≤ now) × MayLeave (standing first (take k calls)) c

-- what becomes of a pending block
abbrev pub torn_block : Torn → List ℕ → List ℕ → List ℕ
torn_block Old stable reading = stable
torn_block New stable reading = reading
torn_block (Fill byte) stable reading = replicate 1024 byte

-- a stop left each pending block in this way, and the others as the last sync left them
pub record IsTorn (torn : Torn) (s : Standing) (c : Image) : Type 0 where
  pub len : length c ≡ length s.stable
  pub pending : (n : ℕ) → Contains s.pending n → block_at c n ≡ torn_block torn (block_at s.stable n) (block_at s.reading n)
  pub others : (n : ℕ) → (Contains s.pending n → ⊥) → block_at c n ≡ block_at s.stable n

-- the blocks as they read after a call
abbrev pub shown : Image → Call → Image
shown image (Write at block) = slice_set image at block
shown image (FailedWrite at) = image
shown image Sync = image
shown image FailedSync = image

-- the blocks with this byte all over the block that a call wrote
abbrev pub filled : ℕ → Image → Call → Image
filled byte image (Write at block) = slice_set image at (replicate 1024 byte)
filled byte image (FailedWrite at) = slice_set image at (replicate 1024 byte)
filled byte image Sync = image
filled byte image FailedSync = image

-- a sync that succeeded
abbrev pub is_sync : Call → Bool
is_sync (Write at block) = false
is_sync (FailedWrite at) = false
is_sync Sync = true
is_sync FailedSync = false

-- the call fits a disk of so many blocks
abbrev pub IsSound : ℕ → Call → Type 0
IsSound count (Write at block) = (at < count) × IsBlock block
IsSound count (FailedWrite at) = at < count
IsSound count Sync = Unit {0}
IsSound count FailedSync = Unit {0}

-- at most one proof says so
IsSound-prop : (count : ℕ) (call : Call) → IsProp (IsSound count call)
IsSound-prop count (Write at block) = hlevel props
IsSound-prop count (FailedWrite at) = hlevel props
IsSound-prop count Sync = hlevel props
IsSound-prop count FailedSync = hlevel props

-- each of the calls fits a disk of so many blocks
abbrev pub AreSound : ℕ → List Call → Type 0
AreSound count calls = All (λ call. IsSound count call) calls

-- at most one proof says so
pub AreSound-prop : (count : ℕ) (calls : List Call) → IsProp (AreSound count calls)
AreSound-prop count calls f g = λ i k d lt. IsSound-prop count (slice_index_or calls k d) (f k d lt) (g k d lt) i

-- so many of the calls end with the last sync that succeeded, or they are none and no call is one
pub record EndsWithSync (calls : List Call) (end : ℕ) : Type 0 where
  pub within : end ≤ length calls
  pub none_after : All (λ call. is_sync call ≡ false) (drop end calls)
  pub last : (end ≡ 0) ⊎ ((front : List Call) × (take end calls ≡ front ++ Sync ∷ []))
