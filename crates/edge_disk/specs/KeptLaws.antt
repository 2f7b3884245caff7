-- The laws of a disk that keeps its writes and syncs.
use Rattle.std.proofs.Common.{◌≡◌, ◌≤◌, ℕ, List, [], ◌∷◌, length, take, fold, refl, sym, ap, subst, ◌∙◌, arith}
use Rattle.std.proofs.lemmas.List.{length-set, take_all}
use Rattle.edge_disk.specs.Image.{Image, IsImage}
use Rattle.edge_disk.specs.Kept.{Standing, settled, after, standing, MayLeave, MightHaveLeft}
use Rattle.edge_disk.specs.declared.calls.Call.{Call}
use Rattle.edge_disk.specs.declared.calls.Call.TheVariants.{Write, FailedWrite, Sync, FailedSync}

-- both lists of blocks have this length
pub record HasLength (count : ℕ) (s : Standing) : Type 0 where
  pub stable : length s.stable ≡ count
  pub reading : length s.reading ≡ count

-- no call changes that
pub HasLength-after : (count : ℕ) (s : Standing) (call : Call) → HasLength count s → HasLength count (after s call)
HasLength-after count s (Write at block) has = record { stable = has.stable; reading = length-set s.reading at block ∙ has.reading }
HasLength-after count s (FailedWrite at) has = record { stable = has.stable; reading = has.reading }
HasLength-after count s Sync has = record { stable = has.reading; reading = has.reading }
HasLength-after count s FailedSync has = has

HasLength-fold : (count : ℕ) (s : Standing) (calls : List Call) → HasLength count s → HasLength count (fold after s calls)
HasLength-fold count s [] has = has
HasLength-fold count s (call ∷ calls) has = HasLength-fold count (after s call) calls (HasLength-after count s call has)

-- no call changes how many blocks there are
pub HasLength-standing : (first : Image) (calls : List Call) → HasLength (length first) (standing first calls)
HasLength-standing first calls = HasLength-fold (length first) (settled first) calls (record { stable = refl; reading = refl })

-- whatever a stop leaves is as many whole blocks as are read
pub IsImage-from_kept : (first reading : Image) (calls : List Call) (now t : ℕ) (c : Image) → reading ≡ (standing first calls).reading
    → MightHaveLeft first calls now t c → IsImage (length reading) c
IsImage-from_kept first reading calls now t c shows (k, from, to, may) =
    let here = HasLength-standing first calls in
    let there = HasLength-standing first (take k calls) in
    let same : length (standing first (take k calls)).stable ≡ length reading = there.stable ∙ sym here.reading ∙ ap length (sym shows) in
    subst (λ (n : ℕ). IsImage n c) same may.whole

module _ (first : Image) (calls : List Call) (now : ℕ) (kept : length calls ≤ now) where
  -- this moment is one of those since an earlier one
  pub MightHaveLeft-now : (t : ℕ) (c : Image) → t ≤ now → MayLeave (standing first calls) c → MightHaveLeft first calls now t c
  MightHaveLeft-now t c le may =
      (now, le, omega arith, subst (λ (l : List Call). MayLeave (standing first l) c) (sym (take_all now calls kept)) may)

  -- since this moment there is no other
  pub MayLeave-since_now : (c : Image) → MightHaveLeft first calls now now c → MayLeave (standing first calls) c
  MayLeave-since_now c (k, from, to, may) =
      subst (λ (l : List Call). MayLeave (standing first l) c) (take_all k calls (omega (arith, kept, from))) may

-- the moments since a later one are among those since an earlier one
pub MightHaveLeft-earlier : (first : Image) (calls : List Call) (now s t : ℕ) (c : Image) → s ≤ t → MightHaveLeft first calls now t c
    → MightHaveLeft first calls now s c
MightHaveLeft-earlier first calls now s t c le (k, from, to, may) = (k, omega (arith, le, from), to, may)
