-- What a call does to the moments of a disk in memory.
use Rattle.std.proofs.Common.{◌≡◌, ◌≤◌, ◌<◌, ◌⊎◌, inl, inr, ℕ, List, [], ◌∷◌, ◌++◌, length, take, sym, ap, subst, ◌∙◌, arith}
use Rattle.std.proofs.lemmas.Bool.{cases_lt}
use Rattle.std.proofs.lemmas.List.{take_all, take-append-le}
use Rattle.std.proofs.lemmas.List.Elements.{All-push, All-same}
use Rattle.std.proofs.lemmas.List.Sums.{fold_push}
use Rattle.edge_disk.specs.Image.{Image, SameOutside}
use Rattle.edge_disk.specs.Disk.{Elapses, Only}
use Rattle.edge_disk.specs.Kept.{Standing, settled, after, standing, MayLeave, MightHaveLeft, AreSound, IsSound, shown}
use Rattle.edge_disk.specs.KeptLaws.{HasLength-standing}
use Rattle.edge_disk.specs.MemoryDisk.{may_leave_of, left_since_of, moments_of}
use Rattle.edge_disk.specs.Tape.{Begins}
use Rattle.edge_disk.specs.declared.calls.Call.{Call}
use Rattle.edge_disk.specs.declared.calls.Call.TheVariants.{Sync, FailedSync}
use Rattle.edge_disk.specs.declared.tape.Tape.{Tape}
use Rattle.edge_disk.specs.declared.memory.MemoryDisk.{MemoryDisk}
use Rattle.edge_disk.proofs.Images.{SameOutside-refl}
use Rattle.edge_disk.proofs.Ticks.{Ticks-later, Ticks-one}
use Rattle.edge_disk.proofs.KeptCalls.{MayLeave-after, MayLeave-write, Only-settled, reading-after}

-- as the disk stands
abbrev pub now_of : Tape → Standing
now_of tape = standing tape.first.items tape.calls.items

module _ (call : Call) (old new : Tape) (begins : Begins call old new) where
  -- a call that is kept moves the disk on
  pub now_of-kept : length old.calls.items < old.room → now_of new ≡ after (now_of old) call
  now_of-kept room =
      ap (λ (first : Image). standing first new.calls.items) begins.first
      ∙ ap (λ (calls : List Call). standing old.first.items calls) (begins.kept room)
      ∙ fold_push after (settled old.first.items) old.calls.items call

  -- one that isn't kept doesn't
  pub now_of-full : old.room ≤ length old.calls.items → now_of new ≡ now_of old
  now_of-full full =
      ap (λ (first : Image). standing first new.calls.items) begins.first ∙ ap (λ (calls : List Call). standing old.first.items calls) (begins.full full)

  -- the past is as it was
  same_past : (k : ℕ) → k ≤ old.clock → standing new.first.items (take k new.calls.items) ≡ standing old.first.items (take k old.calls.items)
  same_past k le = ap (λ (first : Image). standing first (take k new.calls.items)) begins.first ∙ ap (standing old.first.items) (elim (cases_lt (length old.calls.items) old.room) [
    | inl room ↦
        let clock : old.clock ≡ length old.calls.items = old.all_kept room in
        ap (take k) (begins.kept room) ∙ take-append-le k old.calls.items (call ∷ []) (omega arith)
    | inr full ↦ ap (take k) (begins.full full)
  ])

  later : old.clock ≤ new.clock
  later = Ticks-later old.clock new.clock begins.clock

  -- since the old clock there is what stands now
  now_past : (k : ℕ) → old.clock < k → k ≤ new.clock → standing new.first.items (take k new.calls.items) ≡ now_of new
  now_past k after_old to_new =
      let one : k ≡ new.clock = omega (arith, Ticks-one old.clock new.clock begins.clock) in
      ap (standing new.first.items) (take_all k new.calls.items (omega (arith, one, new.counted)))

  -- a stop since t might have left what it might have left before, or what it may leave now
  pub nothing_else : (t : ℕ) (c : Image) → t ≤ old.clock → MightHaveLeft new.first.items new.calls.items new.clock t c
      → MightHaveLeft old.first.items old.calls.items old.clock t c ⊎ MayLeave (now_of new) c
  nothing_else t c le (k, from, to, may) = elim (cases_lt old.clock k) [
    | inl after_old ↦ inr (subst (λ (s : Standing). MayLeave s c) (now_past k after_old to) may)
    | inr before ↦ inl (k, from, before, subst (λ (s : Standing). MayLeave s c) (same_past k before) may)
  ]

  pub keeps : (t : ℕ) (c : Image) → t ≤ old.clock → MightHaveLeft old.first.items old.calls.items old.clock t c
      → MightHaveLeft new.first.items new.calls.items new.clock t c
  keeps t c le (k, from, to, may) =
      (k, from, omega (arith, to, later), subst (λ (s : Standing). MayLeave s c) (sym (same_past k to)) may)

  -- with the call written there, a stop may leave any bytes in its block
  pub tears : (at : ℕ) → ((s : Standing) → after s call ≡ record { stable = s.stable; reading = (after s call).reading; pending = at ∷ s.pending })
      → at < length old.blocks.items → (c : Image) → MayLeave (now_of new) c → (d : Image) × MayLeave (now_of old) d × SameOutside (λ n. n ≡ at) d c
  tears at writes lt c left = elim (cases_lt (length old.calls.items) old.room) [
    | inl room ↦
        let s : Standing = now_of old in
        let count : length s.stable ≡ length old.blocks.items =
        (HasLength-standing old.first.items old.calls.items).stable ∙ sym (HasLength-standing old.first.items old.calls.items).reading ∙ ap length (sym old.shows) in
        MayLeave-write s (after s call).reading at (omega (arith, count)) (subst (MayLeave s) old.shows old.readable) c (subst (λ (t : Standing). MayLeave t c) (now_of-kept room ∙ writes s) left)
    | inr full ↦ (c, subst (λ (s : Standing). MayLeave s c) (now_of-full full) left, SameOutside-refl (λ n. n ≡ at) c)
  ]

-- the disk's clock goes on with a call of its tape
pub Elapses-begins : (call : Call) (old new : MemoryDisk) → Begins call old.tape new.tape → Elapses moments_of may_leave_of left_since_of old new
Elapses-begins call old new begins = record {
  later = later call old.tape new.tape begins;
  nothing_else = nothing_else call old.tape new.tape begins;
  keeps = keeps call old.tape new.tape begins;
}

-- after a sync that is kept a stop leaves what is read
pub Only-sync : (old new : Tape) → Begins Sync old new → length old.calls.items < old.room → Only old.blocks.items (MayLeave (now_of new))
Only-sync old new begins room c left =
    let s : Standing = now_of old in
    Only-settled s.reading c (subst (λ (t : Standing). MayLeave t c) (now_of-kept Sync old new begins room) left) ∙ sym old.shows

-- a sync that fails changes nothing
pub now_of-failed_sync : (old new : Tape) → Begins FailedSync old new → now_of new ≡ now_of old
now_of-failed_sync old new begins = elim (cases_lt (length old.calls.items) old.room) [
  | inl room ↦ now_of-kept FailedSync old new begins room
  | inr full ↦ now_of-full FailedSync old new begins full
]

-- the tape's blocks are as many as at the start
pub length-blocks : (tape : Tape) → length tape.blocks.items ≡ length tape.first.items
length-blocks tape = ap length tape.shows ∙ (HasLength-standing tape.first.items tape.calls.items).reading

module _ (old : Tape) (call : Call) (blocks : Image) (calls : List Call) (kept : calls ≡ old.calls.items ++ call ∷ []) where
  stands : standing old.first.items calls ≡ after (now_of old) call
  stands = ap (standing old.first.items) kept ∙ fold_push after (settled old.first.items) old.calls.items call

  -- what is read shows the call that is kept
  pub shows-kept : blocks ≡ shown old.blocks.items call → blocks ≡ (standing old.first.items calls).reading
  shows-kept is =
      is
      ∙ ap (λ (image : Image). shown image call) old.shows
      ∙ sym (reading-after (now_of old) call)
      ∙ ap (λ (s : Standing). s.reading) (sym stands)

  -- and a stop may leave it
  pub readable-kept : blocks ≡ shown old.blocks.items call → IsSound (length old.blocks.items) call → MayLeave (standing old.first.items calls) blocks
  readable-kept is sound =
      let count : length old.blocks.items ≡ length (now_of old).stable = length-blocks old ∙ sym (HasLength-standing old.first.items old.calls.items).stable in
      let may : MayLeave (after (now_of old) call) (after (now_of old) call).reading =
      MayLeave-after (now_of old) call (subst (λ (n : ℕ). IsSound n call) count sound) (subst (MayLeave (now_of old)) old.shows old.readable) in
      let here : MayLeave (standing old.first.items calls) (standing old.first.items calls).reading =
      subst (λ (s : Standing). MayLeave s s.reading) (sym stands) may in
      subst (MayLeave (standing old.first.items calls)) (sym (shows-kept is)) here

-- each kept call fits the disk
pub sound-kept : (old : Tape) (call : Call) (calls : List Call) → calls ≡ old.calls.items ++ call ∷ [] → IsSound (length old.blocks.items) call
    → AreSound (length old.first.items) calls
sound-kept old call calls kept sound =
    let P : Call → Type 0 = λ k. IsSound (length old.first.items) k in
    let here : P call = subst (λ (n : ℕ). IsSound n call) (length-blocks old) sound in
    All-same P calls (old.calls.items ++ call ∷ []) kept (All-push P old.calls.items call old.sound here)
