-- How a stretch of calls goes on: lemmas on `LeavesOnly` and `Quiet`, one line for each call of a disk.
use Rattle.std.proofs.Common.{◌≡◌, ◌≤◌, inl, inr, ⊎_elim, ℕ, arith}
use Rattle.edge_disk.specs.Disks.{TimePasses}
use Rattle.edge_disk.specs.declared.disk.Disk.{Ghosts}
use Rattle.edge_disk.specs.Image.{Image, IsImage, SameOutside}
use Rattle.edge_disk.specs.Disk.{LeavesNoMore, Tears}
use Rattle.edge_disk.specs.Moments.{LeavesOnly, Quiet, WasLeft}
use Rattle.edge_disk.proofs.Images.{SameOutside-refl, SameOutside-trans, SameOutside-one, SameOutside-weaker}

-- the laws of a disk on moments, in one argument
pub record Moments {D : Type 0} (disks : Ghosts D) : Type 0 where
  pub counts_now : (d : D) (t : ℕ) (c : Image) → t ≤ disks.clock d → disks.may_leave d c → disks.left_since d t c
  pub only_now : (d : D) (c : Image) → disks.left_since d (disks.clock d) c → disks.may_leave d c

-- they hold of a disk that tells its content
pub told : {D : Type 0} (disks : Ghosts D) → disks.tells
    → ((d : D) (t : ℕ) (c : Image) → disks.tells → t ≤ disks.clock d → disks.may_leave d c → disks.left_since d t c)
    → ((d : D) (c : Image) → disks.tells → disks.left_since d (disks.clock d) c → disks.may_leave d c)
    → Moments disks
told disks t counts_now only_now = record { counts_now = λ d s c. counts_now d s c t; only_now = λ d c. only_now d c t }

-- what is read is as many whole blocks
pub IsImage-reading : {D : Type 0} (disks : Ghosts D)
    → disks.tells
    → ((d : D) → disks.tells → disks.may_leave d (disks.reading d))
    → ((d : D) (s : ℕ) (c : Image) → disks.tells → s ≤ disks.clock d → disks.may_leave d c → disks.left_since d s c)
    → ((d : D) (s : ℕ) (c : Image) → disks.tells → disks.left_since d s c → IsImage (disks.block_count d) c)
    → (d : D) → IsImage (disks.block_count d) (disks.reading d)
IsImage-reading disks t reads_now counts_now whole d =
    whole d (disks.clock d) (disks.reading d) t (counts_now d (disks.clock d) (disks.reading d) t (omega arith) (reads_now d t))

module _ {D : Type 0} {disks : Ghosts D} (laws : Moments disks) where
  -- before the first call
  pub LeavesOnly-start : (old : D) (P : Image → Type 0) → ((c : Image) → disks.may_leave old c → P c) → LeavesOnly disks old old P
  LeavesOnly-start old P here = record {
    later = omega arith;
    each = λ c left. here c (laws.only_now old c left);
    before = λ t c le left. inl left;
  }

  -- what a stop now may leave is among what stops since then leave
  pub LeavesOnly-now : {old new : D} {P : Image → Type 0} → LeavesOnly disks old new P → (c : Image) → disks.may_leave new c → P c
  LeavesOnly-now {old = old} {new = new} so_far c now = so_far.each c (laws.counts_now new (disks.clock old) c so_far.later now)

  -- one call more, after which a stop leaves what has P
  pub LeavesOnly-call : {old mid new : D} {P : Image → Type 0} → LeavesOnly disks old mid P → TimePasses disks mid new
      → ((c : Image) → disks.may_leave new c → P c) → LeavesOnly disks old new P
  LeavesOnly-call {old = old} so_far time here = record {
    later = omega (arith, so_far.later, time.later);
    each = λ c left. ⊎_elim (so_far.each c) (here c) (time.nothing_else (disks.clock old) c so_far.later left);
    before = λ t c le left. ⊎_elim (so_far.before t c le) (λ now. inr (here c now)) (time.nothing_else t c (omega (arith, le, so_far.later)) left);
  }

  -- one read or sync more, whether it succeeded or failed
  pub LeavesOnly-sync : {old mid new : D} {P : Image → Type 0} → LeavesOnly disks old mid P → LeavesNoMore disks.may_leave mid new
      → TimePasses disks mid new → LeavesOnly disks old new P
  LeavesOnly-sync so_far stop time = LeavesOnly-call so_far time (λ c now. LeavesOnly-now so_far c (stop c now))

  -- one write more, whether it succeeded or failed
  pub LeavesOnly-write : {old mid new : D} {P : Image → Type 0} {at : ℕ} → LeavesOnly disks old mid P → Tears disks.may_leave at mid new
      → TimePasses disks mid new → ((d c : Image) → disks.may_leave mid d → SameOutside (λ n. n ≡ at) d c → P c)
      → LeavesOnly disks old new P
  LeavesOnly-write so_far stop time here = LeavesOnly-call so_far time (λ c now. let from = stop c now in here from.0 c from.1 from.2)

  -- a second stretch after a first
  pub LeavesOnly-then : {old mid new : D} {P : Image → Type 0} → LeavesOnly disks old mid P → LeavesOnly disks mid new P
      → LeavesOnly disks old new P
  LeavesOnly-then {old = old} first second = record {
    later = omega (arith, first.later, second.later);
    each = λ c left. ⊎_elim (first.each c) (λ has. has) (second.before (disks.clock old) c first.later left);
    before = λ t c le left. ⊎_elim (first.before t c le) inr (second.before t c (omega (arith, le, first.later)) left);
  }

  pub LeavesOnly-weaker : {old new : D} {P : Image → Type 0} (Q : Image → Type 0) → ((c : Image) → P c → Q c) → LeavesOnly disks old new P
      → LeavesOnly disks old new Q
  LeavesOnly-weaker Q more so_far = record {
    later = so_far.later;
    each = λ c left. more c (so_far.each c left);
    before = λ t c le left. ⊎_elim inl (λ has. inr (more c has)) (so_far.before t c le left);
  }

  -- before the first call
  pub Quiet-start : (these : ℕ → Type 0) (old : D) → Quiet disks these old old
  Quiet-start these old =
      LeavesOnly-start old (WasLeft disks.may_leave these old) (λ c could. record { from = c; could = could; same = SameOutside-refl these c })

  -- one read or sync more, whether it succeeded or failed
  pub Quiet-sync : {these : ℕ → Type 0} {old mid new : D} → Quiet disks these old mid → LeavesNoMore disks.may_leave mid new
      → TimePasses disks mid new → Quiet disks these old new
  Quiet-sync = LeavesOnly-sync

  -- one write into these blocks more, whether it succeeded or failed
  pub Quiet-write : {these : ℕ → Type 0} {old mid new : D} {at : ℕ} → these at → Quiet disks these old mid
      → Tears disks.may_leave at mid new → TimePasses disks mid new → Quiet disks these old new
  Quiet-write {these = these} {at = at} inside so_far stop time =
      LeavesOnly-write
      so_far
      stop
      time
      (λ d c could same.
      let was = LeavesOnly-now so_far d could in
      record {
        from = was.from;
        could = was.could;
        same = SameOutside-trans these was.from d c was.same (SameOutside-one these at d c inside same);
      })

  -- a stretch that is quiet but for these blocks is quiet but for more of them
  pub Quiet-weaker : {these : ℕ → Type 0} {old new : D} (those : ℕ → Type 0) → ((n : ℕ) → these n → those n)
      → Quiet disks these old new → Quiet disks those old new
  Quiet-weaker {these = these} {old = old} those more so_far =
      LeavesOnly-weaker
      (WasLeft disks.may_leave those old)
      (λ c was. record { from = was.from; could = was.could; same = SameOutside-weaker these those was.from c more was.same })
      so_far

  -- a quiet stretch after another stretch
  pub LeavesOnly-quiet : {these : ℕ → Type 0} {old mid new : D} {P : Image → Type 0} → LeavesOnly disks old mid P
      → Quiet disks these mid new → ((d c : Image) → disks.may_leave mid d → SameOutside these d c → P c)
      → LeavesOnly disks old new P
  LeavesOnly-quiet {P = P} first quiet here =
      LeavesOnly-then first (LeavesOnly-weaker P (λ c was. here was.from c was.could was.same) quiet)

  -- what a quiet stretch from a stable image leaves
  pub LeavesOnly-from_quiet : {these : ℕ → Type 0} {old new : D} (P : Image → Type 0) → Quiet disks these old new
      → ((d c : Image) → disks.may_leave old d → SameOutside these d c → P c) → LeavesOnly disks old new P
  LeavesOnly-from_quiet P quiet here = LeavesOnly-weaker P (λ c was. here was.from c was.could was.same) quiet

  -- two quiet stretches
  pub Quiet-then : {these : ℕ → Type 0} {old mid new : D} → Quiet disks these old mid
      → Quiet disks these mid new → Quiet disks these old new
  Quiet-then {these = these} first second =
      LeavesOnly-quiet
      first
      second
      (λ d c could same.
      let was = LeavesOnly-now first d could in
      record { from = was.from; could = was.could; same = SameOutside-trans these was.from d c was.same same })
