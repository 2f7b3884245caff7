-- What a copy leaves of a disk that was watched, and why there is none.
use Rattle.std.proofs.Common.{◌≡◌, ◌⊎◌, inl, inr, ℕ, ◌≤◌, Some, None, refl, sym, ap, subst, ◌∙◌, arith}
use Rattle.edge_disk.specs.declared.disk.Disk.{Ghosts}
use Rattle.edge_disk.specs.declared.disk.NoBlocks.{NoBlocks}
use Rattle.edge_disk.specs.Counts.{Rose}
use Rattle.edge_disk.specs.Image.{Image}
use Rattle.edge_watched.specs.Handing.{next_moment}
use Rattle.edge_watched.specs.Watching.{HasGoneOn, start_of}
use Rattle.edge_watched.proofs.Going.{ticks_next}
use Rattle.command_outcomes.specs.Ends.{IsEmpty}
use Rattle.command_outcomes.specs.Seen.{Gave, SeenDisk, seen_disk}
use Rattle.command_outcomes.specs.Statuses.{IsComplete, status_by}
use Rattle.command_outcomes.specs.declared.statuses.Status.{Status}
use Rattle.command_outcomes.specs.declared.statuses.Status.TheVariants.{BlocksFull}
use Rattle.command_promises.specs.Openings.{FailsAtSync, IsKeptImage, KeepsMeaning}
use Rattle.command_promises.proofs.Kept.{fails_at_sync, stays_as_read}
use Rattle.container_copy.specs.image_blocks.Checks.{Bad}
use Rattle.container_copy.specs.image_meaning.Meaning.{Accepted}
use Rattle.container_copy.specs.open_facts.Images.{HasTurnLeft, MeansSame, MeansSince, WasRefused}
use Rattle.container_copy.specs.cell_copies.Refusals.{copy_refusal}
use Rattle.container_copy.specs.model_copies.model_kernel.State.{KernelState, Supply, Text}
use Rattle.container_copy.specs.model_copies.model_kernel.Steps.{atlas_in}
use Rattle.container_copy.specs.Leaving.{CopiesSince, FindsBlocks, HasCopyCause, IsDiskWhy, IsOnlyOpened, MadeCopy, MeansBeforeOrCopy, StopsShortCopy}
use Rattle.container_copy.specs.Needs.{CountsBlocks}
use Rattle.container_copy.specs.kernel_record_facts.Cells.{words_on}
use Rattle.container_copy.specs.table_laws.Tables.{state_in, tables_in}
use Rattle.container_copy.specs.page_placing.Copying.{blocks_in}
use Rattle.container_copy.specs.declared.copying.CopyWhy.{CopyWhy}
use Rattle.container_copy.specs.declared.copying.CopyWhy.TheVariants as why
use Rattle.container_copy.proofs.image_meaning_lemmas.Ones.{one_meaning}
use Rattle.command_copy.specs.Copies.{CanCopy, HasCopied, IsLeftCopying, KeepsOrCopies, NeedsBoth, WhyNoCopy, copied_text, fault_of_copy}

same_le : (n : ℕ) → n ≤ n
same_le n = omega arith

-- what a copy needs of an image, without its store
needs_both : (s : Supply) (image : Image) (name fresh : Text) (need free : ℕ) → CountsBlocks image name fresh need free → NeedsBoth s image name fresh need
needs_both s image name fresh need free k = (let r = k.needs s in record {
  can = record { before = state_in s (words_on image) k.cells; means = k.stands.means s; state = r.state; copied = r.copied; leaves = r.leaves };
  pages = blocks_in (tables_in k.cells r.leaves.source);
  need_is = r.need_is;
})

-- the same of a disk as it was handed in, and as it is handed back
pub moved : {A : Type 0} (P : A → A → Type 0) (watched old back new : A) → watched ≡ old → back ≡ new → P watched new → P old back
moved P watched old back new one two p = subst (λ x. P old x) (sym two) (subst (λ x. P x new) one p)

-- and of the two names
pub named : (P : Text → Text → Type 0) (a b c d : Text) → a ≡ b → c ≡ d → P a c → P b d
named P a b c d one two p = subst (λ (x : Text). P b x) two (subst (λ (x : Text). P x c) one p)

module _ {D : Type 0} (disks : Ghosts D) (name fresh : Text) (old new : D) (gone : HasGoneOn disks (start_of disks old) new) where
  abbrev seen : SeenDisk
  seen = seen_disk disks old new

  -- AT AN EARLIER MOMENT than the call's first write or sync a stop left what it could leave before, or what it leaves since
  earlier_by : (P : Image → Type 0) → disks.tells → ((t : ℕ) (c : Image) → next_moment (disks.clock old) ≤ t → disks.left_since new t c → P c)
      → (t : ℕ) (c : Image) → t ≤ disks.clock old → disks.left_since new t c → disks.left_since old t c ⊎ P c
  earlier_by P told since t c le left = by (gone.past told t c le left)
    where
      by : disks.left_since old t c ⊎ ((next_moment (disks.clock old) ≤ disks.clock new) × disks.left_since new (next_moment (disks.clock old)) c) → disks.left_since old t c ⊎ P c
      by (inl was) = inl was
      by (inr is) = inr (since (next_moment (disks.clock old)) c (same_le (next_moment (disks.clock old))) is.1)

  keeps_or_copies : disks.tells → CopiesSince disks name fresh old new → KeepsOrCopies name fresh seen
  keeps_or_copies told copies = record { later = gone.later; since = since; earlier = earlier_by (MeansBeforeOrCopy disks (disks.reading old) name fresh) told since }
    where
      since : (t : ℕ) (c : Image) → next_moment (disks.clock old) ≤ t → disks.left_since new t c → MeansBeforeOrCopy disks (disks.reading old) name fresh c
      since t c le left = copies (next_moment (disks.clock old)) t c (ticks_next (disks.clock old)) le left

  keeps_meaning : disks.tells → MeansSince disks old new → KeepsMeaning seen
  keeps_meaning told means = record { later = gone.later; since = since; earlier = earlier_by (MeansSame (disks.reading old)) told since }
    where
      since : (t : ℕ) (c : Image) → next_moment (disks.clock old) ≤ t → disks.left_since new t c → MeansSame (disks.reading old) c
      since t c le left = means (next_moment (disks.clock old)) t c (ticks_next (disks.clock old)) le left

  -- only an opening was begun
  kept : (w : CopyWhy) → (IsDiskWhy w → ⊥) → IsDiskWhy w ⊎ IsOnlyOpened disks old new → IsKeptImage seen
  kept w calm (inl failed) = absurd (calm failed)
  kept w calm (inr opened) = λ told room. keeps_meaning told (opened.since told room)

  module _ (counts_now : (disk : D) (t : ℕ) (c : Image) → disks.tells → t ≤ disks.clock disk → disks.may_leave disk c → disks.left_since disk t c)
      (only_now : (disk : D) (c : Image) → disks.tells → disks.left_since disk (disks.clock disk) c → disks.may_leave disk c)
      (counts_later : (disk : D) (s t : ℕ) (c : Image) → disks.tells → s ≤ t → disks.left_since disk t c → disks.left_since disk s c) where
    left_copying : (w : CopyWhy) → (disks.tells → HasTurnLeft (disks.reading old) → StopsShortCopy disks w old new ⊎ CopiesSince disks name fresh old new) → IsLeftCopying name fresh seen
    left_copying w since = λ told room. by told (since told room)
      where
        by : disks.tells → StopsShortCopy disks w old new ⊎ CopiesSince disks name fresh old new → FailsAtSync seen ⊎ KeepsOrCopies name fresh seen
        by told (inl s) = inl (fails_at_sync disks counts_now told old new only_now gone (record { one = s.short.one; may = s.short.no_more }))
        by told (inr copies) = inr (keeps_or_copies told copies)

    -- WHY THERE IS NO COPY
    pub why_not : (w : CopyWhy) → HasCopyCause disks name fresh old new w → ((bad : Bad) → w ≡ why.Foreign bad → WasRefused disks old new) → IsDiskWhy w ⊎ IsOnlyOpened disks old new
        → (disks.tells → HasTurnLeft (disks.reading old) → StopsShortCopy disks w old new ⊎ CopiesSince disks name fresh old new) → WhyNoCopy name fresh seen (fault_of_copy w)
    why_not (why.Foreign bad) cause refused only since = λ told. (cause told, stays_as_read disks counts_now told old new only_now counts_later (refused bad refl))
    why_not (why.Refused r) cause refused only since = record { why = cause; kept = kept (why.Refused r) (λ no. no) only }
    why_not (why.NoBlocks m) cause refused only since = record {
      fewer = cause.fewer;
      most = cause.most;
      counted = λ told s. needs_both s (disks.reading old) name fresh m.need m.free (cause.counted told);
      kept = kept (why.NoBlocks m) (λ no. no) only;
    }
    why_not why.ReadFault cause refused only since = (cause, left_copying why.ReadFault since)
    why_not why.WriteFault cause refused only since = (cause, left_copying why.WriteFault since)
    why_not why.Memory cause refused only since = kept why.Memory (λ no. no) only

  -- THE COPY IS MADE
  pub has_copied : (given : Gave) (number : ℕ) → IsEmpty given → (disks.tells → MadeCopy disks (disks.reading old) name fresh (record { number = number; disk = new }))
      → (disks.tells → FindsBlocks (disks.reading old) name fresh) → (disks.tells → HasTurnLeft (disks.reading old) → CopiesSince disks name fresh old new)
      → (Puts : Text → Type 0) → Puts (copied_text fresh number) → HasCopied name fresh seen given Puts
  has_copied given number empty made room since Puts put = record {
    empty = empty;
    number = number;
    made = λ told s v means low. (let p = made told s v means low in record { state = p.copy.state; copied = p.copy.copied; left = p.copy.left; number_is = p.number_is });
    can = λ told s. (needs_both s (disks.reading old) name fresh (room told).need (room told).free (room told).counted).can;
    moments = λ told turn. keeps_or_copies told (since told turn);
    output = put;
  }

  -- WHERE IT CAN BE DONE memory ran out, unless the disk failed or blocks were too few
  pub not_done : CanCopy name fresh seen → (w : CopyWhy) → HasCopyCause disks name fresh old new w → (disks.tells → Accepted (disks.reading old) → (bad : Bad) → w ≡ why.Foreign bad → ⊥)
      → (Rose (disks.faults old) (disks.faults new) → ⊥) → (status : Status) → status ≡ status_by (fault_of_copy w) → ((n : NoBlocks) → status ≡ BlocksFull n → ⊥) → IsComplete status
  not_done can (why.Foreign bad) cause not_foreign calm status is room = absurd (not_foreign can.told can.means.accepted bad refl)
  not_done can (why.Refused r) cause not_foreign calm status is room =
      let k = cause can.told can.supply in
      let same : can.state ≡ k.0 = one_meaning can.supply (disks.reading old) can.state k.0 can.means k.1 in
      let some : copy_refusal (atlas_in (can.state 0).cell) name fresh ≡ Some r.why = ap (λ (v : KernelState). copy_refusal (atlas_in (v 0).cell) name fresh) same ∙ k.2.why_is in
      let clash : None ≡ Some r.why = sym can.none ∙ some in
      absurd (cc clash)
  not_done can (why.NoBlocks m) cause not_foreign calm status is room = absurd (room m is)
  not_done can why.ReadFault cause not_foreign calm status is room = absurd (calm cause)
  not_done can why.WriteFault cause not_foreign calm status is room = absurd (calm cause)
  not_done can why.Memory cause not_foreign calm status is room = inr is
