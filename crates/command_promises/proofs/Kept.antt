-- What an opening leaves of the image, from the clauses of the calls below.
use Rattle.std.proofs.Common.{◌≡◌, ◌⊎◌, inl, inr, ℕ, ◌-◌, ◌≤◌, ◌^◌, sym, subst, ◌∙◌}
use Rattle.std.proofs.lemmas.Bool.{cases_lt}
use Rattle.edge_disk.specs.declared.disk.Disk.{Ghosts}
use Rattle.edge_disk.specs.Disk.{Ticks}
use Rattle.edge_disk.specs.Image.{Image}
use Rattle.edge_disk.specs.Moments.{LeavesOnly}
use Rattle.open_kernel.specs.open_facts.Images.{MeansSame, MeansSince, WasRefused}
use Rattle.command_source.specs.command_outcomes.Seen.{SeenDisk, seen_disk}
use Rattle.command_promises.specs.Openings.{FailsAtSync, HasFailedSync, KeepsMeaning, StaysAsRead}
use Rattle.edge_watched.specs.Handing.{next_moment}
use Rattle.edge_watched.specs.Watching.{HasGoneOn, start_of}
use Rattle.edge_watched.proofs.Going.{ticks_next}

-- a clock that ticks comes to the next moment
ticked : (old new : ℕ) → Ticks old new → new ≡ next_moment old
ticked old new ticks = elim (cases_lt old (2 ^ 64 - 1)) [
  | inl short ↦ (let one = ticks.one_more short in let is = (ticks_next old).one_more short in one ∙ sym is)
  | inr end ↦ (let same = ticks.at_end end in let is = (ticks_next old).at_end end in same ∙ sym is)
]

module _ {D : Type 0} (disks : Ghosts D)
    (counts_now : (disk : D) (t : ℕ) (c : Image) → disks.tells → t ≤ disks.clock disk → disks.may_leave disk c → disks.left_since disk t c) (told : disks.tells) (old new : D) where
  abbrev seen : SeenDisk
  seen = seen_disk disks old new

  -- the image means the same
  pub keeps_meaning : MeansSince disks old new → LeavesOnly disks old new (λ c. disks.may_leave old c ⊎ MeansSame (disks.reading old) c) → KeepsMeaning seen
  keeps_meaning since leaves = record {
    later = leaves.later;
    since = λ t c le left. since (next_moment (disks.clock old)) t c (ticks_next (disks.clock old)) le left;
    earlier = λ t c le left. before t c le (leaves.before t c le left);
  }
    where
      before : (t : ℕ) (c : Image) → t ≤ disks.clock old → disks.left_since old t c ⊎ (disks.may_leave old c ⊎ MeansSame (disks.reading old) c) → disks.left_since old t c ⊎ MeansSame (disks.reading old) c
      before t c le (inl was) = inl was
      before t c le (inr (inl may)) = inl (counts_now old t c told le may)
      before t c le (inr (inr same)) = inr same

  -- what was left at this moment or since an earlier one, where a stop now leaves nothing new
  still : (t : ℕ) (c : Image) → t ≤ disks.clock old → disks.left_since old t c ⊎ disks.may_leave old c → disks.left_since old t c
  still t c le (inl was) = was
  still t c le (inr may) = counts_now old t c told le may

  module _ (only_now : (disk : D) (c : Image) → disks.tells → disks.left_since disk (disks.clock disk) c → disks.may_leave disk c) where
    at_tick : (c : Image) → Ticks (disks.clock old) (disks.clock new) → disks.left_since new (next_moment (disks.clock old)) c → disks.may_leave new c
    at_tick c ticks left = only_now new c told (subst (λ t. disks.left_since new t c) (sym (ticked (disks.clock old) (disks.clock new) ticks)) left)

    -- a refused image stays as it is read
    pub stays_as_read : ((disk : D) (s t : ℕ) (c : Image) → disks.tells → s ≤ t → disks.left_since disk t c → disks.left_since disk s c) → WasRefused disks old new → StaysAsRead seen
    stays_as_read counts_later refused = record {
      later = (refused.synced.moments told).later;
      reading = refused.synced.same_reading told;
      since = λ t c le left. refused.stable told c (at_tick c refused.synced.one (counts_later new (next_moment (disks.clock old)) t c told le left)) ∙ refused.synced.same_reading told;
      earlier = λ t c le left. still t c le ((refused.synced.moments told).before t c le left);
    }

    -- a disk that was watched when its sync failed
    pub fails_at_sync : HasGoneOn disks (start_of disks old) new → HasFailedSync seen → FailsAtSync seen
    fails_at_sync gone failed = record { failed = failed; earlier = λ t c le left. before t c le (gone.past told t c le left) }
      where
        before : (t : ℕ) (c : Image) → t ≤ disks.clock old → disks.left_since old t c ⊎ ((next_moment (disks.clock old) ≤ disks.clock new) × disks.left_since new (next_moment (disks.clock old)) c) → disks.left_since old t c
        before t c le (inl was) = was
        before t c le (inr since) = still t c le (inr (failed.may c (at_tick c failed.one since.1)))
