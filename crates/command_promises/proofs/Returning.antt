-- What is kept of a run, from what its kernel keeps.
use Rattle.std.proofs.Common.{◌≡◌, ◌⊎◌, ◌≤◌, ◌<◌, ◌+◌, ◌-◌, ◌^◌, ◌++◌, [], ℕ, List, Option, None, Some, inl, inr, length, take, slice_get, sym, ◌∙◌, arith, length-append, append-nil}
use Rattle.std.proofs.lemmas.Bool.{cases_lt}
use Rattle.std.proofs.lemmas.List.{take-append-le, take_all}
use Rattle.std.specs.Prelude.{option_to_list}
use Rattle.edge_disk.specs.declared.disk.Disk.{Ghosts}
use Rattle.edge_disk.specs.Image.{Image}
use Rattle.base_types.specs.declared.histories.Entry.{Entry}
use Rattle.image_facts.specs.model_kernel.Histories.{run_after, start_run}
use Rattle.open_kernel.specs.kernel_invariant.Beginnings.{Beginning, first_commits}
use Rattle.open_kernel.specs.kernel_invariant.Left.{IsCutImage}
use Rattle.open_kernel.specs.kernel_invariant.Live.{IsRunning, KernelView}
use Rattle.command_source.specs.command_outcomes.Seen.{seen_disk}
use Rattle.command_source.specs.command_outcomes.declared.statuses.Status.{Status}
use Rattle.command_promises.specs.Keeping.{IsKept, IsWholeCut}

module _ {X : Type 0} (cs : List X) where
  few_more : (o : Option X) → length (option_to_list o) ≤ 1
  few_more None = omega arith
  few_more (Some x) = omega arith

  -- so many of a list and at most one more, where they are not fewer than the list: the list, or all
  list_or_all : (o : Option X) (k : ℕ) → length cs ≤ k → (take k (cs ++ option_to_list o) ≡ cs) ⊎ (take k (cs ++ option_to_list o) ≡ cs ++ option_to_list o)
  list_or_all o k le = elim (cases_lt (length cs) k) [
    | inl less ↦ inr (take_all k (cs ++ option_to_list o) (let few = few_more o in let len = length-append cs (option_to_list o) in omega (arith, less, few, len)))
    | inr whole ↦ inl (take-append-le k cs (option_to_list o) whole ∙ take_all k cs le)
  ]

-- a cut at a moment by which all marks are acknowledged is one of all records
pub whole_cut : (b : Beginning) (es : List Entry) (marks : List ℕ) (now : ℕ) (c : Image) → now < 2 ^ 64 - 1
    → ((i mark : ℕ) → slice_get marks i ≡ Some mark → b.since + mark ≤ now) → IsCutImage b es marks now now c → IsWholeCut b es c
whole_cut b es marks now c short acked cut =
    let run = run_after b.supply b.script (start_run b.state) es in
    let all = cut.holds.acknowledged short es [] (sym (append-nil es)) (λ i mark lt got. acked i mark got) in
    record {
      commits = first_commits b es cut.k;
      all = list_or_all run.commits run.tried cut.k all;
      state = cut.state;
      cut = cut.cut;
      means = cut.means;
    }

module _ {D : Type 0} (disks : Ghosts D) (old new : D)
    (counts_now : (t : ℕ) (c : Image) → t ≤ disks.clock new → disks.may_leave new c → disks.left_since new t c) where
  -- a kernel that is running, or has stopped, has kept its run
  pub kept : (b : Beginning) (k : KernelView) (status : Status) → disks.tells → IsRunning b disks k new
      → ((t : ℕ) (c : Image) → t ≤ disks.clock old → disks.left_since new t c → disks.left_since old t c ⊎ disks.left_since new b.first c)
      → IsKept b (seen_disk disks old new) (record { status = status; history = k.history; marks = k.marks })
  kept b k status told running earlier = record {
    marks = running.marks.each;
    begun = running.later;
    acked = acked;
    moments = running.moments told;
    returns = λ short c may. whole_cut b k.history k.marks (disks.clock new) c short (acked short) (running.moments told (disks.clock new) c running.later (counts_now (disks.clock new) c (omega arith) may));
    earlier = earlier;
  }
    where
      acked : disks.clock new < 2 ^ 64 - 1 → (i mark : ℕ) → slice_get k.marks i ≡ Some mark → b.since + mark ≤ disks.clock new
      acked short i mark got = (let now = running.time short in let top = running.marks.top i mark got in omega (arith, now, top))
