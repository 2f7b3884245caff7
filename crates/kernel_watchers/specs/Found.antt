-- What a watcher that asks each entity for its newest commit finds.
use Rattle.std.specs.Prelude.{◌≡◌, ◌<◌, ℕ, List, []}
use Rattle.edge_disk.specs.declared.disk.Disk.{Ghosts}
use Rattle.base_types.specs.declared.histories.Entry.{Entry}
use Rattle.kernel_runs.specs.kernel_invariant.Beginnings.{Beginning, BeginsRight, completed}
use Rattle.kernel_runs.specs.kernel_core_facts.Kernels.{Held, Lives}
use Rattle.kernel_runs.specs.kernel_book_laws.Matching.{newest_of}
use Rattle.kernel_runs.specs.kernel_run_facts.Watching.{Shows}
use Rattle.model_new_commits.specs.model_run_rules.Newest.{newest_in}
use Rattle.model_new_commits.specs.Found.{AreFound}

-- BEHIND WHAT IT IS SHOWN: where each entity's newest commit was known before, exactly the commits that came are found, in their order
abbrev pub ShownCommitsLaw : {D : Type 0} → Ghosts D → Type 0
ShownCommitsLaw {D} disks =
    (b : Beginning) (es : List Entry) (k : Held D) (known : ℕ → ℕ) → Shows disks b es k
    → ((x : ℕ) → x < 64 → known x ≡ newest_in (completed b es) x) → AreFound known (completed b es) (completed b k.parts.noted.entries)

-- BEFORE A RUN, where nothing is known, those of the opened image are
abbrev pub OpenedCommitsLaw : Type 0
OpenedCommitsLaw = (b : Beginning) (known : ℕ → ℕ) → BeginsRight b → ((x : ℕ) → x < 64 → known x ≡ 0) → AreFound known [] (completed b [])

-- A LIVE KERNEL'S CELLS have the version of each entity's newest commit
abbrev pub CellsTellLaw : {D : Type 0} → Ghosts D → Type 0
CellsTellLaw {D} disks = (b : Beginning) (k : Held D) (x : ℕ) → Lives disks b k → x < 64 → newest_of k.parts.cells x ≡ newest_in (completed b k.parts.noted.entries) x
