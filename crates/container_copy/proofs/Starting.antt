-- The table and the store of an image that was opened stand for what it means.
use Rattle.std.proofs.Common.{◌≡◌, inl, inr, ℕ, ◌+◌, ◌-◌, ◌^◌, ◌≤◌, List, [], ◌∷◌, length, None, refl, subst, arith}
use Rattle.std.specs.List.{AllByRecursion}
use Rattle.std.proofs.lemmas.Bool.{cases_lt}
use Rattle.std.proofs.lemmas.List.{append-nil}
use Rattle.edge_disk.specs.declared.disk.Disk.{Ghosts}
use Rattle.edge_disk.specs.Disk.{Ticks}
use Rattle.edge_tally.proofs.Counting.{first_ended}
use Rattle.edge_tally.specs.Counts.{Begins, shown}
use Rattle.model_sound_states.proofs.Empty.{none_beyond}
use Rattle.model_sound_states.proofs.model_kernel_lemmas.Lowering.{greatest_one}
use Rattle.model_sound_states.proofs.model_run_laws_lemmas.Cuts.{cut_greatest, start_has}
use Rattle.model_sound_states.proofs.model_run_laws_lemmas.Starts.{starts_held}
use Rattle.kernel_invariant.specs.Beginnings.{Beginning, BeginsRight, completed}
use Rattle.kernel_invariant.specs.Records.{AreKeptRecords, IsKeptRecord}
use Rattle.kernel_invariant.specs.image_meaning.Meaning.{Means}
use Rattle.kernel_invariant.specs.image_meaning.Stores.{Kept, recs_of}
use Rattle.kernel_invariant.specs.model_cut_laws.Agreeing.{HoldsStart, nothing}
use Rattle.kernel_invariant.specs.model_cut_laws.Records.{commits_of}
use Rattle.kernel_invariant.specs.model_kernel.Choices.{IsGreatest}
use Rattle.kernel_invariant.specs.model_kernel.Histories.{never, start_run}
use Rattle.kernel_invariant.specs.model_kernel.State.{KernelState, Supply}
use Rattle.kernel_invariant.proofs.model_cut_laws_lemmas.Joins.{same_greatest, to_nothing}
use Rattle.store_copies.specs.Images.{AreRecordsOf, IsMeantState, TellsIn}
use Rattle.open_image.specs.kernel_laws.Opening.{StandsAtStart, empty_script}
use Rattle.open_image.specs.kernel_views.Views.{view_of}
use Rattle.open_image.specs.open_facts.Images.{IsOpenedTable, StartsFrom}
use Rattle.open_image.specs.store_books.Books.{kept_of}
use Rattle.open_image.specs.store_facts.State.{State, books}
use Rattle.open_image.specs.table_laws.cell_states.declared.cells.Cell.{Cell}
use Rattle.open_image.proofs.kernel_laws_lemmas.Numbers.{commits_bound}
use Rattle.open_image.proofs.kernel_laws_lemmas.Opening.{meant_unwritten}
use Rattle.open_image.proofs.kernel_laws_lemmas.Starting.{empty_names, empty_rules}
use Rattle.open_image.proofs.image_state_laws_lemmas.Meant.{meant_state}
use Rattle.container_copy.specs.Copying.{AreLowNumbers, StandsTable}

-- RECORDS of a state, as a run that begins there keeps them
module _ (b : Beginning) where
  each_tells : (ks : List Kept) → AllByRecursion (IsKeptRecord b []) ks → AllByRecursion (TellsIn b.supply b.state) ks
  each_tells [] all = tt
  each_tells (k ∷ ks) (one, all) = (one.told, each_tells ks all)

  pub records_of_state : IsMeantState b.supply b.state → (ks : List Kept) → AreKeptRecords b [] (completed b []) ks → AreRecordsOf b.supply b.state ks
  records_of_state meant ks r =
      let versions : ℕ → ℕ = λ x. (b.state x).version in
      let none = none_beyond b.supply b.state meant.sound in
      let from_start : IsGreatest versions (completed b []) versions = cut_greatest versions (start_run b.state) (start_has b.state meant.sound.below none) in
      let held : HoldsStart versions (completed b []) = subst (HoldsStart versions) (append-nil (completed b [])) (starts_held b.supply b.script b.state [] meant.sound.below none) in
      let g : IsGreatest nothing (completed b []) versions = to_nothing versions (completed b []) versions held from_start in
      let same : r.agree.cut ≡ versions = greatest_one nothing (completed b []) r.agree.cut versions r.agree.greatest g in
      record {
        each = each_tells ks r.each;
        greatest = subst (IsGreatest nothing (commits_of (recs_of ks))) same (same_greatest nothing r.agree.cut (completed b []) (commits_of (recs_of ks)) r.agree.same r.agree.greatest);
      }

-- no more commits than entities are there at first
few_commits : (b : Beginning) → length (completed b []) ≤ 64
few_commits b = (let few = commits_bound b [] in omega (arith, few))

-- the moment behind the first call
tick : (n : ℕ) → (k : ℕ) × Ticks n k
tick n = elim (cases_lt n (2 ^ 64 - 1)) as (λ _. (k : ℕ) × Ticks n k) [
  | inl lt ↦ (n + 1, record { one_more = λ _. refl; at_end = λ past. absurd (omega (arith, lt, past)) })
  | inr ge ↦ (n, record { one_more = λ lt. absurd (omega (arith, lt, ge)); at_end = λ _. refl })
]

module _ {D : Type 0} (disks : Ghosts D) (old : D) (st : State D) (cs : List Cell) (told : disks.tells) (t : IsOpenedTable 1 1 st cs) (starts : StartsFrom disks 1 old st cs)
    (begins : Begins 138 (shown disks old 0) (shown disks st.disk (books st).begun)) (s : Supply) (v : KernelState) (means : Means s (disks.reading old) v) (low : AreLowNumbers (disks.reading old) v) where
  abbrev first : (k : ℕ) × Ticks (disks.clock old) k
  first = tick (disks.clock old)

  abbrev b : Beginning
  b = record { supply = s; policy = never; script = empty_script 1; state = v; since = disks.clock old; first = first.0 }

  meant : IsMeantState s v
  meant = record { sound = meant_state s (disks.reading old) v means; unwritten = meant_unwritten s (disks.reading old) v means }

  right : BeginsRight b
  right = record {
    script = empty_rules 1 (omega arith) (omega arith);
    names = empty_names 1 v;
    sound = meant.sound;
    unwritten = meant.unwritten;
    small = low.versions;
  }

  at_start : StandsAtStart b disks (view_of disks.reading b cs st [] [] None) st.disk
  at_start = starts b first.0 right refl means low.epoch refl first.1 (omega arith)
      (first_ended 138 (disks.block_count old) (disks.block_count st.disk) (disks.faults old) (disks.faults st.disk) (disks.clock old) (disks.clock st.disk) (books st).begun first.0 begins t.opened.synced first.1)

  pub stands : StandsTable s v (disks.reading st.disk) (books st) cs
  stands =
      let hold = at_start.stored told in
      record {
        state = at_start.state;
        meant = meant;
        records = records_of_state b meant (kept_of (disks.reading st.disk) (books st)) hold.records;
        owned = hold.owned;
        small = hold.small;
        epoch = (let le = hold.epoch in let few = few_commits b in omega (arith, le, few));
        versions = low.versions;
      }
