-- A kernel from whose store only was read is given back as it was lent.
use Rattle.std.proofs.Common.{◌≡◌, ℕ, ◌+◌, ◌≤◌, ◌*◌, ◌^◌, Bool, true, false, List, length, Option, Some, None, Result, Ok, Err, refl, sym, ap, subst, ◌∙◌, arith, slice_get}
use Rattle.std.specs.Prelude.{IsErrOf, OnOk}
use Rattle.std.proofs.lemmas.Option.{same_Some}
use Rattle.edge_disk.specs.Counts.{Rose}
use Rattle.edge_disk.specs.declared.disk.Disk.{Ghosts}
use Rattle.base_types.specs.declared.histories.Entry.{Entry}
use Rattle.data_stamps.specs.Stamps.{component}
use Rattle.kernel_core.specs.kernel_commit_facts.Parts.{LivesAs, Noted, Parts, parts_of}
use Rattle.kernel_core.specs.kernel_commit_facts.Steady.{IsSteady, entries_taken, entries_to_come}
use Rattle.kernel_core.specs.Parts.{held_of}
use Rattle.kernel_core.specs.kernel_core_facts.Kernels.{Held, IsKept, Lives}
use Rattle.kernel_core.specs.kernel_book_laws.Matching.{MatchesBooks}
use Rattle.kernel_invariant.specs.Beginnings.{Beginning}
use Rattle.kernel_invariant.specs.Live.{IsLive, IsRunning, KernelView}
use Rattle.kernel_invariant.specs.declared.stopping.Stopped.{Stopped}
use Rattle.kernel_invariant.specs.declared.stopping.Stopped.TheVariants as reason
use Rattle.kernel_laws.specs.Going.{OnlyReads, StoppedBetween}
use Rattle.kernel_views.proofs.kernel_records_lemmas.Staying.{clean_stays}
use Rattle.kernel_views.specs.kernel_records.cell_states.declared.cells.Cell.{Cell}
use Rattle.kernel_views.specs.kernel_records.cell_states.declared.cells.Part.{Part}
use Rattle.kernel_views.specs.kernel_records.cell_states.declared.cells.Part.TheVariants as part
use Rattle.kernel_views.specs.kernel_records.model_kernel.State.{Cell as CellState, Supply}
use Rattle.kernel_views.specs.kernel_records.page_memory.Words.{AreCleanTrue}
use Rattle.kernel_views.specs.kernel_records.page_memory.declared.paged.PagedMemory.{PagedMemory}
use Rattle.node_pages.specs.kernel_record_facts.Cells.{IsSoundIn, words_on}
use Rattle.kernel_run_facts.specs.Watching.{IsAsLent}
use Rattle.kernel_views.proofs.Following.{cells_follow, follows}
use Rattle.kernel_views.proofs.Stopping.{stops}
use Rattle.kernel_views.specs.Views.{FollowsRun, view_of}
use Rattle.kernel_views.specs.cell_blob_laws.Memories.{HasOwnMemory}
use Rattle.open_facts.proofs.Starting.{sound_own, state_stays}
use Rattle.node_lending.specs.Lending.{StopsForReads}
use Rattle.node_pages.specs.Reading.{GoesByReads}
use Rattle.node_pages.specs.store_snapshots.store_books.Books.{Books}
use Rattle.node_pages.specs.store_snapshots.store_books.Owning.{AreOwned}
use Rattle.node_pages.specs.store_snapshots.store_facts.State.{State, books}
use Rattle.kernel_views.specs.table_laws.Tables.{AreClean, IsOrderly, entity_in, memory_at, state_in, tables_in}
use Rattle.kernel_views.specs.table_laws.cell_calls.Besides.{memory_of}

-- CELLS, where the blocks that are held have the same words

module _ (s : Supply) (held : ℕ → Bool) (words words' : ℕ → List ℕ) (cs : List Cell) (same : (n : ℕ) → held n ≡ true → words' n ≡ words n) (orderly : IsOrderly held cs) where
  all_clean : AreClean s words cs → AreClean s words' cs
  all_clean clean x m at = by_cell (slice_get cs x) refl at
    where
      by_part : (p : Part) → IsSoundIn held p → memory_of p ≡ Some m → AreCleanTrue s words m → AreCleanTrue s words' m
      by_part (part.Atlas a) sound is has = cc is
      by_part (part.Container b) sound is has =
          let one : b.memory ≡ m = same_Some b.memory m is in
          subst (AreCleanTrue s words') one (clean_stays s held words words' same (part.Container b) sound (subst (AreCleanTrue s words) (sym one) has))
      by_part (part.Locus l) sound is has = cc is

      by_cell : (o : Option Cell) → slice_get cs x ≡ o → memory_at o ≡ Some m → AreCleanTrue s words' m
      by_cell None is none = cc none
      by_cell (Some c) is there = by_part c.part (sound_own held c.part (orderly.own x c is)) there (clean x m (ap memory_at is ∙ there))

module _ {D : Type 0} (disks : Ghosts D) (cs : List Cell) (noted : Noted) (old new : State D) (goes : GoesByReads disks old new) where
  same_books : (books new).shut ≡ (books old).shut → books new ≡ books old
  same_books shut =
      let p = goes.pages.only in
      λ i. record { count = p.same_count i; logged = p.same_logged i; place = p.same_place i; held = goes.same_held i; found = p.same_found i; small = p.same_small i; shut = shut i; begun = goes.same_begun i }

  orderly_stays : IsOrderly (books old).held cs → IsOrderly (books new).held cs
  orderly_stays = subst (λ (held : ℕ → Bool). IsOrderly held cs) (sym goes.same_held)

  steady_stays : IsSteady disks (parts_of old cs noted) → (books new).shut ≡ false → IsSteady disks (parts_of new cs noted)
  steady_stays st working =
      let same : books new ≡ books old = same_books (working ∙ sym st.sound.working) in
      record {
        sound = record {
          matches = subst (λ (b : Books). MatchesBooks (λ _. 4) b cs) (sym same) st.sound.matches;
          working = working;
          true_books = λ t. goes.pages.only.true_books t (st.sound.true_books t);
        };
        few = record {
          versions = st.few.versions;
          epoch = subst (λ (b : Books). b.place.epoch ≤ 2 ^ 62 + 1 + 64 * length noted.entries) (sym same) st.few.epoch;
          marks = st.few.marks;
          room = st.few.room;
          small = st.few.small;
        };
      }

  -- whatever the reads came to, and whatever the kernel had stopped for
  pub kept_with : (stop stop' : Option Stopped) → IsKept disks (held_of old cs noted stop) → (stop' ≡ None → (stop ≡ None) × ((books new).shut ≡ false)) → IsKept disks (held_of new cs noted stop')
  kept_with stop stop' k going = record { orderly = orderly_stays k.orderly; steady = λ none. (let g = going none in steady_stays (k.steady g.0) g.1) }

  -- OF A KERNEL THAT GOES ON
  module _ (st : IsSteady disks (parts_of old cs noted)) where
    held : ℕ → Bool
    held = (books old).held

    module _ (t : disks.tells) (s : Supply) where
      state_as : state_in s (words_on (disks.reading new.disk)) cs ≡ state_in s (words_on (disks.reading old.disk)) cs
      state_as = state_stays s (books old).held (words_on (disks.reading old.disk)) (words_on (disks.reading new.disk)) cs (goes.same_words t) st.sound.matches.orderly

      clean_as : AreClean s (words_on (disks.reading old.disk)) cs → AreClean s (words_on (disks.reading new.disk)) cs
      clean_as = all_clean s (books old).held (words_on (disks.reading old.disk)) (words_on (disks.reading new.disk)) cs (goes.same_words t) st.sound.matches.orderly

    module _ (b : Beginning) (t : disks.tells) (lives : Lives disks b (held_of old cs noted None)) where
      before : FollowsRun b (words_on (disks.reading old.disk)) cs noted.entries
      before = cells_follow b noted.entries (disks.reading old.disk) cs st.sound.matches.orderly.numbers (books old) noted.marks None lives.live.running.follows

      after : FollowsRun b (words_on (disks.reading new.disk)) cs noted.entries
      after = record { state = state_as t b.supply ∙ before.state; wishes = before.wishes }

      only_reads : (books new).shut ≡ false → OnlyReads b disks (view_of disks.reading b cs old noted.entries noted.marks None) (view_of disks.reading b cs new noted.entries noted.marks None) old.disk new.disk
      only_reads working = record {
        was_going = refl;
        going = refl;
        history = refl;
        marks = refl;
        follows = follows b noted.entries (disks.reading new.disk) cs st.sound.matches.orderly.numbers lives.live.running.legal after (books new) noted.marks None;
        pages = ((books old).begun, (books new).begun, goes.pages.only);
        working = working;
        owned = subst (λ (bk : Books). AreOwned bk (tables_in cs)) (sym (same_books (working ∙ sym st.sound.working))) (lives.live.running.stored t refl).owned;
        none_written = goes.same_begun;
      }

      stopped_between : (why : Stopped) → StoppedBetween b disks (view_of disks.reading b cs old noted.entries noted.marks None) (view_of disks.reading b cs new noted.entries noted.marks (Some why)) old.disk new.disk
      stopped_between why = stops disks b cs cs old new noted.entries noted.marks why
          (record { runs = lives.live.running; orderly = st.sound.matches.orderly; clean = lives.clean refl })
          (record {
            numbers = st.sound.matches.orderly.numbers;
            state = state_as t b.supply;
            wishes = λ steps r has. has;
            before = (books old).begun;
            after = (books new).begun;
            pages = goes.pages.only;
          })

    abbrev IsBehind : Option Stopped → Type 0
    IsBehind stop = StopsForReads disks old new stop

    module _ (reads : (b : Beginning) (o n : KernelView) (disk after : D) → IsLive b disks o disk → OnlyReads b disks o n disk after → IsLive b disks n after)
        (stop_lives : (b : Beginning) (o n : KernelView) (disk after : D) → IsRunning b disks o disk → StoppedBetween b disks o n disk after → IsLive b disks n after) where
      lives_as : (stop : Option Stopped) → IsBehind stop → disks.tells → (b : Beginning) → Lives disks b (held_of old cs noted None) → Lives disks b (held_of new cs noted stop)
      lives_as None is t b lives = record {
        live = reads b (view_of disks.reading b cs old noted.entries noted.marks None) (view_of disks.reading b cs new noted.entries noted.marks None) old.disk new.disk lives.live (only_reads b t lives is);
        clean = λ _. clean_as t b.supply (lives.clean refl);
      }
      lives_as (Some why) is t b lives = record {
        live = stop_lives b (view_of disks.reading b cs old noted.entries noted.marks None) (view_of disks.reading b cs new noted.entries noted.marks (Some why)) old.disk new.disk lives.live.running (stopped_between b t lives why);
        clean = λ none. cc none;
      }

      reasons : (stop : Option Stopped) → IsBehind stop → (why : Stopped) → stop ≡ Some why → (why ≡ reason.ReadFault) × Rose (disks.faults old.disk) (disks.faults new.disk)
      reasons None is why at = cc at
      reasons (Some w) is why at = (let same : w ≡ why = same_Some w why at in (sym same ∙ is.0, is.1))

      pub as_lent : (stop : Option Stopped) → IsBehind stop → IsAsLent disks (held_of old cs noted None) (held_of new cs noted stop)
      as_lent stop is = record {
        notes = refl;
        cells = refl;
        counts = record {
          few = (let same = goes.same_begun in omega (arith, same));
          counts = goes.pages.only.counts;
          later = goes.pages.later;
          same_count = goes.pages.only.same_count;
        };
        lives = lives_as stop is;
        clean = λ s clean t none. clean_as t s (clean t refl);
        stop = reasons stop is;
      }
