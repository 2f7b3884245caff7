-- The Snaps of what a step wrote, one after another: where a kernel stands behind so many touches.
use Rattle.std.proofs.Common.{◌≡◌, ℕ, ◌+◌, ◌<◌, ◌≤◌, Bool, true, false, List, [], ◌∷◌, length, get_or, drop, Ok, Err, refl, sym, ap, subst}
use Rattle.std.specs.Prelude.{Result, ⊤}
use Rattle.edge_disk.specs.declared.disk.Disk.{Ghosts}
use Rattle.base_types.specs.Touches.{IsRising}
use Rattle.base_types.specs.declared.histories.Touch.{Touch}
use Rattle.kernel_commit_facts.specs.model_kernel.Histories.{Policy}
use Rattle.kernel_commit_facts.specs.model_kernel.State.{Supply}
use Rattle.kernel_commit_facts.specs.model_serial.Serial.{written_in}
use Rattle.kernel_commit_facts.specs.table_laws.Tables.{AreClean}
use Rattle.kernel_commit_facts.specs.kernel_record_facts.Cells.{words_on}
use Rattle.kernel_commit_facts.specs.kernel_invariant.Beginnings.{Beginning}
use Rattle.kernel_commit_facts.specs.kernel_invariant.declared.stopping.Stopped.{Stopped}
use Rattle.kernel_commit_facts.specs.kernel_invariant.declared.stopping.Stopped.TheVariants as reason
use Rattle.kernel_commit_facts.specs.Parts.{Parts}
use Rattle.kernel_commit_facts.specs.Short.{AreSnapsShort, IsSnapShort}
use Rattle.kernel_commit_facts.specs.Snapping.{RunsFree}
use Rattle.kernel_commit_facts.specs.Steady.{IsSteady}
use Rattle.kernel_commit_facts.proofs.Counting.{CountsAlong, counts_begin, counts_end, counts_next, counts_skip, past_cells}
use Rattle.kernel_commits.specs.Telling.{AddsNoTried}
use Rattle.kernel_commits.proofs.Along.{SnapsAlong, begins_along, ends_along, lacks_along, next_touch, none_left, place_low, skip, stops_along, take_one, written_at}
use Rattle.kernel_commits.proofs.Stops.{stop_left}
use Rattle.kernel_commits.proofs.Telling.{adds_none, adds_then, notes_again}
use Rattle.kernel_commits.proofs.Wishing.{err_over}
use Rattle.thread_commits.specs.Snapping.{AddsAmong, SnapsWished, SnapsWritten}
use Rattle.thread_commits.proofs.Adding.{among_still, among_then}

module _ {D : Type 0} (disks : Ghosts D) (policy : Policy) (ts : List Touch) (first : Parts D) where
  -- BEHIND SO MANY TOUCHES: the Snaps of those that wrote were made, and the kernel goes on
  pub record GoesAlong (i : ℕ) (now : Parts D) : Type 0 where
    pub steady : IsSteady disks now
    pub notes : AddsNoTried first.noted.entries now.noted.entries
    pub adds : AddsAmong [] first.noted.entries now.noted.entries
    pub counts : CountsAlong disks i first.store now.store
    pub clean : disks.tells → (s : Supply) → AreClean s (words_on (disks.reading first.store.disk)) first.cells → AreClean s (words_on (disks.reading now.store.disk)) now.cells
    pub run : disks.tells → (b : Beginning) → RunsFree disks b policy first → SnapsAlong disks b policy ts (drop i ts) first now

  pub begins : IsSteady disks first → GoesAlong 0 first
  begins steady = record {
    steady = steady;
    notes = adds_none first.noted.entries first.noted.entries refl;
    adds = among_still [] first.noted.entries first.noted.entries refl;
    counts = counts_begin disks first.store;
    clean = λ told s clean. clean;
    run = λ told b free. begins_along disks b policy ts first free;
  }

  module _ (i : ℕ) (t : Touch) (lt : i < length ts) (is : t ≡ get_or ts i t) (now : Parts D) (g : GoesAlong i now) where
    abbrev left : List Touch
    left = drop (i + 1) ts

    along : disks.tells → (b : Beginning) → RunsFree disks b policy first → SnapsAlong disks b policy ts (t ∷ left) first now
    along told b free = subst (λ rest. SnapsAlong disks b policy ts rest first now) (next_touch ts i t lt is) (g.run told b free)

    -- a touch that only read
    pub passes_on : t.wrote ≡ false → GoesAlong (i + 1) now
    passes_on read = record {
      steady = g.steady;
      notes = g.notes;
      adds = g.adds;
      counts = counts_skip disks i first.store now.store g.counts;
      clean = g.clean;
      run = λ told b free. skip disks b policy ts left t first now (along told b free) read;
    }

    module _ (rising : IsRising ts) (wrote : t.wrote ≡ true) (next : Parts D) where
      counted : (r : Result Bool Stopped) → SnapsWished disks policy t.entity r now next → CountsAlong disks (i + 1) first.store next.store
      counted r s = counts_next disks i t.entity first.store now.store next.store (place_low ts rising i t lt is) g.counts s.counts
          (λ past. ap (λ (p : Parts D). p.store) (s.none (past_cells policy t.entity now false g.steady.sound.matches.orderly.numbers past)).1)

      -- a Snap that was made, or none was wished
      pub snaps_on : (v : Bool) → SnapsWished disks policy t.entity (Ok v) now next → GoesAlong (i + 1) next
      snaps_on v s = record {
        steady = s.steady;
        notes = adds_then first.noted.entries now.noted.entries next.noted.entries g.notes s.notes;
        adds = among_then [] first.noted.entries now.noted.entries next.noted.entries g.adds s.adds;
        counts = counted (Ok v) s;
        clean = λ told supply clean. s.clean told supply (g.clean told supply clean);
        run = λ told b free. take_one disks b policy ts left t first now (along told b free) wrote v next (s.run told b (along told b free).runs);
      }

      -- one that failed
      pub fails_on : (why : Stopped) → SnapsWished disks policy t.entity (Err why) now next → SnapsWritten disks policy (written_in ts) (Err why) first next
      fails_on why s = record {
        steady = tt;
        run = λ told b free. record { runs = tt; entries = tt; calm = λ behind. tt; lives = (s.run told b (along told b free).runs).lives };
        part = λ told b free. stops_along disks b policy ts left t first now (along told b free) wrote next (s.part told b (along told b free).runs);
        enough = λ told b free n same. lacks_along disks b policy ts left t first now (along told b free) wrote next n (s.enough told b (along told b free).runs n (err_over ⊤ Bool why (reason.NoBlocks n) same));
        stopped = stop_left disks t.entity now next g.steady.sound.matches.orderly first g.steady.few.marks g.counts.within.later s.counts.later (Err why) s.fails (λ n same. ((s.no_blocks n).0 same).1)
            (AreSnapsShort disks policy (written_in ts) next)
            (λ n same. record {
              entity = t.entity;
              among = written_at ts i t lt is wrote;
              short = subst (λ (p : Parts D). IsSnapShort disks policy t.entity p n) (sym (s.fails.untouched n same)) ((s.no_blocks n).0 same);
            })
            why refl;
        notes = notes_again ⊤ Bool why first.noted.entries now.noted.entries next.noted.entries g.notes s.notes;
        adds = among_then [] first.noted.entries now.noted.entries next.noted.entries g.adds s.adds;
        clean = λ told supply clean. tt;
        counts = counts_end disks (i + 1) first.store next.store (counted (Err why) s);
      }

  -- all of them
  pub ends : (i : ℕ) (now : Parts D) → length ts ≤ i → GoesAlong i now → SnapsWritten disks policy (written_in ts) (Ok tt) first now
  ends i now done g = record {
    steady = g.steady;
    run = λ told b free. ends_along disks b policy ts first now (subst (λ rest. SnapsAlong disks b policy ts rest first now) (none_left ts i done) (g.run told b free));
    part = λ told b free. tt;
    enough = λ told b free n same. absurd (cc same);
    stopped = tt;
    notes = g.notes;
    adds = g.adds;
    clean = g.clean;
    counts = counts_end disks i first.store now.store g.counts;
  }
