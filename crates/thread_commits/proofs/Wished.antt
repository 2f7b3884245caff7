-- The Snap of one entity by its wish, over the parts that are known of a kernel, from what its record came to.
use Rattle.std.proofs.Common.{◌≡◌, ℕ, Bool, true, false, [], Ok, Err, slice_get, Some, refl, sym, ap, subst, ◌∙◌, arith}
use Rattle.std.specs.Prelude.{◌↔◌, IfErr, IsErrOf, OnOk, Result, ⊤}
use Rattle.std.proofs.lemmas.Bool.{false≢true}
use Rattle.edge_disk.specs.declared.disk.Disk.{Ghosts}
use Rattle.edge_disk.specs.declared.disk.NoBlocks.{NoBlocks}
use Rattle.edge_tally.proofs.Counting.{CountsOn-stay}
use Rattle.base_types.specs.declared.histories.Event.TheVariants.{Snap}
use Rattle.kernel_commit_facts.specs.kernel_book_laws.Matching.{version_of}
use Rattle.kernel_commit_facts.specs.model_kernel.Histories.{Policy}
use Rattle.kernel_commit_facts.specs.cell_states.declared.cells.Cell.{Cell}
use Rattle.kernel_commit_facts.specs.store_facts.State.{books}
use Rattle.kernel_commit_facts.specs.kernel_invariant.Beginnings.{Beginning, run_of}
use Rattle.kernel_commit_facts.specs.kernel_invariant.declared.stopping.Stopped.{Stopped}
use Rattle.kernel_commit_facts.specs.kernel_invariant.declared.stopping.Stopped.TheVariants as reason
use Rattle.kernel_commit_facts.specs.kernel_records.Committing.{CommitCounts}
use Rattle.kernel_commit_facts.specs.Parts.{LivesAs, Parts, StandsAs}
use Rattle.kernel_commit_facts.specs.Recording.{HasRecorded, IsShort, MayRecord}
use Rattle.kernel_commit_facts.specs.Snapping.{CanSnap, RunsFree, Snaps, wants_in}
use Rattle.kernel_commit_facts.specs.Steady.{IsSteady}
use Rattle.kernel_commit_facts.proofs.Committing.{clean_again}
use Rattle.kernel_commit_facts.proofs.Enough.{short_lacks}
use Rattle.kernel_commit_facts.proofs.Steadying.{steady_again}
use Rattle.kernel_commit_facts.proofs.kernel_block_laws_lemmas.Enough.{calm_whole}
use Rattle.kernel_commits.specs.Recording.{Fails, GoesOnBy}
use Rattle.kernel_commits.proofs.Telling.{adds_none, adds_one, fails_noting}
use Rattle.kernel_commits.proofs.Wishing.{err_over, fault_in, may_record, none_made, one_answer, one_failed, one_lacks, one_made, one_part}
use Rattle.thread_commits.specs.Snapping.{SnapsWished}
use Rattle.thread_commits.proofs.Adding.{among_mark, among_still, fails_among}

-- what the record of an entity came to
pub record Records {D : Type 0} (disks : Ghosts D) (x : ℕ) (r : Result ⊤ Stopped) (old new : Parts D) : Type 0 where
  pub recorded : OnOk r (HasRecorded disks x old new)
  pub no_blocks : (n : NoBlocks) → IsErrOf r (reason.NoBlocks n) ↔ IsShort disks x old n
  pub fails : Fails disks x r old new
  pub run : disks.tells → (b : Beginning) → MayRecord disks b x old → GoesOnBy disks b r new
  pub counts : CommitCounts disks old.store new.store

module _ {D : Type 0} (disks : Ghosts D) (policy : Policy) (x : ℕ) (old : Parts D) (steady : IsSteady disks old) (c : Cell) (at : slice_get old.cells x ≡ Some c) where
  abbrev WantsInRun : Bool → Type 0
  WantsInRun t = disks.tells → (b : Beginning) → RunsFree disks b policy old → wants_in policy (run_of b old.noted.entries) x ≡ t

  -- none is to be made
  pub none_snaps : Snaps policy x old false → WantsInRun false → SnapsWished disks policy x (Ok false) old old
  none_snaps isnt run = record {
    steady = steady;
    made = λ is. absurd (false≢true (one_answer policy x old c at false true isnt is));
    none = λ is. (refl, refl);
    no_blocks = λ n. ((λ is. absurd (cc is)), (λ both. absurd (false≢true (one_answer policy x old c at false true isnt both.0))));
    fails = record { untouched = λ n is. absurd (cc is); tried = λ is. absurd (cc is); no_read = λ is. cc is };
    notes = adds_none old.noted.entries old.noted.entries refl;
    adds = among_still [] old.noted.entries old.noted.entries refl;
    run = λ told b free. none_made disks b policy x old told free c at (run told b free) (Ok false) false refl;
    part = λ told b free. tt;
    clean = λ told s clean. clean;
    enough = λ told b free n is. absurd (cc is);
    counts = record { few = omega arith; counts = CountsOn-stay (disks.clock old.store.disk) (books old.store).begun; later = omega arith; same_count = refl };
  }

  -- one is, and its record came to this
  module _ (is : Snaps policy x old true) (can : CanSnap disks x old) (wants : WantsInRun true) (r : Result ⊤ Stopped) (new : Parts D) (came : Records disks x r old new) where
    abbrev never : Snaps policy x old false → ⊥
    never isnt = false≢true (one_answer policy x old c at false true isnt is)

    goes_on : disks.tells → (b : Beginning) → RunsFree disks b policy old → GoesOnBy disks b r new
    goes_on told b free = came.run told b (may_record disks b policy x old told free c at (wants told b free))

    pub made_snaps : r ≡ Ok tt → SnapsWished disks policy x (Ok true) old new
    made_snaps ok = let recorded : HasRecorded disks x old new = subst (λ (q : Result ⊤ Stopped). OnOk q (HasRecorded disks x old new)) ok came.recorded in record {
      steady = steady_again disks x old new steady recorded can.few
          (can.noted recorded.made.before (ap (slice_get old.cells) (sym recorded.made.commits.number) ∙ recorded.made.commits.lends.stood.0)) recorded.made.true_books;
      made = λ is. (refl, recorded);
      none = λ isnt. absurd (never isnt);
      no_blocks = λ n. ((λ is. absurd (cc is)), (λ both. absurd (let short = (came.no_blocks n).1 both.1 in cc (ok, short))));
      fails = record { untouched = λ n is. absurd (cc is); tried = λ is. absurd (cc is); no_read = λ is. cc is };
      notes = adds_one old.noted.entries new.noted.entries _ recorded.entries (λ is. cc is);
      adds = among_mark [] old.noted.entries new.noted.entries Snap x (version_of old.cells x) recorded.entries;
      run = λ told b free. one_made disks b policy x old told free c at new (wants told b free) recorded
          (subst (λ (q : Result ⊤ Stopped). OnOk q (StandsAs disks b new)) ok (goes_on told b free).stands) (Ok true) true refl;
      part = λ told b free. tt;
      clean = λ told s clean. clean_again disks x old new steady.sound.matches.orderly recorded.made told s clean;
      enough = λ told b free n is. absurd (cc is);
      counts = came.counts;
    }

    module _ (why : Stopped) (err : r ≡ Err why) where
      was : (w : Stopped) → fault_in Bool why ≡ fault_in Bool w → r ≡ Err w
      was w same = err ∙ err_over Bool ⊤ why w same

      fails_so : Fails disks x (fault_in Bool why) old new
      fails_so = record {
        untouched = λ n same. came.fails.untouched n (was (reason.NoBlocks n) same);
        tried = λ same. came.fails.tried (was reason.WriteFault same);
        no_read = λ same. came.fails.no_read (was reason.ReadFault same);
      }

      pub failed_snaps : SnapsWished disks policy x (Err why) old new
      failed_snaps = record {
        steady = tt;
        made = λ is. tt;
        none = λ isnt. absurd (never isnt);
        no_blocks = λ n. ((λ same. (is, (came.no_blocks n).0 (was (reason.NoBlocks n) same))), (λ both. err_over ⊤ Bool why (reason.NoBlocks n) (sym err ∙ (came.no_blocks n).1 both.1)));
        fails = fails_so;
        notes = fails_noting disks x old new {T = Bool} why fails_so;
        adds = fails_among disks x old new {T = Bool} why fails_so;
        run = λ told b free. one_failed disks b policy x old told free c at new (Err why) why refl
            (subst (λ (q : Result ⊤ Stopped). IfErr q (λ w. LivesAs disks b new (Some w))) err (goes_on told b free).lives);
        part = λ told b free. one_part disks b policy x old told free c at (wants told b free) new r came.fails why err;
        clean = λ told s clean. tt;
        enough = λ told b free n same.
            let short = (came.no_blocks n).0 (was (reason.NoBlocks n) same) in
            let runs = free.stands.runs in
            one_lacks disks b policy x old told free c at (wants told b free) new (came.fails.untouched n (was (reason.NoBlocks n) same))
            (short_lacks disks b old told free.stands (calm_whole b old.noted.entries runs.begins runs.legal free.owes_nothing) x n short) steady.sound.matches.few n short;
        counts = came.counts;
      }
