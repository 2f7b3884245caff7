-- The records of a Stable, one after another: where a kernel stands behind those of the entities below a number.
use Rattle.std.proofs.Common.{◌≡◌, ◌≢◌, ℕ, suc, ◌+◌, ◌*◌, ◌<◌, ◌≤◌, length, [], ◌∷◌, Some, Ok, Err, refl, sym, ap, subst, ◌∙◌, arith}
use Rattle.std.specs.Prelude.{IfErr, OnOk, Result, ⊤}
use Rattle.edge_disk.specs.Image.{Image}
use Rattle.edge_disk.specs.declared.disk.Disk.{Ghosts}
use Rattle.edge_disk.specs.declared.disk.NoBlocks.{NoBlocks}
use Rattle.base_types.specs.declared.histories.Event.TheVariants.{Snap, Stable}
use Rattle.thread_commits.specs.kernel_commit_facts.kernel_book_laws.Matching.{newest_of, version_of}
use Rattle.thread_commits.specs.kernel_commit_facts.kernel_invariant.Beginnings.{Beginning}
use Rattle.thread_commits.specs.kernel_commit_facts.kernel_invariant.declared.stopping.Stopped.{Stopped}
use Rattle.thread_commits.specs.kernel_commit_facts.kernel_invariant.declared.stopping.Stopped.TheVariants as reason
use Rattle.thread_commits.specs.kernel_commit_facts.model_kernel.Histories.{mark}
use Rattle.thread_commits.specs.kernel_commit_facts.store_facts.State.{books}
use Rattle.thread_commits.specs.kernel_commit_facts.Parts.{LivesAs, Parts, StandsAs}
use Rattle.thread_commits.specs.kernel_commit_facts.Recording.{CanRecord, HasRecorded}
use Rattle.thread_commits.specs.kernel_commit_facts.Stabilising.{AreShort, NeedsFit, OwesStable}
use Rattle.thread_commits.specs.kernel_commit_facts.Steady.{IsSteady}
use Rattle.thread_commits.specs.kernel_commit_facts.Through.{GoesThrough, RunsThrough}
use Rattle.thread_commits.proofs.kernel_commit_facts_lemmas.Counting.{CountsWithin-fewer, CountsWithin-stay, one_within}
use Rattle.thread_commits.proofs.kernel_commit_facts_lemmas.Fitting.{not_short, still_fits}
use Rattle.thread_commits.proofs.kernel_commit_facts_lemmas.Running.{still_lives}
use Rattle.thread_commits.proofs.kernel_commit_facts_lemmas.Through.{begins_through, marks_within, may_go_on, newest_low, passes, records_next}
use Rattle.thread_commits.proofs.kernel_commit_facts_lemmas.RunsThrough.{next_is, runs_begin, runs_may, runs_next, runs_pass, version_in_run}
use Rattle.thread_commits.specs.kernel_commits.Recording.{Fails, GoesOnBy}
use Rattle.thread_commits.proofs.kernel_commits_lemmas.Fitting.{only_writes, short_stop}
use Rattle.thread_commits.proofs.kernel_commits_lemmas.Parting.{none_came, stable_part}
use Rattle.thread_commits.proofs.kernel_commits_lemmas.Stops.{stop_left}
use Rattle.thread_commits.specs.Snapping.{AddsAmong}
use Rattle.thread_commits.proofs.Adding.{among_mark, among_still, among_then, fails_among}
use Rattle.thread_commits.proofs.Wished.{Records}
use Rattle.thread_settling.specs.Settling.{RecordsChanged}

abbrev pub stop_of : Stopped → Result ⊤ Stopped
stop_of why = Err why

module _ {D : Type 0} (disks : Ghosts D) (old : Parts D) where
  -- BEHIND THOSE BELOW THE NUMBER, with enough blocks for the others
  pub record IsBehind (i : ℕ) (now : Parts D) : Type 0 where
    pub through : GoesThrough disks i old now
    pub run : disks.tells → (b : Beginning) (actor : ℕ) → OwesStable disks b actor old → RunsThrough disks b actor i old now
    pub fits : NeedsFit now
    pub adds : AddsAmong [] old.noted.entries now.noted.entries

  module _ (steady : IsSteady disks old) (enough : NeedsFit old) where
    too_many : (n : NoBlocks) → AreShort old n → ⊥
    too_many n short = let fewer = short.fewer in omega (arith, fewer, enough)

    pub begins : IsBehind 0 old
    begins = record { through = begins_through disks old steady; run = λ told b actor owes. runs_begin disks b actor old owes; fits = enough; adds = among_still [] old.noted.entries old.noted.entries refl }

    -- all of them
    pub ends : (now : Parts D) → IsBehind 64 now → RecordsChanged disks (Ok tt) old now
    ends now g = record {
      through = g.through;
      run = g.run;
      lives = λ told b actor owes. tt;
      part = λ told b actor owes. tt;
      no_blocks = λ n. ((λ is. absurd (cc is)), (λ short. absurd (too_many n short)));
      untouched = λ n is. absurd (cc is);
      no_read = λ is. cc is;
      stopped = tt;
      adds = g.adds;
      counts = g.through.counts;
    }

    module _ (i : ℕ) (now : Parts D) (g : IsBehind i now) (lt : i < 64) where
      more : suc i ≡ i + 1
      more = omega arith

      -- an entity that has its newest record
      pub passes_turn : newest_of now.cells i ≡ version_of now.cells i → IsBehind (i + 1) now
      passes_turn is = subst (λ n. IsBehind n now) more (record {
        through = passes disks i old now g.through is;
        run = λ told b actor owes. runs_pass disks b actor i old now owes.stands g.through (g.run told b actor owes) is;
        fits = g.fits;
        adds = g.adds;
      })

      -- one that has changed
      module _ (apart : newest_of now.cells i ≢ version_of now.cells i) where
        pub may_turn : CanRecord disks i now.cells now.store × (length now.noted.entries < now.noted.room) × (length now.noted.marks < now.noted.room)
        may_turn = may_go_on disks i old now g.through lt steady apart (newest_low (books now.store).held now.cells g.through.sound.matches.orderly i)

        module _ (r : Result ⊤ Stopped) (new : Parts D) (came : Records disks i r now new) where
          goes_on : disks.tells → (b : Beginning) (actor : ℕ) → OwesStable disks b actor old → GoesOnBy disks b r new
          goes_on told b actor owes = came.run told b (runs_may disks b actor i old now owes.stands g.through (g.run told b actor owes) lt may_turn.0.changed)

          pub records_turn : r ≡ Ok tt → IsBehind (i + 1) new
          records_turn ok =
              let made : HasRecorded disks i now new = subst (λ (q : Result ⊤ Stopped). OnOk q (HasRecorded disks i now new)) ok came.recorded in
              subst (λ n. IsBehind n new) more (record {
                through = records_next disks i old now g.through new made came.counts;
                run = λ told b actor owes. runs_next disks b actor i old now owes.stands g.through (g.run told b actor owes) new lt may_turn.0.changed made
                    (subst (λ (q : Result ⊤ Stopped). OnOk q (StandsAs disks b new)) ok (goes_on told b actor owes).stands);
                fits = still_fits disks i now new g.through.sound.matches.orderly made apart g.fits;
                adds = among_then [] old.noted.entries now.noted.entries new.noted.entries g.adds (among_mark [] now.noted.entries new.noted.entries Snap i (version_of now.cells i) made.entries);
              })

          -- a record that fails: nothing is read, and enough blocks are free, so that it is a write
          pub fails_turn : (why : Stopped) → r ≡ Err why → RecordsChanged disks (stop_of why) old new
          fails_turn why err =
              let only : why ≡ reason.WriteFault = only_writes disks i now r g.fits (λ n is. (came.no_blocks n).0 is) came.fails.no_read why err in
              record {
                through = tt;
                run = λ told b actor owes. tt;
                lives = λ told b actor owes. subst (λ (q : Result ⊤ Stopped). IfErr q (λ w. LivesAs disks b new (Some w))) err (goes_on told b actor owes).lives;
                part = λ told b actor owes.
                    let u = g.run told b actor owes in
                    stable_part disks b actor i old now new u.under (next_is disks b actor i old now owes.stands g.through u lt may_turn.0.changed) (version_in_run disks b now u.stands i)
                    r came.fails why err;
                no_blocks = λ n. ((λ is. absurd (let same : stop_of why ≡ stop_of (reason.NoBlocks n) = is in cc only)), (λ short. absurd (too_many n short)));
                untouched = λ n is. absurd (let same : stop_of why ≡ stop_of (reason.NoBlocks n) = is in cc only);
                no_read = λ is. let same : stop_of why ≡ stop_of reason.ReadFault = is in cc only;
                stopped = stop_left disks i now new g.through.sound.matches.orderly old (marks_within disks i old now g.through steady.few.marks) g.through.counts.later came.counts.later
                    r came.fails (λ n is. (came.no_blocks n).0 is) (AreShort new) (λ n is. absurd (not_short disks i now n g.fits ((came.no_blocks n).0 is))) why err;
                adds = among_then [] old.noted.entries now.noted.entries new.noted.entries g.adds
                    (fails_among disks i now new {T = ⊤} why (subst (λ (q : Result ⊤ Stopped). Fails disks i q now new) err came.fails));
                counts = CountsWithin-fewer disks (suc i * 1556) (64 * 1556) old.store new.store (omega (arith, lt)) (one_within disks i old.store now.store new.store g.through.counts came.counts);
              }

-- where fewer blocks are free than all of them need together, nothing is changed
module _ {D : Type 0} (disks : Ghosts D) (counts_later : (disk : D) (s t : ℕ) (c : Image) → disks.tells → s ≤ t → disks.left_since disk t c → disks.left_since disk s c)
    (only_now : (disk : D) (c : Image) → disks.tells → disks.left_since disk (disks.clock disk) c → disks.may_leave disk c) where
  pub falls_short : (old : Parts D) (n : NoBlocks) → IsSteady disks old → AreShort old n → RecordsChanged disks (stop_of (reason.NoBlocks n)) old old
  falls_short old n steady short = record {
    through = tt;
    run = λ told b actor owes. tt;
    lives = λ told b actor owes. still_lives disks counts_later only_now b old (reason.NoBlocks n) owes.stands;
    part = λ told b actor owes. none_came b (mark Stable actor 0 ∷ []) old.noted.entries old.noted.entries refl;
    no_blocks = λ m. (
      (λ is. let same : n ≡ m = (let q : stop_of (reason.NoBlocks n) ≡ stop_of (reason.NoBlocks m) = is in cc q) in subst (AreShort old) same short),
      (λ also. ap (λ k. stop_of (reason.NoBlocks k)) (short.numbers ∙ sym also.numbers)),
    );
    untouched = λ m is. refl;
    no_read = λ is. let q : stop_of (reason.NoBlocks n) ≡ stop_of reason.ReadFault = is in cc q;
    stopped = short_stop disks old old n steady refl short;
    adds = among_still [] old.noted.entries old.noted.entries refl;
    counts = CountsWithin-stay disks (64 * 1556) old.store;
  }
