-- The Stable behind the records of all changed cells, or what is left where one of them failed.
use Rattle.std.proofs.Common.{◌≡◌, ℕ, ◌+◌, ◌<◌, List, [], ◌∷◌, ◌++◌, length, take, Ok, Err, refl, ap}
use Rattle.edge_disk.specs.declared.disk.Disk.{Ghosts}
use Rattle.base_types.specs.declared.histories.Event.TheVariants.{Stable}
use Rattle.thread_commits.specs.kernel_commit_facts.cell_states.declared.cells.Cell.{Cell}
use Rattle.thread_commits.specs.kernel_commit_facts.kernel_invariant.declared.stopping.Stopped.{Stopped}
use Rattle.thread_commits.specs.kernel_commit_facts.model_kernel.Histories.{mark}
use Rattle.thread_commits.specs.kernel_commit_facts.store_facts.State.{State, books}
use Rattle.thread_commits.specs.kernel_commit_facts.Parts.{Noted, Parts, parts_of}
use Rattle.thread_commits.specs.kernel_commit_facts.Stabilising.{HasStabilised}
use Rattle.thread_commits.specs.kernel_commit_facts.Steady.{IsSteady, entries_taken, steps_to_come}
use Rattle.thread_commits.proofs.kernel_commit_facts_lemmas.Dues.{lacks_first}
use Rattle.thread_commits.proofs.kernel_commit_facts_lemmas.Enough.{lacks_blocks}
use Rattle.thread_commits.proofs.kernel_commit_facts_lemmas.Settled.{entries_are, has_stabilised, marks_are, stable_steady}
use Rattle.thread_commits.proofs.kernel_commit_facts_lemmas.Settling.{stable_calm, stable_stands}
use Rattle.thread_commits.proofs.kernel_commit_facts_lemmas.Within.{all_within}
use Rattle.thread_commits.proofs.kernel_commits_lemmas.Telling.{adds_one, stops_noting}
use Rattle.thread_commits.proofs.Adding.{among_mark}
use Rattle.thread_settling.specs.Settling.{RecordsChanged, Settles}

module _ {D : Type 0} (disks : Ghosts D) (actor : ℕ) (old : Parts D) (steady : IsSteady disks old) where
  -- a record failed, or blocks were too few for all of them
  pub fails_settled : (why : Stopped) (new : Parts D) → RecordsChanged disks (Err why) old new → Settles disks actor (Err why) old new
  fails_settled why new r = record {
    stabilised = tt;
    steady = tt;
    run = λ told b owes. record { stands = tt; calm = tt; lives = r.lives told b actor owes };
    part = λ told b owes. r.part told b actor owes;
    no_blocks = r.no_blocks;
    untouched = r.untouched;
    enough = λ told b owes n is.
        let short = (r.no_blocks n).0 is in
        lacks_first disks b n (mark Stable actor 0) [] (mark Stable actor 0 ∷ []) old new refl tt (r.untouched n is)
        (lacks_blocks disks b old told owes.stands owes.whole short.fewer) short (all_within disks b old told owes.stands steady.sound.matches.few n short);
    stopped = r.stopped;
    notes = stops_noting why old.noted.entries new.noted.entries (λ n is. ap (λ (p : Parts D). p.noted.entries) (r.untouched n is)) r.no_read;
    adds = r.adds;
    clean = λ told s clean. tt;
    counts = r.counts;
  }

  -- all were made, and the Stable is noted in their place
  module _ (st : State D) (cs : List Cell) (n1 n2 : Noted) (r : RecordsChanged disks (Ok tt) old (parts_of st cs n1)) (es ms : ℕ) (es_is : es ≡ length old.noted.entries) (ms_is : ms ≡ length old.noted.marks)
      (entries : n2.entries ≡ take es n1.entries ++ mark Stable actor 0 ∷ []) (marks : n2.marks ≡ take ms n1.marks ++ (books st).begun ∷ []) (room : n2.room ≡ n1.room)
      (spare : steps_to_come old.cells + entries_taken old.noted.entries < old.noted.room) where
    stabilised : HasStabilised actor old (parts_of st cs n2)
    stabilised = has_stabilised disks actor old (parts_of st cs n1) (parts_of st cs n2) r.through es ms es_is ms_is refl refl entries marks room

    pub settled : Settles disks actor (Ok tt) old (parts_of st cs n2)
    settled =
        let all_entries = entries_are disks actor old (parts_of st cs n1) (parts_of st cs n2) r.through es ms es_is ms_is refl refl entries marks room in
        let all_marks = marks_are disks actor old (parts_of st cs n1) (parts_of st cs n2) r.through es ms es_is ms_is refl refl entries marks room in
        record {
          stabilised = stabilised;
          steady = stable_steady disks actor old (parts_of st cs n1) (parts_of st cs n2) r.through es ms es_is ms_is refl refl entries marks room steady spare;
          run = λ told b owes.
              let u = r.run told b actor owes in
              record {
                stands = stable_stands disks b actor old (parts_of st cs n1) (parts_of st cs n2) owes r.through u refl refl all_entries all_marks;
                calm = stable_calm disks b actor old (parts_of st cs n1) (parts_of st cs n2) owes r.through u refl refl all_entries all_marks;
                lives = tt;
              };
          part = λ told b owes. tt;
          no_blocks = r.no_blocks;
          untouched = λ n is. absurd (cc is);
          enough = λ told b owes n is. absurd (cc is);
          stopped = tt;
          notes = adds_one old.noted.entries n2.entries _ stabilised.entries (λ is. cc is);
          adds = among_mark [] old.noted.entries n2.entries Stable actor 0 stabilised.entries;
          clean = λ told s clean. r.through.clean told s clean;
          counts = r.counts;
        }
