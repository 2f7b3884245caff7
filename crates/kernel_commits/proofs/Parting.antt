-- What stands in the place of a Stable where one of its records failed.
use Rattle.std.proofs.Common.{◌≡◌, ℕ, List, [], ◌∷◌, ◌++◌, Some, Err, refl, sym, ap, subst, ◌∙◌, append_assoc}
use Rattle.std.proofs.lemmas.List.{append-nil}
use Rattle.std.specs.Prelude.{Result}
use Rattle.edge_disk.specs.declared.disk.Disk.{Ghosts}
use Rattle.base_types.specs.declared.histories.Entry.{Entry}
use Rattle.base_types.specs.declared.histories.Event.TheVariants.{Stable, Tried}
use Rattle.kernel_commit_facts.specs.model_kernel.Histories.{Run, mark, next_changed, run_after, version_of as run_version}
use Rattle.kernel_commit_facts.specs.model_serial_turns.Turns.{IsStoppedIn}
use Rattle.kernel_commit_facts.proofs.model_serial_turns_lemmas.Stops.{cut_made, cut_stable, cut_stable_tried}
use Rattle.kernel_commit_facts.specs.kernel_invariant.Beginnings.{Beginning, run_of}
use Rattle.kernel_commit_facts.specs.kernel_book_laws.Matching.{version_of}
use Rattle.kernel_commit_facts.specs.Parts.{Parts}
use Rattle.kernel_commit_facts.specs.Pieces.{StopsIn}
use Rattle.kernel_commit_facts.specs.Recording.{HasTried}
use Rattle.kernel_commit_facts.specs.Through.{IsUnderway}
use Rattle.kernel_commits.specs.Recording.{Fails}
use Rattle.kernel_commit_facts.specs.kernel_invariant.declared.stopping.Stopped.{Stopped}
use Rattle.kernel_commit_facts.specs.kernel_invariant.declared.stopping.Stopped.TheVariants as reason
use Rattle.kernel_commit_facts.proofs.Stabling.{behind_snaps}

-- nothing came
pub none_came : (b : Beginning) (all old new : List Entry) → new ≡ old → StopsIn b all old new
none_came b all old new same = record { part = []; entries = same ∙ sym (append-nil old); is = cut_made b.supply b.script (run_of b old) all [] all refl }

module _ {D : Type 0} (disks : Ghosts D)
    (b : Beginning) (actor i : ℕ) (old now new : Parts D) (u : IsUnderway b actor i old.noted.entries now.noted.entries)
    (next : next_changed (run_of b now.noted.entries) ≡ Some i) (version : run_version (run_of b now.noted.entries) i ≡ version_of now.cells i) where
  abbrev r : Run
  r = run_of b old.noted.entries

  abbrev owed : List Entry
  owed = mark Stable actor 0 ∷ []

  behind : run_after b.supply b.script r u.snaps ≡ run_of b now.noted.entries
  behind = behind_snaps b actor old.noted.entries i now.noted.entries u

  made_part : now ≡ new → StopsIn b owed old.noted.entries new.noted.entries
  made_part same = subst (λ (p : Parts D). StopsIn b owed old.noted.entries p.noted.entries) same (record {
    part = u.snaps;
    entries = u.entries;
    is = cut_stable b.supply b.script r owed [] [] u.snaps actor u.made refl u.first;
  })

  abbrev last_tried : Run → Entry
  last_tried q = mark Tried i (run_version q i)

  version_behind : last_tried (run_after b.supply b.script r u.snaps) ≡ mark Tried i (version_of now.cells i)
  version_behind = ap last_tried behind ∙ ap (mark Tried i) version

  tried_part : HasTried disks i now new → StopsIn b owed old.noted.entries new.noted.entries
  tried_part t = record {
    part = u.snaps ++ mark Tried i (version_of now.cells i) ∷ [];
    entries = t.entries ∙ (ap (λ es. es ++ mark Tried i (version_of now.cells i) ∷ []) u.entries ∙ append_assoc old.noted.entries u.snaps (mark Tried i (version_of now.cells i) ∷ []));
    is = subst (λ (e : Entry). IsStoppedIn b.supply b.script r owed (u.snaps ++ e ∷ [])) version_behind
        (cut_stable_tried b.supply b.script r owed [] [] u.snaps actor u.made i refl u.first (ap next_changed behind ∙ next));
  }

  -- THE SNAPS of the records that were made, and a Tried where the disk failed
  pub stable_part : {T : Type 0} (res : Result T Stopped) → Fails disks i res now new
      → (why : Stopped) → res ≡ Err why → StopsIn b owed old.noted.entries new.noted.entries
  stable_part res fails (reason.NoBlocks n) err = made_part (sym (fails.untouched n err))
  stable_part res fails reason.ReadFault err = absurd (fails.no_read err)
  stable_part res fails reason.WriteFault err = tried_part (fails.tried err)
