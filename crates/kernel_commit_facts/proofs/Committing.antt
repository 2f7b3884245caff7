-- One cell of the kernel is committed, whatever the disk tells.
use Rattle.std.proofs.Common.{◌≡◌, ℕ, ◌+◌, ◌<◌, ◌≤◌, Bool, true, false, List, [], ◌∷◌, ◌++◌, slice_get, slice_set, Some, Ok, Err, sym, ap, subst, ◌∙◌, arith}
use Rattle.std.specs.Prelude.{OnErr, OnOk, Result}
use Rattle.std.proofs.lemmas.Bool.Decides.{nat_tests}
use Rattle.std.proofs.lemmas.Option.{same_Some, slice_get_within}
use Rattle.edge_disk.specs.declared.disk.Disk.{Ghosts}
use Rattle.edge_disk.specs.Moments.{LeavesOnly}
use Rattle.image_facts.specs.model_kernel.State.{Supply}
use Rattle.table_steps.specs.cell_clocks.declared.Clock.{Clock}
use Rattle.base_types.specs.declared.histories.Event.TheVariants.{Snap}
use Rattle.image_facts.specs.model_kernel.Histories.{mark}
use Rattle.table_steps.specs.cell_states.declared.cells.Cell.{Cell}
use Rattle.table_steps.specs.cell_blobs.Blobs.{is_recorded}
use Rattle.table_steps.specs.table_laws.Lending.{Lends}
use Rattle.table_steps.specs.table_laws.Tables.{AreClean, IsOrderly}
use Rattle.table_steps.proofs.table_laws_lemmas.Pairs.{lends_one}
use Rattle.kernel_book_laws.specs.kernel_record_facts.Cells.{IsSpellable, words_on}
use Rattle.kernel_book_laws.specs.store_books.Books.{AreSmall, AreTrue}
use Rattle.kernel_book_laws.specs.store_facts.Putting.{are_small}
use Rattle.kernel_book_laws.specs.store_facts.State.{State, books}
use Rattle.kernel_book_laws.specs.store_snapshots.declared.faults.StoreFault.{StoreFault}
use Rattle.table_steps.proofs.plain_states_lemmas.CellLemmas.{slice_get-set_same}
use Rattle.kernel_book_laws.specs.kernel_records.Committing.{CellFaults, HasCommitted, HasNotCommitted, MayCommit, StoresKeptOrCell}
use Rattle.kernel_book_laws.specs.kernel_views.Views.{newest_at}
use Rattle.kernel_book_laws.proofs.kernel_views_lemmas.Leaving.{stay_clean}
use Rattle.kernel_book_laws.specs.Matching.{HasRoomFor, MatchesBooks, newest_of, version_at, version_of}
use Rattle.kernel_book_laws.proofs.Committable.{may_commit, spellable}
use Rattle.kernel_book_laws.proofs.Keeping.{again}
use Rattle.kernel_commit_facts.specs.Parts.{Parts}
use Rattle.kernel_commit_facts.specs.Recording.{CanRecord, CommitsAmong, HasMade, HasNotMade, HasRecorded}

-- the cells that stand there are those of the call
pub set_faults : {D : Type 0} (faults : D → ℕ) (r : Result Bool StoreFault) (x n : ℕ) → n ≡ x → (cs : List Cell) (old new : State D) (c d a z : Cell)
    → slice_get cs x ≡ Some c → slice_get cs x ≡ Some a → slice_get (slice_set cs n d) x ≡ Some z
    → CellFaults faults (is_recorded c ≡ false) r c d old new → CellFaults faults (is_recorded a ≡ false) r a z old new
set_faults faults r x n is cs old new c d a z at at_a at_z h =
    let same : c ≡ a = same_Some c a (sym at ∙ at_a) in
    let set : slice_get (slice_set cs n d) x ≡ Some d = ap (λ m. slice_get (slice_set cs m d) x) is ∙ slice_get-set_same cs x d (slice_get_within cs x c at) in
    let same_z : d ≡ z = same_Some d z (sym set ∙ at_z) in
    subst (λ k. CellFaults faults (is_recorded k ≡ false) r k z old new) same
    (subst (λ k. CellFaults faults (is_recorded c ≡ false) r c k old new) same_z h)

five : (y : ℕ) → 5 ≤ 5
five y = omega arith

module _ {D : Type 0} (disks : Ghosts D) where
  abbrev Can : ℕ → List Cell → State D → Type 0
  Can x cs st = CanRecord disks x cs st

  module _ (x : ℕ) (cs : List Cell) (st : State D) (can : Can x cs st) (c : Cell) (at : slice_get cs x ≡ Some c) where
    newer : c.wish.newest < c.clock.version
    newer = let lt = can.changed in let n : newest_of cs x ≡ c.wish.newest = ap newest_at at in let v : version_of cs x ≡ c.clock.version = ap version_at at in omega (arith, lt, n, v)

    pub number : c.clock.entity ≡ x
    number = can.matches.orderly.numbers.each x c at

    pub not_recorded : is_recorded c ≡ false
    not_recorded = let lt = newer in grind (arith, nat_tests)

    pub may_be : MayCommit (books st) c
    may_be = may_commit (λ _. 5) (books st) cs x c can.matches five at not_recorded can.epoch

    pub spelt : IsSpellable c
    spelt = spellable (books st).held cs x c can.matches.orderly at (let lt = newer in omega (arith, lt))

    pub lent : (n : ℕ) → n ≡ x → (d : Cell) → d.clock.entity ≡ c.clock.entity → Lends cs (slice_set cs n d) (c ∷ []) (d ∷ [])
    lent n is d same =
        subst (λ m. Lends cs (slice_set cs m d) (c ∷ []) (d ∷ [])) (number ∙ sym is)
        (lends_one cs c d can.matches.orderly.numbers (ap (slice_get cs) number ∙ at) same)

  -- THE COMMIT AMONG THE CELLS

  module _ (x n : ℕ) (is : n ≡ x) (cs : List Cell) (old new : State D) (can : Can x cs old) (c d : Cell) (at : slice_get cs x ≡ Some c)
      (moments : disks.tells → is_recorded c ≡ false → (books old).shut ≡ false → AreSmall (books old) → are_small c.clock.version c.clock.stamp.0 ≡ true
      → LeavesOnly disks old.disk new.disk (StoresKeptOrCell disks c d old)) where
    among : d.clock ≡ c.clock → CommitsAmong disks x c d cs (slice_set cs n d) old new
    among same = record {
      number = number x cs old can c at;
      lends = lent x cs old can c at n is d (ap (λ (k : Clock). k.entity) same);
      moments = λ told small stamp. moments told (not_recorded x cs old can c at) can.working small stamp;
    }

    pub made : (r : Result Bool StoreFault) → (is_recorded c ≡ false → OnOk r ((r ≡ Ok true) × HasCommitted disks c d old new))
        → (disks.tells → OnOk r (AreTrue disks (books new) new.disk)) → OnOk r (HasMade disks x cs (slice_set cs n d) old new)
    made (Err f) committed right = tt
    made (Ok b) committed right =
        let h = (committed (not_recorded x cs old can c at)).1 in
        record { before = c; after = d; commits = among h.leaves.same_clock; committed = h; true_books = right }

    pub unmade : (r : Result Bool StoreFault) → OnErr r (HasNotCommitted disks c d old new)
        → OnErr r (HasNotMade disks x cs (slice_set cs n d) old new)
    unmade (Ok b) failed = tt
    unmade (Err f) failed = record { before = c; after = d; commits = among failed.leaves.same_clock; failed = failed }

  -- WHAT A RECORD LEAVES

  pub clean_again : (x : ℕ) (old new : Parts D) → IsOrderly (books old.store).held old.cells → HasMade disks x old.cells new.cells old.store new.store
      → disks.tells → (s : Supply) → AreClean s (words_on (disks.reading old.store.disk)) old.cells → AreClean s (words_on (disks.reading new.store.disk)) new.cells
  clean_again x old new ord m told s clean =
      stay_clean disks told s old.cells new.cells m.before m.after old.store new.store ord m.commits.lends m.committed.leaves clean

  module _ (x : ℕ) (old new : Parts D) (can : Can x old.cells old.store) (m : HasMade disks x old.cells new.cells old.store new.store) where
    stood : slice_get old.cells x ≡ Some m.before
    stood = ap (slice_get old.cells) (sym m.commits.number) ∙ m.commits.lends.stood.0

    pub matches_again : (most : ℕ → ℕ) → HasRoomFor most x (books old.store) → MatchesBooks most (books new.store) new.cells
    matches_again most room =
        again disks (λ _. 5) old.cells new.cells m.before m.after old.store new.store can.matches m.commits.lends most
        (not_recorded x old.cells old.store can m.before stood) (subst (λ (y : ℕ). HasRoomFor most y (books old.store)) (sym m.commits.number) room) m.committed

    pub works : (books new.store).shut ≡ false
    works = m.committed.has.made.working

    pub next_epoch : (books new.store).place.epoch ≤ (books old.store).place.epoch + 1
    next_epoch =
        let le = m.committed.has.made.epoch.1 in
        let same = ap (λ p. p.epoch) m.committed.leaves.pages.only.same_place in
        omega (arith, le, same)

    pub recorded : new.noted.entries ≡ old.noted.entries ++ mark Snap x (version_of old.cells x) ∷ [] → new.noted.marks ≡ old.noted.marks ++ (books new.store).begun ∷ [] → new.noted.room ≡ old.noted.room
        → HasRecorded disks x old new
    recorded entries marks room = record { made = m; entries = entries; marks = marks; room = room; matches = matches_again; working = works; epoch = next_epoch }
