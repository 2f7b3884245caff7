-- A kernel stays steady over a Snap.
use Rattle.std.proofs.Common.{◌≡◌, ◌≢◌, ◌⊎◌, inl, inr, ℕ, ◌+◌, ◌*◌, ◌<◌, ◌≤◌, ◌^◌, Bool, true, false, ◌&&◌, ◌||◌, ◌==◌, if◌then◌else◌, List, [], ◌∷◌, ◌++◌, length, slice_get, Some, refl, sym, ap, subst, ◌∙◌, arith, length-append, eq-eqb}
use Rattle.edge_disk.specs.declared.disk.Disk.{Ghosts}
use Rattle.base_types.specs.declared.histories.Entry.{Entry}
use Rattle.table_steps.specs.cell_states.declared.cells.Cell.{Cell}
use Rattle.kernel_book_laws.specs.store_facts.Shelves.{records_of}
use Rattle.kernel_book_laws.specs.store_facts.State.{books}
use Rattle.kernel_book_laws.specs.store_books.Books.{kept_in}
use Rattle.kernel_book_laws.specs.kernel_views.Views.{newest_at}
use Rattle.kernel_book_laws.specs.Matching.{HasRoomFor, newest_of, version_at, version_of}
use Rattle.kernel_book_laws.proofs.Keeping.{fewer, same_version}
use Rattle.kernel_commit_facts.specs.Parts.{Parts}
use Rattle.kernel_commit_facts.specs.Recording.{CanRecord, HasRecorded}
use Rattle.kernel_commit_facts.specs.Steady.{AreFew, IsSteady, entries_taken, entries_to_come}
use Rattle.kernel_commit_facts.proofs.Room.{one_less, taken_more, taken_next}

module _ {D : Type 0} (disks : Ghosts D) where
  abbrev Steady : Parts D → Type 0
  Steady p = IsSteady disks p

  module _ (p : Parts D) (k : Steady p) where
    pub entry_room : length p.noted.entries < p.noted.room
    entry_room = let more = taken_more p.noted.entries in let room = k.few.room in omega (arith, more, room)

    pub low_epoch : (books p.store).place.epoch < 2 ^ 63
    low_epoch = let le = k.few.epoch in let lt = entry_room in let small = k.few.small in omega (arith, le, lt, small)

    pub can_record : (x : ℕ) (c : Cell) → slice_get p.cells x ≡ Some c → (c.wish.by_step || c.wish.asked) ≡ true → CanRecord disks x p.cells p.store
    can_record x c at noted = record {
      matches = fewer (λ _. 4) (λ _. 5) (books p.store) p.cells k.sound.matches (λ y. omega arith);
      working = k.sound.working;
      true_books = k.sound.true_books;
      changed =
          let lt = (k.sound.matches.orderly.founded x c at).changed noted in
          let n : newest_of p.cells x ≡ c.wish.newest = ap newest_at at in
          let v : version_of p.cells x ≡ c.clock.version = ap version_at at in
          omega (arith, lt, n, v);
      epoch = low_epoch;
    }

  -- after a Snap of an entity with less than four kept records
  module _ (x : ℕ) (old new : Parts D) (k : Steady old) (r : HasRecorded disks x old new)
      (room : records_of x (kept_in (books old.store)) < 4) (noted : (r.made.before.wish.by_step || r.made.before.wish.asked) ≡ true) where
    has_room : HasRoomFor (λ _. 4) x (books old.store)
    has_room y = by_test (y == x) refl
      where
        by_test : (t : Bool) → (y == x) ≡ t → records_of y (kept_in (books old.store)) + (if t then 1 else 0) ≤ 4
        by_test true is =
            let same = Rattle.std.proofs.Common.eqb-true y x is in
            let few : records_of y (kept_in (books old.store)) < 4 = subst (λ z. records_of z (kept_in (books old.store)) < 4) (sym same) room in
            omega (arith, few)
        by_test false is = let few = k.sound.matches.few y in omega (arith, few)

    longer : length new.noted.entries ≡ length old.noted.entries + 1
    longer = ap (λ (es : List Entry). length es) r.entries ∙ length-append old.noted.entries _

    longer_marks : length new.noted.marks ≡ length old.noted.marks + 1
    longer_marks = ap (λ (ms : List ℕ). length ms) r.marks ∙ length-append old.noted.marks _

    taken : entries_taken new.noted.entries ≤ entries_taken old.noted.entries + 1
    taken = subst (λ (es : List Entry). entries_taken es ≤ entries_taken old.noted.entries + 1) (sym r.entries) (taken_next old.noted.entries _)

    pub steady_again : (disks.tells → Rattle.kernel_book_laws.specs.store_books.Books.AreTrue disks (books new.store) new.store.disk) → Steady new
    steady_again right = record {
      sound = record { matches = r.matches (λ _. 4) has_room; working = r.working; true_books = right };
      few = record {
        versions = λ y.
            let was = k.few.versions y in
            let same = same_version disks (λ _. 4) old.cells new.cells r.made.before r.made.after old.store new.store k.sound.matches r.made.commits.lends r.made.committed.leaves.same_clock y in
            let more = longer in
            omega (arith, was, same, more);
        epoch = (let le = r.epoch in let was = k.few.epoch in let more = longer in omega (arith, le, was, more));
        marks = (let was = k.few.marks in let a = longer in let b = longer_marks in omega (arith, was, a, b));
        room =
            (let was = k.few.room in
            let less = one_less old.cells new.cells r.made.before r.made.after r.made.commits.lends r.made.committed.recorded noted in
            let more = taken in
            let same = r.room in
            omega (arith, was, less, more, same));
        small = (let was = k.few.small in let same = r.room in omega (arith, was, same));
      };
    }

-- AT THE START
pub few_at_start : {D : Type 0} (p : Parts D) (steps : ℕ) → p.noted.entries ≡ [] → p.noted.marks ≡ [] → p.noted.room ≡ 92 * steps + 200 → entries_to_come p.cells ≡ 92 * steps → steps ≤ 40000
    → ((x : ℕ) → version_of p.cells x ≤ 2 ^ 62) → (books p.store).place.epoch ≤ 2 ^ 62 + 1 → AreFew p
few_at_start p steps entries marks room to_come few versions epoch = record {
  versions = λ x. (let le = versions x in omega (arith, le));
  epoch = omega (arith, epoch);
  marks = (let m : length p.noted.marks ≡ 0 = ap (λ (ms : List ℕ). length ms) marks in omega (arith, m));
  room = (let taken : entries_taken p.noted.entries ≡ 200 = ap entries_taken entries in omega (arith, taken, room, to_come));
  small = omega (arith, room, few);
}
