-- The records of a Stable, whatever the disk tells: where the kernel stands with those of the entities below a number.
use Rattle.std.proofs.Common.{◌≡◌, ◌≢◌, ◌⊎◌, inl, inr, ℕ, suc, ◌+◌, ◌*◌, ◌<◌, ◌≤◌, Bool, true, false, ◌==◌, nat_lt, if◌then◌else◌, List, [], ◌∷◌, ◌++◌, length, slice_get, Option, Some, None, refl, sym, ap, subst, ◌∙◌, arith, length-append, append_assoc, eq-eqb, eqb-true}
use Rattle.std.proofs.lemmas.Bool.{cases_eq, cases_lt, false≢true}
use Rattle.std.proofs.lemmas.Bool.Decides.{nat_tests}
use Rattle.edge_disk.specs.declared.disk.Disk.{Ghosts}
use Rattle.base_types.specs.declared.histories.Entry.{Entry}
use Rattle.base_types.specs.declared.histories.Event.TheVariants.{Snap}
use Rattle.image_facts.specs.model_kernel.Histories.{mark}
use Rattle.table_steps.specs.cell_states.declared.cells.Cell.{Cell}
use Rattle.table_steps.specs.cell_states.declared.cells.Wish.{Wish}
use Rattle.table_steps.specs.table_laws.Tables.{IsOrderly}
use Rattle.kernel_book_laws.specs.store_facts.Shelves.{records_of}
use Rattle.kernel_book_laws.specs.store_facts.State.{books}
use Rattle.kernel_book_laws.specs.store_books.Books.{kept_in}
use Rattle.kernel_book_laws.specs.kernel_records.Committing.{CommitCounts}
use Rattle.kernel_book_laws.specs.kernel_views.Views.{newest_at}
use Rattle.kernel_book_laws.proofs.kernel_views_lemmas.Flushing.{spot}
use Rattle.kernel_book_laws.specs.Matching.{HasRoomFor, MatchesBooks, newest_of, version_at, version_of}
use Rattle.kernel_book_laws.proofs.Keeping.{fewer, same_version}
use Rattle.kernel_commit_facts.specs.Parts.{Parts}
use Rattle.kernel_commit_facts.specs.Recording.{CanRecord, HasRecorded}
use Rattle.kernel_commit_facts.specs.Steady.{IsSteady}
use Rattle.kernel_commit_facts.specs.Through.{GoesThrough, most_at}
use Rattle.kernel_commit_facts.proofs.Committing.{clean_again}
use Rattle.kernel_commit_facts.proofs.Counting.{CountsWithin-fewer, CountsWithin-stay, one_within}
use Rattle.kernel_commit_facts.proofs.Room.{same_to_come, taken_more}

-- no newest record is above its entity
newest_by : (held : ℕ → Bool) (cs : List Cell) → IsOrderly held cs → (y : ℕ) (o : Option Cell) → slice_get cs y ≡ o → newest_at o ≤ version_at o
newest_by held cs ord y None at = omega arith
newest_by held cs ord y (Some c) at = (ord.founded y c at).past

pub newest_low : (held : ℕ → Bool) (cs : List Cell) → IsOrderly held cs → (y : ℕ) → newest_of cs y ≤ version_of cs y
newest_low held cs ord y = newest_by held cs ord y (slice_get cs y) refl

-- what the test of a cell says of it
module _ (cs cs1 : List Cell) (x e : ℕ) (same : e ≡ x) (cells : cs1 ≡ cs) (t : Bool) (test : t ≡ (version_of cs1 e == newest_of cs1 e)) where
  test_is : (version_of cs x == newest_of cs x) ≡ t
  test_is = sym (test ∙ (ap (λ z. version_of z e == newest_of z e) cells ∙ ap (λ y. version_of cs y == newest_of cs y) same))

  pub is_newest : t ≡ true → newest_of cs x ≡ version_of cs x
  is_newest is = sym (eqb-true (version_of cs x) (newest_of cs x) (test_is ∙ is))

  pub not_newest : t ≡ false → newest_of cs x ≢ version_of cs x
  not_newest is e = absurd (false≢true (sym (test_is ∙ is) ∙ eq-eqb (version_of cs x) (newest_of cs x) (sym e)))

module _ {D : Type 0} (disks : Ghosts D) where
  abbrev Goes : ℕ → Parts D → Parts D → Type 0
  Goes i old now = GoesThrough disks i old now

  pub begins_through : (old : Parts D) → IsSteady disks old → Goes 0 old old
  begins_through old k = record {
    sound = record { matches = fewer (λ _. 4) (most_at 0) (books old.store) old.cells k.sound.matches low; working = k.sound.working; true_books = k.sound.true_books };
    before = λ y lt. absurd (omega (arith, lt));
    after = λ y le. refl;
    versions = λ y. refl;
    epoch = omega arith;
    snaps = [];
    entries = sym (Rattle.std.proofs.lemmas.List.append-nil old.noted.entries);
    more = [];
    marks = sym (Rattle.std.proofs.lemmas.List.append-nil old.noted.marks);
    few = (omega arith, omega arith);
    fewer_marks = omega arith;
    room = refl;
    to_come = omega arith;
    clean = λ told s clean. clean;
    counts = CountsWithin-stay disks 0 old.store;
  }
    where
      low : (y : ℕ) → 4 ≤ most_at 0 y
      low y = by_test (nat_lt y 0)
        where
          by_test : (t : Bool) → 4 ≤ (if t then 5 else 4)
          by_test true = omega arith
          by_test false = omega arith

  rises : (i y : ℕ) → most_at i y ≤ most_at (suc i) y
  rises i y = elim (cases_lt y i) as (λ _. most_at i y ≤ most_at (suc i) y) [
    | inl low ↦ grind (arith, nat_tests)
    | inr high ↦ grind (arith, nat_tests)
  ]

  module _ (i : ℕ) (old now : Parts D) (g : Goes i old now) where
    -- no more marks than entries
    pub marks_within : length old.noted.marks ≤ length old.noted.entries → length now.noted.marks ≤ length now.noted.entries
    marks_within was =
        let es = ap (λ (es : List Entry). length es) g.entries ∙ length-append old.noted.entries g.snaps in
        let ms = ap (λ (ms : List ℕ). length ms) g.marks ∙ length-append old.noted.marks g.more in
        let few = g.fewer_marks in
        omega (arith, was, es, ms, few)

    -- an entity that has its newest record needs none
    pub passes : newest_of now.cells i ≡ version_of now.cells i → Goes (suc i) old now
    passes is = record {
      sound = record { matches = fewer (most_at i) (most_at (suc i)) (books now.store) now.cells g.sound.matches (rises i); working = g.sound.working; true_books = g.sound.true_books };
      before = λ y lt. elim (cases_eq y i) as (λ _. newest_of now.cells y ≡ version_of now.cells y) [
        | inl same ↦ subst (λ z. newest_of now.cells z ≡ version_of now.cells z) (sym same) is
        | inr apart ↦ g.before y (omega (arith, lt, apart))
      ];
      after = λ y le. g.after y (omega (arith, le));
      versions = g.versions;
      epoch = (let le = g.epoch in omega (arith, le));
      snaps = g.snaps;
      entries = g.entries;
      more = g.more;
      marks = g.marks;
      few = ((let a = g.few.0 in omega (arith, a)), (let b = g.few.1 in omega (arith, b)));
      fewer_marks = g.fewer_marks;
      room = g.room;
      to_come = g.to_come;
      clean = g.clean;
      counts = CountsWithin-fewer disks (i * 1556) (suc i * 1556) old.store now.store (omega arith) g.counts;
    }

    -- the others may have a record made
    pub may_go_on : i < 64 → IsSteady disks old → newest_of now.cells i ≢ version_of now.cells i → newest_of now.cells i ≤ version_of now.cells i
        → CanRecord disks i now.cells now.store × (length now.noted.entries < now.noted.room) × (length now.noted.marks < now.noted.room)
    may_go_on low k differs le = (
      record {
        matches = fewer (most_at i) (λ _. 5) (books now.store) now.cells g.sound.matches five;
        working = g.sound.working;
        true_books = g.sound.true_books;
        changed = omega (arith, differs, le);
        epoch = (let e = g.epoch in let was = k.few.epoch in let more = taken_more old.noted.entries in let room = k.few.room in let small = k.few.small in omega (arith, e, was, more, room, small, low));
      },
      (let len = ap (λ (es : List Entry). length es) g.entries ∙ length-append old.noted.entries g.snaps in
          let some = g.few.0 in let same = g.room in let more = taken_more old.noted.entries in let room = k.few.room in omega (arith, len, some, same, more, room, low)),
      (let len = ap (λ (ms : List ℕ). length ms) g.marks ∙ length-append old.noted.marks g.more in
          let some = g.few.1 in let same = g.room in let few = k.few.marks in let more = taken_more old.noted.entries in let room = k.few.room in omega (arith, len, some, same, few, more, room, low)),
    )
      where
        five : (y : ℕ) → most_at i y ≤ 5
        five y = by_test (nat_lt y i)
          where
            by_test : (t : Bool) → (if t then 5 else 4) ≤ 5
            by_test true = omega arith
            by_test false = omega arith

    module _ (next : Parts D) (r : HasRecorded disks i now next) (counts : CommitCounts disks now.store next.store) where
      place : (y : ℕ) → ((y ≡ r.made.before.clock.entity) × (slice_get next.cells y ≡ Some r.made.after)) ⊎ ((y ≢ r.made.before.clock.entity) × (slice_get next.cells y ≡ slice_get now.cells y))
      place = spot now.cells next.cells r.made.before r.made.after r.made.commits.lends.numbers.0 r.made.commits.lends

      same_versions : (y : ℕ) → version_of next.cells y ≡ version_of now.cells y
      same_versions = same_version disks (most_at i) now.cells next.cells r.made.before r.made.after now.store next.store g.sound.matches r.made.commits.lends r.made.committed.leaves.same_clock

      newest_here : newest_of next.cells i ≡ version_of next.cells i
      newest_here =
          let at : slice_get next.cells i ≡ Some r.made.after = ap (slice_get next.cells) (sym (r.made.commits.lends.numbers.0 ∙ r.made.commits.number)) ∙ r.made.commits.lends.stand.0 in
          ap newest_at at ∙ (ap (λ (w : Wish). w.newest) r.made.committed.recorded.wish
          ∙ (ap (λ k. k.version) (sym r.made.committed.leaves.same_clock) ∙ sym (ap Rattle.kernel_book_laws.specs.Matching.version_at at)))

      newest_other : (y : ℕ) → y ≢ i → newest_of next.cells y ≡ newest_of now.cells y
      newest_other y apart = elim (place y) as (λ _. newest_of next.cells y ≡ newest_of now.cells y) [
        | inl p ↦ absurd (apart (p.0 ∙ r.made.commits.number))
        | inr p ↦ ap newest_at p.1
      ]

      room_for : HasRoomFor (most_at (suc i)) i (books now.store)
      room_for y = by_test (y == i) refl
        where
          by_test : (t : Bool) → (y == i) ≡ t → records_of y (kept_in (books now.store)) + (if t then 1 else 0) ≤ most_at (suc i) y
          by_test true is =
              let same = eqb-true y i is in
              let few = g.sound.matches.few y in
              let was : most_at i y ≡ 4 = grind (arith, nat_tests) in
              let now_is : most_at (suc i) y ≡ 5 = grind (arith, nat_tests) in
              omega (arith, few, was, now_is)
          by_test false is = let few = g.sound.matches.few y in let up = rises i y in omega (arith, few, up)

      pub records_next : Goes (suc i) old next
      records_next = record {
        sound = record { matches = r.matches (most_at (suc i)) room_for; working = r.working; true_books = r.made.true_books };
        before = λ y lt. elim (cases_eq y i) as (λ _. newest_of next.cells y ≡ version_of next.cells y) [
          | inl same ↦ subst (λ z. newest_of next.cells z ≡ version_of next.cells z) (sym same) newest_here
          | inr apart ↦ newest_other y apart ∙ (g.before y (omega (arith, lt, apart)) ∙ sym (same_versions y))
        ];
        after = λ y le. newest_other y (λ e. absurd (omega (arith, le, e))) ∙ g.after y (omega (arith, le));
        versions = λ y. same_versions y ∙ g.versions y;
        epoch = (let le = r.epoch in let was = g.epoch in omega (arith, le, was));
        snaps = g.snaps ++ mark Snap i (version_of now.cells i) ∷ [];
        entries = r.entries ∙ (ap (λ es. es ++ mark Snap i (version_of now.cells i) ∷ []) g.entries ∙ append_assoc old.noted.entries g.snaps (mark Snap i (version_of now.cells i) ∷ []));
        more = g.more ++ (books next.store).begun ∷ [];
        marks = r.marks ∙ (ap (λ ms. ms ++ (books next.store).begun ∷ []) g.marks ∙ append_assoc old.noted.marks g.more ((books next.store).begun ∷ []));
        few = (
          (let len = length-append g.snaps (mark Snap i (version_of now.cells i) ∷ []) in let a = g.few.0 in omega (arith, len, a)),
          (let len = length-append g.more ((books next.store).begun ∷ []) in let b = g.few.1 in omega (arith, len, b)),
        );
        fewer_marks = (
            let len = length-append g.snaps (mark Snap i (version_of now.cells i) ∷ []) in
            let more = length-append g.more ((books next.store).begun ∷ []) in
            let few = g.fewer_marks in
            omega (arith, len, more, few));
        room = r.room ∙ g.room;
        to_come = (let same = same_to_come now.cells next.cells r.made.before r.made.after r.made.commits.lends r.made.committed.recorded in let was = g.to_come in omega (arith, same, was));
        clean = λ told s clean. clean_again disks i now next g.sound.matches.orderly r.made told s (g.clean told s clean);
        counts = one_within disks i old.store now.store next.store g.counts counts;
      }
