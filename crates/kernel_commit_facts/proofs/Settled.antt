-- What a Stable leaves of the kernel, whatever the disk tells.
use Rattle.std.proofs.Common.{◌≡◌, ℕ, ◌+◌, ◌<◌, ◌≤◌, Bool, true, false, ◌||◌, List, [], ◌∷◌, ◌++◌, length, take, slice_get, Some, refl, sym, ap, subst, ◌∙◌, arith, length-append, eq-eqb}
use Rattle.std.proofs.Math.Seq.{take-append_seam}
use Rattle.std.proofs.lemmas.Option.{slice_get_within}
use Rattle.edge_disk.specs.declared.disk.Disk.{Ghosts}
use Rattle.base_types.specs.declared.histories.Entry.{Entry}
use Rattle.base_types.specs.declared.histories.Event.TheVariants.{Stable}
use Rattle.image_facts.specs.model_kernel.Histories.{mark}
use Rattle.table_steps.specs.cell_states.declared.cells.Cell.{Cell}
use Rattle.kernel_book_laws.specs.store_facts.State.{books}
use Rattle.kernel_book_laws.specs.kernel_views.Views.{newest_at}
use Rattle.kernel_book_laws.specs.Matching.{AreRecorded, version_at}
use Rattle.kernel_book_laws.proofs.Keeping.{fewer, settled}
use Rattle.kernel_commit_facts.specs.Parts.{Parts}
use Rattle.kernel_commit_facts.specs.Stabilising.{HasStabilised}
use Rattle.kernel_commit_facts.specs.Steady.{IsSteady, entries_taken, entries_to_come, steps_to_come}
use Rattle.kernel_commit_facts.specs.Through.{GoesThrough, most_at}
use Rattle.kernel_commit_facts.proofs.Room.{all_closed, taken_next}

front_is : {A : Type 0} (n : ℕ) (xs ys zs : List A) → n ≡ length xs → zs ≡ xs ++ ys → take n zs ≡ xs
front_is n xs ys zs len is = ap (λ m. take m zs) len ∙ (ap (λ ws. take (length xs) ws) is ∙ take-append_seam xs ys)

module _ {D : Type 0} (disks : Ghosts D) (actor : ℕ) (old mid new : Parts D)
    (g : GoesThrough disks 64 old mid) (n m : ℕ) (n_is : n ≡ length old.noted.entries) (m_is : m ≡ length old.noted.marks)
    (store : new.store ≡ mid.store) (cells : new.cells ≡ mid.cells) (entries : new.noted.entries ≡ take n mid.noted.entries ++ mark Stable actor 0 ∷ [])
    (marks : new.noted.marks ≡ take m mid.noted.marks ++ (books mid.store).begun ∷ []) (room : new.noted.room ≡ mid.noted.room) where
  pub entries_are : new.noted.entries ≡ old.noted.entries ++ mark Stable actor 0 ∷ []
  entries_are = entries ∙ ap (λ es. es ++ mark Stable actor 0 ∷ []) (front_is n old.noted.entries g.snaps mid.noted.entries n_is g.entries)

  pub marks_are : new.noted.marks ≡ old.noted.marks ++ (books mid.store).begun ∷ []
  marks_are = marks ∙ ap (λ ms. ms ++ (books mid.store).begun ∷ []) (front_is m old.noted.marks g.more mid.noted.marks m_is g.marks)

  newest_is : (x : ℕ) (c : Cell) → slice_get mid.cells x ≡ Some c → c.clock.version ≡ c.wish.newest
  newest_is x c at =
      let lt : x < 64 = (let h = slice_get_within mid.cells x c at in let len = g.sound.matches.orderly.numbers.len in omega (arith, h, len)) in
      sym (sym (ap newest_at at) ∙ (g.before x lt ∙ ap version_at at))

  recorded_mid : AreRecorded mid.cells
  recorded_mid x c at = eq-eqb c.clock.version c.wish.newest (newest_is x c at)

  -- no wish is open any more
  closed : (x : ℕ) (c : Cell) → slice_get mid.cells x ≡ Some c → (c.wish.by_step || c.wish.asked) ≡ false
  closed x c at = by (c.wish.by_step || c.wish.asked) refl
    where
      by : (t : Bool) → (c.wish.by_step || c.wish.asked) ≡ t → t ≡ false
      by false is = refl
      by true is = absurd (let lt = (g.sound.matches.orderly.founded x c at).changed is in let same = newest_is x c at in omega (arith, lt, same))

  pub has_stabilised : HasStabilised actor old new
  has_stabilised = record {
    recorded = subst AreRecorded (sym cells) recorded_mid;
    entries = entries_are;
    marks = marks_are ∙ ap (λ st. old.noted.marks ++ (books st).begun ∷ []) (sym store);
    room = room ∙ g.room;
  }

  pub stable_steady : IsSteady disks old → steps_to_come old.cells + entries_taken old.noted.entries < old.noted.room → IsSteady disks new
  stable_steady k spare =
      let one = settled (most_at 64) (books mid.store) mid.cells g.sound.matches recorded_mid in
      let four = fewer (λ _. 1) (λ _. 4) (books mid.store) mid.cells one (λ y. omega arith) in
      let longer : length new.noted.entries ≡ length old.noted.entries + 1 = ap (λ (es : List Entry). length es) entries_are ∙ length-append old.noted.entries (mark Stable actor 0 ∷ []) in
      let longer_marks : length new.noted.marks ≡ length old.noted.marks + 1 = ap (λ (ms : List ℕ). length ms) marks_are ∙ length-append old.noted.marks ((books mid.store).begun ∷ []) in
      let taken : entries_taken new.noted.entries ≤ entries_taken old.noted.entries + 1 = subst (λ (es : List Entry). entries_taken es ≤ entries_taken old.noted.entries + 1) (sym entries_are) (taken_next old.noted.entries (mark Stable actor 0)) in
      let none_open = all_closed mid.cells closed in
      let fewer_steps = g.to_come in
      let come : entries_to_come new.cells ≤ steps_to_come old.cells = subst (λ cs. entries_to_come cs ≤ steps_to_come old.cells) (sym cells) (omega (arith, none_open, fewer_steps)) in
      let same_room : new.noted.room ≡ old.noted.room = room ∙ g.room in
      let epoch_is = ap (λ st. (books st).place.epoch) store in
      record {
        sound = record {
          matches = subst (λ st. Rattle.kernel_book_laws.specs.Matching.MatchesBooks (λ _. 4) (books st) new.cells) (sym store)
              (subst (λ cs. Rattle.kernel_book_laws.specs.Matching.MatchesBooks (λ _. 4) (books mid.store) cs) (sym cells) four);
          working = subst (λ st. (books st).shut ≡ false) (sym store) g.sound.working;
          true_books = λ told. subst (λ st. Rattle.kernel_book_laws.specs.store_books.Books.AreTrue disks (books st) st.disk) (sym store) (g.sound.true_books told);
        };
        few = record {
          versions = λ y.
              let was = k.few.versions y in
              let same = g.versions y in
              let here = ap (λ cs. Rattle.kernel_book_laws.specs.Matching.version_of cs y) cells in
              omega (arith, was, same, here, longer);
          epoch = (let le = g.epoch in let was = k.few.epoch in omega (arith, le, was, epoch_is, longer));
          marks = (let was = k.few.marks in omega (arith, was, longer, longer_marks));
          room = omega (arith, spare, taken, come, same_room);
          small = (let was = k.few.small in omega (arith, was, same_room));
        };
      }
