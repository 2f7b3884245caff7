-- The Stable in the place of the Snaps of its records.
use Rattle.std.proofs.Common.{◌≡◌, ℕ, ◌<◌, Bool, true, false, ◌||◌, List, [], ◌∷◌, ◌++◌, slice_get, Some, None, refl, sym, ap, subst, ◌∙◌, arith}
use Rattle.std.proofs.lemmas.Option.{slice_get_within}
use Rattle.edge_disk.specs.declared.disk.Disk.{Ghosts}
use Rattle.base_types.specs.declared.histories.Entry.{Entry}
use Rattle.base_types.specs.declared.histories.Event.TheVariants.{Stable}
use Rattle.image_facts.specs.model_kernel.Histories.{Run, goes_on, mark, start_run, version_of as run_version}
use Rattle.table_steps.specs.cell_states.declared.cells.Cell.{Cell}
use Rattle.table_steps.specs.cell_states.Wishes.{HasWish}
use Rattle.kernel_book_laws.specs.kernel_record_facts.Cells.{words_on}
use Rattle.kernel_book_laws.specs.store_facts.State.{books}
use Rattle.model_serial_turns.specs.model_serial.Serial.{IsCalm}
use Rattle.kernel_book_laws.specs.kernel_invariant.Beginnings.{Beginning, IsLegal, run_of}
use Rattle.kernel_book_laws.specs.kernel_laws.Going.{MadeStable}
use Rattle.kernel_book_laws.proofs.kernel_laws_lemmas.Snaps.{stable_runs}
use Rattle.kernel_book_laws.specs.kernel_views.Views.{FollowsRun, newest_at, view_of}
use Rattle.kernel_book_laws.proofs.kernel_views_lemmas.Following.{cells_follow, follows}
use Rattle.kernel_book_laws.proofs.kernel_views_lemmas.Legal.{legal_then, run_next}
use Rattle.kernel_book_laws.specs.Matching.{version_at}
use Rattle.kernel_commit_facts.specs.Parts.{Parts, StandsAs}
use Rattle.kernel_commit_facts.specs.Stabilising.{OwesStable}
use Rattle.kernel_commit_facts.specs.Through.{GoesThrough, RunsThrough}
use Rattle.kernel_commit_facts.proofs.RunsThrough.{version_in_run}
use Rattle.kernel_commit_facts.proofs.Stabling.{same_commits}

none_open : (s a : Bool) → ((s || a) ≡ true → ⊥) → (s ≡ false) × (a ≡ false)
none_open false false out = (refl, refl)
none_open true a out = absurd (out refl)
none_open false true out = absurd (out refl)

module _ {D : Type 0} (disks : Ghosts D) (b : Beginning) (actor : ℕ) (old mid new : Parts D)
    (owes : OwesStable disks b actor old) (g : GoesThrough disks 64 old mid) (u : RunsThrough disks b actor 64 old mid)
    (store : new.store ≡ mid.store) (cells : new.cells ≡ mid.cells) (entries : new.noted.entries ≡ old.noted.entries ++ mark Stable actor 0 ∷ []) (marks : new.noted.marks ≡ old.noted.marks ++ (books mid.store).begun ∷ []) where
  abbrev s : Entry
  s = mark Stable actor 0

  abbrev r0 : Run
  r0 = run_of b old.noted.entries

  abbrev es : List Entry
  es = old.noted.entries ++ s ∷ []

  next : run_of b es ≡ goes_on b.supply b.script r0 s
  next = run_next b old.noted.entries s

  legal : IsLegal b es
  legal = legal_then b (start_run b.state) old.noted.entries s owes.stands.runs.legal (owes.untried, (owes.owed, owes.whole, refl))

  mid_follows : FollowsRun b (words_on (disks.reading mid.store.disk)) mid.cells mid.noted.entries
  mid_follows = cells_follow b mid.noted.entries (disks.reading mid.store.disk) mid.cells u.stands.orderly.numbers (books mid.store) mid.noted.marks None u.stands.runs.follows

  wish_at : (x : ℕ) (c : Cell) → slice_get mid.cells x ≡ Some c → HasWish b.script.steps (run_of b es) c
  wish_at x c at =
      let lt : x < 64 = (let h = slice_get_within mid.cells x c at in let len = u.stands.orderly.numbers.len in omega (arith, h, len)) in
      let settled : c.wish.newest ≡ c.clock.version = sym (ap newest_at at) ∙ (g.before x lt ∙ ap version_at at) in
      let number = u.stands.orderly.numbers.each x c at in
      let open_none = none_open c.wish.by_step c.wish.asked (λ noted. (let lower = (u.stands.orderly.founded x c at).changed noted in let e = settled in absurd (omega (arith, lower, e)))) in
      let version : run_version r0 x ≡ c.clock.version = version_in_run disks b old owes.stands x ∙ (sym (g.versions x) ∙ ap version_at at) in
      let left = (mid_follows.wishes x c at).left in
      let steps : r0.steps c.clock.entity ≡ (run_of b mid.noted.entries).steps c.clock.entity = ap (λ (f : ℕ → ℕ). f c.clock.entity) (sym u.under.same_steps) in
      subst (λ (q : Run). HasWish b.script.steps q c) (sym next) (record {
        newest = ap (run_version r0) number ∙ (version ∙ sym settled);
        by_step = sym open_none.0;
        asked = sym open_none.1;
        left = (let e = steps in omega (arith, left, e));
      })

  follow : FollowsRun b (words_on (disks.reading mid.store.disk)) mid.cells es
  follow = record {
    state = mid_follows.state ∙ (u.under.same_state ∙ sym (ap (λ (q : Run). q.state) next));
    wishes = wish_at;
  }

  made : MadeStable b (view_of disks.reading b mid.cells mid.store mid.noted.entries mid.noted.marks None) (view_of disks.reading b mid.cells mid.store es (old.noted.marks ++ (books mid.store).begun ∷ []) None) s
  made = record {
    front = old.noted.entries;
    snaps = u.under.snaps;
    are = u.under.are;
    was = u.under.entries;
    first = old.noted.marks;
    rest = g.more;
    were = g.marks;
    each = owes.stands.runs.marks.each.each;
    was_going = refl;
    going = refl;
    history = refl;
    marks = refl;
    event = refl;
    right = record { legal = legal; follows = follows b es (disks.reading mid.store.disk) mid.cells u.stands.orderly.numbers legal follow (books mid.store) (old.noted.marks ++ (books mid.store).begun ∷ []) None };
    commits = same_commits b actor old.noted.entries mid.noted.entries u.under;
    books = refl;
    tables = refl;
  }

  stands_mid : Rattle.kernel_book_laws.specs.kernel_views.Snaps.Stands disks b mid.cells mid.store es (old.noted.marks ++ (books mid.store).begun ∷ [])
  stands_mid = record {
    runs = stable_runs b disks (view_of disks.reading b mid.cells mid.store mid.noted.entries mid.noted.marks None) _ mid.store.disk s u.stands.runs made;
    orderly = u.stands.orderly;
    clean = u.stands.clean;
  }

  pub stable_stands : StandsAs disks b new
  stable_stands =
      subst (λ st. Rattle.kernel_book_laws.specs.kernel_views.Snaps.Stands disks b new.cells st new.noted.entries new.noted.marks) (sym store)
      (subst (λ cs. Rattle.kernel_book_laws.specs.kernel_views.Snaps.Stands disks b cs mid.store new.noted.entries new.noted.marks) (sym cells)
      (subst (λ fs. Rattle.kernel_book_laws.specs.kernel_views.Snaps.Stands disks b mid.cells mid.store fs new.noted.marks) (sym entries)
      (subst (λ ms. Rattle.kernel_book_laws.specs.kernel_views.Snaps.Stands disks b mid.cells mid.store es ms) (sym marks) stands_mid)))

  pub stable_calm : IsCalm b.policy (run_of b new.noted.entries)
  stable_calm = subst (λ fs. IsCalm b.policy (run_of b fs)) (sym entries) (subst (IsCalm b.policy) (sym next) (record { owed = refl; short = owes.whole; tried = owes.untried; due = λ x. refl }))
