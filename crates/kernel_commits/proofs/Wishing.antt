-- A Snap by its wish takes a run on.
use Rattle.std.proofs.Common.{◌≡◌, inl, ℕ, ◌<◌, ◌≤◌, Bool, true, false, not, ◌&&◌, ◌||◌, nat_lt, if◌then◌else◌, List, [], ◌∷◌, ◌++◌, slice_get, Some, None, Ok, Err, refl, sym, ap, subst, ◌∙◌, arith}
use Rattle.std.specs.Prelude.{Result}
use Rattle.std.proofs.lemmas.Bool.Decides.{nat_tests}
use Rattle.std.proofs.lemmas.List.{append-nil}
use Rattle.edge_disk.specs.declared.disk.Disk.{Ghosts}
use Rattle.edge_disk.specs.declared.disk.NoBlocks.{NoBlocks}
use Rattle.base_types.specs.declared.histories.Entry.{Entry}
use Rattle.base_types.specs.declared.histories.Event.TheVariants.{Snap, Tried}
use Rattle.kernel_commit_facts.specs.model_kernel.Histories.{MayCommit, Policy, Run, goes_on, has_wish, is_full, mark, version_of}
use Rattle.kernel_commit_facts.specs.cell_states.declared.cells.Cell.{Cell}
use Rattle.kernel_commit_facts.specs.model_kernel.State.{Supply}
use Rattle.kernel_commit_facts.specs.cell_states.Cells.{HasCell, part_of}
use Rattle.kernel_commit_facts.specs.cell_states.Wishes.{HasWish, is_open}
use Rattle.kernel_commit_facts.proofs.table_laws_lemmas.Having.{no_supply, no_words, state_has}
use Rattle.kernel_commit_facts.specs.kernel_record_facts.Cells.{words_on}
use Rattle.kernel_commit_facts.specs.store_facts.State.{books}
use Rattle.kernel_commit_facts.specs.store_facts.Shelves.{records_of}
use Rattle.kernel_commit_facts.specs.store_books.Books.{kept_in}
use Rattle.kernel_commit_facts.specs.kernel_records.Snapping.{has_room, is_snapped}
use Rattle.kernel_commit_facts.specs.model_serial.Serial.{wished_snap}
use Rattle.kernel_commit_facts.specs.model_serial_turns.Turns.{IsStoppedIn}
use Rattle.kernel_commit_facts.proofs.model_serial_turns_lemmas.Stops.{cut_tried}
use Rattle.kernel_commit_facts.specs.kernel_invariant.Beginnings.{Beginning, run_of}
use Rattle.kernel_commit_facts.specs.kernel_views.Views.{FollowsRun}
use Rattle.kernel_commit_facts.proofs.kernel_views_lemmas.Following.{cells_follow}
use Rattle.kernel_commit_facts.proofs.kernel_views_lemmas.Fullness.{full_same}
use Rattle.kernel_commit_facts.proofs.kernel_views_lemmas.Legal.{run_next}
use Rattle.kernel_commit_facts.specs.kernel_book_laws.Matching.{version_at}
use Rattle.kernel_commit_facts.specs.Parts.{LivesAs, Parts, StandsAs}
use Rattle.kernel_commit_facts.specs.Pieces.{StopsIn}
use Rattle.kernel_commit_facts.specs.Recording.{HasRecorded, IsShort, MayRecord}
use Rattle.kernel_commit_facts.specs.Snapping.{RunsFree, Snaps}
use Rattle.kernel_commits.specs.Snapping.{SnapsOne}
use Rattle.kernel_commits.specs.Recording.{Fails}
use Rattle.kernel_commit_facts.specs.kernel_invariant.declared.stopping.Stopped.{Stopped}
use Rattle.kernel_commit_facts.specs.Lacking.{LacksBlocks, LacksIn}
use Rattle.kernel_commit_facts.proofs.Dues.{lacks_first}
use Rattle.kernel_commit_facts.proofs.Within.{record_within}
use Rattle.kernel_commits.proofs.Parting.{none_came}
use Rattle.kernel_commit_facts.specs.kernel_invariant.declared.stopping.Stopped.TheVariants as reason

not_first : (a b : Bool) → a ≡ false → (a && b) ≡ false
not_first true b is = absurd (cc is)
not_first false b is = refl

-- a Snap of the entity is to be made, or none, where it has a cell
pub one_answer : {D : Type 0} (policy : Policy) (x : ℕ) (p : Parts D) (c : Cell) → slice_get p.cells x ≡ Some c → (a b : Bool) → Snaps policy x p a → Snaps policy x p b → a ≡ b
one_answer policy x p c at a b is also = sym (is no_supply no_words c at) ∙ also no_supply no_words c at

-- by its wish and the room in the store
pub snapped_by : {D : Type 0} (policy : Policy) (x : ℕ) (p : Parts D) (c : Cell) (s : Supply) (words : ℕ → List ℕ) → c.clock.entity ≡ x
    → is_open policy (part_of s words c.part) c.clock.version c.wish ≡ true → is_snapped policy s words c (books p.store) ≡ nat_lt (records_of x (kept_in (books p.store))) 4
snapped_by policy x p c s words number is = ap (λ t. t && has_room (books p.store) c.clock.entity) is ∙ ap (has_room (books p.store)) number

pub noted_open : (by_step due asked : Bool) → (by_step && due || asked) ≡ true → (by_step || asked) ≡ true
noted_open true due asked is = refl
noted_open false due asked is = is

abbrev pub fault_in : (T : Type 0) → Stopped → Result T Stopped
fault_in T why = Err why

pub err_over : (T U : Type 0) (a b : Stopped) → fault_in T a ≡ fault_in T b → fault_in U a ≡ fault_in U b
err_over T U a b same = let e : a ≡ b = cc same in ap (fault_in U) e

pub few_is : (n m : ℕ) → nat_lt n 4 ≡ true → n ≡ m → m < 4
few_is n m lt same = grind (arith, nat_tests)

module _ {D : Type 0} (disks : Ghosts D)
    (b : Beginning) (policy : Policy) (x : ℕ) (old : Parts D) (told : disks.tells)
    (free : RunsFree disks b policy old) (c : Cell) (at : slice_get old.cells x ≡ Some c) where
  abbrev r : Run
  r = run_of b old.noted.entries

  abbrev words : ℕ → List ℕ
  words = words_on (disks.reading old.store.disk)

  follow : FollowsRun b words old.cells old.noted.entries
  follow = cells_follow b old.noted.entries (disks.reading old.store.disk) old.cells free.stands.orderly.numbers (books old.store) old.noted.marks None free.stands.runs.follows

  number : c.clock.entity ≡ x
  number = free.stands.orderly.numbers.each x c at

  pub has : HasCell b.supply words r.state c
  has = subst (λ w. HasCell b.supply words w c) follow.state (state_has b.supply words old.cells c (ap (slice_get old.cells) number ∙ at))

  pub wish : HasWish b.script.steps r c
  wish = follow.wishes x c at

  full : has_room (books old.store) x ≡ not (is_full r x)
  full = full_same disks b old.cells old.store old.noted.entries old.noted.marks x told free.stands

  version_is : version_of r x ≡ version_at (slice_get old.cells x)
  version_is = ap (λ w. (w x).version) (sym follow.state) ∙ (ap (λ o. (Rattle.kernel_commit_facts.specs.table_laws.Tables.entity_in b.supply words x o).version) at ∙ sym (ap version_at at))

  abbrev test : Bool
  test = has_wish policy r x && not (is_full r x)

  pub test_unwished : has_wish policy r c.clock.entity ≡ false → test ≡ false
  test_unwished none = not_first (has_wish policy r x) (not (is_full r x)) (ap (has_wish policy r) (sym number) ∙ none)

  pub test_is : has_wish policy r c.clock.entity ≡ true → test ≡ nat_lt (records_of x (kept_in (books old.store))) 4
  test_is wished = ap (λ t. t && not (is_full r x)) (ap (has_wish policy r) (sym number) ∙ wished) ∙ sym full

  abbrev snap_by : Bool → List Entry
  snap_by t = if t then mark Snap x (version_of r x) ∷ [] else []

  -- nothing is to be made
  pub none_made : test ≡ false → {T : Type 0} → (res : Result T Stopped) → (y : T) → res ≡ Ok y → SnapsOne disks b policy x res old old
  none_made is res y ok = subst (λ q. SnapsOne disks b policy x q old old) (sym ok) (record {
    runs = free;
    entries = sym (ap (λ es. old.noted.entries ++ es) (ap snap_by is) ∙ append-nil old.noted.entries);
    lives = tt;
  })

  may_commit : test ≡ true → MayCommit b.policy r x
  may_commit is = subst (λ q. MayCommit q r x) (sym free.same_policy) (inl (first (has_wish policy r x) (not (is_full r x)) is, second (has_wish policy r x) (not (is_full r x)) is, free.owes_nothing))
    where
      first : (a b : Bool) → (a && b) ≡ true → a ≡ true
      first true b is = refl
      first false b is = is

      second : (a b : Bool) → (a && b) ≡ true → b ≡ true
      second true b is = is
      second false b is = absurd (cc is)

  pub may_record : test ≡ true → MayRecord disks b x old
  may_record is = record { stands = free.stands; untried = free.untried; may = may_commit is }

  -- the Snap was made
  module _ (new : Parts D) (is : test ≡ true) (rec : HasRecorded disks x old new) where
    entries_are : new.noted.entries ≡ old.noted.entries ++ mark Snap x (version_of r x) ∷ []
    entries_are = rec.entries ∙ ap (λ v. old.noted.entries ++ mark Snap x v ∷ []) (sym version_is)

    run_is : run_of b new.noted.entries ≡ goes_on b.supply b.script r (mark Snap x (version_of r x))
    run_is = ap (run_of b) entries_are ∙ run_next b old.noted.entries (mark Snap x (version_of r x))

    pub one_made : StandsAs disks b new → {T : Type 0} → (res : Result T Stopped) → (y : T) → res ≡ Ok y
        → SnapsOne disks b policy x res old new
    one_made st res y ok = subst (λ q. SnapsOne disks b policy x q old new) (sym ok) (record {
      runs = record { same_policy = free.same_policy; stands = st; owes_nothing = ap (λ q. q.owed) run_is ∙ free.owes_nothing; untried = ap (λ q. q.tried) run_is ∙ free.untried };
      entries = entries_are ∙ ap (λ es. old.noted.entries ++ es) (sym (ap snap_by is));
      lives = tt;
    })

  -- or it failed: a part of it came
  pub one_part : test ≡ true → (new : Parts D) → {T : Type 0} → (res : Result T Stopped) → Fails disks x res old new
      → (why : Stopped) → res ≡ Err why → StopsIn b (wished_snap policy r x) old.noted.entries new.noted.entries
  one_part is new res fails (reason.NoBlocks n) err = none_came b (wished_snap policy r x) old.noted.entries new.noted.entries (ap (λ (p : Parts D). p.noted.entries) (fails.untouched n err))
  one_part is new res fails reason.ReadFault err = absurd (fails.no_read err)
  one_part is new res fails reason.WriteFault err = record {
    part = mark Tried x (version_of r x) ∷ [];
    entries = (fails.tried err).entries ∙ ap (λ v. old.noted.entries ++ mark Tried x v ∷ []) (sym version_is);
    is = subst (λ (all : List Entry). IsStoppedIn b.supply b.script r all (mark Tried x (version_of r x) ∷ [])) (sym (ap snap_by is)) (cut_tried b.supply b.script r (snap_by true) [] [] x (version_of r x) refl);
  }

  -- for want of blocks: it was due
  pub one_lacks : test ≡ true → (new : Parts D) → new ≡ old → LacksBlocks b old → ((y : ℕ) → records_of y (kept_in (books old.store)) ≤ 4) → (n : NoBlocks) → IsShort disks x old n → LacksIn disks b n (wished_snap policy r x) old.noted.entries new
  one_lacks is new same lacks few n short =
      lacks_first disks b n (mark Snap x (version_of r x)) [] (wished_snap policy r x) old new (sym (ap snap_by is)) tt same lacks short (record_within disks b old told free.stands few n x short)

  pub one_failed : (new : Parts D) → {T : Type 0} → (res : Result T Stopped) → (why : Stopped) → res ≡ Err why → LivesAs disks b new (Some why)
      → SnapsOne disks b policy x res old new
  one_failed new res why err lives = subst (λ q. SnapsOne disks b policy x q old new) (sym err) (record { runs = tt; entries = tt; lives = lives })
