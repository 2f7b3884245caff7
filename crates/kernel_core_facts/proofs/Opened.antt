-- Behind the births: their Stable, or nothing where none was made.
use Rattle.std.proofs.Common.{◌≡◌, ◌≢◌, ◌↔◌, ℕ, ◌+◌, ◌<◌, ◌≤◌, ◌==◌, true, false, List, [], ◌∷◌, ◌++◌, length, None, Ok, Err, refl, sym, ap, subst, ◌∙◌, arith, eqb-true}
use Rattle.std.proofs.lemmas.List.Elements.{All-cons, All-nil}
use Rattle.std.specs.Prelude.{All, IfErr, IsErrOf, OnErr, OnOk, Result, ⊤}
use Rattle.edge_disk.specs.declared.disk.Disk.{Ghosts}
use Rattle.edge_disk.specs.Image.{Image}
use Rattle.edge_disk.specs.declared.disk.NoBlocks.{NoBlocks}
use Rattle.base_types.specs.declared.histories.Entry.{Entry}
use Rattle.base_types.specs.declared.histories.Event.TheVariants.{Stable, Tried}
use Rattle.table_births.specs.model_kernel.Histories.{births_owed, mark, start_run}
use Rattle.table_births.specs.model_kernel.Scripts.{Script}
use Rattle.table_births.specs.model_kernel.State.{Supply}
use Rattle.kernel_commits.proofs.model_serial_lemmas.Openings.{new_calm}
use Rattle.kernel_commits.specs.model_serial.Serial.{IsCalm as IsCalmRun, opening}
use Rattle.kernel_commits.specs.model_serial_turns.Turns.{IsStoppedIn}
use Rattle.kernel_commits.proofs.model_serial_turns_lemmas.Bearing.{bearing_over, begins}
use Rattle.kernel_commits.proofs.model_serial_turns_lemmas.Stops.{stopped_behind}
use Rattle.table_births.specs.cell_states.declared.cells.Cell.{Cell}
use Rattle.table_births.specs.table_laws.Tables.{AreClean}
use Rattle.kernel_commits.specs.kernel_record_facts.Cells.{words_on}
use Rattle.kernel_commits.specs.store_facts.State.{State, books}
use Rattle.kernel_commits.specs.kernel_invariant.Beginnings.{Beginning, run_of}
use Rattle.kernel_commits.specs.kernel_invariant.Live.{IsCalm}
use Rattle.kernel_commits.specs.kernel_views.Views.{FollowsRun}
use Rattle.kernel_commits.proofs.kernel_views_lemmas.Following.{cells_follow}
use Rattle.kernel_commits.proofs.kernel_views_lemmas.Legal.{run_next}
use Rattle.table_births.specs.Births.{NoBirthLeft}
use Rattle.kernel_commits.specs.kernel_commit_facts.Parts.{Noted, Parts}
use Rattle.kernel_commits.specs.kernel_commit_facts.Lacking.{LacksIn}
use Rattle.kernel_commits.specs.kernel_commit_facts.Pieces.{CountsWithin, StopsIn}
use Rattle.kernel_commits.specs.kernel_commit_facts.Stabilising.{AreShort, HasStabilised, OwesStable}
use Rattle.kernel_commits.specs.Stabilising.{Stabilises}
use Rattle.kernel_commits.specs.kernel_commit_facts.Steady.{entries_taken, steps_to_come}
use Rattle.kernel_commits.specs.Stops.{LeavesStopped}
use Rattle.kernel_commits.specs.Telling.{AddsNoTried, told_by}
use Rattle.kernel_commits.specs.declared.stopping.Stop.TheVariants as stop
use Rattle.kernel_commits.proofs.Telling.{told_no_blocks}
use Rattle.kernel_commits.specs.kernel_invariant.declared.stopping.Stopped.{Stopped}
use Rattle.kernel_commits.specs.kernel_invariant.declared.stopping.Stopped.TheVariants as reason
use Rattle.kernel_commits.proofs.kernel_commit_facts_lemmas.Counting.{CountsWithin-stay}
use Rattle.kernel_commits.proofs.kernel_commit_facts_lemmas.Dues.{lacks_behind}
use Rattle.kernel_commits.proofs.kernel_commit_facts_lemmas.Room.{steps_within}
use Rattle.kernel_core_facts.specs.Bearing.{AreBirths, AwaitsStable, HasBorneAll, HasOpened, IsInBirths, IsShortBehind, OpensRun, RunsInBirths}
use Rattle.kernel_core_facts.proofs.Births.{births_clean}

-- ROOM for the Stable's entry

taken_some : (es : List Entry) → es ≢ [] → entries_taken es ≡ length es + 65
taken_some [] some = absurd (some refl)
taken_some (e ∷ es) some = refl

pub spare : {D : Type 0} (disks : Ghosts D) (p : Parts D) → IsInBirths disks p → length p.noted.entries ≤ 63 → p.noted.entries ≢ []
    → steps_to_come p.cells + entries_taken p.noted.entries < p.noted.room
spare disks p k few some =
    let room = k.room in let taken = taken_some p.noted.entries some in let less = steps_within p.cells in omega (arith, room, less, few, taken)

pub some_noted : (es : List Entry) → (length es == 0) ≡ false → es ≢ []
some_noted es differs is = let h : (0 == 0) ≡ false = subst (λ (xs : List Entry). (length xs == 0) ≡ false) is differs in cc h

no_entries : (es : List Entry) → length es ≡ 0 → es ≡ []
no_entries [] is = refl
no_entries (e ∷ es) is = absurd (omega (arith, is))

pub none_noted : (es : List Entry) → (length es == 0) ≡ true → es ≡ []
none_noted es is = no_entries es (eqb-true (length es) 0 is)

-- WHATEVER THE DISK TELLS

-- what the opening came to, as it is told
pub short_told : {D : Type 0} (script : Script) (r : Result ⊤ Stopped) (old new : Parts D) → IsShortBehind script (λ n. IsErrOf r (reason.NoBlocks n)) old new
    → IsShortBehind script (λ n. IsErrOf (told_by r) (stop.NoBlocks n)) old new
short_told script r old new s = record {
  mid = s.mid;
  borne = s.borne;
  exact = λ n.
      let told = told_no_blocks r n in
      ((λ is. (s.exact n).0 (told.1 is)), (λ few. told.0 ((s.exact n).1 few)));
  untouched = λ n is. s.untouched n ((told_no_blocks r n).1 is);
}

births_no_try : (script : Script) (cs cs' : List Cell) (es : List Entry) → AreBirths script cs es cs' → All (λ (e : Entry). e.event ≢ Tried) es
births_no_try script cs cs' [] h = All-nil (λ (e : Entry). e.event ≢ Tried)
births_no_try script cs cs' (e ∷ es) h =
    All-cons (λ (e : Entry). e.event ≢ Tried) e es (λ tried. let birth = h.1.enters.event in cc (birth, tried)) (births_no_try script h.0 cs' es h.2)

pub counts_stay : {D : Type 0} (disks : Ghosts D) (most : ℕ) (old new : State D) → new ≡ old → CountsWithin disks most old new
counts_stay disks most old new same = subst (CountsWithin disks most old) (sym same) (CountsWithin-stay disks most old)

module _ {D : Type 0} (script : Script) (old mid : Parts D) (borne : HasBorneAll script old mid) where
  -- no birth was made and nothing is noted
  pub opened_empty : mid.noted.entries ≡ [] → HasOpened script old mid
  opened_empty is = record { mid = mid; borne = borne; nothing = λ _. refl; stabilised = λ some. absurd (some is) }

  pub short_empty : mid.noted.entries ≡ [] → IsShortBehind script (λ n. IsErrOf {T = ⊤} {E = Stopped} (Ok tt) (reason.NoBlocks n)) old mid
  short_empty is = record {
    mid = mid;
    borne = borne;
    exact = λ n. ((λ failed. absurd (cc failed)), (λ short. absurd (short.0 is)));
    untouched = λ n failed. absurd (cc failed);
  }

  module _ (some : mid.noted.entries ≢ []) (new : Parts D) where
    pub opened_stable : (result : Result ⊤ Stopped) → OnOk result (HasStabilised 0 mid new) → OnOk result (HasOpened script old new)
    opened_stable (Ok u) made = record { mid = mid; borne = borne; nothing = λ none. absurd (some none); stabilised = λ _. made }
    opened_stable (Err why) made = tt

    pub short_stable : (result : Result ⊤ Stopped) → ((n : NoBlocks) → IsErrOf result (reason.NoBlocks n) ↔ AreShort mid n) → ((n : NoBlocks) → IsErrOf result (reason.NoBlocks n) → new ≡ mid)
        → IsShortBehind script (λ n. IsErrOf result (reason.NoBlocks n)) old new
    short_stable result exact untouched = record {
      mid = mid;
      borne = borne;
      exact = λ n. ((λ failed. (some, (exact n).0 failed)), (λ short. (exact n).1 short.1));
      untouched = untouched;
    }

  -- a stop behind the births is one behind the old parts
  pub stopped_births : (faults : D → ℕ) (P : NoBlocks → Type 0) (new : Parts D) (result : Result ⊤ Stopped) → IfErr result (LeavesStopped faults P mid new) → IfErr result (LeavesStopped faults P old new)
  stopped_births faults P new (Ok u) stop = tt
  stopped_births faults P new (Err (reason.NoBlocks n)) stop = record { orderly = stop.orderly; marks = stop.marks; cause = stop.cause; wanting = stop.wanting }
  stopped_births faults P new (Err reason.ReadFault) stop = record { orderly = stop.orderly; marks = stop.marks; cause = subst (λ (st : State D). Rattle.edge_disk.specs.Counts.Rose (faults st.disk) (faults new.store.disk)) borne.made.store stop.cause; wanting = stop.wanting }
  stopped_births faults P new (Err reason.WriteFault) stop = record { orderly = stop.orderly; marks = stop.marks; cause = subst (λ (st : State D). Rattle.edge_disk.specs.Counts.Rose (faults st.disk) (faults new.store.disk)) borne.made.store stop.cause; wanting = stop.wanting }

  -- births are no Tried
  pub untried_births : AddsNoTried old.noted.entries mid.noted.entries
  untried_births = record {
    part = borne.made.entries;
    entries = ap (λ (n : Noted). n.entries) borne.made.noted;
    untried = births_no_try script old.cells mid.cells borne.made.entries borne.made.births;
  }

  -- pages stay clean
  pub clean_births : (reading : D → Image) (s : Supply) → AreClean s (words_on (reading old.store.disk)) old.cells → AreClean s (words_on (reading mid.store.disk)) mid.cells
  clean_births reading s clean =
      births_clean script s (words_on (reading mid.store.disk)) old.cells mid.cells borne.made.entries borne.made.births
      (subst (λ (st : State D). AreClean s (words_on (reading st.disk)) old.cells) (sym borne.made.store) clean)

-- IN A RUN

module _ {D : Type 0} (disks : Ghosts D)
    (b : Beginning) (script : Script) (same : b.script ≡ script) (p : Parts D) (r : RunsInBirths disks b p) (none : NoBirthLeft script p.cells) where
  abbrev es : List Entry
  es = p.noted.entries

  f : FollowsRun b (words_on (disks.reading p.store.disk)) p.cells es
  f = cells_follow b es (disks.reading p.store.disk) p.cells r.stands.orderly.numbers (books p.store) p.noted.marks None r.stands.runs.follows

  born : births_owed b.script (run_of b es) ≡ false
  born = ap (λ (q : Script). births_owed q (run_of b es)) same ∙ none.over b.supply (words_on (disks.reading p.store.disk)) (run_of b es) (sym f.state)

  calm_start : IsCalmRun b.policy (start_run b.state)
  calm_start = new_calm b.supply b.policy b.script (start_run b.state) (begins b.supply b.script b.state).new (begins b.supply b.script b.state).owed

  -- where no birth was made
  calm_empty : (xs : List Entry) → xs ≡ [] → births_owed b.script (run_of b xs) ≡ false → IsCalm b xs
  calm_empty xs is made = subst (IsCalm b) (sym is) (record {
    births_made = sym (ap (λ (ys : List Entry). births_owed b.script (run_of b ys)) is) ∙ made;
    nothing_owed = calm_start.owed;
    not_tried = calm_start.tried;
    nothing_due = calm_start.due;
  })

  pub opens_empty : es ≡ [] → OpensRun disks b (Ok tt) p
  opens_empty is = record {
    stands = r.stands;
    calm = calm_empty es is born;
    complete = is ∙ bearing_over b.supply b.script b.state [] (begins b.supply b.script b.state) (sym (ap (λ (ys : List Entry). births_owed b.script (run_of b ys)) is) ∙ born);
    part = tt;
    enough = λ n failed. absurd (cc failed);
    lives = tt;
  }

  -- where one was
  module _ (some : es ≢ []) where
    awaits : AwaitsStable b es
    awaits = r.among.over born some

    pub owes : OwesStable disks b 0 p
    owes = record { stands = r.stands; owed = awaits.owed; whole = awaits.behind.short; untried = awaits.behind.tried }

    born_still : (new : Parts D) → new.noted.entries ≡ es ++ mark Stable 0 0 ∷ [] → births_owed b.script (run_of b new.noted.entries) ≡ false
    born_still new is = ap (λ (ys : List Entry). births_owed b.script (run_of b ys)) is ∙ (ap (births_owed b.script) (run_next b es (mark Stable 0 0)) ∙ born)

    -- a part of the Stable, behind the births, is a part of the opening
    part_behind : (new : List Entry) → StopsIn b (mark Stable 0 0 ∷ []) es new → StopsIn b (opening b.supply b.script b.state) [] new
    part_behind new stop = record {
      part = new;
      entries = refl;
      is = subst (IsStoppedIn b.supply b.script (start_run b.state) (opening b.supply b.script b.state)) (sym stop.entries)
          (stopped_behind b.supply b.script (start_run b.state) (opening b.supply b.script b.state) es (mark Stable 0 0 ∷ []) stop.part awaits.complete stop.is);
    }

    pub opens_settled : (result : Result ⊤ Stopped) (new : Parts D) → OnOk result (HasStabilised 0 p new) → Stabilises disks b result new
        → OnErr result (StopsIn b (mark Stable 0 0 ∷ []) es new.noted.entries)
        → ((n : NoBlocks) → IsErrOf result (reason.NoBlocks n) → LacksIn disks b n (mark Stable 0 0 ∷ []) es new) → OpensRun disks b result new
    opens_settled (Ok u) new st s part lacks = record {
      stands = s.stands;
      calm = record { births_made = born_still new st.entries; nothing_owed = s.calm.owed; not_tried = s.calm.tried; nothing_due = s.calm.due };
      complete = st.entries ∙ awaits.complete;
      part = tt;
      enough = λ n failed. absurd (cc failed);
      lives = tt;
    }
    opens_settled (Err why) new st s part lacks = record {
      stands = tt;
      calm = tt;
      complete = tt;
      part = part_behind new.noted.entries part;
      enough = λ n failed. lacks_behind disks b n (opening b.supply b.script b.state) es (mark Stable 0 0 ∷ []) [] [] es new awaits.complete refl (lacks n failed);
      lives = s.lives;
    }
