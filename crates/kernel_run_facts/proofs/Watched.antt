-- A kernel along its course with its watcher: shown behind a piece, halted behind it, or stopped in it.
use Rattle.std.proofs.Common.{◌≡◌, inl, inr, ◌≤◌, Bool, true, false, ℕ, List, [], ◌∷◌, ◌++◌, Option, None, Some, Ok, Err, refl, sym, ap, subst, ◌∙◌}
use Rattle.std.proofs.lemmas.List.{append-nil}
use Rattle.std.proofs.lemmas.Option.{same_Some}
use Rattle.std.specs.Prelude.{IfErr, MatchBool, Result, ⊤, ◌⊎◌}
use Rattle.edge_disk.specs.declared.disk.Disk.{Ghosts}
use Rattle.base_types.specs.declared.histories.Entry.{Entry}
use Rattle.script_types.specs.model_kernel.Histories.{Policy}
use Rattle.kernel_core.specs.model_serial.Serial.{look, opening}
use Rattle.kernel_core.specs.model_serial_turns.Turns.{HasLooked, IsCutIn, IsStoppedIn}
use Rattle.kernel_core.proofs.model_serial_turns_lemmas.Whereabouts.{looked_more}
use Rattle.kernel_core.specs.kernel_commits.Telling.{Tells}
use Rattle.kernel_core.specs.kernel_commits.declared.stopping.Stop.{Stop}
use Rattle.kernel_core.specs.kernel_commits.declared.stopping.Stop.TheVariants as stop
use Rattle.kernel_core.specs.kernel_invariant.Beginnings.{Beginning, run_of}
use Rattle.kernel_core.specs.kernel_invariant.declared.stopping.Stopped.{Stopped}
use Rattle.kernel_core.specs.kernel_invariant.declared.stopping.Stopped.TheVariants as reason
use Rattle.kernel_core.specs.kernel_commit_facts.Parts.{Noted, Parts}
use Rattle.kernel_core.proofs.kernel_commit_facts_lemmas.Counting.{CountsWithin-stay}
use Rattle.kernel_core.specs.kernel_core_facts.Kernels.{Held, NotesAlong}
use Rattle.kernel_run_facts.specs.declared.halts.Halt.{Halt}
use Rattle.kernel_run_facts.specs.declared.halts.Halt.TheVariants as halt
use Rattle.kernel_run_facts.specs.Alongs.{ComesNext, LooksAt}
use Rattle.kernel_run_facts.specs.Running.{EndsBehind, EndsRun, HasStoppedBehind, IsCauseOf, IsFrontOf, RunsAlong, TakesOn, picks_in}
use Rattle.kernel_run_facts.specs.Watching.{IsAsLent, IsKnownBefore, IsNext, LooksLeave, RoundsLeave, RunLeaves, WasCutBehind, answer_of}
use Rattle.kernel_run_facts.proofs.Serial.{stopped_serial}
use Rattle.kernel_run_facts.proofs.Caused.{cause_from, has_stopped}

-- A PIECE MORE

-- from behind some looks to behind one more is a piece
pub next_look : (b : Beginning) (looked : List ℕ) (locus : ℕ) (es new : List Entry) → LooksAt b looked es → LooksAt b (looked ++ locus ∷ []) new → IsNext b es new
next_look b looked locus es new was is = record {
  all = look b.supply b.policy b.script (run_of b es) locus;
  next = ComesNext.Look looked locus was refl;
  is = is.same ∙ sym (looked_more b.supply b.policy b.script b.state looked es locus was).same;
}

-- and so are the births
pub next_births : (b : Beginning) (new : List Entry) → new ≡ opening b.supply b.script b.state → IsNext b [] new
next_births b new is = record { all = opening b.supply b.script b.state; next = ComesNext.Births refl refl; is = is }

-- a call that notes along a piece goes on from what was noted
pub grows : {D : Type 0} (disks : Ghosts D) (b : Beginning) (all : List Entry) (old new : Held D) → NotesAlong disks b all old new
    → (part : List Entry) × (new.parts.noted.entries ≡ old.parts.noted.entries ++ part)
grows disks b all old new notes = by new.stop refl
  where
    by : (o : Option Stopped) → new.stop ≡ o → (part : List Entry) × (new.parts.noted.entries ≡ old.parts.noted.entries ++ part)
    by None is = (all, notes.whole is)
    by (Some why) is = (let p = notes.part why is in (p.part, p.entries))

-- the cause of a part of a stretch is one of the whole
pub cause_behind : {D : Type 0} (disks : Ghosts D) (policy : Policy) (old mid new : Parts D) (r : Result ⊤ Stop) → disks.faults old.store.disk ≤ disks.faults mid.store.disk
    → disks.faults mid.store.disk ≤ disks.faults new.store.disk → IfErr r (IsCauseOf disks policy mid new) → IfErr r (IsCauseOf disks policy old new)
cause_behind disks policy old mid new (Ok x) low later cause = tt
cause_behind disks policy old mid new (Err s) low later cause = cause_from disks policy old mid new s low later cause

-- a kernel that such a cause met has stopped for something
pub stopped_for : {D : Type 0} (disks : Ghosts D) (policy : Policy) (old new : Parts D) (s : Stop) (o : Option Stopped) → Tells {T = ⊤} (Err s) o → IsCauseOf disks policy old new s → (why : Stopped) × (o ≡ Some why)
stopped_for disks policy old new (stop.Idle why) o tells cause = absurd cause
stopped_for disks policy old new (stop.NoBlocks n) o tells cause = (reason.NoBlocks n, tells)
stopped_for disks policy old new stop.ReadFault o tells cause = (reason.ReadFault, tells)
stopped_for disks policy old new stop.WriteFault o tells cause = (reason.WriteFault, tells)
stopped_for disks policy old new stop.Shut o tells cause = absurd cause

-- a kernel that nobody touched is as it was lent
pub lent_same : {D : Type 0} (disks : Ghosts D) (k : Held D) → k.stop ≡ None → IsAsLent disks k k
lent_same disks k going = record {
  notes = refl;
  cells = refl;
  counts = CountsWithin-stay disks 0 k.parts.store;
  lives = λ told b lives. lives;
  clean = λ s clean. clean;
  stop = λ why is. absurd (let clash : None ≡ Some why = sym going ∙ is in cc clash);
}

module _ {D : Type 0} (disks : Ghosts D) where
  same_entries : (old new : Held D) → IsAsLent disks old new → new.parts.noted.entries ≡ old.parts.noted.entries
  same_entries old new lent = ap (λ (n : Noted). n.entries) lent.notes

  -- the watcher leaves it along its course
  pub lent_along : (b : Beginning) (looked : List ℕ) (old new : Held D) → disks.tells → IsAsLent disks old new → RunsAlong disks b looked old → RunsAlong disks b looked new
  lent_along b looked old new told lent along = record {
    lives = lent.lives told b along.lives;
    looks = subst (HasLooked b.supply b.policy b.script b.state looked) (sym (same_entries old new lent)) along.looks;
  }

  -- or stopped, by a read that failed, where a piece ends
  pub lent_stopped : (b : Beginning) (first looked : List ℕ) (es : List Entry) (old new : Held D) → disks.tells → IsAsLent disks old new → IsNext b es old.parts.noted.entries → IsFrontOf first looked
      → RunsAlong disks b looked old → (why : Stopped) → new.stop ≡ Some why → HasStoppedBehind disks b first why new
  lent_stopped b first looked es old new told lent next begins along why is =
      let read = (lent.stop why is).0 in
      record {
        lives = (lent_along b looked old new told lent along).lives;
        piece = record {
          front = es;
          all = next.all;
          next = next.next;
          part = record { part = next.all; entries = same_entries old new lent ∙ next.is; is = IsStoppedIn.Completed (IsCutIn.At [] (append-nil next.all)) };
          enough = λ n at. absurd (let clash : reason.NoBlocks n ≡ reason.ReadFault = sym at ∙ read in cc clash);
        };
        looked = looked;
        looks = subst (LooksAt b looked) next.is along.looks;
        begins = begins;
      }

module _ {D : Type 0} (disks : Ghosts D) (watches leaves : Beginning → List Entry → Type 0) where
  known_now : (b : Beginning) (es : List Entry) (goes_on : Bool) → MatchBool goes_on (watches b es) (leaves b es) → IsKnownBefore (watches b) es ⊎ leaves b es
  known_now b es true knows = inl (record { seen = es; rest = []; same = sym (append-nil es); knows = knows })
  known_now b es false knows = inr knows

  -- STOPPED by the watcher's read
  pub cut_by_read : (b : Beginning) (first looked : List ℕ) (es : List Entry) (old new : Held D) (goes_on : Bool) → disks.tells → IsAsLent disks old new → IsNext b es old.parts.noted.entries
      → IsFrontOf first looked → RunsAlong disks b looked old → MatchBool goes_on (watches b new.parts.noted.entries) (leaves b new.parts.noted.entries) → (why : Stopped) → new.stop ≡ Some why
      → WasCutBehind disks watches leaves b first new
  cut_by_read b first looked es old new goes_on told lent next begins along knows why is = record {
    why = why;
    stop = is;
    stopped = lent_stopped disks b first looked es old new told lent next begins along why is;
    knows = known_now b new.parts.noted.entries goes_on knows;
  }

  -- STOPPED before the watcher was asked
  pub cut_before : (b : Beginning) (first : List ℕ) (seen : List Entry) (new : Held D) (why : Stopped) → new.stop ≡ Some why → HasStoppedBehind disks b first why new → watches b seen
      → (part : List Entry) × (new.parts.noted.entries ≡ seen ++ part) → WasCutBehind disks watches leaves b first new
  cut_before b first seen new why is stopped knows more =
      record { why = why; stop = is; stopped = stopped; knows = inl (record { seen = seen; rest = more.0; same = more.1; knows = knows }) }

-- NOBODY WATCHES

abbrev pub Nothing : Beginning → List Entry → Type 0
Nothing b es = Unit {0}

abbrev pub Never : Beginning → List Entry → Type 0
Never b es = ⊥

module _ {D : Type 0} (disks : Ghosts D) (policy : Policy) (old : Parts D) (b : Beginning) (k : Held D) where
  goes_on_still : (why : Stopped) → k.stop ≡ None → k.stop ≡ Some why → ⊥
  goes_on_still why going is = (let clash : None ≡ Some why = sym going ∙ is in cc clash)

  stopped_for_it : (first : List ℕ) (why : Stopped) → k.stop ≡ Some why → WasCutBehind disks Nothing Never b first k → HasStoppedBehind disks b first why k
  stopped_for_it first why is cut = subst (λ (w : Stopped). HasStoppedBehind disks b first w k) (same_Some cut.why why (sym cut.stop ∙ is)) cut.stopped

  -- picks
  pub unwatched_looks : (looked : List ℕ) (r : Result ⊤ Halt) → Tells (answer_of r) k.stop → IfErr (answer_of r) (IsCauseOf disks policy old k.parts) → LooksLeave disks Nothing Never b (picks_in b) looked r k
      → TakesOn disks b looked k
  unwatched_looks looked (Ok y) tells cause left = record { along = λ _. left.along; stopped = λ why is. absurd (goes_on_still why tells is) }
  unwatched_looks looked (Err (halt.Kernel s)) tells cause left = record {
    along = λ going. absurd (has_stopped ⊤ disks policy old k.parts s k.stop tells cause going);
    stopped = λ why is. stopped_serial disks b k left.why left.stop left.stopped;
  }
  unwatched_looks looked (Err halt.Watcher) tells cause left = absurd left.knows

  -- rounds
  pub unwatched_rounds : (first : List ℕ) (r : Result ⊤ Halt) → Tells (answer_of r) k.stop → IfErr (answer_of r) (IsCauseOf disks policy old k.parts) → RoundsLeave disks Nothing Never b first r k
      → EndsBehind disks b first k
  unwatched_rounds first (Ok y) tells cause left = record { over = λ _. left.over; stopped = λ why is. absurd (goes_on_still why tells is) }
  unwatched_rounds first (Err (halt.Kernel s)) tells cause left = record {
    over = λ going. absurd (has_stopped ⊤ disks policy old k.parts s k.stop tells cause going);
    stopped = λ why is. stopped_for_it first why is left;
  }
  unwatched_rounds first (Err halt.Watcher) tells cause left = absurd left.knows

  -- a whole run
  pub unwatched_run : (r : Result ⊤ Halt) → Tells (answer_of r) k.stop → IfErr (answer_of r) (IsCauseOf disks policy old k.parts) → RunLeaves disks Nothing Never b r k → EndsRun disks b k
  unwatched_run (Ok y) tells cause left = record { over = λ _. left.over; stopped = λ why is. absurd (goes_on_still why tells is) }
  unwatched_run (Err (halt.Kernel s)) tells cause left = record { over = λ going. absurd (has_stopped ⊤ disks policy old k.parts s k.stop tells cause going); stopped = λ why is. left.stopped }
  unwatched_run (Err halt.Watcher) tells cause left = absurd left.knows
