-- The history of a run on one thread: births, a Stable, the picks of the order, and then rounds over all loci; behind each Step the
-- Stable that it owes, or the Snaps that are wished for.
use Rattle.std.specs.Prelude.{◌≡◌, ℕ, zero, suc, ◌-◌, ◌&&◌, ◌==◌, not, if◌then◌else◌, true, false, List, [], ◌∷◌, ◌++◌, Option, Some, None}
use Rattle.std.specs.List.{list_any, sum_by}
use Rattle.base_types.specs.declared.histories.Entry.{Entry}
use Rattle.base_types.specs.declared.histories.Event.TheVariants.{Snap, Stable, Tried}
use Rattle.base_types.specs.declared.histories.Touch.{Touch}
use Rattle.model_births.specs.model_kernel.Histories.{Policy, Run, goes_on, has_wish, is_due, is_full, mark, next_changed, run_after, start_run, version_of}
use Rattle.model_births.specs.model_kernel.Scripts.{Script}
use Rattle.model_births.specs.model_kernel.Serial.{IsAllIdle, all_births, all_loci, can_step, looks_of}
use Rattle.model_births.specs.model_kernel.State.{KernelState, Supply}
use Rattle.model_births.specs.model_kernel.Steps.{step}

-- the entities that an entry writes, in the order of what it touches, which ascends
abbrev pub written_in : List Touch → List ℕ
written_in [] = []
written_in (t ∷ ts) = if t.wrote then t.entity ∷ written_in ts else written_in ts

-- the Snap of an entity whose wish is open and that isn't full
abbrev pub wished_snap : Policy → Run → ℕ → List Entry
wished_snap policy r x = if has_wish policy r x && not (is_full r x) then mark Snap x (version_of r x) ∷ [] else []

-- those of these entities, each looked at after the Snaps before it
abbrev pub wished_snaps : Supply → Policy → Script → Run → List ℕ → List Entry
wished_snaps s policy script r [] = []
wished_snaps s policy script r (x ∷ xs) = wished_snap policy r x ++ wished_snaps s policy script (run_after s script r (wished_snap policy r x)) xs

-- what comes behind a Step that writes these: the Stable that is owed, or else the Snaps
abbrev pub kept_behind : Supply → Policy → Script → Run → List ℕ → Option ℕ → List Entry
kept_behind s policy script r xs (Some actor) = mark Stable actor 0 ∷ []
kept_behind s policy script r xs None = wished_snaps s policy script r xs

-- a Step, and what comes behind it
abbrev pub step_and_kept : Supply → Policy → Script → Run → Option (Entry × KernelState) → List Entry
step_and_kept s policy script r None = []
step_and_kept s policy script r (Some made) = made.0 ∷ kept_behind s policy script (goes_on s script r made.0) (written_in made.0.touched) (goes_on s script r made.0).owed

-- one look at a locus: a Step, if it isn't idle
abbrev pub look : Supply → Policy → Script → Run → ℕ → List Entry
look s policy script r l = if can_step script r l then step_and_kept s policy script r (step s l r.state) else []

abbrev pub looks : Supply → Policy → Script → Run → List ℕ → List Entry
looks s policy script r [] = []
looks s policy script r (l ∷ ls) = look s policy script r l ++ looks s policy script (run_after s script r (look s policy script r l)) ls

-- the births of a run, with the Stable behind the last
abbrev pub opening : Supply → Script → KernelState → List Entry
opening s script w = all_births s script (start_run w)

-- THE SERIAL HISTORY with this many rounds
abbrev pub serial_history : Supply → Policy → Script → KernelState → ℕ → List Entry
serial_history s policy script w n =
    let r = run_after s script (start_run w) (opening s script w) in
    opening s script w ++ looks s policy script r (looks_of script r n)

-- the history is the whole serial one: after some rounds all loci are idle
pub record IsWhole (s : Supply) (policy : Policy) (script : Script) (w : KernelState) (es : List Entry) : Type 0 where
  pub rounds_made : ℕ
  pub same : es ≡ serial_history s policy script w rounds_made
  pub over : IsAllIdle script (run_after s script (start_run w) es)

-- the history is the front of the serial one
pub record IsFront (s : Supply) (policy : Policy) (script : Script) (w : KernelState) (es : List Entry) : Type 0 where
  pub rounds_made : ℕ
  pub rest : List Entry
  pub front : es ++ rest ≡ serial_history s policy script w rounds_made

-- how many steps the loci have left
abbrev pub steps_left : Script → Run → ℕ
steps_left script r = sum_by (λ l. script.steps - r.steps l) all_loci

-- A STOPPED HISTORY

-- the Snap of this entity, and what comes later
abbrev pub snap_then : Supply → Script → Run → (Run → List Entry) → Option ℕ → List Entry
snap_then s script r later None = []
snap_then s script r later (Some x) = mark Snap x (version_of r x) ∷ later (goes_on s script r (mark Snap x (version_of r x)))

-- the records of the first so many changed entities, ascending, as Snaps in place of a Stable
abbrev pub first_snaps : ℕ → Supply → Script → Run → List Entry
first_snaps zero s script r = []
first_snaps (suc n) s script r = snap_then s script r (λ q. first_snaps n s script q) (next_changed r)

-- a front of the serial history; or one up to a Stable, in whose place the Snaps of its completed records stand
pub data IsCut (s : Supply) (policy : Policy) (script : Script) (w : KernelState) (es : List Entry) : Type 0 where
  At : IsFront s policy script w es → IsCut s policy script w es
  InStable : (front : List Entry) → (actor completed : ℕ) → IsFront s policy script w (front ++ mark Stable actor 0 ∷ []) → es ≡ front ++ first_snaps completed s script (run_after s script (start_run w) front) → IsCut s policy script w es

-- and perhaps, at the end, one record that was tried, in the place of its Snap
pub data IsStopped (s : Supply) (policy : Policy) (script : Script) (w : KernelState) (es : List Entry) : Type 0 where
  Completed : IsCut s policy script w es → IsStopped s policy script w es
  Trying : (front : List Entry) → (x version : ℕ) → IsCut s policy script w (front ++ mark Snap x version ∷ []) → es ≡ front ++ mark Tried x version ∷ [] → IsStopped s policy script w es

-- no step was made, and nobody wishes for anything
pub record IsNew (r : Run) : Type 0 where
  pub began : r.began ≡ true
  pub short : r.short ≡ false
  pub tried : r.tried ≡ None
  pub by_step : (x : ℕ) → r.by_step x ≡ false
  pub asked : (x : ℕ) → r.asked x ≡ false

-- nothing is owed or tried, and no wish is due
pub record IsCalm (policy : Policy) (r : Run) : Type 0 where
  pub owed : r.owed ≡ None
  pub short : r.short ≡ false
  pub tried : r.tried ≡ None
  pub due : (x : ℕ) → is_due policy r x ≡ false

-- behind a Step, among the Snaps of what it wrote: a wish may be due for these alone
pub record IsBehind (policy : Policy) (r : Run) (xs : List ℕ) : Type 0 where
  pub short : r.short ≡ false
  pub tried : r.tried ≡ None
  pub noted : (x : ℕ) → is_full r x ≡ true → r.was_full x ≡ true
  pub due : (x : ℕ) → list_any (λ y. y == x) xs ≡ false → is_due policy r x ≡ false
