-- Where a run on one thread is in its serial history, and where it stopped in the middle of a piece of it.
use Rattle.std.specs.Prelude.{◌≡◌, ℕ, ◌-◌, false, List, [], ◌∷◌, ◌++◌, take, None}
use Rattle.base_types.specs.declared.histories.Entry.{Entry}
use Rattle.base_types.specs.declared.histories.Event.TheVariants.{Snap, Stable, Tried}
use Rattle.model_serial.specs.model_kernel.Histories.{IsLegalRun, Policy, Run, births_owed, mark, run_after, start_run}
use Rattle.model_serial.specs.model_kernel.Scripts.{Script}
use Rattle.model_serial.specs.model_kernel.Serial.{all_loci, births, looks_of, picks_of}
use Rattle.model_serial.specs.model_kernel.State.{KernelState, Supply}
use Rattle.model_serial.specs.model_kernel.Steps.{atlas_in}
use Rattle.model_serial.specs.Serial.{IsCalm, IsNew, first_snaps, looks, opening}

-- the run behind the births and their Stable
abbrev pub opened : Supply → Script → KernelState → Run
opened s script w = run_after s script (start_run w) (opening s script w)

-- WHERE A RUN IS: behind its opening, and a look at each of these loci
pub record HasLooked (s : Supply) (policy : Policy) (script : Script) (w : KernelState) (looked : List ℕ) (es : List Entry) : Type 0 where
  pub same : es ≡ opening s script w ++ looks s policy script (opened s script w) looked

-- in the opening: births alone were made, and these many births come next, with the Stable
pub record IsBearing (s : Supply) (script : Script) (w : KernelState) (es : List Entry) : Type 0 where
  pub new : IsNew (run_after s script (start_run w) es)
  pub owed : (run_after s script (start_run w) es).owed ≡ None
  pub left : ℕ
  pub same : es ++ births left s script (run_after s script (start_run w) es) ≡ opening s script w

-- at rest: the history is legal, all names are born, nothing is owed and no wish is due
pub record IsAtRest (s : Supply) (policy : Policy) (script : Script) (w : KernelState) (es : List Entry) : Type 0 where
  pub legal : IsLegalRun s policy w script es
  pub calm : IsCalm policy (run_after s script (start_run w) es)
  pub born : births_owed script (run_after s script (start_run w) es) ≡ false

-- THE COURSE: the picks of the order, and then the loci by number, round after round

-- these loci are looked at first
pub record ComeFirst (script : Script) (r : Run) (looked : List ℕ) : Type 0 where
  pub rounds_made : ℕ
  pub rest : List ℕ
  pub front : looked ++ rest ≡ looks_of script r rounds_made

-- those before this place of the order
abbrev pub before_pick : Script → Run → ℕ → List ℕ
before_pick script r i = picks_of (atlas_in (r.state 0).cell) (take i script.order)

-- those before this locus, where so many rounds were made
abbrev pub before_locus : Script → Run → ℕ → ℕ → List ℕ
before_locus script r made l = looks_of script r made ++ take (l - 41) all_loci

-- A PIECE THAT WAS STOPPED. `all` is what comes from the run r on, `part` what stands in its place.

-- a front of it; or one up to a Stable, in whose place the Snaps of its completed records stand
pub data IsCutIn (s : Supply) (script : Script) (r : Run) (all part : List Entry) : Type 0 where
  At : (rest : List Entry) → part ++ rest ≡ all → IsCutIn s script r all part
  InStable : (front : List Entry) → (actor completed : ℕ) → (rest : List Entry) → front ++ mark Stable actor 0 ∷ rest ≡ all → part ≡ front ++ first_snaps completed s script (run_after s script r front) → IsCutIn s script r all part

-- and perhaps, at the end, one record that was tried, in the place of its Snap
pub data IsStoppedIn (s : Supply) (script : Script) (r : Run) (all part : List Entry) : Type 0 where
  Completed : IsCutIn s script r all part → IsStoppedIn s script r all part
  Trying : (front : List Entry) → (x version : ℕ) → IsCutIn s script r all (front ++ mark Snap x version ∷ []) → part ≡ front ++ mark Tried x version ∷ [] → IsStoppedIn s script r all part
