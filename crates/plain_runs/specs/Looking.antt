-- One look at a locus of a plain run.
use Rattle.std.specs.Prelude.{◌≡◌, ℕ, ◌<◌, ◌≤◌, false, List, [], ◌∷◌, ◌++◌, Option, Some, None}
use Rattle.base_types.specs.declared.histories.Entry.{Entry}
use Rattle.plain_steps.specs.model_kernel.Histories.{births_owed}
use Rattle.plain_steps.specs.model_kernel.Scripts.{Script}
use Rattle.plain_steps.specs.model_kernel.Serial.{can_step, owed_stable, turn}
use Rattle.plain_steps.specs.model_kernel.State.{Supply, Text, KernelState}
use Rattle.plain_states.specs.Born.{AreEdges}
use Rattle.plain_states.specs.Plains.{cells_of}
use Rattle.plain_steps.specs.plain_facts.Standing.{Reaches, run_from}
use Rattle.plain_runs.specs.Standing.{Stands}
use Rattle.plain_runs.specs.declared.serial.Place.{Place}
use Rattle.plain_runs.specs.declared.serial.Place.TheVariants.{Births, Pick, Round}
use Rattle.plain_runs.specs.declared.serial.SerialRun.{SerialRun}

-- THE LOOK

-- all is born and no Stable is owed
pub record IsReady (s : Supply) (script : Script) (w : KernelState) (run : SerialRun) (es : List Entry) : Type 0 where
  pub owed : run.owed ≡ None
  pub reaches : Reaches s script w (cells_of s run.state) run.versions run.made None es
  pub edges : AreEdges run.state.atlas.edges.items
  pub born : births_owed script (run_from s script w es) ≡ false

-- a look at the locus made this entry
pub record IsTurn (s : Supply) (script : Script) (w : KernelState) (l : ℕ) (es : List Entry) (e : Entry) (new : SerialRun) : Type 0 where
  pub reaches : Reaches s script w (cells_of s new.state) new.versions new.made new.owed (es ++ e ∷ [])
  pub edges : AreEdges new.state.atlas.edges.items
  pub made : turn s script (run_from s script w es) l ≡ e ∷ owed_stable new.owed
  pub born : births_owed script (run_from s script w (es ++ e ∷ [])) ≡ false

-- wherever the old run is, the look made this entry
abbrev pub Turns : Supply → Script → ℕ → SerialRun → Entry → SerialRun → Type 0
Turns s script l old e new = (w : KernelState) → (es : List Entry) → IsReady s script w old es → IsTurn s script w l es e new

-- wherever the old run is, the new one is
abbrev pub Stills : Supply → Script → SerialRun → SerialRun → Type 0
Stills s script old new = (w : KernelState) → (es : List Entry) → IsReady s script w old es → IsReady s script w new es

-- wherever the run is, the locus is idle
abbrev pub Idles : Supply → Script → ℕ → SerialRun → Type 0
Idles s script l run = (w : KernelState) → (es : List Entry) → IsReady s script w run es → can_step script (run_from s script w es) l ≡ false

-- the run is somewhere, all is born, and no Stable is owed
abbrev pub IsReadySomewhere : Supply → Script → SerialRun → Type 0
IsReadySomewhere s script run = (w : KernelState) × (es : List Entry) × IsReady s script w run es

-- wherever the run stands, these loci are idle
abbrev pub AllIdle : Supply → Script → ℕ → ℕ → SerialRun → Type 0
AllIdle s script first behind run = (w : KernelState) → (es : List Entry) → Stands s script w run es → (l : ℕ) → first ≤ l → l < behind → can_step script (run_from s script w es) l ≡ false

-- PLACES

-- the births are over
abbrev pub IsPastBirths : Place → Type 0
IsPastBirths place = place ≡ Births → ⊥

-- the picks are over too
abbrev pub IsInRounds : Place → Type 0
IsInRounds place = (number : ℕ) × (place ≡ Round number)

-- after the last birth the Stable of the atlas is owed, and the picks come
abbrev pub ended : Option Text → SerialRun → SerialRun
ended None run = record run { owed = Some 0; place = Pick 0 }
ended (Some name) run = run
