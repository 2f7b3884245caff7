-- Where a serial run on plain states stands.
use Rattle.std.specs.Prelude.{List, [], ◌∷◌, ◌++◌, take}
use Rattle.base_types.specs.declared.histories.Entry.{Entry}
use Rattle.plain_steps.specs.model_kernel.Scripts.{Script}
use Rattle.plain_steps.specs.model_kernel.Serial.{IsSerial, IsSerialFront, picks_of}
use Rattle.plain_steps.specs.model_kernel.State.{Supply, KernelState}
use Rattle.plain_states.specs.Born.{AreEdges}
use Rattle.plain_states.specs.Plains.{cells_of}
use Rattle.plain_states.specs.declared.plain.Plain.{Plain}
use Rattle.plain_runs.specs.declared.serial.Place.{Place}
use Rattle.plain_runs.specs.declared.serial.Place.TheVariants.{Births, Pick, Round}
use Rattle.plain_runs.specs.declared.serial.SerialRun.{SerialRun}
use Rattle.plain_steps.specs.plain_facts.Standing.{opened_atlas, settled, Reaches, IsBearing, HasLooked, IsInRound}

-- the entries end at this place
abbrev pub IsAt : Supply → Script → KernelState → Plain → Place → List Entry → Type 0
IsAt s script w state Births es = IsBearing s script w state es
IsAt s script w state (Pick i) es = HasLooked s script w (cells_of s state) es (picks_of (opened_atlas s script w) (take i script.order))
IsAt s script w state (Round number) es = IsInRound s script w (cells_of s state) es number

-- THE RUN STANDS where the legal run from the state w with these entries is, which are a front of the serial history
pub record Stands (s : Supply) (script : Script) (w : KernelState) (run : SerialRun) (es : List Entry) : Type 0 where
  pub reaches : Reaches s script w (cells_of s run.state) run.versions run.made run.owed es
  pub edges : AreEdges run.state.atlas.edges.items
  pub place : IsAt s script w run.state run.place (settled run.owed es)
  pub front : IsSerialFront s script w es

-- it stands somewhere
abbrev pub IsStanding : Supply → Script → SerialRun → Type 0
IsStanding s script run = (w : KernelState) × (es : List Entry) × Stands s script w run es

-- wherever the one stands, the other stands
abbrev pub Keeps : Supply → Script → SerialRun → SerialRun → Type 0
Keeps s script old new = (w : KernelState) → (es : List Entry) → Stands s script w old es → Stands s script w new es

-- it stands one entry further
abbrev pub GoesOn : Supply → Script → SerialRun → Entry → SerialRun → Type 0
GoesOn s script old e new = (w : KernelState) → (es : List Entry) → Stands s script w old es → Stands s script w new (es ++ e ∷ [])

-- wherever it stands, the serial history is over
abbrev pub IsOver : Supply → Script → SerialRun → Type 0
IsOver s script run = (w : KernelState) → (es : List Entry) → Stands s script w run es → IsSerial s script w es
