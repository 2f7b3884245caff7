-- What a serial run has reached: its births, its looks, what it owes.
use Rattle.std.specs.Prelude.{◌≡◌, ℕ, ◌+◌, ◌-◌, ◌*◌, ◌<◌, ◌≤◌, ◌^◌, false, true, List, [], ◌∷◌, ◌++◌, length, sum_by, take, All, slice_index, IsTrue, is_some, Option, Some, None}
use Rattle.base_types.specs.declared.histories.Entry.{Entry}
use Rattle.base_types.specs.declared.histories.Event.TheVariants.{Stable}
use Rattle.model_kernel.specs.Histories.{AllBelow64, IsLegalRun, Run, births_owed, mark, never, run_after, start_run}
use Rattle.model_kernel.specs.LocalEvents.{touch_at}
use Rattle.model_kernel.specs.Scripts.{Script, locus_named}
use Rattle.model_kernel.specs.Serial.{all_births, all_loci, births, picks_of, rounds, turns}
use Rattle.model_kernel.specs.Soundness.{IsSound}
use Rattle.model_kernel.specs.State.{Supply, Text, AtlasState, Cell, KernelState}
use Rattle.model_kernel.specs.Steps.{atlas_in}
use Rattle.plain_states.specs.Born.{AreEdges}
use Rattle.plain_states.specs.Events.{Has}
use Rattle.plain_states.specs.model_sound_runs.Names.{KeepsNames}
use Rattle.plain_states.specs.Plains.{atlas_of, cells_of}
use Rattle.plain_states.specs.declared.plain.Plain.{Plain}
use Rattle.plain_states.specs.script_types.Rules.{IsScript}
use Rattle.plain_facts.specs.Snaps.{HasNoSnaps, HasNoSnapTables}
use Rattle.model_serial_turns.specs.model_births.Fitting.{Fits}

-- THE RUN

-- what the rules look at after these entries, from this state
abbrev pub run_from : Supply → Script → KernelState → List Entry → Run
run_from s script w es = run_after s script (start_run w) es

-- the births from this state, with the Stable that is owed after them
abbrev pub opening_from : Supply → Script → KernelState → List Entry
opening_from s script w = all_births s script (start_run w)

-- the names after those births
abbrev pub opened_atlas : Supply → Script → KernelState → AtlasState
opened_atlas s script w = atlas_in ((run_from s script w (opening_from s script w)).state 0).cell

-- the entries, and behind them the Stable of this actor, if one is owed
abbrev pub settled : Option ℕ → List Entry → List Entry
settled None es = es
settled (Some actor) es = es ++ mark Stable actor 0 ∷ []

-- the entry touches entities with numbers below 64 alone
abbrev pub IsLow : Entry → Type 0
IsLow e = (x : ℕ) → 64 ≤ x → touch_at e.touched x ≡ None

-- nothing was tried or asked, no Stable was cut short, and the Stable of this actor is owed, or none
pub record IsQuiet (r : Run) (owed : Option ℕ) : Type 0 where
  pub owes : r.owed ≡ owed
  pub short : r.short ≡ false
  pub tried : r.tried ≡ None
  pub asked : (x : ℕ) → r.asked x ≡ false

-- these cells, versions and numbers of steps are those after a legal run with these entries, and the Stable of this actor is owed
pub record Reaches (s : Supply) (script : Script) (w : KernelState) (cells : ℕ → Cell) (versions made : List ℕ) (owed : Option ℕ) (es : List Entry) : Type 0 where
  pub legal : IsLegalRun s never w script es
  pub has : Has (run_from s script w es).state cells versions
  pub quiet : IsQuiet (run_from s script w es) owed
  pub steps : (l : ℕ) → 41 ≤ l → l < 64 → (run_from s script w es).steps l ≡ slice_index made (l - 41)
  pub limit : All (λ n. n ≤ script.steps) made
  pub long : length made ≡ 23
  pub count : length (settled owed es) ≤ 64 + 2 * sum_by (λ n. n) made
  pub low : (x : ℕ) → slice_index versions x ≤ (w x).version + length es
  pub start : (x : ℕ) → (w x).version ≤ 2 ^ 62
  pub sound : IsSound cells
  pub calm : HasNoSnaps cells
  pub rules : IsScript script
  pub below : AllBelow64 es

-- THE PLACE IN THE SERIAL HISTORY

abbrev pub names_born : AtlasState → ℕ
names_born a = length a.containers + length a.loci

-- births were made and nothing else, and the rest can be made
pub record IsBearing (s : Supply) (script : Script) (w : KernelState) (state : Plain) (es : List Entry) : Type 0 where
  pub began : (run_from s script w es).began ≡ true
  pub count : ℕ
  pub same : es ≡ births count s script (start_run w)
  pub few : count ≤ names_born (atlas_of state.atlas)
  pub long : length es ≤ count
  pub fits : Fits (atlas_of state.atlas) script
  pub code : HasNoSnapTables script

-- all births were made, and then a look at each of these loci in turn; what had a name then has it still, and all picks had
pub record HasLooked (s : Supply) (script : Script) (w : KernelState) (cells : ℕ → Cell) (es : List Entry) (looked : List ℕ) : Type 0 where
  pub born : births_owed script (run_from s script w es) ≡ false
  pub names : KeepsNames (opened_atlas s script w) (atlas_in (cells 0))
  pub picks : All (λ (name : Text). IsTrue (is_some (locus_named (opened_atlas s script w) name))) script.order
  pub same : es ≡ opening_from s script w ++ turns s script (run_from s script w (opening_from s script w)) looked

-- all picks of the order and some rounds were made, and one up to this number
pub record IsInRound (s : Supply) (script : Script) (w : KernelState) (cells : ℕ → Cell) (es : List Entry) (number : ℕ) : Type 0 where
  pub first : 41 ≤ number
  pub last : number ≤ 64
  pub made : ℕ
  pub looked : HasLooked s script w cells es (picks_of (opened_atlas s script w) script.order ++ rounds made ++ take (number - 41) all_loci)

-- what a run can begin with
pub record CanBegin (s : Supply) (script : Script) (w : KernelState) (state : Plain) (versions : List ℕ) : Type 0 where
  pub has : Has w (cells_of s state) versions
  pub few : (x : ℕ) → slice_index versions x ≤ 2 ^ 62
  pub sound : IsSound (cells_of s state)
  pub edges : AreEdges state.atlas.edges.items
  pub rules : IsScript script
  pub fits : Fits (atlas_of state.atlas) script
  pub calm : HasNoSnaps (cells_of s state)
  pub code : HasNoSnapTables script
