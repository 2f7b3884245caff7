-- The next birth of a script over the table of cells.
use Rattle.std.specs.Prelude.{◌≡◌, ℕ, ◌+◌, ◌≤◌, Bool, true, false, List, length, slice_get, slice_index, Option, Some, None}
use Rattle.base_types.specs.declared.histories.Entry.{Entry}
use Rattle.base_types.specs.declared.histories.Event.TheVariants.{Birth}
use Rattle.script_types.specs.model_kernel.Births.{next_birth}
use Rattle.script_types.specs.model_kernel.Histories.{Run, births_owed, goes_on, writes}
use Rattle.script_types.specs.model_kernel.Scripts.{Script, next_name}
use Rattle.script_types.specs.model_kernel.State.{AtlasState, Supply, no_atlas}
use Rattle.cell_births.specs.model_births.Fitting.{Fits}
use Rattle.cell_births.specs.act_calls.Calls.{atlas_state}
use Rattle.cell_births.specs.cell_states.declared.cells.Cell.{Cell}
use Rattle.cell_births.specs.cell_states.declared.cells.Part.{Part}
use Rattle.cell_births.specs.cell_states.declared.cells.Part.TheVariants as part
use Rattle.cell_births.specs.script_fits.NextTables.{AreBornBefore}
use Rattle.cell_births.specs.script_fits.declared.tables.Progress.{Progress}
use Rattle.cell_births.specs.cell_wish_laws.Founded.{TakesBirth}
use Rattle.table_steps.specs.table_laws.Tables.{AreClean, HasTableWishes, IsOrderly, state_in, tables_in}

-- the directory that the part of an atlas's cell is
abbrev pub atlas_state_by : Part → AtlasState
atlas_state_by (part.Atlas d) = atlas_state d
atlas_state_by (part.Container b) = no_atlas
atlas_state_by (part.Locus l) = no_atlas

abbrev pub atlas_state_at : Option Cell → AtlasState
atlas_state_at (Some c) = atlas_state_by c.part
atlas_state_at None = no_atlas

-- THE ATLAS that the cells have
abbrev pub atlas_state_in : List Cell → AtlasState
atlas_state_in cs = atlas_state_at (slice_get cs 0)

-- how many containers and loci are born
abbrev pub count_born : AtlasState → ℕ
count_born a = length a.containers + length a.loci

-- THE NEXT BIRTH of the script in the state that the cells are gives this entry and the state that they are left as. In each run in this
-- state it is owed; the run goes on, with the cells' wishes, to one with their wishes as they are left; and pages stay clean.
pub record BearsOn (s : Supply) (words : ℕ → List ℕ) (script : Script) (cs cs' : List Cell) (e : Entry) : Type 0 where
  pub birth : next_birth s script (state_in s words cs) ≡ Some (e, state_in s words cs')
  pub owed : (r : Run) → r.state ≡ state_in s words cs → births_owed script r ≡ true
  pub wishes : (steps : ℕ) (r : Run) → r.state ≡ state_in s words cs → HasTableWishes steps r cs → HasTableWishes steps (goes_on s script r e) cs'
  pub clean : AreClean s words cs → AreClean s words cs'

-- THE BIRTHS ARE UNDER WAY: the script fits the atlas that the cells have, and so many of its containers and loci, from the first on, are born
pub record AreUnderWay (script : Script) (p : Progress) (cs : List Cell) : Type 0 where
  pub fits : Fits (atlas_state_in cs) script
  pub begun : AreBornBefore (atlas_state_in cs) script p

-- EACH NAME IS IN THE ATLAS: the script has no next birth, and none is owed in a run in this state
pub record NoBirthLeft (script : Script) (cs : List Cell) : Type 0 where
  pub next : next_name (atlas_state_in cs) script ≡ None
  pub birth : (s : Supply) (words : ℕ → List ℕ) → next_birth s script (state_in s words cs) ≡ None
  pub over : (s : Supply) (words : ℕ → List ℕ) (r : Run) → r.state ≡ state_in s words cs → births_owed script r ≡ false

-- THE ENTRY is a birth's. Each cell takes it in, with as many steps left as before; versions rise by one at most; and each page of a
-- container has the block that it had, or has none as before.
pub record EntersBirth (cs cs' : List Cell) (e : Entry) : Type 0 where
  pub event : e.event ≡ Birth
  pub takes : (x : ℕ) (c d : Cell) → slice_get cs x ≡ Some c → slice_get cs' x ≡ Some d → TakesBirth (writes e x) c d
  pub versions : (x : ℕ) (c d : Cell) → slice_get cs x ≡ Some c → slice_get cs' x ≡ Some d → (c.clock.version ≤ d.clock.version) × (d.clock.version ≤ c.clock.version + 1)
  pub blocks : (x page : ℕ) → slice_index (tables_in cs' x) page ≡ slice_index (tables_in cs x) page

-- A BIRTH OVER A TABLE IN ORDER, of an allowed script that fits: it leaves the table in order and the script fitting, with one entity more
pub record BearsQuietly (script : Script) (cs cs' : List Cell) (e : Entry) : Type 0 where
  pub bears : (s : Supply) (words : ℕ → List ℕ) → BearsOn s words script cs cs' e
  pub orderly : (held : ℕ → Bool) → IsOrderly held cs → IsOrderly held cs'
  pub enters : EntersBirth cs cs' e
  pub more : count_born (atlas_state_in cs') ≡ count_born (atlas_state_in cs) + 1
  pub fits : Fits (atlas_state_in cs') script
