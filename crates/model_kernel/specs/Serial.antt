-- The history of a run on one thread, without snapshots: births, a Stable, the picks of the order, and then rounds over all loci.
use Rattle.std.specs.Prelude.{◌≡◌, ℕ, zero, suc, ◌≤◌, ◌<◌, Bool, false, ◌&&◌, nat_lt, if◌then◌else◌, List, [], ◌∷◌, ◌++◌, drop, Option, Some, None, is_some}
use Rattle.base_types.specs.Edges.{upto}
use Rattle.base_types.specs.declared.histories.Entry.{Entry}
use Rattle.base_types.specs.declared.histories.Event.TheVariants.{Stable}
use Rattle.model_kernel.specs.State.{Supply, Text, AtlasState, KernelState}
use Rattle.model_kernel.specs.Steps.{atlas_in, running, step}
use Rattle.model_kernel.specs.Scripts.{Script, locus_named}
use Rattle.model_kernel.specs.Births.{next_birth}
use Rattle.model_kernel.specs.Histories.{Run, mark, births_owed, goes_on, run_after, start_run}

-- an owed Stable
abbrev pub owed_stable : Option ℕ → List Entry
owed_stable None = []
owed_stable (Some actor) = mark Stable actor 0 ∷ []

-- an event's entry, and the Stable that is owed after it
abbrev pub made_and_owed : Supply → Script → Run → Option (Entry × KernelState) → List Entry
made_and_owed s script r None = []
made_and_owed s script r (Some made) = made.0 ∷ owed_stable (goes_on s script r made.0).owed

-- BIRTHS

-- one birth, if one is owed
abbrev pub birth_turn : Supply → Script → Run → List Entry
birth_turn s script r = if births_owed script r then made_and_owed s script r (next_birth s script r.state) else []

-- at most n births, with the Stable after the last
abbrev pub births : ℕ → Supply → Script → Run → List Entry
births zero s script r = []
births (suc n) s script r = birth_turn s script r ++ births n s script (run_after s script r (birth_turn s script r))

-- as many births as the script has names
abbrev pub all_births : Supply → Script → Run → List Entry
all_births s script r = births 64 s script r

-- STEPS

-- the locus is born and running, and has steps left
abbrev pub can_step : Script → Run → ℕ → Bool
can_step script r l = is_some (running (r.state l).cell) && nat_lt (r.steps l) script.steps

-- one look at a locus: a step, if it isn't idle
abbrev pub turn : Supply → Script → Run → ℕ → List Entry
turn s script r l = if can_step script r l then made_and_owed s script r (step s l r.state) else []

-- a look at each of these loci in turn
abbrev pub turns : Supply → Script → Run → List ℕ → List Entry
turns s script r [] = []
turns s script r (l ∷ ls) = turn s script r l ++ turns s script (run_after s script r (turn s script r l)) ls

-- the loci by number, which are 41 to 63
abbrev pub all_loci : List ℕ
all_loci = drop 41 (upto 64)

-- this many rounds over all loci
abbrev pub rounds : ℕ → List ℕ
rounds zero = []
rounds (suc n) = all_loci ++ rounds n

-- the loci that the order names; a name that the atlas doesn't have is passed over
abbrev pub picks_of : AtlasState → List Text → List ℕ
picks_of a [] = []
picks_of a (name ∷ names) = pick (locus_named a name) (picks_of a names)
  where
    pick : Option ℕ → List ℕ → List ℕ
    pick (Some l) rest = l ∷ rest
    pick None rest = rest

-- all that is looked at after the births, with this many rounds
abbrev pub looks_of : Script → Run → ℕ → List ℕ
looks_of script r n = picks_of (atlas_in (r.state 0).cell) script.order ++ rounds n

-- THE SERIAL HISTORY with this many rounds
abbrev pub serial_with : Supply → Script → KernelState → ℕ → List Entry
serial_with s script w n =
    let opening = all_births s script (start_run w) in
    opening ++ turns s script (run_after s script (start_run w) opening) (looks_of script (run_after s script (start_run w) opening) n)

-- no birth is owed, and each locus is stopped, halted or out of steps
pub record IsAllIdle (script : Script) (r : Run) : Type 0 where
  pub born : births_owed script r ≡ false
  pub idle : (l : ℕ) → 41 ≤ l → l < 64 → can_step script r l ≡ false

-- the history is the whole serial one: after some rounds all loci are idle
pub record IsSerial (s : Supply) (script : Script) (w : KernelState) (es : List Entry) : Type 0 where
  pub rounds_made : ℕ
  pub same : es ≡ serial_with s script w rounds_made
  pub over : IsAllIdle script (run_after s script (start_run w) es)

-- the history is the front of the serial one
pub record IsSerialFront (s : Supply) (script : Script) (w : KernelState) (es : List Entry) : Type 0 where
  pub rounds_made : ℕ
  pub rest : List Entry
  pub front : es ++ rest ≡ serial_with s script w rounds_made
