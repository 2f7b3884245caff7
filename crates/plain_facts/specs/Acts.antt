-- What an act of a locus makes, alone or beside another entity.
use Rattle.std.specs.Prelude.{◌≡◌, ℕ, Bool, false, ◌&&◌, ◌||◌, ◌==◌, nat_lt, if◌then◌else◌, List, Some, None, slice_set}
use Rattle.base_types.specs.declared.capabilities.Private.{Private}
use Rattle.base_types.specs.declared.histories.Answer.{Answer}
use Rattle.base_types.specs.declared.instructions.Instr.{Instr}
use Rattle.base_types.specs.declared.instructions.Instr.TheVariants.{Stop, Go}
use Rattle.model_kernel.specs.Outcomes.{Outcome, going, stopped}
use Rattle.model_kernel.specs.State.{LocusState, Cell}

-- private regions ascend by the host where they were made, and then by page
abbrev pub stands_before : Private → Private → Bool
stands_before p q = nat_lt p.made q.made || p.made == q.made && nat_lt p.region.at q.region.at

-- the locus goes on in a host with this code, at this place
abbrev pub going_on_in : LocusState → ℕ → List Instr → ℕ → LocusState
going_on_in l host code place = record l { host = host; code = code; place = place; registers = slice_set l.registers 7 0; walk = None }

-- what stop and go make of another locus; other acts leave it
abbrev pub controlled : Instr → LocusState → LocusState
controlled (Stop c) m = record m { condition = stopped m.condition }
controlled (Go c) m = record m { condition = going m.condition }
controlled i m = m

-- the outcome of an act beside another entity: of the locus and, where the act writes it, of the other
pub record Acted (o : Outcome) (m : LocusState) (b c : Cell) (answer : Answer) (wrote : Bool) : Type 0 where
  pub locus : m ≡ o.locus
  pub answers : answer ≡ o.answer
  pub other : o.other ≡ (if wrote then Some c else None)
  pub same : wrote ≡ false → c ≡ b
  pub newborn : o.newborn ≡ None
