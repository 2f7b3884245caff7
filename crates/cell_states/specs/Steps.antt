-- Steps of loci on states that have the touched cells.
use Rattle.std.specs.Prelude.{◌≡◌, ℕ, Some}
use Rattle.base_types.specs.declared.histories.Answer.{Answer}
use Rattle.base_types.specs.declared.histories.Entry.{Entry}
use Rattle.cell_clocks.specs.model_kernel.Acts.{wanted}
use Rattle.cell_clocks.specs.model_kernel.Outcomes.{Outcome}
use Rattle.cell_clocks.specs.model_kernel.State.{Supply, Cell, LocusCell, LocusState, KernelState}
use Rattle.cell_clocks.specs.model_kernel.Steps.{step}
use Rattle.act_calls.specs.model_acts.declared.choice.Act.{Act}
use Rattle.act_calls.specs.model_act_facts.Loci.{IsAlone}
use Rattle.act_calls.specs.act_alone.Loci.{WantsAct}

-- the step of the locus in the state gives this entry, and a state of which P holds
abbrev pub Steps : Supply → ℕ → KernelState → Entry → (KernelState → Type 0) → Type 0
Steps s me w e P = (v : KernelState) × (step s me w ≡ Some (e, v)) × P v

-- the locus with this number wants this act, which touches it alone
pub record ActsAlone (me : ℕ) (l : LocusState) (act : Act) : Type 0 where
  pub wants : WantsAct l act
  pub alone : IsAlone (wanted me l)

-- the outcome of an act that touches the locus alone: its new cell and the answer
pub record MakesAlone (o : Outcome) (cell : Cell) (answer : Answer) : Type 0 where
  pub locus : cell ≡ LocusCell o.locus
  pub answers : answer ≡ o.answer
