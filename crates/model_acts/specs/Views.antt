-- What a view of a locus and an act are in the model, and what the choice of an act rests on.
use Rattle.std.specs.Prelude.{ℕ, ◌+◌, ◌<◌, ◌≤◌, Bool, true, false, ◌&&◌, ◌==◌, nat_lt, if◌then◌else◌, Option, Some, None, Result, Ok, Err, All}
use Rattle.std.specs.Option.{ForSome}
use Rattle.base_types.specs.declared.capabilities.Private.{Private}
use Rattle.base_types.specs.declared.capabilities.Region.{Region}
use Rattle.base_types.specs.declared.instructions.Instr.{Instr}
use Rattle.base_types.specs.declared.instructions.Instr.TheVariants.{Stop, Go, Snap}
use Rattle.base_types.specs.declared.histories.Answer.TheVariants.{Hop}
use Rattle.base_types.specs.declared.instructions.Reply.{Reply}
use Rattle.base_types.specs.declared.instructions.Walk.{Walk}
use Rattle.model_kernel.specs.State.{LocusState}
use Rattle.model_kernel.specs.Soundness.{IsSoundCode}
use Rattle.model_kernel.specs.Acts.{alone, Act as Wanted}
use Rattle.model_kernel.specs.Outcomes.{Outcome, own, own_reply}
use Rattle.model_acts.specs.declared.view.LocusView.{LocusView}
use Rattle.model_acts.specs.declared.choice.Act.{Act}

abbrev pub view_of : LocusView → LocusState
view_of v = record {
  registers = v.registers.now;
  place = v.place;
  code = v.code.now;
  host = v.host;
  chain = v.chain.now;
  privates = v.privates.now;
  caps = v.caps.now;
  walk = v.walk;
  condition = v.condition;
  every = v.every;
  printed = v.printed;
}

abbrev pub act_of : Act → Wanted
act_of a = record { instr = a.instr; refused = a.refused; atlas = a.atlas; other = a.other; newborn = a.newborn }

-- WHAT THE CHOICE RESTS ON

-- both sides of the region are within the greatest size
abbrev pub IsInside : Region → Type 0
IsInside r = (r.at + r.count ≤ 256) × (r.from + r.count ≤ 256)

pub record IsReadyLocus (l : LocusState) : Type 0 where
  pub place : l.place ≤ 128
  pub code : IsSoundCode l.code
  pub privates : All (λ (p : Private). IsInside p.region) l.privates
  pub hops : ForSome l.walk (λ (w : Walk). w.hops ≤ 63)

-- pages from `at` on overlap the region
abbrev pub meets : ℕ → ℕ → Region → Bool
meets at count r = nat_lt at (r.at + r.count) && nat_lt r.at (at + count)

-- LOOKS

-- a region within the greatest size covers the page
pub record ShowsPage (r : Region) (page : ℕ) : Type 0 where
  pub at : r.at ≤ page
  pub count : page < r.at + r.count
  pub inside : IsInside r

-- the walk goes on, or the look is refused
abbrev pub walked : LocusState → Result Walk Reply → Outcome
walked l (Ok w) = own (record l { walk = Some w }) Hop
walked l (Err why) = own_reply l why

-- AN ACT ON THE LOCUS ITSELF

abbrev pub may_name_itself : Instr → Bool
may_name_itself (Stop c) = true
may_name_itself (Go c) = true
may_name_itself (Snap c) = true
may_name_itself i = false

abbrev pub is_number : ℕ → Option ℕ → Bool
is_number me (Some x) = x == me
is_number me None = false

-- the act of the locus with this number: one that names the locus itself touches it once
abbrev pub seen_by : ℕ → Wanted → Wanted
seen_by me act = if may_name_itself act.instr && is_number me act.other then alone act.instr None else act
