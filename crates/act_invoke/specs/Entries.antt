-- What an invocation rests on, and what it makes.
use Rattle.std.specs.Prelude.{◌≡◌, ℕ, Bool, true, false, IsTrue, Some, None}
use Rattle.base_types.specs.declared.histories.Answer.TheVariants.{Reply as Replied}
use Rattle.base_types.specs.declared.instructions.Instr.{Instr}
use Rattle.base_types.specs.declared.instructions.Instr.TheVariants.{Invoke, Leave, Return}
use Rattle.base_types.specs.declared.instructions.Reply.{Reply}
use Rattle.act_alone.specs.model_kernel.State.{ContainerState, LocusState, ContainerCell}
use Rattle.act_alone.specs.model_kernel.Acts.{wanted}
use Rattle.act_alone.specs.model_kernel.Outcomes.{Outcome}

abbrev pub is_invoke : Instr → Bool
is_invoke (Invoke c) = true
is_invoke i = false

abbrev pub is_leave : Instr → Bool
is_leave (Leave c) = true
is_leave i = false

abbrev pub is_return : Instr → Bool
is_return Return = true
is_return i = false

-- the locus wants an act of this kind beside the entity x, which it doesn't refuse alone
pub record WantsBeside (is : Instr → Bool) (l : LocusState) (x : ℕ) : Type 0 where
  pub instr : IsTrue (is (wanted 64 l).instr)
  pub allowed : (wanted 64 l).refused ≡ None
  pub other : (wanted 64 l).other ≡ Some x

-- the outcome of an act beside a container: the locus, the reply, and the container, which is as it was
pub record Invoked (o : Outcome) (m : LocusState) (reply : Reply) (c : ContainerState) : Type 0 where
  pub locus : m ≡ o.locus
  pub answer : Replied reply ≡ o.answer
  pub other : o.other ≡ Some (ContainerCell c)
  pub newborn : o.newborn ≡ None
