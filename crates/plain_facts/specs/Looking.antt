-- Whether a locus's next instruction is a stabilise, and what it owes then.
use Rattle.std.specs.Prelude.{ℕ, Bool, true, false, Option, Some, None}
use Rattle.base_types.specs.declared.histories.Answer.{Answer}
use Rattle.base_types.specs.declared.histories.Answer.TheVariants.{Reply as Replied}
use Rattle.base_types.specs.declared.instructions.Instr.{Instr}
use Rattle.base_types.specs.declared.instructions.Instr.TheVariants.{Stabilise}
use Rattle.base_types.specs.declared.instructions.Reply.TheVariants.{Ok}
use Rattle.model_kernel.specs.Histories.{locus_in}
use Rattle.model_kernel.specs.Refusals.{instr_at}
use Rattle.model_kernel.specs.State.{LocusState, Cell}

-- THE STABLE THAT A STEP OWES

abbrev pub is_stabilise : Instr → Bool
is_stabilise (Stabilise c) = true
is_stabilise i = false

abbrev pub stabilise_next : Option LocusState → Bool
stabilise_next None = false
stabilise_next (Some l) = is_stabilise (instr_at l)

-- the locus's next instruction is a stabilise
abbrev pub wants_stable : Cell → Bool
wants_stable cell = stabilise_next (locus_in cell)

-- a stabilise that was answered Ok owes the Stable of its locus
abbrev pub owed_after : ℕ → Answer → Bool → Option ℕ
owed_after l (Replied Ok) true = Some l
owed_after l answer wants = None
