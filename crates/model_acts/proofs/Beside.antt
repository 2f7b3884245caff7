-- Acts beside another entity, for callers.
use Rattle.std.proofs.Common.{◌≡◌, ℕ, false, Option, Some, None, refl, ap, ◌∙◌}
use Rattle.base_types.specs.declared.instructions.Instr.{Instr}
use Rattle.base_types.specs.declared.instructions.Instr.TheVariants.{Set, Copy, Add, Sub, Jump, Jz, Load, Store, Invoke, Leave, Return, Map, Unmap, Lmap, Lunmap, Take, Give, Drop, Make, Spawn, Stop, Go, Snap, Stabilise, Print, Halt}
use Rattle.base_types.specs.declared.instructions.Reply.{Reply}
use Rattle.model_kernel.specs.State.{Supply, AtlasState, LocusState, Cell}
use Rattle.model_kernel.specs.Acts.{Act, act_by, allowed, wanted}
use Rattle.model_kernel.specs.Outcomes.{outcome, by_refused, by_other, on_cell}
use Rattle.model_kernel.specs.Refusals.{instr_at, refusal}
use Rattle.model_acts.specs.Views.{may_name_itself}

allowed_same : (me you : ℕ) (l : LocusState) (i : Instr) → may_name_itself i ≡ false → allowed me l i ≡ allowed you l i
unfolding allowed
allowed_same me you l (Stop c) h = cc
allowed_same me you l (Go c) h = cc
allowed_same me you l (Snap c) h = cc
allowed_same me you l (Load d a) h = refl
allowed_same me you l (Store a s) h = refl
allowed_same me you l (Invoke c) h = refl
allowed_same me you l (Leave c) h = refl
allowed_same me you l Return h = refl
allowed_same me you l (Map d a c b n rights) h = refl
allowed_same me you l (Unmap d a) h = refl
allowed_same me you l (Take d c y) h = refl
allowed_same me you l (Give d c s rights) h = refl
allowed_same me you l (Make d n t e) h = refl
allowed_same me you l (Spawn d p) h = refl
allowed_same me you l (Set d n) h = refl
allowed_same me you l (Copy d s) h = refl
allowed_same me you l (Add d s) h = refl
allowed_same me you l (Sub d s) h = refl
allowed_same me you l (Jump p) h = refl
allowed_same me you l (Jz s p) h = refl
allowed_same me you l (Lmap a c b n rights) h = refl
allowed_same me you l (Lunmap a) h = refl
allowed_same me you l (Drop s) h = refl
allowed_same me you l (Stabilise c) h = refl
allowed_same me you l (Print s) h = refl
allowed_same me you l Halt h = refl

-- an act that can't name the locus itself is the same for each number of the locus
pub wanted_same : (me you : ℕ) (l : LocusState) → may_name_itself (instr_at l) ≡ false → wanted me l ≡ wanted you l
unfolding wanted
wanted_same me you l h = by (refusal l (instr_at l))
  where
    by : (r : Option Reply) → act_by me l (instr_at l) r ≡ act_by you l (instr_at l) r
    by (Some why) = refl
    by None = allowed_same me you l (instr_at l) h

-- the outcome is by the other entity's cell
pub made_beside : (s : Supply) (l : LocusState) (act : Act) (a : AtlasState) (x : ℕ) (i : Instr) (cell : Cell) → act.refused ≡ None → act.other ≡ Some x → act.instr ≡ i → outcome s l act a cell ≡ on_cell s l a x i cell
unfolding outcome
made_beside s l act a x i cell none other is =
    ap (λ r. by_refused s l a act.instr r act.other cell) none ∙ ap (λ o. by_other s l a act.instr o cell) other ∙ ap (λ j. on_cell s l a x j cell) is
