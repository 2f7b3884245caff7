-- What a wanted act says of what it touches.
use Rattle.std.proofs.Common.{◌≡◌, ℕ, false, ◌&&◌, ◌==◌, Option, sym, ap, subst, ◌∙◌, eq-eqb}
use Rattle.base_types.specs.declared.capabilities.Rights.{Rights}
use Rattle.base_types.specs.declared.instructions.Instr.{Instr}
use Rattle.base_types.specs.declared.instructions.Instr.TheVariants.{Load, Store, Map, Unmap, Make, Spawn}
use Rattle.act_look.specs.model_kernel.Acts.{Act, allowed, wanted}
use Rattle.act_look.specs.model_kernel.State.{LocusState}
use Rattle.act_look.specs.model_acts.Views.{act_of, may_name_itself, seen_by}
use Rattle.act_look.specs.model_acts.declared.choice.Act.{Act as Chosen}
use Rattle.act_look.specs.act_alone.Loci.{WantsAct}
use Rattle.act_look.proofs.model_act_facts_lemmas.Alone.{act_instr}
use Rattle.base_types.specs.Instructions.{IsInstruction}
use Rattle.act_look.specs.model_act_facts.Loci.{IsAlone}
use Rattle.cell_calls.specs.Besides.{WantsOther}
use Rattle.cell_plans.specs.Plans.{BearsNone, IsCallBeside}
use Rattle.cell_calls.proofs.Touching.{act_is, allowed_none, apart_by, called}

-- an act that was chosen so is the one that the locus wants
pub wants_act : (l : LocusState) (act : Chosen) → act_of act ≡ wanted 64 l → ((me : ℕ) → wanted me l ≡ seen_by me (act_of act)) → IsInstruction act.instr → WantsAct l act
wants_act l act is seen instruction = record { is = is; instr = act_instr l (act_of act) is; seen = seen; instruction = instruction }

-- a call beside another entity
pub call_beside : (me x : ℕ) (l : LocusState) (i : Instr) → WantsOther l i x → (may_name_itself i && x == me) ≡ false → ((d a : ℕ) → i ≡ Load d a → ⊥) → ((a v : ℕ) → i ≡ Store a v → ⊥)
    → ((d a c b n : ℕ) (rights : Rights) → i ≡ Map d a c b n rights → ⊥) → ((d a : ℕ) → i ≡ Unmap d a → ⊥) → IsCallBeside me l i x
call_beside me x l i h is load store map unmap = record {
  wants = h;
  calls = called l i x (ap (λ (a : Act). a.other) (sym (act_is 64 l i h.instr h.allowed)) ∙ h.other) load store map unmap;
  apart = λ names at. apart_by (may_name_itself i) (x == me) is names (eq-eqb x me at);
}

pub alone_by : (me : ℕ) (l : LocusState) (i : Instr) → BearsNone l i → ((d n t : ℕ) (e : Option ℕ) → i ≡ Make d n t e → ⊥) → ((d p : ℕ) → i ≡ Spawn d p → ⊥) → IsAlone (wanted me l)
alone_by me l i h make spawn =
    let is : wanted 64 l ≡ allowed 64 l i = act_is 64 l i h.instr h.allowed in
    subst IsAlone (sym (h.same me ∙ is)) (allowed_none l i (ap (λ (a : Act). a.other) (sym is) ∙ h.other) make spawn)
