-- The act that a locus wants beside another entity.
use Rattle.std.proofs.Common.{◌≡◌, ℕ, Bool, IsTrue, Some, None, ap, subst, ◌∙◌}
use Rattle.base_types.specs.declared.instructions.Instr.{Instr}
use Rattle.plain_states.specs.model_kernel.Acts.{Act as Wanted, wanted}
use Rattle.plain_states.specs.model_kernel.Refusals.{instr_at}
use Rattle.plain_states.specs.model_kernel.State.{LocusState}
use Rattle.model_acts.specs.Views.{act_of}
use Rattle.model_acts.specs.declared.choice.Act.{Act}
use Rattle.act_alone.proofs.model_act_facts_lemmas.Alone.{wanted_says}
use Rattle.act_invoke.specs.Entries.{WantsBeside}

pub wanted_beside : (is : Instr → Bool) (l : LocusState) (act : Act) (x : ℕ) → act_of act ≡ wanted 64 l → act.refused ≡ None → act.other ≡ Some x → IsTrue (is act.instr) → (y : ℕ) × WantsBeside is l y
wanted_beside is l act x same none other holds = (
  x,
  record {
    instr = subst (λ (a : Wanted). IsTrue (is a.instr)) same holds;
    allowed = subst (λ (a : Wanted). a.refused ≡ None) same none;
    other = subst (λ (a : Wanted). a.other ≡ Some x) same other;
  },
)

-- its instruction is the locus's next
pub next_instr : (l : LocusState) (act : Act) → act_of act ≡ wanted 64 l → act.instr ≡ instr_at l
next_instr l act same = ap (λ (a : Wanted). a.instr) same ∙ (wanted_says 64 l).instr
