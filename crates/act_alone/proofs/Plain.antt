-- An instruction that tells by itself what is wanted.
use Rattle.std.proofs.Common.{◌≡◌, ℕ, Bool, true, false, ◌&&◌, if◌then◌else◌, None, refl, sym, ap, subst, ◌∙◌}
use Rattle.base_types.specs.Instructions.{IsInstruction}
use Rattle.base_types.specs.declared.instructions.Instr.{Instr}
use Rattle.base_types.specs.declared.instructions.Instr.TheVariants.{Set, Copy, Add, Sub, Jump, Jz, Print, Halt}
use Rattle.model_kernel.specs.Acts.{act_by, allowed, alone, wanted}
use Rattle.model_kernel.specs.Refusals.{instr_at, refusal}
use Rattle.model_kernel.specs.State.{LocusState}
use Rattle.model_acts.specs.Views.{may_name_itself, seen_by}
use Rattle.model_act_facts.specs.Loci.{IsAlone}
use Rattle.act_alone.specs.Loci.{WantsPlainly, is_plain}

allowed_plain : (me : ℕ) (l : LocusState) (i : Instr) → is_plain i ≡ true → act_by me l i (refusal l i) ≡ alone i None
unfolding allowed refusal
allowed_plain me l (Set d n) is = refl
allowed_plain me l (Copy d s) is = refl
allowed_plain me l (Add d s) is = refl
allowed_plain me l (Sub d s) is = refl
allowed_plain me l (Jump p) is = refl
allowed_plain me l (Jz s p) is = refl
allowed_plain me l (Print s) is = refl
allowed_plain me l Halt is = refl
allowed_plain me l i is = absurd (let clash : false ≡ true = is in cc clash)

pub wanted_plain : (me : ℕ) (l : LocusState) → is_plain (instr_at l) ≡ true → wanted me l ≡ alone (instr_at l) None
unfolding wanted
wanted_plain me l is = allowed_plain me l (instr_at l) is

names_none : (i : Instr) → is_plain i ≡ true → may_name_itself i ≡ false
names_none (Set d n) is = refl
names_none (Copy d s) is = refl
names_none (Add d s) is = refl
names_none (Sub d s) is = refl
names_none (Jump p) is = refl
names_none (Jz s p) is = refl
names_none (Print s) is = refl
names_none Halt is = refl
names_none i is = absurd (let clash : false ≡ true = is in cc clash)

pub wants_plainly : (l : LocusState) (i : Instr) → i ≡ instr_at l → IsInstruction i → is_plain i ≡ true → WantsPlainly l (record { instr = i; refused = None; atlas = false; other = None; newborn = None })
wants_plainly l i at instruction plain =
    let is : (me : ℕ) → wanted me l ≡ alone i None = λ me. wanted_plain me l (ap is_plain (sym at) ∙ plain) ∙ ap (λ j. alone j None) (sym at) in
    let same : (me : ℕ) → alone i None ≡ seen_by me (alone i None) = λ me. ap (λ (b : Bool). if b && false then alone i None else alone i None) (sym (names_none i plain)) in
    record {
      wants = record { is = sym (is 64); instr = at; seen = λ me. is me ∙ same me; instruction = instruction };
      alone = λ me. subst IsAlone (sym (is me)) (record { atlas = refl; other = refl; newborn = refl });
    }
