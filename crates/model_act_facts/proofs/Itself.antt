-- Acts that touch the locus alone, of a locus that names itself.
use Rattle.std.proofs.Common.{◌≡◌, ℕ, ◌<◌, Bool, true, false, ◌&&◌, ◌==◌, if◌then◌else◌, Option, Some, None, refl, sym, ap, subst, ◌∙◌, eqb-true}
use Rattle.model_acts.specs.base_types.declared.instructions.Instr.{Instr}
use Rattle.model_acts.specs.base_types.declared.instructions.Instr.TheVariants.{Stop, Go, Snap}
use Rattle.model_acts.specs.base_types.declared.instructions.Reply.{Reply}
use Rattle.model_acts.specs.base_types.declared.instructions.Reply.TheVariants.{Ok}
use Rattle.model_sound_steps.specs.model_kernel.Acts.{Act, act_by, alone, allowed, wanted}
use Rattle.model_sound_steps.specs.model_kernel.Outcomes.{local_act, outcome, own_reply, with_newborn}
use Rattle.model_sound_steps.specs.model_kernel.Refusals.{instr_at, refusal}
use Rattle.model_sound_steps.specs.model_kernel.State.{Supply, AtlasState, LocusState, Cell}
use Rattle.model_acts.specs.Views.{IsReadyLocus, is_number, may_name_itself, seen_by}
use Rattle.model_act_facts.specs.Loci.{IsAlone}
use Rattle.model_act_facts.proofs.Alone.{place_within, seen_same, wanted_says}
use Rattle.model_act_facts.specs.Itself.{WantsItself}
use Rattle.std.proofs.lemmas.Bool.{true≢false}

some_none : {A : Type 0} {x : A} → Some x ≡ None → ⊥
some_none e = cc

-- an act beside another entity isn't refused by the locus alone
pub beside_allowed : (me x : ℕ) (l : LocusState) → (wanted me l).other ≡ Some x → (wanted me l).refused ≡ None
unfolding wanted
beside_allowed me x l = by (refusal l (instr_at l)) refl
  where
    by : (r : Option Reply) → refusal l (instr_at l) ≡ r → (act_by me l (instr_at l) r).other ≡ Some x → (act_by me l (instr_at l) r).refused ≡ None
    by (Some why) is e = absurd (some_none (sym e))
    by None is e = ap (λ (a : Act). a.refused) (sym (whole is)) ∙ (wanted_says me l).refused ∙ is
      where
        whole : refusal l (instr_at l) ≡ None → act_by me l (instr_at l) (refusal l (instr_at l)) ≡ allowed me l (instr_at l)
        whole is = ap (act_by me l (instr_at l)) is

-- where the wanted act has another entity and yet touches the locus alone, that is the locus itself
pub itself_at : (me y : ℕ) (l : LocusState) (act : Act) → act ≡ wanted 64 l → wanted me l ≡ seen_by me act → IsAlone (wanted me l) → act.other ≡ Some y → (y ≡ me) × WantsItself l act.instr me
itself_at me y l act same seen only is = by (may_name_itself act.instr) refl (y == me) refl
  where
    at : (b t : Bool) → may_name_itself act.instr ≡ b → (y == me) ≡ t → wanted me l ≡ (if b && t then alone act.instr None else act)
    at b t names here = seen ∙ ap (λ o. if may_name_itself act.instr && is_number me o then alone act.instr None else act) is ∙ (λ i. if names i && here i then alone act.instr None else act)

    other : wanted me l ≡ act → ⊥
    other e = some_none (sym is ∙ ap (λ (a : Act). a.other) (sym e) ∙ only.other)

    by : (b : Bool) → may_name_itself act.instr ≡ b → (t : Bool) → (y == me) ≡ t → (y ≡ me) × WantsItself l act.instr me
    by true names true here =
        let at_me : y ≡ me = eqb-true y me here in
        let there : (wanted 64 l).other ≡ Some me = ap (λ (a : Act). a.other) (sym same) ∙ is ∙ ap Some at_me in
        (at_me, record { instr = ap (λ (a : Act). a.instr) (sym same); allowed = beside_allowed 64 me l there; other = there; once = at true true names here; names = names })
    by true names false here = absurd (other (at true false names here))
    by false names t here = absurd (other (at false t names here))

-- such an instruction doesn't halt
pub itself_within : (me : ℕ) (l : LocusState) (i : Instr) → IsReadyLocus l → WantsItself l i me → l.place < 128
itself_within me l i ready h =
    place_within l ready (λ halts. true≢false (sym h.names ∙ ap may_name_itself (sym h.instr ∙ (wanted_says 64 l).instr ∙ halts)))

pub itself_shape : (i : Instr) → may_name_itself i ≡ true → ((c : ℕ) → i ≡ Stop c → ⊥) → ((c : ℕ) → i ≡ Go c → ⊥) → ((c : ℕ) → i ≡ Snap c → ⊥) → ⊥
itself_shape (Stop c) names stop go snap = stop c refl
itself_shape (Go c) names stop go snap = go c refl
itself_shape (Snap c) names stop go snap = snap c refl
itself_shape i names stop go snap = cc

snap_alone : (s : Supply) (l : LocusState) (a : AtlasState) (cell : Cell) (c : ℕ) → outcome s l (alone (Snap c) None) a cell ≡ own_reply l Ok
unfolding outcome with_newborn local_act
snap_alone s l a cell c = refl

-- a snap of the locus itself is answered Ok
pub snaps_itself : (s : Supply) (me : ℕ) (l : LocusState) (a : AtlasState) (cell : Cell) (i : Instr) (c : ℕ) → WantsItself l i me → i ≡ Snap c → outcome s l (wanted me l) a cell ≡ own_reply l Ok
snaps_itself s me l a cell i c h is = ap (λ w. outcome s l w a cell) (h.once ∙ ap (λ i. alone i None) is) ∙ snap_alone s l a cell c

-- an act that names no other entity and touches the locus alone is so for each number of the locus
pub alone_at : (me : ℕ) (l : LocusState) (act : Act) → act ≡ wanted 64 l → wanted me l ≡ seen_by me act → IsAlone (wanted me l) → act.other ≡ None → IsAlone (wanted 64 l)
alone_at me l act same seen only none = subst IsAlone (seen ∙ seen_same me act none ∙ same) only
