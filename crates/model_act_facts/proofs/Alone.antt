-- Acts that touch the locus alone.
use Rattle.std.proofs.Common.{◌≡◌, ℕ, ◌<◌, Bool, true, false, ◌&&◌, ◌==◌, if◌then◌else◌, length, Option, Some, None, slice_get, unwrap_or, refl, sym, ap, ◌∙◌, subst, arith}
use Rattle.std.proofs.lemmas.Option.{slice_get_within}
use borrow.Author.Tests.{eqb-true}
use Rattle.model_acts.specs.base_types.declared.instructions.Instr.{Instr}
use Rattle.model_acts.specs.base_types.declared.instructions.Instr.TheVariants.{Set, Copy, Add, Sub, Jump, Jz, Load, Store, Invoke, Leave, Return, Map, Unmap, Lmap, Lunmap, Take, Give, Drop, Make, Spawn, Stop, Go, Snap, Stabilise, Print, Halt}
use Rattle.model_acts.specs.base_types.declared.instructions.Reply.{Reply}
use Rattle.model_sound_steps.specs.model_kernel.State.{Supply, AtlasState, LocusState, Cell}
use Rattle.model_sound_steps.specs.model_kernel.Acts.{Act, alone, beside, beside_or_self, allowed, act_by, wanted}
use Rattle.model_sound_steps.specs.model_kernel.Outcomes.{Outcome, local_act, own_reply, by_refused, by_other, with_newborn, outcome}
use Rattle.model_sound_steps.specs.model_kernel.Refusals.{instr_at, refusal, entity_of}
use Rattle.model_acts.specs.Views.{IsReadyLocus, seen_by, may_name_itself, is_number}
use Rattle.model_act_facts.specs.Loci.{IsAlone, touches_alone}

-- the place of an instruction that doesn't halt is one of the code
pub place_within : (l : LocusState) → IsReadyLocus l → (instr_at l ≡ Halt → ⊥) → l.place < 128
place_within l ready goes = by (slice_get l.code l.place) refl
  where
    by : (o : Option Instr) → slice_get l.code l.place ≡ o → l.place < 128
    by None is = absurd (goes (ap (λ q. unwrap_or q Halt) is))
    by (Some i) is = let within : l.place < length l.code = slice_get_within l.code l.place i is in omega (arith, ready.code.few)

-- what halts is not refused
pub refused_within : (l : LocusState) (why : Reply) → IsReadyLocus l → refusal l (instr_at l) ≡ Some why → l.place < 128
unfolding refusal
refused_within l why ready is = place_within l ready (λ halts. no (sym (ap (refusal l) halts) ∙ is))
  where
    no : refusal l Halt ≡ Some why → ⊥
    no e = cc

-- WHAT A WANTED ACT SAYS OF ITS INSTRUCTION

self_says : (me : ℕ) (i : Instr) (x : ℕ) → ((beside_or_self me i x).instr ≡ i) × ((beside_or_self me i x).refused ≡ None)
self_says me i x = elim (x == me) as (λ b. ((if b then alone i None else beside i x).instr ≡ i) × ((if b then alone i None else beside i x).refused ≡ None)) [ true ↦ (refl, refl) | false ↦ (refl, refl) ]

allowed_says : (me : ℕ) (l : LocusState) (i : Instr) → ((allowed me l i).instr ≡ i) × ((allowed me l i).refused ≡ None)
unfolding allowed
allowed_says me l (Stop c) = self_says me (Stop c) (entity_of l c)
allowed_says me l (Go c) = self_says me (Go c) (entity_of l c)
allowed_says me l (Snap c) = self_says me (Snap c) (entity_of l c)
allowed_says me l (Load d a) = (refl, refl)
allowed_says me l (Store a s) = (refl, refl)
allowed_says me l (Invoke c) = (refl, refl)
allowed_says me l (Leave c) = (refl, refl)
allowed_says me l Return = (refl, refl)
allowed_says me l (Map d a c b n rights) = (refl, refl)
allowed_says me l (Unmap d a) = (refl, refl)
allowed_says me l (Take d c y) = (refl, refl)
allowed_says me l (Give d c s rights) = (refl, refl)
allowed_says me l (Make d n t e) = (refl, refl)
allowed_says me l (Spawn d p) = (refl, refl)
allowed_says me l (Set d n) = (refl, refl)
allowed_says me l (Copy d s) = (refl, refl)
allowed_says me l (Add d s) = (refl, refl)
allowed_says me l (Sub d s) = (refl, refl)
allowed_says me l (Jump p) = (refl, refl)
allowed_says me l (Jz s p) = (refl, refl)
allowed_says me l (Lmap a c b n rights) = (refl, refl)
allowed_says me l (Lunmap a) = (refl, refl)
allowed_says me l (Drop s) = (refl, refl)
allowed_says me l (Stabilise c) = (refl, refl)
allowed_says me l (Print s) = (refl, refl)
allowed_says me l Halt = (refl, refl)

pub record Says (me : ℕ) (l : LocusState) : Type 0 where
  pub instr : (wanted me l).instr ≡ instr_at l
  pub refused : (wanted me l).refused ≡ refusal l (instr_at l)

-- the act has the locus's instruction and its refusal
pub wanted_says : (me : ℕ) (l : LocusState) → Says me l
unfolding wanted
wanted_says me l = record { instr = (by (refusal l (instr_at l))).0; refused = (by (refusal l (instr_at l))).1 }
  where
    by : (r : Option Reply) → ((act_by me l (instr_at l) r).instr ≡ instr_at l) × ((act_by me l (instr_at l) r).refused ≡ r)
    by (Some why) = (refl, refl)
    by None = allowed_says me l (instr_at l)

pub wanted_allowed : (me : ℕ) (l : LocusState) → refusal l (instr_at l) ≡ None → wanted me l ≡ allowed me l (instr_at l)
unfolding wanted
wanted_allowed me l none = ap (act_by me l (instr_at l)) none

-- ACTS THAT TOUCH THE LOCUS ALONE

no_other : {A : Type 0} {x : A} → Some x ≡ None → ⊥
no_other e = cc

-- an act that names no other is the same for each number
pub seen_same : (me : ℕ) (act : Act) → act.other ≡ None → seen_by me act ≡ act
seen_same me act none = ap (λ o. if may_name_itself act.instr && is_number me o then alone act.instr None else act) none ∙ by (may_name_itself act.instr)
  where
    by : (b : Bool) → (if b && false then alone act.instr None else act) ≡ act
    by true = refl
    by false = refl

-- the locus's own number isn't 64
self_touches : (i : Instr) (x : ℕ) → IsAlone (beside_or_self 64 i x) → beside_or_self 63 i x ≡ seen_by 63 (beside_or_self 64 i x) → ⊥
self_touches i x h e = by (x == 64) refl h e
  where
    other_of : beside_or_self 63 i 64 ≡ beside i 64
    other_of = refl

    by : (b : Bool) → (x == 64) ≡ b → IsAlone (if b then alone i None else beside i x) → beside_or_self 63 i x ≡ seen_by 63 (if b then alone i None else beside i x) → ⊥
    by false is h e = no_other h.other
    by true is h e =
        let same : x ≡ 64 = eqb-true x 64 is in
        let seen = seen_same 63 (alone i None) refl in
        no_other (sym (ap (λ (a : Act). a.other) (ap (beside_or_self 63 i) same)) ∙ ap (λ (a : Act). a.other) (e ∙ seen))

pub alone_touches : (l : LocusState) (i : Instr) → IsAlone (allowed 64 l i) → allowed 63 l i ≡ seen_by 63 (allowed 64 l i) → touches_alone i ≡ true
unfolding allowed
alone_touches l (Stop c) h e = absurd (self_touches (Stop c) (entity_of l c) h e)
alone_touches l (Go c) h e = absurd (self_touches (Go c) (entity_of l c) h e)
alone_touches l (Snap c) h e = absurd (self_touches (Snap c) (entity_of l c) h e)
alone_touches l (Load d a) h e = absurd (no_other h.other)
alone_touches l (Store a s) h e = absurd (no_other h.other)
alone_touches l (Invoke c) h e = absurd (no_other h.other)
alone_touches l (Leave c) h e = absurd (no_other h.other)
alone_touches l Return h e = absurd (no_other h.other)
alone_touches l (Map d a c b n rights) h e = absurd (no_other h.other)
alone_touches l (Unmap d a) h e = absurd (no_other h.other)
alone_touches l (Take d c y) h e = absurd (no_other h.other)
alone_touches l (Give d c s rights) h e = absurd (no_other h.other)
alone_touches l (Make d n t en) h e = absurd (no_other h.newborn)
alone_touches l (Spawn d p) h e = absurd (no_other h.newborn)
alone_touches l (Set d n) h e = refl
alone_touches l (Copy d s) h e = refl
alone_touches l (Add d s) h e = refl
alone_touches l (Sub d s) h e = refl
alone_touches l (Jump p) h e = refl
alone_touches l (Jz s p) h e = refl
alone_touches l (Lmap a c b n rights) h e = refl
alone_touches l (Lunmap a) h e = refl
alone_touches l (Drop s) h e = refl
alone_touches l (Stabilise c) h e = refl
alone_touches l (Print s) h e = refl
alone_touches l Halt h e = refl

-- WHAT THEY MAKE

newborn_none : (s : Supply) (l : LocusState) (a : AtlasState) (i : Instr) → touches_alone i ≡ true → with_newborn s l a i ≡ local_act l i
unfolding with_newborn
newborn_none sup l a (Make d n t e) h = cc
newborn_none sup l a (Spawn d p) h = cc
newborn_none sup l a (Set d n) h = refl
newborn_none sup l a (Copy d s) h = refl
newborn_none sup l a (Add d s) h = refl
newborn_none sup l a (Sub d s) h = refl
newborn_none sup l a (Jump p) h = refl
newborn_none sup l a (Jz s p) h = refl
newborn_none sup l a (Lmap k c b n rights) h = refl
newborn_none sup l a (Lunmap k) h = refl
newborn_none sup l a (Drop s) h = refl
newborn_none sup l a (Stabilise c) h = refl
newborn_none sup l a (Print s) h = refl
newborn_none sup l a Halt h = refl
newborn_none sup l a i h = cc

made_refused : (s : Supply) (l : LocusState) (act : Act) (a : AtlasState) (cell : Cell) (why : Reply) → act.refused ≡ Some why → outcome s l act a cell ≡ own_reply l why
unfolding outcome
made_refused s l act a cell why is = ap (λ r. by_refused s l a act.instr r act.other cell) is

made_alone : (s : Supply) (l : LocusState) (act : Act) (a : AtlasState) (cell : Cell) (i : Instr) → act.instr ≡ i → act.refused ≡ None → act.other ≡ None → touches_alone i ≡ true
    → outcome s l act a cell ≡ local_act l i
unfolding outcome
made_alone s l act a cell i is none alone touches =
    ap (λ r. by_refused s l a act.instr r act.other cell) none ∙ ap (λ o. by_other s l a act.instr o cell) alone ∙ ap (λ j. with_newborn s l a j) is ∙ newborn_none s l a i touches

-- the outcome of the wanted act, whatever the locus's number
pub record Makes (l : LocusState) (o : Outcome) : Type 0 where
  pub is : (me : ℕ) (s : Supply) (a : AtlasState) (cell : Cell) → outcome s l (wanted me l) a cell ≡ o

pub makes_refusal : (l : LocusState) (act : Act) (why : Reply) → act ≡ wanted 64 l → ((me : ℕ) → wanted me l ≡ seen_by me act) → IsAlone (wanted 64 l) → act.refused ≡ Some why → Makes l (own_reply l why)
makes_refusal l act why same seen alone is = record {
  is = λ me s a cell. ap (λ w. outcome s l w a cell) (seen me ∙ seen_same me act (ap (λ (w : Act). w.other) same ∙ alone.other)) ∙ made_refused s l act a cell why is;
}

pub makes_act : (l : LocusState) (act : Act) (i : Instr) → act ≡ wanted 64 l → ((me : ℕ) → wanted me l ≡ seen_by me act) → IsAlone (wanted 64 l) → act.refused ≡ None → act.instr ≡ i → touches_alone i ≡ true
    → Makes l (local_act l i)
makes_act l act i same seen alone none is touches = record {
  is = λ me s a cell. let other = ap (λ (w : Act). w.other) same ∙ alone.other in ap (λ w. outcome s l w a cell) (seen me ∙ seen_same me act other) ∙ made_alone s l act a cell i is none other touches;
}

-- FOR THE CALLER

-- what is known of the chosen act
module _ (l : LocusState) (act : Act) (same : act ≡ wanted 64 l) where
  pub act_instr : act.instr ≡ instr_at l
  act_instr = ap (λ (w : Act). w.instr) same ∙ (wanted_says 64 l).instr

  pub act_refusal : refusal l (instr_at l) ≡ act.refused
  act_refusal = sym (ap (λ (w : Act). w.refused) same ∙ (wanted_says 64 l).refused)

  pub act_allowed : act.refused ≡ None → refusal l act.instr ≡ None
  act_allowed none = ap (refusal l) act_instr ∙ act_refusal ∙ none

  pub act_touches : ((me : ℕ) → wanted me l ≡ seen_by me act) → IsAlone (wanted 64 l) → act.refused ≡ None → touches_alone act.instr ≡ true
  act_touches seen alone none =
      let allowed_at : (me : ℕ) → wanted me l ≡ allowed me l (instr_at l) = λ me. wanted_allowed me l (act_refusal ∙ none) in
      ap touches_alone act_instr
      ∙ alone_touches l (instr_at l) (subst IsAlone (allowed_at 64) alone) (sym (allowed_at 63) ∙ seen 63 ∙ ap (seen_by 63) (same ∙ allowed_at 64))
