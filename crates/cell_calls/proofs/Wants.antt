-- What a locus wants beside another entity.
use Rattle.std.proofs.Common.{◌≡◌, ◌≢◌, ℕ, ◌<◌, Bool, true, false, ◌==◌, if◌then◌else◌, Option, Some, None, refl, sym, ap, subst, ◌∙◌, ne_eqb}
use Rattle.base_types.specs.declared.instructions.Instr.{Instr}
use Rattle.base_types.specs.declared.instructions.Instr.TheVariants.{Invoke, Leave, Return, Take, Give, Stop, Go, Snap}
use Rattle.base_types.specs.declared.instructions.Reply.{Reply}
use Rattle.base_types.specs.declared.instructions.Reply.TheVariants.{Ok}
use Rattle.cell_states.specs.model_kernel.Acts.{Act, act_by, allowed, alone, beside, beside_or_self, wanted}
use Rattle.cell_states.specs.model_kernel.Outcomes.{Outcome, finish, on_cell, outcome, with_other}
use Rattle.cell_states.specs.model_kernel.Refusals.{entity_of, instr_at, refusal}
use Rattle.cell_states.specs.model_kernel.State.{Supply, AtlasState, LocusState, Cell}
use Rattle.cell_states.specs.model_acts.Views.{IsReadyLocus, may_name_itself}
use Rattle.cell_states.proofs.model_acts_lemmas.Beside.{made_beside, wanted_same}
use Rattle.cell_states.proofs.model_act_facts_lemmas.Alone.{place_within, wanted_allowed, wanted_says}
use Rattle.cell_states.specs.act_calls.Calls.{CallMade}
use Rattle.cell_states.specs.declared.cells.Part.{Part}
use Rattle.cell_states.specs.declared.cells.Part.TheVariants as part
use Rattle.cell_calls.specs.Besides.{FitsBeside, WantsOther, calls_container, is_snap}
use Rattle.cell_calls.specs.Mapping.{WantsMapping}
use Rattle.std.proofs.lemmas.Bool.{true≢false}

-- THE SAME ACT FOR EACH OTHER NUMBER

self_apart : (me x e : ℕ) (i : Instr) → (beside_or_self 64 i e).other ≡ Some x → me ≢ x → beside_or_self me i e ≡ beside_or_self 64 i e
self_apart me x e i is apart = by (e == 64) refl
  where
    by : (b : Bool) → (e == 64) ≡ b → beside_or_self me i e ≡ beside_or_self 64 i e
    by true at = absurd (none_some (subst (λ b. (if b then alone i None else beside i e).other ≡ Some x) at is))
      where
        none_some : None ≡ Some x → ⊥
        none_some e = cc
    by false at =
        let there : e ≡ x = same (subst (λ b. (if b then alone i None else beside i e).other ≡ Some x) at is) in
        let far : (e == me) ≡ false = ne_eqb e me (λ f. apart (sym f ∙ there)) in
        ap (λ (b : Bool). if b then alone i None else beside i e) (far ∙ sym at)
      where
        same : Some e ≡ Some x → e ≡ x
        same f = cc

allowed_apart : (me x : ℕ) (l : LocusState) (i : Instr) → may_name_itself i ≡ true → (allowed 64 l i).other ≡ Some x → me ≢ x → allowed me l i ≡ allowed 64 l i
unfolding allowed
allowed_apart me x l (Stop c) names is apart = self_apart me x (entity_of l c) (Stop c) is apart
allowed_apart me x l (Go c) names is apart = self_apart me x (entity_of l c) (Go c) is apart
allowed_apart me x l (Snap c) names is apart = self_apart me x (entity_of l c) (Snap c) is apart
allowed_apart me x l i names is apart = absurd (true≢false (sym names))

-- a locus that isn't the other entity wants the same act
pub wanted_apart : (me x : ℕ) (l : LocusState) → (wanted 64 l).other ≡ Some x → me ≢ x → wanted me l ≡ wanted 64 l
unfolding wanted
wanted_apart me x l is apart = by (may_name_itself (instr_at l)) refl
  where
    naming : may_name_itself (instr_at l) ≡ true → (r : Option Reply) → (act_by 64 l (instr_at l) r).other ≡ Some x → act_by me l (instr_at l) r ≡ act_by 64 l (instr_at l) r
    naming names (Some why) e = refl
    naming names None e = allowed_apart me x l (instr_at l) names e apart

    by : (b : Bool) → may_name_itself (instr_at l) ≡ b → wanted me l ≡ wanted 64 l
    by false names = wanted_same me 64 l names
    by true names = naming names (refusal l (instr_at l)) is

-- its outcome is by the other entity's cell
pub other_makes : (s : Supply) (me x : ℕ) (l : LocusState) (a : AtlasState) (cell : Cell) (i : Instr) → WantsOther l i x → me ≢ x → outcome s l (wanted me l) a cell ≡ on_cell s l a x i cell
other_makes s me x l a cell i h apart = ap (λ w. outcome s l w a cell) (wanted_apart me x l h.other apart) ∙ made_beside s l (wanted 64 l) a x i cell h.allowed h.other h.instr

-- THE WANTED INSTRUCTION

-- an instruction that doesn't halt has its place in the code
pub snap_within : (l : LocusState) (i : Instr) (x : ℕ) → IsReadyLocus l → WantsOther l i x → is_snap i ≡ true → l.place < 128
snap_within l i x ready h snaps = place_within l ready (λ halts. true≢false (sym snaps ∙ ap is_snap (sym h.instr ∙ (wanted_says 64 l).instr ∙ halts)))

on_snap : (s : Supply) (l : LocusState) (a : AtlasState) (x : ℕ) (i : Instr) (cell : Cell) → is_snap i ≡ true → on_cell s l a x i cell ≡ with_other l Ok cell
unfolding on_cell
on_snap s l a x (Snap c) cell h = refl
on_snap s l a x i cell h = cc

-- a snap leaves the other entity's cell
pub snap_makes : (s : Supply) (me x : ℕ) (l m : LocusState) (a : AtlasState) (cell : Cell) (i : Instr) → WantsOther l i x → is_snap i ≡ true → me ≢ x → m ≡ finish l Ok
    → CallMade (outcome s l (wanted me l) a cell) m Ok (Some cell)
snap_makes s me x l m a cell i h snaps apart locus =
    subst (λ (o : Outcome). CallMade o m Ok (Some cell)) (sym (other_makes s me x l a cell i h apart ∙ on_snap s l a x i cell snaps))
    (record { locus = locus; answer = refl; other = refl; newborn = refl })

-- WHAT IS TOUCHED

-- the act touches one other entity besides the locus
pub record Touches (act : Act) (x : ℕ) : Type 0 where
  pub atlas : act.atlas ≡ false
  pub other : act.other ≡ Some x

pub self_leaves : (me e : ℕ) (i : Instr) → (beside_or_self me i e).atlas ≡ false
self_leaves me e i = elim (e == me) as (λ b. (if b then alone i None else beside i e).atlas ≡ false) [ true ↦ refl | false ↦ refl ]

call_leaves : (me : ℕ) (l : LocusState) (i : Instr) → calls_container i ≡ true → (allowed me l i).atlas ≡ false
unfolding allowed
call_leaves me l (Invoke c) h = refl
call_leaves me l (Leave c) h = refl
call_leaves me l Return h = refl
call_leaves me l (Take d c y) h = refl
call_leaves me l (Give d c r rights) h = refl
call_leaves me l (Snap c) h = self_leaves me (entity_of l c) (Snap c)
call_leaves me l i h = cc

name_leaves : (me : ℕ) (l : LocusState) (i : Instr) → may_name_itself i ≡ true → (allowed me l i).atlas ≡ false
unfolding allowed
name_leaves me l (Stop c) h = self_leaves me (entity_of l c) (Stop c)
name_leaves me l (Go c) h = self_leaves me (entity_of l c) (Go c)
name_leaves me l (Snap c) h = self_leaves me (entity_of l c) (Snap c)
name_leaves me l i h = cc

snap_names : (i : Instr) → is_snap i ≡ true → may_name_itself i ≡ true
snap_names (Snap c) h = refl
snap_names i h = cc

part_leaves : (me : ℕ) (l : LocusState) (i : Instr) (p : Part) → FitsBeside i p → (allowed me l i).atlas ≡ false
part_leaves me l i (part.Container b) fits = call_leaves me l i fits.1
part_leaves me l i (part.Locus o) fits = name_leaves me l i fits.1
part_leaves me l i (part.Atlas a) fits = name_leaves me l i (snap_names i fits)

pub fits_touches : (me x : ℕ) (l : LocusState) (i : Instr) (p : Part) → WantsOther l i x → FitsBeside i p → x ≢ me → Touches (wanted me l) x
fits_touches me x l i p h fits apart =
    let same : wanted me l ≡ wanted 64 l = wanted_apart me x l h.other (λ e. apart (sym e)) in
    let at : instr_at l ≡ i = sym (wanted_says 64 l).instr ∙ h.instr in
    let none : refusal l (instr_at l) ≡ None = sym (wanted_says 64 l).refused ∙ h.allowed in
    record {
      atlas = ap (λ (w : Act). w.atlas) (same ∙ wanted_allowed 64 l none ∙ ap (allowed 64 l) at) ∙ part_leaves 64 l i p fits;
      other = ap (λ (w : Act). w.other) same ∙ h.other;
    }

-- THE NEXT INSTRUCTION of a locus that wants it

pub next_beside : (l : LocusState) (i : Instr) (x : ℕ) → WantsOther l i x → i ≡ instr_at l
next_beside l i x h = sym h.instr ∙ (wanted_says 64 l).instr

pub next_mapping : (l : LocusState) (i : Instr) (x : ℕ) → WantsMapping l i x → i ≡ instr_at l
next_mapping l i x h = sym h.instr ∙ (wanted_says 64 l).instr
