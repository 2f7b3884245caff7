-- What stopping and going on make.
use Rattle.std.proofs.Common.{◌≡◌, ◌≢◌, ℕ, Bool, true, false, ◌==◌, if◌then◌else◌, Option, Some, None, refl, sym, ap, ◌∙◌, eq-eqb, ne_eqb}
use Rattle.base_types.specs.declared.instructions.Condition.TheVariants.{Stopped}
use Rattle.base_types.specs.declared.instructions.Instr.{Instr}
use Rattle.base_types.specs.declared.instructions.Instr.TheVariants.{Stop, Go}
use Rattle.base_types.specs.declared.instructions.Reply.TheVariants.{Ok}
use Rattle.act_invoke.specs.model_kernel.State.{Supply, AtlasState, LocusState, Cell, LocusCell}
use Rattle.act_invoke.specs.model_kernel.Acts.{Act, alone, beside, beside_or_self, allowed, wanted}
use Rattle.act_invoke.specs.model_kernel.Outcomes.{outcome, on_cell, with_newborn, local_act, with_other, own_reply, stopped, going}
use Rattle.act_invoke.specs.model_kernel.Refusals.{instr_at, refusal, entity_of}
use Rattle.act_invoke.proofs.model_act_facts_lemmas.Alone.{wanted_says, wanted_allowed}
use Rattle.act_invoke.specs.Entries.{WantsBeside}
use Rattle.act_invoke.proofs.Entered.{instr_is}
use Rattle.act_calls.specs.Calls.{is_stop, is_go}

-- the entity that is touched
named_by : (i : Instr) (e x : ℕ) → (beside_or_self 64 i e).other ≡ Some x → e ≡ x
named_by i e x h = by (e == 64) h
  where
    by : (b : Bool) → (if b then alone i None else beside i e).other ≡ Some x → e ≡ x
    by true h = cc
    by false h = cc

touched_once : (me : ℕ) (i : Instr) (e : ℕ) → e ≡ me → beside_or_self me i e ≡ alone i None
touched_once me i e is = ap (λ (b : Bool). if b then alone i None else beside i e) (eq-eqb e me is)

touched_beside : (me : ℕ) (i : Instr) (e : ℕ) → e ≢ me → beside_or_self me i e ≡ beside i e
touched_beside me i e is = ap (λ (b : Bool). if b then alone i None else beside i e) (ne_eqb e me is)

stop_other : (s : Supply) (l : LocusState) (a : AtlasState) (c e : ℕ) (m : LocusState) → outcome s l (beside (Stop c) e) a (LocusCell m) ≡ with_other l Ok (LocusCell (record m { condition = stopped m.condition }))
unfolding outcome on_cell
stop_other s l a c e m = refl

go_other : (s : Supply) (l : LocusState) (a : AtlasState) (c e : ℕ) (m : LocusState) → outcome s l (beside (Go c) e) a (LocusCell m) ≡ with_other l Ok (LocusCell (record m { condition = going m.condition }))
unfolding outcome on_cell
go_other s l a c e m = refl

stop_self : (s : Supply) (l : LocusState) (a : AtlasState) (c : ℕ) (cell : Cell) → outcome s l (alone (Stop c) None) a cell ≡ own_reply (record l { condition = Stopped }) Ok
unfolding outcome with_newborn local_act
stop_self s l a c cell = refl

go_self : (s : Supply) (l : LocusState) (a : AtlasState) (c : ℕ) (cell : Cell) → outcome s l (alone (Go c) None) a cell ≡ own_reply l Ok
unfolding outcome with_newborn local_act
go_self s l a c cell = refl

-- the wanted act of a locus that wants to stop or to let go on
pub record Controls (l : LocusState) (i : Instr) (e x : ℕ) : Type 0 where
  pub wants : (me : ℕ) → wanted me l ≡ beside_or_self me i e
  pub named : e ≡ x

allowed_stop : (me : ℕ) (l : LocusState) (c : ℕ) → allowed me l (Stop c) ≡ beside_or_self me (Stop c) (entity_of l c)
unfolding allowed
allowed_stop me l c = refl

allowed_go : (me : ℕ) (l : LocusState) (c : ℕ) → allowed me l (Go c) ≡ beside_or_self me (Go c) (entity_of l c)
unfolding allowed
allowed_go me l c = refl

pub stop_controls : (l : LocusState) (x : ℕ) → WantsBeside is_stop l x → (c : ℕ) × Controls l (Stop c) (entity_of l c) x
stop_controls l x h = by (instr_at l) refl (instr_is is_stop l x h)
  where
    none : refusal l (instr_at l) ≡ None
    none = sym (wanted_says 64 l).refused ∙ h.allowed

    by : (i : Instr) → instr_at l ≡ i → is_stop i ≡ true → (c : ℕ) × Controls l (Stop c) (entity_of l c) x
    by (Stop c) e t =
        let wants : (me : ℕ) → wanted me l ≡ beside_or_self me (Stop c) (entity_of l c) = λ me. wanted_allowed me l none ∙ ap (allowed me l) e ∙ allowed_stop me l c in
        (c, record { wants = wants; named = named_by (Stop c) (entity_of l c) x (sym (ap (λ (w : Act). w.other) (wants 64)) ∙ h.other) })
    by i e t = cc

pub go_controls : (l : LocusState) (x : ℕ) → WantsBeside is_go l x → (c : ℕ) × Controls l (Go c) (entity_of l c) x
go_controls l x h = by (instr_at l) refl (instr_is is_go l x h)
  where
    none : refusal l (instr_at l) ≡ None
    none = sym (wanted_says 64 l).refused ∙ h.allowed

    by : (i : Instr) → instr_at l ≡ i → is_go i ≡ true → (c : ℕ) × Controls l (Go c) (entity_of l c) x
    by (Go c) e t =
        let wants : (me : ℕ) → wanted me l ≡ beside_or_self me (Go c) (entity_of l c) = λ me. wanted_allowed me l none ∙ ap (allowed me l) e ∙ allowed_go me l c in
        (c, record { wants = wants; named = named_by (Go c) (entity_of l c) x (sym (ap (λ (w : Act). w.other) (wants 64)) ∙ h.other) })
    by i e t = cc

some_same : {x y : ℕ} {o : Option ℕ} → o ≡ Some x → o ≡ Some y → x ≡ y
some_same e f = cc

pub stops_other : (l : LocusState) (x y me : ℕ) → WantsBeside is_stop l x → (wanted 64 l).other ≡ Some y → me ≢ y → (s : Supply) (a : AtlasState) (m : LocusState)
    → outcome s l (wanted me l) a (LocusCell m) ≡ with_other l Ok (LocusCell (record m { condition = stopped m.condition }))
stops_other l x y me h at apart s a m =
    let control = stop_controls l x h in
    let e = entity_of l control.0 in
    let other : e ≢ me = λ same. apart (sym same ∙ control.1.named ∙ some_same h.other at) in
    ap (λ w. outcome s l w a (LocusCell m)) (control.1.wants me ∙ touched_beside me (Stop control.0) e other) ∙ stop_other s l a control.0 e m

pub goes_other : (l : LocusState) (x y me : ℕ) → WantsBeside is_go l x → (wanted 64 l).other ≡ Some y → me ≢ y → (s : Supply) (a : AtlasState) (m : LocusState)
    → outcome s l (wanted me l) a (LocusCell m) ≡ with_other l Ok (LocusCell (record m { condition = going m.condition }))
goes_other l x y me h at apart s a m =
    let control = go_controls l x h in
    let e = entity_of l control.0 in
    let other : e ≢ me = λ same. apart (sym same ∙ control.1.named ∙ some_same h.other at) in
    ap (λ w. outcome s l w a (LocusCell m)) (control.1.wants me ∙ touched_beside me (Go control.0) e other) ∙ go_other s l a control.0 e m

pub stops_self : (l : LocusState) (x me : ℕ) → WantsBeside is_stop l x → (wanted 64 l).other ≡ Some me → (s : Supply) (a : AtlasState) (cell : Cell)
    → outcome s l (wanted me l) a cell ≡ own_reply (record l { condition = Stopped }) Ok
stops_self l x me h at s a cell =
    let control = stop_controls l x h in
    ap (λ w. outcome s l w a cell) (control.1.wants me ∙ touched_once me (Stop control.0) (entity_of l control.0) (control.1.named ∙ some_same h.other at)) ∙ stop_self s l a control.0 cell

pub goes_self : (l : LocusState) (x me : ℕ) → WantsBeside is_go l x → (wanted 64 l).other ≡ Some me → (s : Supply) (a : AtlasState) (cell : Cell) → outcome s l (wanted me l) a cell ≡ own_reply l Ok
goes_self l x me h at s a cell =
    let control = go_controls l x h in
    ap (λ w. outcome s l w a cell) (control.1.wants me ∙ touched_once me (Go control.0) (entity_of l control.0) (control.1.named ∙ some_same h.other at)) ∙ go_self s l a control.0 cell
