-- What an act touches, by its instruction.
use Rattle.std.proofs.Common.{◌≡◌, ℕ, Bool, true, false, ◌&&◌, ◌||◌, ◌==◌, if◌then◌else◌, Option, Some, None, is_some, refl, sym, ap, subst, ◌∙◌, eq-eqb, eqb-true}
use Rattle.base_types.specs.declared.capabilities.Rights.{Rights}
use Rattle.base_types.specs.declared.instructions.Instr.{Instr}
use Rattle.base_types.specs.declared.instructions.Instr.TheVariants.{Set, Copy, Add, Sub, Jump, Jz, Load, Store, Invoke, Leave, Return, Map, Unmap, Lmap, Lunmap, Take, Give, Drop, Make, Spawn, Stop, Go, Snap, Stabilise, Print, Halt}
use Rattle.base_types.specs.declared.instructions.Reply.{Reply}
use Rattle.cell_states.specs.model_kernel.Acts.{Act, act_by, allowed, alone, beside, beside_or_self, wanted}
use Rattle.cell_states.specs.model_kernel.Refusals.{entity_of, instr_at, refusal}
use Rattle.cell_states.specs.model_kernel.State.{LocusState}
use Rattle.cell_states.specs.model_acts.Views.{may_name_itself}
use Rattle.cell_states.specs.model_act_facts.Loci.{IsAlone}
use Rattle.cell_states.proofs.model_act_facts_lemmas.Alone.{wanted_allowed, wanted_says}
use Rattle.cell_calls.specs.Besides.{WantsOther, calls_container}

some_none : {A : Type 0} {x : A} → Some x ≡ None → ⊥
some_none e = cc

yes_no : true ≡ false → ⊥
yes_no e = cc

-- REFUSED ACTS

-- what the locus alone refuses touches the locus alone
pub refused_alone : (me : ℕ) (l : LocusState) (act : Act) → act ≡ wanted 64 l → is_some act.refused ≡ true → IsAlone (wanted me l)
unfolding wanted
refused_alone me l act same some = by (refusal l (instr_at l)) refl
  where
    told : is_some (refusal l (instr_at l)) ≡ true
    told = ap is_some (sym (wanted_says 64 l).refused ∙ ap (λ (a : Act). a.refused) (sym same)) ∙ some

    by : (r : Option Reply) → refusal l (instr_at l) ≡ r → IsAlone (act_by me l (instr_at l) (refusal l (instr_at l)))
    by (Some why) is = subst (λ r. IsAlone (act_by me l (instr_at l) r)) (sym is) (record { atlas = refl; other = refl; newborn = refl })
    by None is = absurd (yes_no (sym told ∙ ap is_some is))

pub not_refused : {A : Type 0} (o : Option A) → is_some o ≡ false → o ≡ None
not_refused None e = refl
not_refused (Some x) e = cc

-- ACTS ON THE LOCUS ITSELF

-- an act that the locus doesn't refuse, by its instruction
pub act_is : (me : ℕ) (l : LocusState) (i : Instr) → (wanted 64 l).instr ≡ i → (wanted 64 l).refused ≡ None → wanted me l ≡ allowed me l i
act_is me l i instr none =
    wanted_allowed me l (sym (wanted_says 64 l).refused ∙ none) ∙ ap (allowed me l) (sym (wanted_says 64 l).instr ∙ instr)

self_alone : (me x e : ℕ) (i : Instr) → (beside_or_self 64 i e).other ≡ Some x → x ≡ me → IsAlone (beside_or_self me i e)
self_alone me x e i other at = subst (λ b. IsAlone (if b then alone i None else beside i e)) (sym (eq-eqb e me (named (e == 64) other ∙ at))) (record { atlas = refl; other = refl; newborn = refl })
  where
    named : (b : Bool) → (if b then alone i None else beside i e).other ≡ Some x → e ≡ x
    named true f = cc
    named false f = cc

allowed_self : (me x : ℕ) (l : LocusState) (i : Instr) → may_name_itself i ≡ true → (allowed 64 l i).other ≡ Some x → x ≡ me → IsAlone (allowed me l i)
unfolding allowed
allowed_self me x l (Stop c) names other at = self_alone me x (entity_of l c) (Stop c) other at
allowed_self me x l (Go c) names other at = self_alone me x (entity_of l c) (Go c) other at
allowed_self me x l (Snap c) names other at = self_alone me x (entity_of l c) (Snap c) other at
allowed_self me x l i names other at = cc

both : (a b : Bool) → (a && b) ≡ true → (a ≡ true) × (b ≡ true)
both true b e = (refl, e)
both false b e = cc

pub apart_by : (a b : Bool) → (a && b) ≡ false → a ≡ true → b ≡ true → ⊥
apart_by true true e p q = cc
apart_by true false e p q = cc
apart_by false b e p q = cc

same_number : (x me : ℕ) → (x == me) ≡ true → x ≡ me
same_number x me e = eqb-true x me e

-- an act that names the locus itself touches it alone
pub itself_alone : (me x : ℕ) (l : LocusState) (i : Instr) → WantsOther l i x → (may_name_itself i && x == me) ≡ true → IsAlone (wanted me l)
itself_alone me x l i h is =
    let b = both (may_name_itself i) (x == me) is in
    let other : (allowed 64 l i).other ≡ Some x = ap (λ (a : Act). a.other) (sym (act_is 64 l i h.instr h.allowed)) ∙ h.other in
    subst IsAlone (sym (act_is me l i h.instr h.allowed)) (allowed_self me x l i b.0 other (same_number x me b.1))

-- ACTS BESIDE ANOTHER ENTITY

pub called : (l : LocusState) (i : Instr) (x : ℕ) → (allowed 64 l i).other ≡ Some x → ((d a : ℕ) → i ≡ Load d a → ⊥) → ((a v : ℕ) → i ≡ Store a v → ⊥)
    → ((d a c b n : ℕ) (rights : Rights) → i ≡ Map d a c b n rights → ⊥) → ((d a : ℕ) → i ≡ Unmap d a → ⊥) → (calls_container i || may_name_itself i) ≡ true
unfolding allowed
called l (Invoke c) x other load store map unmap = refl
called l (Leave c) x other load store map unmap = refl
called l Return x other load store map unmap = refl
called l (Take d c y) x other load store map unmap = refl
called l (Give d c r rights) x other load store map unmap = refl
called l (Stop c) x other load store map unmap = refl
called l (Go c) x other load store map unmap = refl
called l (Snap c) x other load store map unmap = refl
called l (Load d a) x other load store map unmap = absurd (load d a refl)
called l (Store a v) x other load store map unmap = absurd (store a v refl)
called l (Map d a c b n rights) x other load store map unmap = absurd (map d a c b n rights refl)
called l (Unmap d a) x other load store map unmap = absurd (unmap d a refl)
called l (Set d n) x other load store map unmap = absurd (some_none (sym other))
called l (Copy d s) x other load store map unmap = absurd (some_none (sym other))
called l (Add d s) x other load store map unmap = absurd (some_none (sym other))
called l (Sub d s) x other load store map unmap = absurd (some_none (sym other))
called l (Jump p) x other load store map unmap = absurd (some_none (sym other))
called l (Jz s p) x other load store map unmap = absurd (some_none (sym other))
called l (Lmap k c b n rights) x other load store map unmap = absurd (some_none (sym other))
called l (Lunmap k) x other load store map unmap = absurd (some_none (sym other))
called l (Drop s) x other load store map unmap = absurd (some_none (sym other))
called l (Make d n t e) x other load store map unmap = absurd (some_none (sym other))
called l (Spawn d p) x other load store map unmap = absurd (some_none (sym other))
called l (Stabilise c) x other load store map unmap = absurd (some_none (sym other))
called l (Print s) x other load store map unmap = absurd (some_none (sym other))
called l Halt x other load store map unmap = absurd (some_none (sym other))

-- ACTS BESIDE NONE

self_none : (i : Instr) (e : ℕ) → (beside_or_self 64 i e).other ≡ None → IsAlone (beside_or_self 64 i e)
self_none i e = elim (e == 64) as (λ b. (if b then alone i None else beside i e).other ≡ None → IsAlone (if b then alone i None else beside i e)) [
  | true ↦ λ _. record { atlas = refl; other = refl; newborn = refl }
  | false ↦ λ f. absurd (some_none f)
]

pub allowed_none : (l : LocusState) (i : Instr) → (allowed 64 l i).other ≡ None → ((d n t : ℕ) (e : Option ℕ) → i ≡ Make d n t e → ⊥) → ((d p : ℕ) → i ≡ Spawn d p → ⊥) → IsAlone (allowed 64 l i)
unfolding allowed
allowed_none l (Invoke c) other make spawn = absurd (some_none other)
allowed_none l (Leave c) other make spawn = absurd (some_none other)
allowed_none l Return other make spawn = absurd (some_none other)
allowed_none l (Take d c y) other make spawn = absurd (some_none other)
allowed_none l (Give d c r rights) other make spawn = absurd (some_none other)
allowed_none l (Load d a) other make spawn = absurd (some_none other)
allowed_none l (Store a v) other make spawn = absurd (some_none other)
allowed_none l (Map d a c b n rights) other make spawn = absurd (some_none other)
allowed_none l (Unmap d a) other make spawn = absurd (some_none other)
allowed_none l (Make d n t e) other make spawn = absurd (make d n t e refl)
allowed_none l (Spawn d p) other make spawn = absurd (spawn d p refl)
allowed_none l (Stop c) other make spawn = self_none (Stop c) (entity_of l c) other
allowed_none l (Go c) other make spawn = self_none (Go c) (entity_of l c) other
allowed_none l (Snap c) other make spawn = self_none (Snap c) (entity_of l c) other
allowed_none l (Set d n) other make spawn = record { atlas = refl; other = refl; newborn = refl }
allowed_none l (Copy d s) other make spawn = record { atlas = refl; other = refl; newborn = refl }
allowed_none l (Add d s) other make spawn = record { atlas = refl; other = refl; newborn = refl }
allowed_none l (Sub d s) other make spawn = record { atlas = refl; other = refl; newborn = refl }
allowed_none l (Jump p) other make spawn = record { atlas = refl; other = refl; newborn = refl }
allowed_none l (Jz s p) other make spawn = record { atlas = refl; other = refl; newborn = refl }
allowed_none l (Lmap k c b n rights) other make spawn = record { atlas = refl; other = refl; newborn = refl }
allowed_none l (Lunmap k) other make spawn = record { atlas = refl; other = refl; newborn = refl }
allowed_none l (Drop s) other make spawn = record { atlas = refl; other = refl; newborn = refl }
allowed_none l (Stabilise c) other make spawn = record { atlas = refl; other = refl; newborn = refl }
allowed_none l (Print s) other make spawn = record { atlas = refl; other = refl; newborn = refl }
allowed_none l Halt other make spawn = record { atlas = refl; other = refl; newborn = refl }
