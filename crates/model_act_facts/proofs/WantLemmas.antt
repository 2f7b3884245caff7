-- What a locus's act says of its instruction, and of the entity beside it.
use Rattle.std.proofs.Common.{◌≡◌, ℕ, zero, suc, ◌<◌, ◌≤◌, Bool, true, false, if◌then◌else◌, ◌==◌, ◌&&◌, nat_lt, nat_le, IsTrue, List, [], ◌∷◌, length, All, Option, Some, None, is_some, slice_get, unwrap_or, refl, sym, ap, subst, ◌∙◌, arith, eqb-true, eq-eqb}
use Rattle.std.proofs.lemmas.Bool.Decides.{nat_tests}
use Rattle.std.proofs.lemmas.List.Elements.{All-head, All-tail}
use Rattle.model_acts.specs.base_types.declared.capabilities.Cap.{Cap}
use Rattle.model_acts.specs.base_types.declared.capabilities.Rights.{Rights}
use Rattle.model_acts.specs.base_types.declared.entities.Kind.{Kind}
use Rattle.model_acts.specs.base_types.declared.entities.Kind.TheVariants.{Atlas, Container, Locus}
use Rattle.model_acts.specs.base_types.declared.instructions.Call.{Call}
use Rattle.model_acts.specs.base_types.declared.instructions.Instr.{Instr}
use Rattle.model_acts.specs.base_types.declared.instructions.Instr.TheVariants.{Set, Copy, Add, Sub, Jump, Jz, Load, Store, Invoke, Leave, Return, Map, Unmap, Lmap, Lunmap, Take, Give, Drop, Make, Spawn, Stop, Go, Snap, Stabilise, Print, Halt}
use Rattle.model_acts.specs.base_types.declared.instructions.Reply.{Reply}
use Rattle.model_acts.specs.base_types.declared.instructions.Reply.TheVariants.{NoSlot, NoCaller, NoPage, WrongKind}
use Rattle.model_acts.specs.base_types.Instructions.{IsInstruction}
use Rattle.model_acts.specs.base_types.Kinds.{kind_of}
use Rattle.model_sound_steps.specs.model_kernel.Acts.{Act, act_by, allowed, alone, bearing, beside, beside_and_atlas, beside_or_self, container_of_call, wanted}
use Rattle.model_sound_steps.specs.model_kernel.Outcomes.{local_act, with_newborn}
use Rattle.model_sound_steps.specs.model_kernel.Refusals.{entity_of, instr_at, lacks, named, no_cap, no_container, no_free_slot, no_locus, no_page, no_slot, refusal, reg}
use Rattle.model_sound_steps.specs.model_kernel.Soundness.{IsSoundCall, IsSoundLocus, is_born, is_born_container, is_born_locus}
use Rattle.model_sound_steps.specs.model_kernel.State.{Supply, AtlasState, LocusState}
use Rattle.model_sound_steps.specs.model_kernel.Words.{first, flat, is_container, is_locus, last_call, unless}
use Rattle.model_acts.specs.Views.{may_name_itself}
use Rattle.model_act_facts.specs.Readiness.{leaves_atlas}
use Rattle.model_act_facts.proofs.LocalLemmas.{first_none}
use Rattle.model_act_facts.proofs.ReadLemmas.{passes}
use Rattle.model_act_facts.proofs.SoundLemmas.{look_born}

-- SHAPES

-- what an act that isn't refused touches
pub data Shape (i : Instr) (act : Act) : Type 0 where
  IsAlone : act ≡ alone i None → Shape i act
  IsBeside : (x : ℕ) → act ≡ beside i x → Shape i act
  IsMapping : (x : ℕ) → act ≡ beside_and_atlas i x → Shape i act
  IsBearing : (k : Kind) → act ≡ bearing i k → Shape i act

self_shape : (me : ℕ) (i : Instr) (x : ℕ) → Shape i (beside_or_self me i x)
self_shape me i x = elim (x == me) as (λ b. Shape i (if b then alone i None else beside i x)) [ true ↦ IsAlone refl | false ↦ IsBeside x refl ]

shaped : (me : ℕ) (l : LocusState) (i : Instr) → Shape i (allowed me l i)
unfolding allowed
shaped me l (Load d a) = IsBeside _ refl
shaped me l (Store a s) = IsBeside _ refl
shaped me l (Invoke c) = IsBeside _ refl
shaped me l (Leave c) = IsBeside _ refl
shaped me l Return = IsBeside _ refl
shaped me l (Map d a c b n rights) = IsMapping _ refl
shaped me l (Unmap d a) = IsMapping _ refl
shaped me l (Take d c y) = IsBeside _ refl
shaped me l (Give d c s rights) = IsBeside _ refl
shaped me l (Make d n t e) = IsBearing Container refl
shaped me l (Spawn d p) = IsBearing Locus refl
shaped me l (Stop c) = self_shape me (Stop c) (entity_of l c)
shaped me l (Go c) = self_shape me (Go c) (entity_of l c)
shaped me l (Snap c) = self_shape me (Snap c) (entity_of l c)
shaped me l (Set d n) = IsAlone refl
shaped me l (Copy d s) = IsAlone refl
shaped me l (Add d s) = IsAlone refl
shaped me l (Sub d s) = IsAlone refl
shaped me l (Jump p) = IsAlone refl
shaped me l (Jz s p) = IsAlone refl
shaped me l (Lmap a c b n rights) = IsAlone refl
shaped me l (Lunmap a) = IsAlone refl
shaped me l (Drop s) = IsAlone refl
shaped me l (Stabilise c) = IsAlone refl
shaped me l (Print s) = IsAlone refl
shaped me l Halt = IsAlone refl

some_none : {A : Type 0} (x : A) → Some x ≡ None → ⊥
some_none x e = cc

yes_no : true ≡ false → ⊥
yes_no e = cc

shape_instr : (i : Instr) (act : Act) → Shape i act → act.instr ≡ i
shape_instr i act (IsAlone e) = ap (λ (a : Act). a.instr) e
shape_instr i act (IsBeside x e) = ap (λ (a : Act). a.instr) e
shape_instr i act (IsMapping x e) = ap (λ (a : Act). a.instr) e
shape_instr i act (IsBearing k e) = ap (λ (a : Act). a.instr) e

shape_refused : (i : Instr) (act : Act) → Shape i act → act.refused ≡ None
shape_refused i act (IsAlone e) = ap (λ (a : Act). a.refused) e
shape_refused i act (IsBeside x e) = ap (λ (a : Act). a.refused) e
shape_refused i act (IsMapping x e) = ap (λ (a : Act). a.refused) e
shape_refused i act (IsBearing k e) = ap (λ (a : Act). a.refused) e

shape_alone : (i : Instr) (act : Act) → Shape i act → act.other ≡ None → act.newborn ≡ None → act ≡ alone i None
shape_alone i act (IsAlone e) other newborn = e
shape_alone i act (IsBeside x e) other newborn = absurd (some_none x (sym (ap (λ (a : Act). a.other) e) ∙ other))
shape_alone i act (IsMapping x e) other newborn = absurd (some_none x (sym (ap (λ (a : Act). a.other) e) ∙ other))
shape_alone i act (IsBearing k e) other newborn = absurd (some_none k (sym (ap (λ (a : Act). a.newborn) e) ∙ newborn))

same_some : {A : Type 0} (x y : A) → Some x ≡ Some y → x ≡ y
same_some x y e = cc

shape_bearing : (i : Instr) (act : Act) (k : Kind) → Shape i act → act.other ≡ None → act.newborn ≡ Some k → act ≡ bearing i k
shape_bearing i act k (IsAlone e) other newborn = absurd (some_none k (sym newborn ∙ ap (λ (a : Act). a.newborn) e))
shape_bearing i act k (IsBeside x e) other newborn = absurd (some_none x (sym (ap (λ (a : Act). a.other) e) ∙ other))
shape_bearing i act k (IsMapping x e) other newborn = absurd (some_none x (sym (ap (λ (a : Act). a.other) e) ∙ other))
shape_bearing i act k (IsBearing j e) other newborn = e ∙ ap (bearing i) (same_some j k (sym (ap (λ (a : Act). a.newborn) e) ∙ newborn))

shape_beside : (i : Instr) (act : Act) (x : ℕ) → Shape i act → act.other ≡ Some x → act.atlas ≡ false → act ≡ beside i x
shape_beside i act x (IsAlone e) other atlas = absurd (some_none x (sym other ∙ ap (λ (a : Act). a.other) e))
shape_beside i act x (IsBeside y e) other atlas = e ∙ ap (beside i) (same_some y x (sym (ap (λ (a : Act). a.other) e) ∙ other))
shape_beside i act x (IsMapping y e) other atlas = absurd (yes_no (sym (ap (λ (a : Act). a.atlas) e) ∙ atlas))
shape_beside i act x (IsBearing k e) other atlas = absurd (some_none x (sym other ∙ ap (λ (a : Act). a.other) e))

shape_mapping : (i : Instr) (act : Act) (x : ℕ) → Shape i act → act.other ≡ Some x → act.atlas ≡ true → act ≡ beside_and_atlas i x
shape_mapping i act x (IsAlone e) other atlas = absurd (some_none x (sym other ∙ ap (λ (a : Act). a.other) e))
shape_mapping i act x (IsBeside y e) other atlas = absurd (yes_no (sym atlas ∙ ap (λ (a : Act). a.atlas) e))
shape_mapping i act x (IsMapping y e) other atlas = e ∙ ap (beside_and_atlas i) (same_some y x (sym (ap (λ (a : Act). a.other) e) ∙ other))
shape_mapping i act x (IsBearing k e) other atlas = absurd (some_none x (sym other ∙ ap (λ (a : Act). a.other) e))

-- WHAT IS WANTED

-- the act is not refused, and the locus is the one whose act it is
pub record IsAllowed (me : ℕ) (l : LocusState) (act : Act) : Type 0 where
  pub instr : act.instr ≡ instr_at l
  pub free : refusal l act.instr ≡ None
  pub is : allowed me l act.instr ≡ act
  pub shape : Shape act.instr act

pub allowed_by : (me : ℕ) (l : LocusState) (act : Act) → wanted me l ≡ act → act.refused ≡ None → IsAllowed me l act
unfolding wanted
allowed_by me l act wants none = by_refusal (refusal l (instr_at l)) refl wants
  where
    by_refusal : (r : Option Reply) → refusal l (instr_at l) ≡ r → act_by me l (instr_at l) r ≡ act → IsAllowed me l act
    by_refusal (Some why) is e = absurd (some_none why (ap (λ (a : Act). a.refused) e ∙ none))
    by_refusal None is e =
        let shape : Shape (instr_at l) act = subst (Shape (instr_at l)) e (shaped me l (instr_at l)) in
        let same : act.instr ≡ instr_at l = shape_instr (instr_at l) act shape in
        record {
          instr = same;
          free = ap (refusal l) same ∙ is;
          is = ap (allowed me l) same ∙ e;
          shape = subst (λ (i : Instr). Shape i act) (sym same) shape;
        }

pub refused_by : (me : ℕ) (l : LocusState) (act : Act) (why : Reply) → wanted me l ≡ act → act.refused ≡ Some why → act ≡ alone act.instr (Some why)
unfolding wanted
refused_by me l act why wants some = by_refusal (refusal l (instr_at l)) refl wants
  where
    by_refusal : (r : Option Reply) → refusal l (instr_at l) ≡ r → act_by me l (instr_at l) r ≡ act → act ≡ alone act.instr (Some why)
    by_refusal (Some other) is e =
        let same : Some other ≡ Some why = ap (λ (a : Act). a.refused) e ∙ some in
        sym e ∙ ap (alone (instr_at l)) same ∙ ap (λ (i : Instr). alone i (Some why)) (ap (λ (a : Act). a.instr) e)
    by_refusal None is e = absurd (some_none why (sym some ∙ sym (ap (λ (a : Act). a.refused) e) ∙ shape_refused (instr_at l) _ (shaped me l (instr_at l))))

-- by what the code reads of the act
pub wants_alone : (me : ℕ) (l : LocusState) (act : Act) → wanted me l ≡ act → act.refused ≡ None → act.other ≡ None → act.newborn ≡ None → wanted me l ≡ alone act.instr None
wants_alone me l act wants none other newborn = wants ∙ shape_alone act.instr act (allowed_by me l act wants none).shape other newborn

pub wants_birth : (me : ℕ) (l : LocusState) (act : Act) (k : Kind) → wanted me l ≡ act → act.refused ≡ None → act.other ≡ None → act.newborn ≡ Some k → wanted me l ≡ bearing act.instr k
wants_birth me l act k wants none other newborn = wants ∙ shape_bearing act.instr act k (allowed_by me l act wants none).shape other newborn

pub wants_beside : (me : ℕ) (l : LocusState) (act : Act) (x : ℕ) → wanted me l ≡ act → act.refused ≡ None → act.other ≡ Some x → act.atlas ≡ false → wanted me l ≡ beside act.instr x
wants_beside me l act x wants none other atlas = wants ∙ shape_beside act.instr act x (allowed_by me l act wants none).shape other atlas

pub wants_mapping : (me : ℕ) (l : LocusState) (act : Act) (x : ℕ) → wanted me l ≡ act → act.refused ≡ None → act.other ≡ Some x → act.atlas ≡ true → wanted me l ≡ beside_and_atlas act.instr x
wants_mapping me l act x wants none other atlas = wants ∙ shape_mapping act.instr act x (allowed_by me l act wants none).shape other atlas

pub wants_refusal : (me : ℕ) (l : LocusState) (act : Act) (why : Reply) → wanted me l ≡ act → act.refused ≡ Some why → wanted me l ≡ alone act.instr (Some why)
wants_refusal me l act why wants some = wants ∙ refused_by me l act why wants some

-- THE INSTRUCTION

element_at : {X : Type 0} (P : X → Type 0) (xs : List X) (i : ℕ) (x : X) → All P xs → slice_get xs i ≡ Some x → P x
element_at P [] i x all h = cc
element_at P (y ∷ ys) zero x all h = let same : y ≡ x = cc in subst P same (All-head P y ys all)
element_at P (y ∷ ys) (suc i) x all h = element_at P ys i x (All-tail P y ys all) h

-- operands are in range
pub instruction_at : (a : AtlasState) (l : LocusState) → IsSoundLocus a l → IsInstruction (instr_at l)
instruction_at a l h = by_get (slice_get l.code l.place) refl
  where
    by_get : (o : Option Instr) → slice_get l.code l.place ≡ o → IsInstruction (unwrap_or (slice_get l.code l.place) Halt)
    by_get (Some i) is = subst (λ (o : Option Instr). IsInstruction (unwrap_or o Halt)) (sym is) (element_at IsInstruction l.code l.place i h.code.each is)
    by_get None is = subst (λ (o : Option Instr). IsInstruction (unwrap_or o Halt)) (sym is) tt

-- an act that touches the locus alone bears nothing
pub local_made : (s : Supply) (a : AtlasState) (me : ℕ) (l : LocusState) (i : Instr) → allowed me l i ≡ alone i None → with_newborn s l a i ≡ local_act l i
unfolding allowed with_newborn
local_made s a me l (Make d n t e) is = absurd (some_none Container (ap (λ (a : Act). a.newborn) is))
local_made s a me l (Spawn d p) is = absurd (some_none Locus (ap (λ (a : Act). a.newborn) is))
local_made s a me l i is = refl

-- an act beside an entity alone leaves the atlas
pub beside_leaves : (me : ℕ) (l : LocusState) (i : Instr) (x : ℕ) → allowed me l i ≡ beside i x → leaves_atlas i ≡ true
unfolding allowed
beside_leaves me l (Map d a c b n rights) x is = absurd (yes_no (ap (λ (a : Act). a.atlas) is))
beside_leaves me l (Unmap d a) x is = absurd (yes_no (ap (λ (a : Act). a.atlas) is))
beside_leaves me l i x is = refl

-- WHO IS BESIDE THE LOCUS

named_born : (a : AtlasState) (l : LocusState) (r : ℕ) → IsSoundLocus a l → no_slot l r ≡ None → IsTrue (is_born a (entity_of l r))
named_born a l r h e = by_named (named l r) refl (passes _ NoSlot e)
  where
    in_slot : (o : Option (Option Cap)) (cap : Cap) → flat o ≡ Some cap → o ≡ Some (Some cap)
    in_slot (Some (Some k)) cap e = ap (λ (o : Option Cap). Some o) e
    in_slot (Some None) cap e = absurd (some_none cap (sym e))
    in_slot None cap e = absurd (some_none cap (sym e))

    by_named : (o : Option Cap) → named l r ≡ o → is_some (named l r) ≡ true → IsTrue (is_born a (entity_of l r))
    by_named (Some cap) is e =
        subst (λ (o : Option Cap). IsTrue (is_born a (unwrap_or o no_cap).entity)) (sym is) (h.caps.each (reg l r) cap (in_slot (slice_get l.caps (reg l r)) cap is))
    by_named None is e = absurd (yes_no (sym e ∙ ap is_some is))

container_kind : (a : AtlasState) (x : ℕ) → is_born a x ≡ true → is_container x ≡ true → is_born_container a x ≡ true
container_kind a x born is =
    elim (is_born_container a x) as (λ b. is_born_container a x ≡ b → b ≡ true) [
      | true ↦ λ _. refl
      | false ↦ λ no.
          let z : (x == 0) ≡ false = grind (arith, nat_tests) in
          let far : nat_lt 40 x ≡ false = grind (arith, nat_tests) in
          let bad : is_born a x ≡ false = rw (z, no, far) refl in
          absurd (yes_no (sym born ∙ bad))
    ] refl

named_container : (a : AtlasState) (l : LocusState) (r : ℕ) → IsSoundLocus a l → no_slot l r ≡ None → no_container l r ≡ None → IsTrue (is_born_container a (entity_of l r))
named_container a l r h slot kind = container_kind a (entity_of l r) (named_born a l r h slot) (passes _ WrongKind kind)

last_born : (a : AtlasState) (calls : List Call) → All (IsSoundCall a) calls → nat_lt 0 (length calls) ≡ true → IsTrue (is_born_container a (container_of_call (last_call calls)))
last_born a [] all e = absurd (yes_no (sym e))
last_born a (c ∷ []) all e = (All-head (IsSoundCall a) c [] all).container
last_born a (c ∷ d ∷ calls) all e = last_born a (d ∷ calls) (All-tail (IsSoundCall a) c (d ∷ calls) all) (let some : nat_lt 0 (length (d ∷ calls)) ≡ true = grind (arith, nat_tests) in some)

-- the first two checks of an act on a named container
two_checks : (l : LocusState) (r needed : ℕ) → first (no_slot l r ∷ no_container l r ∷ lacks l r needed ∷ []) ≡ None → (no_slot l r ≡ None) × (no_container l r ≡ None)
two_checks l r needed e =
    let f = first_none (no_slot l r) (no_container l r ∷ lacks l r needed ∷ []) e in
    (f.0, (first_none (no_container l r) (lacks l r needed ∷ []) f.1).0)

named_by_two : (a : AtlasState) (l : LocusState) (r needed : ℕ) → IsSoundLocus a l → first (no_slot l r ∷ no_container l r ∷ lacks l r needed ∷ []) ≡ None → IsTrue (is_born_container a (entity_of l r))
named_by_two a l r needed h e = let f = two_checks l r needed e in named_container a l r h f.0 f.1

give_checks : (l : LocusState) (c r : ℕ) → first (no_slot l c ∷ no_slot l r ∷ no_container l c ∷ lacks l c 16 ∷ []) ≡ None → (no_slot l c ≡ None) × (no_container l c ≡ None)
give_checks l c r e =
    let f = first_none (no_slot l c) (no_slot l r ∷ no_container l c ∷ lacks l c 16 ∷ []) e in
    let g = first_none (no_slot l r) (no_container l c ∷ lacks l c 16 ∷ []) f.1 in
    (f.0, (first_none (no_container l c) (lacks l c 16 ∷ []) g.1).0)

map_checks : (l : LocusState) (d a c b n rights : ℕ)
    → first (no_slot l d ∷ no_slot l c ∷ no_container l d ∷ no_container l c ∷ lacks l d 8 ∷ lacks l c rights ∷ no_page l a b n ∷ []) ≡ None
    → (no_slot l d ≡ None) × (no_slot l c ≡ None) × (no_container l d ≡ None) × (no_container l c ≡ None) × (no_page l a b n ≡ None)
map_checks l d a c b n rights e =
    let f = first_none (no_slot l d) (no_slot l c ∷ no_container l d ∷ no_container l c ∷ lacks l d 8 ∷ lacks l c rights ∷ no_page l a b n ∷ []) e in
    let g = first_none (no_slot l c) (no_container l d ∷ no_container l c ∷ lacks l d 8 ∷ lacks l c rights ∷ no_page l a b n ∷ []) f.1 in
    let h = first_none (no_container l d) (no_container l c ∷ lacks l d 8 ∷ lacks l c rights ∷ no_page l a b n ∷ []) g.1 in
    let i = first_none (no_container l c) (lacks l d 8 ∷ lacks l c rights ∷ no_page l a b n ∷ []) h.1 in
    let j = first_none (lacks l d 8) (lacks l c rights ∷ no_page l a b n ∷ []) i.1 in
    let k = first_none (lacks l c rights) (no_page l a b n ∷ []) j.1 in
    (f.0, g.0, h.0, i.0, (first_none (no_page l a b n) [] k.1).0)

stop_checks : (l : LocusState) (c : ℕ) → first (no_slot l c ∷ no_locus l c ∷ lacks l c 64 ∷ []) ≡ None → (no_slot l c ≡ None) × (no_locus l c ≡ None)
stop_checks l c e =
    let f = first_none (no_slot l c) (no_locus l c ∷ lacks l c 64 ∷ []) e in
    (f.0, (first_none (no_locus l c) (lacks l c 64 ∷ []) f.1).0)

snap_check : (l : LocusState) (c : ℕ) → first (no_slot l c ∷ lacks l c 32 ∷ []) ≡ None → no_slot l c ≡ None
snap_check l c e = (first_none (no_slot l c) (lacks l c 32 ∷ []) e).0

self_other : (me : ℕ) (i : Instr) (y x : ℕ) → (beside_or_self me i y).other ≡ Some x → y ≡ x
self_other me i y x = elim (y == me) as (λ b. (if b then alone i None else beside i y).other ≡ Some x → y ≡ x) [
  | true ↦ λ e. absurd (some_none x (sym e))
  | false ↦ λ e. same_some y x e
]

-- the other entity: a container that is born, or one that a capability names
pub data Neighbour (a : AtlasState) (i : Instr) (x : ℕ) : Type 0 where
  OfContainer : IsTrue (is_born_container a x) → Neighbour a i x
  OfNamed : IsTrue (is_born a x) → IsTrue (may_name_itself i) → ((x ≡ 0) → (c : ℕ) × (i ≡ Snap c)) → Neighbour a i x

pub neighbour : (a : AtlasState) (me : ℕ) (l : LocusState) (i : Instr) (x : ℕ) → IsSoundLocus a l → refusal l i ≡ None → (allowed me l i).other ≡ Some x → Neighbour a i x
unfolding allowed refusal
neighbour a me l (Load d r) x h free is = OfContainer (subst (λ (x : ℕ). IsTrue (is_born_container a x)) (same_some _ x is) (look_born a l (reg l r) h))
neighbour a me l (Store r s) x h free is = OfContainer (subst (λ (x : ℕ). IsTrue (is_born_container a x)) (same_some _ x is) (look_born a l (reg l r) h))
neighbour a me l (Invoke c) x h free is = OfContainer (subst (λ (x : ℕ). IsTrue (is_born_container a x)) (same_some _ x is) (named_by_two a l c 4 h free))
neighbour a me l (Leave c) x h free is = OfContainer (subst (λ (x : ℕ). IsTrue (is_born_container a x)) (same_some _ x is) (named_by_two a l c 4 h free))
neighbour a me l Return x h free is = OfContainer (subst (λ (x : ℕ). IsTrue (is_born_container a x)) (same_some _ x is) (last_born a l.chain h.chain (passes _ NoCaller free)))
neighbour a me l (Map d p c b n rights) x h free is =
    let f = map_checks l d p c b n rights.0 free in
    OfContainer (subst (λ (x : ℕ). IsTrue (is_born_container a x)) (same_some _ x is) (named_container a l d h f.0 f.2))
neighbour a me l (Unmap d p) x h free is = OfContainer (subst (λ (x : ℕ). IsTrue (is_born_container a x)) (same_some _ x is) (named_by_two a l d 8 h free))
neighbour a me l (Take d c y) x h free is = OfContainer (subst (λ (x : ℕ). IsTrue (is_born_container a x)) (same_some _ x is) (named_by_two a l c 16 h free))
neighbour a me l (Give d c s rights) x h free is =
    let f = give_checks l c s free in
    OfContainer (subst (λ (x : ℕ). IsTrue (is_born_container a x)) (same_some _ x is) (named_container a l c h f.0 f.1))
neighbour a me l (Stop c) x h free is =
    let f = stop_checks l c free in
    let same : entity_of l c ≡ x = self_other me (Stop c) (entity_of l c) x is in
    OfNamed (subst (λ (x : ℕ). IsTrue (is_born a x)) same (named_born a l c h f.0)) refl
    (λ z. absurd (yes_no (sym (passes (is_locus (entity_of l c)) WrongKind f.1) ∙ ap is_locus (same ∙ z))))
neighbour a me l (Go c) x h free is =
    let f = stop_checks l c free in
    let same : entity_of l c ≡ x = self_other me (Go c) (entity_of l c) x is in
    OfNamed (subst (λ (x : ℕ). IsTrue (is_born a x)) same (named_born a l c h f.0)) refl
    (λ z. absurd (yes_no (sym (passes (is_locus (entity_of l c)) WrongKind f.1) ∙ ap is_locus (same ∙ z))))
neighbour a me l (Snap c) x h free is =
    let same : entity_of l c ≡ x = self_other me (Snap c) (entity_of l c) x is in
    OfNamed (subst (λ (x : ℕ). IsTrue (is_born a x)) same (named_born a l c h (snap_check l c free))) refl (λ z. (c, refl))
neighbour a me l (Make d n t e) x h free is = absurd (some_none x (sym is))
neighbour a me l (Spawn d p) x h free is = absurd (some_none x (sym is))
neighbour a me l (Set d n) x h free is = absurd (some_none x (sym is))
neighbour a me l (Copy d s) x h free is = absurd (some_none x (sym is))
neighbour a me l (Add d s) x h free is = absurd (some_none x (sym is))
neighbour a me l (Sub d s) x h free is = absurd (some_none x (sym is))
neighbour a me l (Jump p) x h free is = absurd (some_none x (sym is))
neighbour a me l (Jz s p) x h free is = absurd (some_none x (sym is))
neighbour a me l (Lmap r c b n rights) x h free is = absurd (some_none x (sym is))
neighbour a me l (Lunmap r) x h free is = absurd (some_none x (sym is))
neighbour a me l (Drop s) x h free is = absurd (some_none x (sym is))
neighbour a me l (Stabilise c) x h free is = absurd (some_none x (sym is))
neighbour a me l (Print s) x h free is = absurd (some_none x (sym is))
neighbour a me l Halt x h free is = absurd (some_none x (sym is))

-- by its number
pub container_beside : (a : AtlasState) (i : Instr) (x : ℕ) → Neighbour a i x → 0 < x → x < 41 → IsTrue (is_born_container a x)
container_beside a i x (OfContainer born) pos low = born
container_beside a i x (OfNamed born names atlas) pos low = container_kind a x born (grind (arith, nat_tests))

pub atlas_beside : (a : AtlasState) (i : Instr) (x : ℕ) → Neighbour a i x → x ≡ 0 → (c : ℕ) × (i ≡ Snap c)
atlas_beside a i x (OfContainer born) z = absurd (yes_no (sym born ∙ ap (is_born_container a) z))
atlas_beside a i x (OfNamed born names atlas) z = atlas z

-- a locus beside: it is born, and the act is stop, go or snap
pub locus_beside : (a : AtlasState) (i : Instr) (x : ℕ) → length a.containers ≤ 40 → Neighbour a i x → 41 ≤ x → IsTrue (is_born_locus a x) × IsTrue (may_name_itself i)
locus_beside a i x few (OfContainer born) high = absurd (let le : nat_le x (length a.containers) ≡ false = grind (arith, nat_tests) in yes_no (sym born ∙ no_container_at le))
  where
    no_container_at : nat_le x (length a.containers) ≡ false → is_born_container a x ≡ false
    no_container_at le = elim (nat_lt 0 x) as (λ b. (b && nat_le x (length a.containers)) ≡ false) [ true ↦ le | false ↦ refl ]
locus_beside a i x few (OfNamed born names atlas) high =
    let z : (x == 0) ≡ false = grind (arith, nat_tests) in
    let le : nat_le x (length a.containers) ≡ false = grind (arith, nat_tests) in
    let p : nat_lt 0 x ≡ true = grind (arith, nat_tests) in
    (rw (z, p, le) at born, names)

-- an act beside another entity is not on the locus itself
self_apart : (me : ℕ) (i : Instr) (y x : ℕ) → beside_or_self me i y ≡ beside i x → x ≡ me → ⊥
self_apart me i y x = elim (y == me) as (λ b. (y == me) ≡ b → (if b then alone i None else beside i y) ≡ beside i x → x ≡ me → ⊥) [
  | true ↦ λ _ e _. some_none x (sym (ap (λ (a : Act). a.other) e))
  | false ↦ λ no e same.
      let there : y ≡ x = same_some y x (ap (λ (a : Act). a.other) e) in
      yes_no (sym (eq-eqb y me (there ∙ same)) ∙ no)
] refl

pub names_another : (me : ℕ) (l : LocusState) (i : Instr) (x : ℕ) → IsTrue (may_name_itself i) → allowed me l i ≡ beside i x → x ≡ me → ⊥
unfolding allowed
names_another me l (Stop c) x names is = self_apart me (Stop c) (entity_of l c) x is
names_another me l (Go c) x names is = self_apart me (Go c) (entity_of l c) x is
names_another me l (Snap c) x names is = self_apart me (Snap c) (entity_of l c) x is
names_another me l i x names is = absurd (yes_no (sym names))

-- MAPPINGS

self_atlas : (me : ℕ) (i : Instr) (y : ℕ) → (beside_or_self me i y).atlas ≡ false
self_atlas me i y = elim (y == me) as (λ b. (if b then alone i None else beside i y).atlas ≡ false) [ true ↦ refl | false ↦ refl ]

self_maps : (me : ℕ) (i : Instr) (y x : ℕ) → beside_or_self me i y ≡ beside_and_atlas i x → ⊥
self_maps me i y x is = yes_no (sym (ap (λ (a : Act). a.atlas) is) ∙ self_atlas me i y)

-- an act beside a container and the atlas is map or unmap
pub mapping_maps : (me : ℕ) (l : LocusState) (i : Instr) (x : ℕ) → allowed me l i ≡ beside_and_atlas i x → leaves_atlas i ≡ false
unfolding allowed
mapping_maps me l (Map d a c b n rights) x is = refl
mapping_maps me l (Unmap d a) x is = refl
mapping_maps me l (Make d n t e) x is = absurd (some_none x (sym (ap (λ (a : Act). a.other) is)))
mapping_maps me l (Spawn d p) x is = absurd (some_none x (sym (ap (λ (a : Act). a.other) is)))
mapping_maps me l (Stop c) x is = absurd (self_maps me (Stop c) (entity_of l c) x is)
mapping_maps me l (Go c) x is = absurd (self_maps me (Go c) (entity_of l c) x is)
mapping_maps me l (Snap c) x is = absurd (self_maps me (Snap c) (entity_of l c) x is)
mapping_maps me l i x is = absurd (yes_no (sym (ap (λ (a : Act). a.atlas) is)))

maps_no_locus : (i : Instr) → leaves_atlas i ≡ false → may_name_itself i ≡ true → ⊥
maps_no_locus (Stop c) leaves names = yes_no leaves
maps_no_locus (Go c) leaves names = yes_no leaves
maps_no_locus (Snap c) leaves names = yes_no leaves
maps_no_locus i leaves names = yes_no (sym names)

pub mapped_container : (a : AtlasState) (me : ℕ) (l : LocusState) (i : Instr) (x : ℕ) → IsSoundLocus a l → refusal l i ≡ None → allowed me l i ≡ beside_and_atlas i x → IsTrue (is_born_container a x)
mapped_container a me l i x h free is = by_neighbour (neighbour a me l i x h free (ap (λ (a : Act). a.other) is))
  where
    by_neighbour : Neighbour a i x → IsTrue (is_born_container a x)
    by_neighbour (OfContainer born) = born
    by_neighbour (OfNamed born names atlas) = absurd (maps_no_locus i (mapping_maps me l i x is) names)

pub map_pages : (l : LocusState) (i : Instr) (d p c b n : ℕ) (rights : Rights) → i ≡ Map d p c b n rights → refusal l i ≡ None → no_page l p b n ≡ None
unfolding refusal
map_pages l i d p c b n rights is free =
    let e : refusal l (Map d p c b n rights) ≡ None = ap (refusal l) (sym is) ∙ free in
    (map_checks l d p c b n rights.0 e).4

below_41 : (x : ℕ) → is_container x ≡ true → x < 41
below_41 x is = grind (arith, nat_tests)

pub map_target : (l : LocusState) (i : Instr) (d p c b n : ℕ) (rights : Rights) → i ≡ Map d p c b n rights → refusal l i ≡ None → entity_of l c < 41
unfolding refusal
map_target l i d p c b n rights is free =
    let e : refusal l (Map d p c b n rights) ≡ None = ap (refusal l) (sym is) ∙ free in
    below_41 (entity_of l c) (passes _ WrongKind (map_checks l d p c b n rights.0 e).3)

-- BIRTHS

self_bears : (me : ℕ) (i : Instr) (y : ℕ) (k : Kind) → beside_or_self me i y ≡ bearing i k → ⊥
self_bears me i y k is = yes_no (sym (ap (λ (a : Act). a.atlas) is) ∙ self_atlas me i y)

-- an act that bears something is make or spawn
pub bears_by : (me : ℕ) (l : LocusState) (i : Instr) (k : Kind) → allowed me l i ≡ bearing i k → ((d n t : ℕ) (e : Option ℕ) → i ≡ Make d n t e → k ≡ Container → ⊥) → ((d p : ℕ) → i ≡ Spawn d p → k ≡ Locus → ⊥) → ⊥
unfolding allowed
bears_by me l (Make d n t e) k is made spawned = made d n t e refl (same_some k Container (sym (ap (λ (a : Act). a.newborn) is)))
bears_by me l (Spawn d p) k is made spawned = spawned d p refl (same_some k Locus (sym (ap (λ (a : Act). a.newborn) is)))
bears_by me l (Stop c) k is made spawned = self_bears me (Stop c) (entity_of l c) k is
bears_by me l (Go c) k is made spawned = self_bears me (Go c) (entity_of l c) k is
bears_by me l (Snap c) k is made spawned = self_bears me (Snap c) (entity_of l c) k is
bears_by me l i k is made spawned = some_none k (sym (ap (λ (a : Act). a.newborn) is))

pub make_pages : (l : LocusState) (i : Instr) (d n t : ℕ) (e : Option ℕ) → i ≡ Make d n t e → refusal l i ≡ None → reg l n ≤ 256
unfolding refusal
make_pages l i d n t e is free =
    let none : refusal l (Make d n t e) ≡ None = ap (refusal l) (sym is) ∙ free in
    few (reg l n) (passes _ NoPage (first_none (unless (nat_lt 0 (reg l n) && nat_le (reg l n) 256) NoPage) (no_free_slot l ∷ []) none).0)
  where
    few : (n : ℕ) → (nat_lt 0 n && nat_le n 256) ≡ true → n ≤ 256
    few n e = grind (arith, nat_tests)

-- THE PLACE OF THE LOCUS

pub kind_atlas : (x : ℕ) → kind_of x ≡ Atlas → x ≡ 0
kind_atlas x =
    elim (x == 0) as (λ b. (x == 0) ≡ b → (if b then Atlas else if nat_lt x 41 then Container else Locus) ≡ Atlas → x ≡ 0) [
      | true ↦ λ is _. eqb-true x 0 is
      | false ↦ λ _ e. absurd (not_atlas (nat_lt x 41) e)
    ] refl
  where
    not_atlas : (b : Bool) → (if b then Container else Locus) ≡ Atlas → ⊥
    not_atlas true e = cc
    not_atlas false e = cc
