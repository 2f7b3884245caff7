-- What a step writes.
use Rattle.std.proofs.Common.{◌≡◌, ◌⊎◌, inl, inr, ℕ, Bool, true, false, ◌&&◌, ◌||◌, ◌==◌, nat_lt, if◌then◌else◌, List, [], ◌∷◌, Option, Some, None, is_some, MatchOption, refl, sym, ap, subst, ◌∙◌, eqb-true}
use Rattle.std.specs.List.{list_any}
use Rattle.plain_states.specs.base_types.declared.histories.Entry.{Entry}
use Rattle.plain_states.specs.base_types.declared.histories.Touch.{Touch}
use Rattle.plain_states.specs.base_types.declared.instructions.Instr.{Instr}
use Rattle.plain_states.specs.base_types.declared.instructions.Instr.TheVariants.{Map, Unmap, Make, Spawn, Stop, Go, Snap}
use Rattle.plain_states.specs.model_kernel.Acts.{Act, allowed, wanted}
use Rattle.plain_states.specs.model_kernel.Changes.{Access, insert_access, merged, ordered, touches_of}
use Rattle.plain_states.specs.model_kernel.Histories.{writes}
use Rattle.plain_states.specs.model_kernel.Outcomes.{Outcome, free_container, free_locus, make, make_at, outcome, spawn, spawn_at}
use Rattle.plain_states.specs.model_kernel.Refusals.{entity_of, instr_at, reg, refusal}
use Rattle.plain_states.specs.model_kernel.State.{AtlasState, Cell, KernelState, LocusCell, LocusState, Supply}
use Rattle.plain_states.specs.model_kernel.Steps.{accesses_of, atlas_in, change_of, outcome_in, seen_atlas, seen_other, with_atlas_access, with_newborn_access, with_other_access}
use Rattle.plain_states.proofs.model_kernel_lemmas.Faithful.{wanted_is, IsNewborn}
use Rattle.plain_states.specs.model_acts.Views.{may_name_itself}
use Rattle.plain_states.proofs.model_acts_lemmas.Beside.{wanted_same}
use Rattle.plain_states.proofs.model_act_facts_lemmas.Alone.{wanted_allowed, wanted_says}
use Rattle.act_atlas_laws.specs.act_calls.Calls.{WantsBirth, is_make, is_spawn}
use Rattle.act_atlas_laws.proofs.act_calls_lemmas.BirthLemmas.{birth_instr, make_made, spawn_made}
use Rattle.cell_wish_laws.proofs.model_run_laws_lemmas.Writing.{IsStep}
use Rattle.cell_newborns.proofs.cell_states_lemmas.Stepping.{alone_bears}
use Rattle.cell_plans.specs.cell_calls.Besides.{calls_container}
use Rattle.cell_plans.proofs.cell_calls_lemmas.Wants.{self_leaves, wanted_apart}
use Rattle.cell_newborns.proofs.BirthSteps.{make_touches, spawn_touches}
use Rattle.cell_looks.proofs.LookSteps.{look_touches}
use Rattle.cell_plans.proofs.cell_calls_lemmas.MapSteps.{mapping_touches}
use Rattle.cell_plans.specs.Plans.{IsCallBeside, PlansFor}
use Rattle.cell_plans.specs.declared.plans.Reach.{Reach}
use Rattle.cell_plans.specs.declared.plans.Reach.TheVariants as reach
use Rattle.cell_step_laws.specs.Touching.{IsTouchedBy}
use Rattle.std.proofs.lemmas.Bool.{true≢false}
use Rattle.cell_looks.proofs.Somehow.{same_locus}

-- ACCESSES

-- one of the accesses is of x
abbrev IsAccessed : ℕ → List Access → Type 0
IsAccessed x [] = ⊥
IsAccessed x (m ∷ ms) = (x ≡ m.entity) ⊎ IsAccessed x ms

any_accessed : (w : KernelState) (ms : List Access) (x : ℕ) → list_any (λ t. t.entity == x && t.wrote) (touches_of w ms) ≡ true → IsAccessed x ms
any_accessed w [] x h = cc
any_accessed w (m ∷ ms) x h =
    elim (m.entity == x) as (λ b. (m.entity == x) ≡ b → (b && is_some m.new || list_any (λ (t : Touch). t.entity == x && t.wrote) (touches_of w ms)) ≡ true → (x ≡ m.entity) ⊎ IsAccessed x ms) [
      | true ↦ λ is _. inl (sym (eqb-true m.entity x is))
      | false ↦ λ _ k. inr (any_accessed w ms x k)
    ] refl h

merged_accessed : (m n : Access) (x : ℕ) → x ≡ (merged m n).entity → (x ≡ m.entity) ⊎ (x ≡ n.entity)
merged_accessed m n x e = elim (is_some n.new) as (λ b. x ≡ (if◌then◌else◌ {A = Access} b n m).entity → (x ≡ m.entity) ⊎ (x ≡ n.entity)) [ true ↦ λ e. inr e | false ↦ λ e. inl e ] e

merged_case : (m n : Access) (ns : List Access) (x : ℕ) → (x ≡ (merged m n).entity) ⊎ IsAccessed x ns → (x ≡ m.entity) ⊎ ((x ≡ n.entity) ⊎ IsAccessed x ns)
merged_case m n ns x (inl e) = elim (merged_accessed m n x e) as (λ _. (x ≡ m.entity) ⊎ ((x ≡ n.entity) ⊎ IsAccessed x ns)) [ inl e ↦ inl e | inr e ↦ inr (inl e) ]
merged_case m n ns x (inr k) = inr (inr k)

later_case : (m n : Access) (ns : List Access) (x : ℕ) → (IsAccessed x (insert_access m ns) → (x ≡ m.entity) ⊎ IsAccessed x ns) → (x ≡ n.entity) ⊎ IsAccessed x (insert_access m ns) → (x ≡ m.entity) ⊎ ((x ≡ n.entity) ⊎ IsAccessed x ns)
later_case m n ns x rest (inl e) = inr (inl e)
later_case m n ns x rest (inr k) = elim (rest k) as (λ _. (x ≡ m.entity) ⊎ ((x ≡ n.entity) ⊎ IsAccessed x ns)) [ inl e ↦ inl e | inr q ↦ inr (inr q) ]

inserted : (m : Access) (ns : List Access) (x : ℕ) → IsAccessed x (insert_access m ns) → (x ≡ m.entity) ⊎ IsAccessed x ns
inserted m [] x h = h
inserted m (n ∷ ns) x h =
    elim (nat_lt m.entity n.entity) as (λ b. IsAccessed x (if b then m ∷ n ∷ ns else if m.entity == n.entity then merged m n ∷ ns else n ∷ insert_access m ns) → (x ≡ m.entity) ⊎ IsAccessed x (n ∷ ns)) [
      | true ↦ λ k. k
      | false ↦ elim (m.entity == n.entity) as (λ b. IsAccessed x (if b then merged m n ∷ ns else n ∷ insert_access m ns) → (x ≡ m.entity) ⊎ IsAccessed x (n ∷ ns)) [
        | true ↦ merged_case m n ns x
        | false ↦ later_case m n ns x (inserted m ns x)
      ]
    ] h

ordered_accessed : (ms : List Access) (x : ℕ) → IsAccessed x (ordered ms) → IsAccessed x ms
ordered_accessed [] x h = h
ordered_accessed (m ∷ ms) x h = elim (inserted m (ordered ms) x h) as (λ _. (x ≡ m.entity) ⊎ IsAccessed x ms) [ inl e ↦ inl e | inr k ↦ inr (ordered_accessed ms x k) ]

-- THE ACCESSES OF A STEP

abbrev pub IsOther : Option ℕ → ℕ → Type 0
IsOther None x = ⊥
IsOther (Some y) x = x ≡ y

abbrev pub IsBornAs : Option (ℕ × Cell) → ℕ → Type 0
IsBornAs None x = ⊥
IsBornAs (Some b) x = x ≡ b.0

-- the atlas, the other entity, what is born, or the locus
abbrev pub IsOneOf : ℕ → Bool → Option ℕ → Option (ℕ × Cell) → ℕ → Type 0
IsOneOf me atlas other newborn x = ((atlas ≡ true) × (x ≡ 0)) ⊎ (IsOther other x ⊎ (IsBornAs newborn x ⊎ (x ≡ me)))

own_accessed : (me : ℕ) (k : Option Cell) (newborn : Option (ℕ × Cell)) (x : ℕ) → IsAccessed x (with_newborn_access newborn (record { entity = me; new = k } ∷ [])) → IsBornAs newborn x ⊎ (x ≡ me)
own_accessed me k None x (inl e) = inr e
own_accessed me k None x (inr h) = absurd h
own_accessed me k (Some b) x (inl e) = inl e
own_accessed me k (Some b) x (inr (inl e)) = inr e
own_accessed me k (Some b) x (inr (inr h)) = absurd h

other_accessed : (other : Option ℕ) (new : Option Cell) (rest : List Access) (x : ℕ) → IsAccessed x (with_other_access other new rest) → IsOther other x ⊎ IsAccessed x rest
other_accessed None new rest x h = inr h
other_accessed (Some y) new rest x h = h

atlas_accessed : (b : Bool) (a : AtlasState) (rest : List Access) (x : ℕ) → IsAccessed x (with_atlas_access b a rest) → ((b ≡ true) × (x ≡ 0)) ⊎ IsAccessed x rest
atlas_accessed true a rest x (inl e) = inl (refl, e)
atlas_accessed true a rest x (inr h) = inr h
atlas_accessed false a rest x h = inr h

one_accessed : (me : ℕ) (act : Act) (o : Outcome) (x : ℕ) → IsAccessed x (accesses_of me act o) → IsOneOf me act.atlas act.other o.newborn x
one_accessed me act o x h =
    elim (atlas_accessed act.atlas o.atlas _ x h) as (λ _. IsOneOf me act.atlas act.other o.newborn x) [
      | inl z ↦ inl z
      | inr k ↦ elim (other_accessed act.other o.other _ x k) as (λ _. IsOneOf me act.atlas act.other o.newborn x) [
        | inl y ↦ inr (inl y)
        | inr j ↦ inr (inr (own_accessed me (Some (LocusCell o.locus)) o.newborn x j))
      ]
    ]

-- what the step of a locus writes
step_accessed : (s : Supply) (me : ℕ) (w : KernelState) (e : Entry) (x : ℕ) (k : IsStep s me w e) → writes e x ≡ true
    → IsOneOf me (wanted me k.locus).atlas (wanted me k.locus).other (outcome_in s k.locus (wanted me k.locus) w).newborn x
unfolding change_of
step_accessed s me w e x k h =
    let act = wanted me k.locus in
    let o = outcome_in s k.locus act w in
    one_accessed me act o x (ordered_accessed (accesses_of me act o) x (any_accessed w (ordered (accesses_of me act o)) x (ap (λ (e : Entry). writes e x) (sym k.entry) ∙ h)))

-- WHAT IS BORN

none_born : (A : Type 0) (atlas : Bool) (other : Option ℕ) (a a' : AtlasState) (y : ℕ) (n : Option (ℕ × Cell)) → other ≡ Some y → MatchOption n A (λ b. IsNewborn atlas other a a' b) → n ≡ None
none_born A atlas other a a' y None is h = refl
none_born A atlas other a a' y (Some b) is h = absurd (some_none (sym is ∙ h.1))
  where
    some_none : Some y ≡ None → ⊥
    some_none e = cc

none_beside : (s : Supply) (me : ℕ) (l : LocusState) (a : AtlasState) (cell : Cell) (y : ℕ) → (wanted me l).other ≡ Some y → (outcome s l (wanted me l) a cell).newborn ≡ None
none_beside s me l a cell y is =
    let o = outcome s l (wanted me l) a cell in
    none_born _ (wanted me l).atlas (wanted me l).other a o.atlas y o.newborn is (wanted_is s me l a cell).bears

module _ (s : Supply) (me : ℕ) (l : LocusState) (a : AtlasState) (cell : Cell) (x : ℕ) where
  make_bears : (d pages tag : ℕ) (entry : Option ℕ) → IsBornAs (make s l a d pages tag entry).newborn x → free_container a ≡ Some x
  unfolding make
  make_bears d pages tag entry = by (free_container a)
    where
      by : (n : Option ℕ) → IsBornAs (make_at s l a d pages tag entry n).newborn x → n ≡ Some x
      by None h = absurd h
      by (Some y) h = ap Some (sym h)

  spawn_bears : (d place : ℕ) → IsBornAs (spawn l a d place).newborn x → free_locus a ≡ Some x
  unfolding spawn
  spawn_bears d place = by (free_locus a)
    where
      by : (n : Option ℕ) → IsBornAs (spawn_at l a d place n).newborn x → n ≡ Some x
      by None h = absurd h
      by (Some y) h = ap Some (sym h)

  container_born : WantsBirth is_make l → IsBornAs (outcome s l (wanted me l) a cell).newborn x → free_container a ≡ Some x
  container_born wants h = by (instr_at l) refl (birth_instr is_make l wants)
    where
      by : (i : Instr) → instr_at l ≡ i → is_make i ≡ true → free_container a ≡ Some x
      by (Make d n t entry) is kind = make_bears d (reg l n) (reg l t) entry (subst (λ (o : Outcome). IsBornAs o.newborn x) (make_made l d n t entry wants is me s a cell) h)
      by i is kind = cc

  locus_born : WantsBirth is_spawn l → IsBornAs (outcome s l (wanted me l) a cell).newborn x → free_locus a ≡ Some x
  locus_born wants h = by (instr_at l) refl (birth_instr is_spawn l wants)
    where
      by : (i : Instr) → instr_at l ≡ i → is_spawn i ≡ true → free_locus a ≡ Some x
      by (Spawn d p) is kind = spawn_bears d p (subst (λ (o : Outcome). IsBornAs o.newborn x) (spawn_made l d p wants is me s a cell) h)
      by i is kind = cc

-- CALLS

calls_leave : (me : ℕ) (l : LocusState) (i : Instr) → (calls_container i || may_name_itself i) ≡ true → (allowed me l i).atlas ≡ false
unfolding allowed
calls_leave me l (Stop c) h = self_leaves me (entity_of l c) (Stop c)
calls_leave me l (Go c) h = self_leaves me (entity_of l c) (Go c)
calls_leave me l (Snap c) h = self_leaves me (entity_of l c) (Snap c)
calls_leave me l (Map d a c b n rights) h = cc
calls_leave me l (Unmap d a) h = cc
calls_leave me l (Make d n t e) h = cc
calls_leave me l (Spawn d p) h = cc
calls_leave me l i h = refl

call_touches : (me y : ℕ) (l : LocusState) (i : Instr) → IsCallBeside me l i y → ((wanted me l).atlas ≡ false) × ((wanted me l).other ≡ Some y)
call_touches me y l i h =
    let at : instr_at l ≡ i = sym (wanted_says 64 l).instr ∙ h.wants.instr in
    let none : refusal l (instr_at l) ≡ None = sym (wanted_says 64 l).refused ∙ h.wants.allowed in
    let same : wanted me l ≡ wanted 64 l =
    elim (may_name_itself i) as (λ b. may_name_itself i ≡ b → wanted me l ≡ wanted 64 l) [
      | true ↦ λ names. wanted_apart me y l h.wants.other (λ e. h.apart names (sym e))
      | false ↦ λ names. wanted_same me 64 l (ap may_name_itself at ∙ names)
    ] refl in (
      ap (λ (w : Act). w.atlas) (same ∙ wanted_allowed 64 l none ∙ ap (allowed 64 l) at) ∙ calls_leave 64 l i h.calls,
      ap (λ (w : Act). w.other) same ∙ h.wants.other,
    )

-- BY THE PLAN

written_as : (me x : ℕ) (atlas b : Bool) (other o : Option ℕ) (newborn n : Option (ℕ × Cell)) → atlas ≡ b → other ≡ o → newborn ≡ n → IsOneOf me atlas other newborn x → IsOneOf me b o n x
written_as me x atlas b other o newborn n is_atlas is_other is_newborn h =
    subst (λ n. IsOneOf me b o n x) is_newborn (subst (λ o. IsOneOf me b o newborn x) is_other (subst (λ b. IsOneOf me b other newborn x) is_atlas h))

only_own : (me x : ℕ) → IsOneOf me false None None x → (x ≡ me) ⊎ ⊥
only_own me x (inl k) = absurd (true≢false (sym k.0))
only_own me x (inr (inl k)) = absurd k
only_own me x (inr (inr (inl k))) = absurd k
only_own me x (inr (inr (inr e))) = inl e

own_or_other : (me x y : ℕ) → IsOneOf me false (Some y) None x → (x ≡ me) ⊎ (x ≡ y)
own_or_other me x y (inl k) = absurd (true≢false (sym k.0))
own_or_other me x y (inr (inl e)) = inr e
own_or_other me x y (inr (inr (inl k))) = absurd k
own_or_other me x y (inr (inr (inr e))) = inl e

own_or_both : (me x y : ℕ) → IsOneOf me true (Some y) None x → (x ≡ me) ⊎ ((x ≡ 0) ⊎ (x ≡ y))
own_or_both me x y (inl k) = inr (inl k.1)
own_or_both me x y (inr (inl e)) = inr (inr e)
own_or_both me x y (inr (inr (inl k))) = absurd k
own_or_both me x y (inr (inr (inr e))) = inl e

own_or_born : (me x : ℕ) (n : Option (ℕ × Cell)) (P : Type 0) → (IsBornAs n x → P) → IsOneOf me true None n x → (x ≡ me) ⊎ ((x ≡ 0) ⊎ P)
own_or_born me x n P f (inl k) = inr (inl k.1)
own_or_born me x n P f (inr (inl k)) = absurd k
own_or_born me x n P f (inr (inr (inl k))) = inr (inr (f k))
own_or_born me x n P f (inr (inr (inr e))) = inl e

module _ (s : Supply) (me : ℕ) (w : KernelState) (l : LocusState) (x : ℕ) where
  abbrev act : Act
  act = wanted me l

  abbrev made : Outcome
  made = outcome_in s l act w

  by_reach : (i : Instr) (r : Reach) → PlansFor me l i r → IsOneOf me act.atlas act.other made.newborn x → (x ≡ me) ⊎ IsTouchedBy r (atlas_in (w 0).cell) x
  by_reach i (reach.Alone own) wants h = only_own me x (written_as me x _ _ _ _ _ _ wants.alone.atlas wants.alone.other (alone_bears s me l _ _ wants.alone) h)
  by_reach i (reach.Beside y) wants h =
      let t = call_touches me y l i wants in
      own_or_other me x y (written_as me x _ _ _ _ _ _ t.0 t.1 (none_beside s me l _ _ y t.1) h)
  by_reach i (reach.Look y) wants h =
      let t = look_touches me y l wants in
      own_or_other me x y (written_as me x _ _ _ _ _ _ t.atlas t.other (none_beside s me l _ _ y t.other) h)
  by_reach i (reach.Mapping y) wants h =
      let t = mapping_touches me y l i wants in
      own_or_both me x y (written_as me x _ _ _ _ _ _ t.atlas t.other (none_beside s me l _ _ y t.other) h)
  by_reach i reach.Make wants h =
      let t = make_touches me l wants in
      own_or_born me x made.newborn (free_container (atlas_in (w 0).cell) ≡ Some x)
      (λ born. subst (λ b. free_container (seen_atlas w b) ≡ Some x) t.atlas (container_born s me l (seen_atlas w act.atlas) (seen_other w act.other) x wants born))
      (written_as me x _ _ _ _ _ _ t.atlas t.other refl h)
  by_reach i reach.Spawn wants h =
      let t = spawn_touches me l wants in
      own_or_born me x made.newborn (free_locus (atlas_in (w 0).cell) ≡ Some x)
      (λ born. subst (λ b. free_locus (seen_atlas w b) ≡ Some x) t.atlas (locus_born s me l (seen_atlas w act.atlas) (seen_other w act.other) x wants born))
      (written_as me x _ _ _ _ _ _ t.atlas t.other refl h)

-- the step of a locus with this plan
pub plan_writes : (s : Supply) (me : ℕ) (w : KernelState) (e : Entry) (l : LocusState) (i : Instr) (r : Reach) (x : ℕ) → IsStep s me w e → (w me).cell ≡ LocusCell l → PlansFor me l i r → writes e x ≡ true
    → (x ≡ me) ⊎ IsTouchedBy r (atlas_in (w 0).cell) x
plan_writes s me w e l i r x k there wants h =
    let same : k.locus ≡ l = same_locus k.locus l (sym k.there ∙ there) in
    by_reach s me w l x i r wants (subst (λ l. IsOneOf me (wanted me l).atlas (wanted me l).other (outcome_in s l (wanted me l) w).newborn x) same (step_accessed s me w e x k h))
