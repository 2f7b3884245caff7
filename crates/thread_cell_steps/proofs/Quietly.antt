-- A step by lent cells that looks at no container is the table's, and leaves all blocks as they are.
use Rattle.std.proofs.Common.{◌≡◌, ◌≢◌, inl, inr, ℕ, ◌<◌, ◌≤◌, Bool, true, false, ◌||◌, List, [], ◌∷◌, slice_get, Some, refl, sym, ap, subst, ◌∙◌, arith}
use Rattle.base_types.specs.declared.histories.Entry.{Entry}
use Rattle.base_types.specs.declared.instructions.Instr.{Instr}
use Rattle.base_types.specs.declared.instructions.Instr.TheVariants.{Spawn}
use Rattle.page_store.specs.model_kernel.State.{NotBorn, Supply}
use Rattle.table_laws.specs.data_atlas_facts.Directory.{Directory}
use Rattle.table_laws.specs.act_alone.Loci.{locus_of}
use Rattle.table_laws.specs.act_calls.Calls.{atlas_state, is_make, is_map, is_spawn, is_unmap}
use Rattle.table_laws.specs.cell_steps.model_acts.Views.{may_name_itself}
use Rattle.table_laws.specs.cell_states.declared.cells.Cell.{Cell}
use Rattle.table_laws.specs.cell_states.declared.cells.Part.{Part}
use Rattle.table_laws.specs.cell_states.declared.cells.Part.TheVariants as part
use Rattle.table_laws.specs.cell_calls.Besides.{KeepsMemory, calls_container}
use Rattle.table_laws.specs.cell_steps.cell_newborns.Bearing.{IsNewContainer, IsUnbornContainer}
use Rattle.table_laws.specs.cell_plans.Plans.{IsPlanned}
use Rattle.table_laws.specs.cell_plans.declared.plans.Reach.{Reach}
use Rattle.table_laws.specs.cell_plans.declared.plans.Reach.TheVariants as reach
use Rattle.table_laws.specs.cell_steps.Advances.{StepsCells}
use Rattle.table_laws.specs.Lending.{Lends}
use Rattle.table_laws.specs.Quiet.{GoesQuietly}
use Rattle.table_laws.specs.Steps.{HasDirectory, IsPlannedAt, StepsQuietly}
use Rattle.table_laws.specs.Tables.{AreFewWrites, HasKind, IsOrderly}
use Rattle.table_laws.proofs.plain_states_lemmas.model_act_facts_lemmas.Alone.{wanted_says}
use Rattle.table_laws.proofs.Facing.{cells, faces_other, fits_born, high_at, locus_at}
use Rattle.table_laws.proofs.FacingAtlas.{atlas_born, faces_mapping}
use Rattle.table_laws.proofs.Pairs.{apart_goes, kept_goes, locus_born}
use Rattle.table_laws.proofs.Quiet.{steps_quietly}
use Rattle.table_laws.proofs.Triples.{StandAt, made_goes, spawned_goes}
use Rattle.thread_steps.specs.Lending.{numbers_of, touched_by}
use Rattle.thread_steps.specs.Stepping.{KeepsOrBegins, StepsApart}
use Rattle.thread_steps.proofs.Numbers.{container_free, first_is, locus_free, none_is, one_listed, rest_is}

-- WHICH STEPS SPAWN
calls_no_spawn : (i : Instr) → (calls_container i || may_name_itself i) ≡ true → is_spawn i ≡ false
calls_no_spawn (Spawn d p) calls = absurd (let clash : false ≡ true = calls in cc clash)
calls_no_spawn i calls = refl

maps_no_spawn : (i : Instr) → (is_map i || is_unmap i) ≡ true → is_spawn i ≡ false
maps_no_spawn (Spawn d p) maps = absurd (let clash : false ≡ true = maps in cc clash)
maps_no_spawn i maps = refl

makes_no_spawn : (i : Instr) → is_make i ≡ true → is_spawn i ≡ false
makes_no_spawn (Spawn d p) makes = absurd (let clash : false ≡ true = makes in cc clash)
makes_no_spawn i makes = refl

-- a container that keeps its memory stays one
memory_kind : (x : ℕ) (p q : Part) → 0 < x → x ≤ 40 → HasKind x p → KeepsMemory p q → HasKind x q
memory_kind x (part.Atlas a) q some low kind keeps = absurd (omega (arith, some, kind))
memory_kind x (part.Locus l) q some low kind keeps = absurd (omega (arith, low, kind))
memory_kind x (part.Container b) (part.Container k) some low kind keeps = (some, low)
memory_kind x (part.Container b) (part.Atlas a) some low kind keeps = absurd (let clash = keeps.memory in cc clash)
memory_kind x (part.Container b) (part.Locus l) some low kind keeps = absurd (let clash = keeps.memory in cc clash)

module _ (held : ℕ → Bool) (cs : List Cell) (orderly : IsOrderly held cs) (few : AreFewWrites cs) (d : Directory) (has : HasDirectory cs d)
    (c : Cell) (at : slice_get cs c.clock.entity ≡ Some c) (i : Instr) (r : Reach) (planned : IsPlanned c i r) where
  planned_at : IsPlannedAt cs c.clock.entity i r
  planned_at = record { cell = c; is = at; plan = planned }

  high : 40 < c.clock.entity
  high = high_at held cs orderly c.clock.entity c planned.locus at planned.runs.is

  here_born : cells held cs orderly c.clock.entity ≡ NotBorn → ⊥
  here_born = locus_born (cells held cs orderly c.clock.entity) (locus_of planned.locus) (locus_at held cs orderly c.clock.entity c planned.locus at planned.runs.is)

  -- WHAT BECOMES OF EACH CELL
  begun : (b b' : Cell) → slice_get cs b.clock.entity ≡ Some b → b'.clock.entity ≡ b.clock.entity → IsUnbornContainer b.part × IsNewContainer b'.part → GoesQuietly b b'
  begun b b' was same begins =
      let kind = subst (HasKind b.clock.entity) begins.0.is (orderly.kinds b.clock.entity b was) in
      made_goes b.clock.entity b b' kind.0 kind.1 same begins.0 begins.1

  container_goes : (b b' : Cell) → slice_get cs b.clock.entity ≡ Some b → b'.clock.entity ≡ b.clock.entity → 0 < b.clock.entity → b.clock.entity ≤ 40 → KeepsOrBegins b b' → GoesQuietly b b'
  container_goes b b' was same some low (inl keeps) =
      record { kind = subst (λ x. HasKind x b'.part) (sym same) (memory_kind b.clock.entity b.part b'.part some low (orderly.kinds b.clock.entity b was) keeps); memory = inl keeps }
  container_goes b b' was same some low (inr begins) = begun b b' was same begins

  module _ (cs' old new : List Cell) (e : Entry) (steps : (s : Supply) (words : ℕ → List ℕ) → StepsCells s words words c.clock.entity old new e) (lends : Lends cs cs' old new) where
    locus_goes : (c' : Cell) → slice_get cs' c'.clock.entity ≡ Some c' → c'.clock.entity ≡ c.clock.entity → GoesQuietly c c'
    locus_goes c' is same =
        let up = high in
        apart_goes held cs orderly c.clock.entity cs' old new e steps lends c.clock.entity c c' at (ap (slice_get cs') (sym same) ∙ is) same here_born (λ some low. absurd (omega (arith, up, low)))

    atlas_goes : (k k' : Cell) → slice_get cs k.clock.entity ≡ Some k → slice_get cs' k'.clock.entity ≡ Some k' → k'.clock.entity ≡ k.clock.entity → k.clock.entity ≡ 0 → GoesQuietly k k'
    atlas_goes k k' was is same zero_at =
        let there = ap (slice_get cs) (sym zero_at) ∙ was in
        apart_goes held cs orderly c.clock.entity cs' old new e steps lends 0 k k' there (ap (slice_get cs') (sym (same ∙ zero_at)) ∙ is) (same ∙ zero_at) (atlas_born held cs orderly k there) (λ some low. absurd (omega (arith, some)))

    born_goes : (b b' : Cell) → slice_get cs b.clock.entity ≡ Some b → slice_get cs' b'.clock.entity ≡ Some b' → b'.clock.entity ≡ b.clock.entity → (cells held cs orderly b.clock.entity ≡ NotBorn → ⊥)
        → KeepsOrBegins b b' → GoesQuietly b b'
    born_goes b b' was is same born (inl keeps) = kept_goes held cs orderly c.clock.entity cs' old new e steps lends b.clock.entity b b' (ap (slice_get cs') (sym same) ∙ is) same born keeps
    born_goes b b' was is same born (inr begins) = begun b b' was same begins

  -- WHERE THE LOCUS ALONE IS LENT
  pub quiet_alone : (c' : Cell) (j : Instr) (e : Entry) (cs' : List Cell) → StepsApart c c' [] [] [] [] j e → Lends cs cs' (c ∷ []) (c' ∷ []) → StepsQuietly c.clock.entity cs cs' e
  quiet_alone c' j e cs' apart lends =
      steps_quietly c.clock.entity cs cs' (c ∷ []) (c' ∷ []) e apart.step lends orderly.numbers (omega arith)
      (locus_goes cs' (c ∷ []) (c' ∷ []) e apart.step lends c' lends.stand.0 lends.numbers.0, tt)

  -- WITH THE ATLAS
  pub quiet_atlas : (k c' k' : Cell) (j : Instr) (e : Entry) (cs' : List Cell) → k.clock.entity ≡ 0 → StepsApart c c' (k ∷ []) (k' ∷ []) [] [] j e → Lends cs cs' (c ∷ k ∷ []) (c' ∷ k' ∷ []) → StepsQuietly c.clock.entity cs cs' e
  quiet_atlas k c' k' j e cs' zero_at apart lends =
      steps_quietly c.clock.entity cs cs' (c ∷ k ∷ []) (c' ∷ k' ∷ []) e apart.step lends orderly.numbers (omega arith) (
        locus_goes cs' (c ∷ k ∷ []) (c' ∷ k' ∷ []) e apart.step lends c' lends.stand.0 lends.numbers.0,
        (atlas_goes cs' (c ∷ k ∷ []) (c' ∷ k' ∷ []) e apart.step lends k k' lends.stood.1.0 lends.stand.1.0 lends.numbers.1.0 zero_at, tt),
      )

-- WITH ANOTHER ENTITY
module _ (held : ℕ → Bool) (cs : List Cell) (orderly : IsOrderly held cs) (few : AreFewWrites cs) (d : Directory) (has : HasDirectory cs d)
    (c : Cell) (at : slice_get cs c.clock.entity ≡ Some c) (i : Instr) (e : Entry) (cs' : List Cell) where
  module _ (o c' o' : Cell) (apart : StepsApart c c' [] [] (o ∷ []) (o' ∷ []) i e) (lends : Lends cs cs' (c ∷ o ∷ []) (c' ∷ o' ∷ [])) (no_atlas : o.clock.entity ≢ 0) where
    other_goes : (r : Reach) → IsPlanned c i r → ((x : ℕ) → r ≢ reach.Look x) → numbers_of (o ∷ []) ≡ touched_by (atlas_state d) r → GoesQuietly o o'
    other_goes (reach.Alone own) p look numbers = absurd (none_is _ _ numbers)
    other_goes (reach.Beside y) p look numbers =
        let here : o.clock.entity ≡ y = first_is _ _ _ _ numbers in
        let there = planned_at held cs orderly few d has c at i (reach.Beside y) p in
        let was = lends.stood.1.0 in
        let faces = faces_other held cs orderly c.clock.entity y i few there c o at (ap (slice_get cs) (sym here) ∙ was) in
        born_goes held cs orderly few d has c at i (reach.Beside y) p cs' (c ∷ o ∷ []) (c' ∷ o' ∷ []) e apart.step lends o o' was lends.stand.1.0 lends.numbers.1.0
        (fits_born held cs orderly i o.clock.entity o was faces.fits) (apart.memory (calls_no_spawn i p.wants.calls)).0
    other_goes (reach.Look y) p look numbers = absurd (look y refl)
    other_goes (reach.Mapping y) p look numbers = absurd (none_is _ _ (sym (rest_is _ _ _ _ numbers)))
    other_goes reach.Make p look numbers = absurd (no_atlas (first_is _ _ _ _ numbers))
    other_goes reach.Spawn p look numbers = absurd (no_atlas (first_is _ _ _ _ numbers))

    pub quiet_other : (r : Reach) → IsPlanned c i r → ((x : ℕ) → r ≢ reach.Look x) → numbers_of (o ∷ []) ≡ touched_by (atlas_state d) r → StepsQuietly c.clock.entity cs cs' e
    quiet_other r p look numbers =
        steps_quietly c.clock.entity cs cs' (c ∷ o ∷ []) (c' ∷ o' ∷ []) e apart.step lends orderly.numbers (omega arith)
        (locus_goes held cs orderly few d has c at i r p cs' (c ∷ o ∷ []) (c' ∷ o' ∷ []) e apart.step lends c' lends.stand.0 lends.numbers.0, (other_goes r p look numbers, tt))

  -- WITH BOTH
  module _ (k o c' k' o' : Cell) (apart : StepsApart c c' (k ∷ []) (k' ∷ []) (o ∷ []) (o' ∷ []) i e) (lends : Lends cs cs' (c ∷ k ∷ o ∷ []) (c' ∷ k' ∷ o' ∷ [])) (zero_at : k.clock.entity ≡ 0) where
    stand_at : StandAt cs cs' c k o c' k' o' c.clock.entity 0 o.clock.entity
    stand_at = record {
      len = lends.len;
      was_a = at;
      was_k = ap (slice_get cs) (sym zero_at) ∙ lends.stood.1.0;
      was_b = lends.stood.1.1.0;
      is_a = ap (slice_get cs') (sym lends.numbers.0) ∙ lends.stand.0;
      is_k = ap (slice_get cs') (sym (lends.numbers.1.0 ∙ zero_at)) ∙ lends.stand.1.0;
      is_b = ap (slice_get cs') (sym lends.numbers.1.1.0) ∙ lends.stand.1.1.0;
      others = λ n far none apart. lends.others n (far, ((λ same. none (same ∙ zero_at)), (apart, tt)));
    }

    third_goes : (r : Reach) → IsPlanned c i r → numbers_of (k ∷ o ∷ []) ≡ touched_by (atlas_state d) r → GoesQuietly o o'
    third_goes (reach.Alone own) p numbers = absurd (none_is _ _ numbers)
    third_goes (reach.Beside y) p numbers = absurd (none_is _ _ (rest_is _ _ _ _ numbers))
    third_goes (reach.Look y) p numbers = absurd (none_is _ _ (rest_is _ _ _ _ numbers))
    third_goes (reach.Mapping y) p numbers =
        let here : o.clock.entity ≡ y = first_is _ _ _ _ (rest_is _ _ _ _ numbers) in
        let there = planned_at held cs orderly few d has c at i (reach.Mapping y) p in
        let was = lends.stood.1.1.0 in
        let faces = faces_mapping held cs orderly c.clock.entity y i c k o few there at stand_at.was_k (ap (slice_get cs) (sym here) ∙ was) in
        born_goes held cs orderly few d has c at i (reach.Mapping y) p cs' (c ∷ k ∷ o ∷ []) (c' ∷ k' ∷ o' ∷ []) e apart.step lends o o' was lends.stand.1.1.0 lends.numbers.1.1.0
        faces.born (apart.memory (maps_no_spawn i p.wants.maps)).0
    third_goes reach.Make p numbers =
        let free = container_free (atlas_state d) o.clock.entity (one_listed _ o.clock.entity (rest_is _ _ _ _ numbers)) in
        container_goes held cs orderly few d has c at i reach.Make p o o' lends.stood.1.1.0 lends.numbers.1.1.0 (omega (arith, free.1)) (omega (arith, free.0, free.1))
        (apart.memory (makes_no_spawn i (ap is_make (p.instr ∙ sym (wanted_says 64 (locus_of p.locus)).instr) ∙ p.wants.instr))).0
    third_goes reach.Spawn p numbers =
        let free = locus_free (atlas_state d) o.clock.entity (one_listed _ o.clock.entity (rest_is _ _ _ _ numbers)) in
        let there = planned_at held cs orderly few d has c at i reach.Spawn p in
        spawned_goes held cs orderly c.clock.entity i reach.Spawn there cs' e c k o c' k' o' o.clock.entity stand_at lends apart.step d has there free.0 free.1

    pub quiet_both : (r : Reach) → IsPlanned c i r → numbers_of (k ∷ o ∷ []) ≡ touched_by (atlas_state d) r → StepsQuietly c.clock.entity cs cs' e
    quiet_both r p numbers =
        steps_quietly c.clock.entity cs cs' (c ∷ k ∷ o ∷ []) (c' ∷ k' ∷ o' ∷ []) e apart.step lends orderly.numbers (omega arith) (
          locus_goes held cs orderly few d has c at i r p cs' (c ∷ k ∷ o ∷ []) (c' ∷ k' ∷ o' ∷ []) e apart.step lends c' lends.stand.0 lends.numbers.0,
          (atlas_goes held cs orderly few d has c at i r p cs' (c ∷ k ∷ o ∷ []) (c' ∷ k' ∷ o' ∷ []) e apart.step lends k k' lends.stood.1.0 lends.stand.1.0 lends.numbers.1.0 zero_at, (third_goes r p numbers, tt)),
        )
