-- Which cells the next step of a locus touches.
use Rattle.std.proofs.Common.{◌≡◌, ◌≢◌, ℕ, ◌<◌, Bool, List, [], ◌∷◌, get_or, slice_get, Some, refl, sym, ap, subst, ◌∙◌, arith}
use Rattle.std.proofs.lemmas.Option.{same_Some, slice_get-get_or}
use Rattle.std.specs.Option.{option_to_list}
use Rattle.base_types.specs.declared.instructions.Instr.{Instr}
use Rattle.page_store.specs.model_kernel.Outcomes.{free_container, free_locus}
use Rattle.page_store.specs.model_kernel.State.{AtlasState}
use Rattle.table_laws.specs.data_atlas_facts.Directory.{Directory}
use Rattle.table_laws.specs.act_calls.Calls.{atlas_state}
use Rattle.table_laws.specs.cell_states.declared.cells.Cell.{Cell}
use Rattle.table_laws.specs.cell_states.declared.cells.Part.TheVariants as part
use Rattle.table_laws.specs.cell_plans.Plans.{IsPlanned}
use Rattle.table_laws.specs.cell_plans.declared.plans.Reach.{Reach}
use Rattle.table_laws.specs.cell_plans.declared.plans.Reach.TheVariants as reach
use Rattle.table_laws.specs.Steps.{HasDirectory, IsPlannedAt}
use Rattle.table_laws.specs.Tables.{IsOrderly}
use Rattle.table_laws.proofs.Facing.{high_at, other_apart}
use Rattle.table_laws.proofs.FacingAtlas.{directory_at, making_below, mapping_between, spawning_above}
use Rattle.table_steps.proofs.FacingLook.{look_below}
use Rattle.thread_cell_steps.specs.Advancing.{second_of, ShowsAtlas, WantsOthers}
use Rattle.thread_steps.specs.Lending.{numbers_of, touched_by}
use Rattle.thread_steps.proofs.Numbers.{container_free, first_is, locus_free, none_is, one_listed, rest_is}
use Rattle.thread_steps.proofs.OnePlan.{one_plan}

same_directory : (d k : Directory) → part.Atlas d ≡ part.Atlas k → d ≡ k
same_directory d k e = cc

module _ (held : ℕ → Bool) (cs : List Cell) (orderly : IsOrderly held cs) where
  -- a table in order has a directory
  pub directory_in : Cell → (d : Directory) × HasDirectory cs d
  directory_in c =
      let count = orderly.numbers.len in
      let is : slice_get cs 0 ≡ Some (get_or cs 0 c) = slice_get-get_or cs 0 c (omega (arith, count)) in
      let f = directory_at held cs orderly (get_or cs 0 c) is in
      (f.0, record { cell = get_or cs 0 c; is = is; part = f.1 })

  -- and the cell of the atlas shows it
  pub shows_atlas : (d : Directory) → HasDirectory cs d → (k : Cell) → slice_get cs k.clock.entity ≡ Some k → ShowsAtlas (atlas_state d) k
  shows_atlas d has k at = λ none.
      (d, ap (λ (c : Cell). c.part) (same_Some k has.cell (sym at ∙ ap (slice_get cs) none ∙ has.is)) ∙ has.part, refl)

module _ (cs : List Cell) (c : Cell) (at : slice_get cs c.clock.entity ≡ Some c) (d : Directory) (has : HasDirectory cs d) (i : Instr) (r : Reach) (planned : IsPlanned c i r) where
  pub wants_others : (lent : List ℕ) → lent ≢ touched_by (atlas_state d) r → WantsOthers cs c.clock.entity lent
  wants_others lent others = record { directory = d; has = has; instr = i; reach = r; planned = record { cell = c; is = at; plan = planned }; others = others }

  -- whoever lends what one plan touches lends rightly
  pub wants_these : (lent : List ℕ) → lent ≡ touched_by (atlas_state d) r → WantsOthers cs c.clock.entity lent → ⊥
  wants_these lent these w =
      let here = same_Some w.planned.cell c (sym w.planned.is ∙ at) in
      let plan = subst (λ (k : Cell). IsPlanned k w.instr w.reach) here w.planned.plan in
      let same_cell = same_Some w.has.cell has.cell (sym w.has.is ∙ has.is) in
      let same = same_directory w.directory d (sym w.has.part ∙ ap (λ (k : Cell). k.part) same_cell ∙ has.part) in
      w.others (these ∙ (one_plan (atlas_state d) c i w.instr r w.reach planned plan).1 ∙ ap (λ k. touched_by (atlas_state k) w.reach) (sym same))

-- no other cell is lent where an act touches the locus alone
pub alone_fits : (a : AtlasState) (r : Reach) → [] ≡ touched_by a r → (own : _) × (r ≡ reach.Alone own)
alone_fits a (reach.Alone own) fits = (own, refl)
alone_fits a (reach.Beside y) fits = absurd (none_is _ _ (sym fits))
alone_fits a (reach.Look y) fits = absurd (none_is _ _ (sym fits))
alone_fits a (reach.Mapping y) fits = absurd (none_is _ _ (sym fits))
alone_fits a reach.Make fits = absurd (none_is _ _ (sym fits))
alone_fits a reach.Spawn fits = absurd (none_is _ _ (sym fits))

-- where two are touched, the first is the atlas
pub second_touched : (a : AtlasState) (r : Reach) (x : ℕ) → second_of a r ≡ Some x → 0 ∷ x ∷ [] ≡ touched_by a r
second_touched a (reach.Mapping y) x is = ap (λ z. 0 ∷ z ∷ []) (sym (same_Some y x is))
second_touched a reach.Make x is = ap (λ o. 0 ∷ option_to_list o) (sym is)
second_touched a reach.Spawn x is = ap (λ o. 0 ∷ option_to_list o) (sym is)
second_touched a (reach.Alone own) x is = absurd (cc is)
second_touched a (reach.Beside y) x is = absurd (cc is)
second_touched a (reach.Look y) x is = absurd (cc is)

pub second_is : (a : AtlasState) (r : Reach) (k x : ℕ) → k ∷ x ∷ [] ≡ touched_by a r → (k ≡ 0) × (second_of a r ≡ Some x)
second_is a (reach.Mapping y) k x fits = (first_is _ _ _ _ fits, ap Some (sym (first_is _ _ _ _ (rest_is _ _ _ _ fits))))
second_is a reach.Make k x fits = (first_is _ _ _ _ fits, one_listed (free_container a) x (rest_is _ _ _ _ fits))
second_is a reach.Spawn k x fits = (first_is _ _ _ _ fits, one_listed (free_locus a) x (rest_is _ _ _ _ fits))
second_is a (reach.Alone own) k x fits = absurd (none_is _ _ fits)
second_is a (reach.Beside y) k x fits = absurd (none_is _ _ (rest_is _ _ _ _ fits))
second_is a (reach.Look y) k x fits = absurd (none_is _ _ (rest_is _ _ _ _ fits))

-- WHO IS TOUCHED IS ANOTHER than the locus
module _ (held : ℕ → Bool) (cs : List Cell) (orderly : IsOrderly held cs) (d : Directory) (has : HasDirectory cs d) (c : Cell) (at : slice_get cs c.clock.entity ≡ Some c) (i : Instr) where
  abbrev Planned : Reach → Type 0
  Planned r = IsPlanned c i r

  there : (r : Reach) → Planned r → IsPlannedAt cs c.clock.entity i r
  there r p = record { cell = c; is = at; plan = p }

  pub locus_high : (r : Reach) → Planned r → 40 < c.clock.entity
  locus_high r p = high_at held cs orderly c.clock.entity c p.locus at p.runs.is

  pub one_apart : (o : Cell) → slice_get cs o.clock.entity ≡ Some o → (r : Reach) → Planned r → numbers_of (o ∷ []) ≡ touched_by (atlas_state d) r → c.clock.entity ≢ o.clock.entity
  one_apart o was (reach.Alone own) p numbers same = none_is _ _ numbers
  one_apart o was (reach.Beside y) p numbers same =
      let here : o.clock.entity ≡ y = first_is _ _ _ _ numbers in
      other_apart held cs orderly c.clock.entity y i (there (reach.Beside y) p) o (ap (slice_get cs) (sym here) ∙ was) (sym here ∙ sym same)
  one_apart o was (reach.Look y) p numbers same =
      let here : o.clock.entity ≡ y = first_is _ _ _ _ numbers in
      let below = look_below held cs orderly c.clock.entity y i (there (reach.Look y) p) in
      absurd (omega (arith, below.1, here, same))
  one_apart o was (reach.Mapping y) p numbers same = none_is _ _ (sym (rest_is _ _ _ _ numbers))
  one_apart o was reach.Make p numbers same =
      let none : o.clock.entity ≡ 0 = first_is _ _ _ _ numbers in
      let up = locus_high reach.Make p in
      absurd (omega (arith, up, none, same))
  one_apart o was reach.Spawn p numbers same =
      let none : o.clock.entity ≡ 0 = first_is _ _ _ _ numbers in
      let up = locus_high reach.Spawn p in
      absurd (omega (arith, up, none, same))

  -- an act that touches a single entity touches the atlas, by a look never
  pub no_look_first : (r : Reach) → Planned r → (k : Cell) → k.clock.entity ≡ 0 → numbers_of (k ∷ []) ≡ touched_by (atlas_state d) r → (y : ℕ) → r ≢ reach.Look y
  no_look_first r p k none numbers y is =
      let q = subst (λ r. Planned r) is p in
      let here : k.clock.entity ≡ y = first_is _ _ _ _ (numbers ∙ ap (touched_by (atlas_state d)) is) in
      let below = look_below held cs orderly c.clock.entity y i (there (reach.Look y) q) in
      absurd (omega (arith, below.0, here, none))

  -- where two are touched the first is the atlas, and the three are apart
  pub two_apart : (k o : Cell) → slice_get cs k.clock.entity ≡ Some k → slice_get cs o.clock.entity ≡ Some o → (r : Reach) → Planned r → numbers_of (k ∷ o ∷ []) ≡ touched_by (atlas_state d) r
      → (k.clock.entity ≡ 0) × (o.clock.entity ≢ 0) × (c.clock.entity ≢ o.clock.entity)
  two_apart k o at_k at_o (reach.Alone own) p numbers = absurd (none_is _ _ numbers)
  two_apart k o at_k at_o (reach.Beside y) p numbers = absurd (none_is _ _ (rest_is _ _ _ _ numbers))
  two_apart k o at_k at_o (reach.Look y) p numbers = absurd (none_is _ _ (rest_is _ _ _ _ numbers))
  two_apart k o at_k at_o (reach.Mapping y) p numbers =
      let none : k.clock.entity ≡ 0 = first_is _ _ _ _ numbers in
      let here : o.clock.entity ≡ y = first_is _ _ _ _ (rest_is _ _ _ _ numbers) in
      let f = mapping_between held cs orderly c.clock.entity y i c k o (there (reach.Mapping y) p) at (ap (slice_get cs) (sym none) ∙ at_k) (ap (slice_get cs) (sym here) ∙ at_o) in
      (none, (λ low. absurd (omega (arith, low, here, f.0))), (λ same. absurd (omega (arith, same, here, f.1))))
  two_apart k o at_k at_o reach.Make p numbers =
      let none : k.clock.entity ≡ 0 = first_is _ _ _ _ numbers in
      let free = container_free (atlas_state d) o.clock.entity (one_listed _ o.clock.entity (rest_is _ _ _ _ numbers)) in
      let below = making_below held cs orderly c.clock.entity d c i reach.Make has (there reach.Make p) at free.0 in
      (none, (λ low. absurd (omega (arith, low, free.1))), (λ same. absurd (omega (arith, same, free.1, below))))
  two_apart k o at_k at_o reach.Spawn p numbers =
      let none : k.clock.entity ≡ 0 = first_is _ _ _ _ numbers in
      let free = locus_free (atlas_state d) o.clock.entity (one_listed _ o.clock.entity (rest_is _ _ _ _ numbers)) in
      let above = spawning_above held cs orderly c.clock.entity d c i reach.Spawn has (there reach.Spawn p) at in
      (none, (λ low. absurd (omega (arith, low, free.1))), (λ same. absurd (omega (arith, same, free.1, above))))

  pub two_no_look : (k o : Cell) (r : Reach) → numbers_of (k ∷ o ∷ []) ≡ touched_by (atlas_state d) r → (y : ℕ) → r ≢ reach.Look y
  two_no_look k o r numbers y is = none_is _ _ (rest_is _ _ _ _ (numbers ∙ ap (touched_by (atlas_state d)) is))
