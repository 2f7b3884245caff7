-- All plans of a cell touch the same entities.
use Rattle.std.proofs.Common.{◌≡◌, ℕ, Bool, true, false, ◌||◌, List, [], ◌∷◌, if◌then◌else◌, Option, Some, None, refl, sym, ap, subst, ◌∙◌}
use Rattle.std.specs.Option.{option_to_list}
use Rattle.base_types.specs.declared.instructions.Instr.{Instr}
use Rattle.base_types.specs.declared.instructions.Instr.TheVariants.{Load, Store, Map, Unmap, Spawn}
use Rattle.page_store.specs.model_kernel.Acts.{Act, wanted}
use Rattle.page_store.specs.model_kernel.Outcomes.{free_container, free_locus}
use Rattle.page_store.specs.model_kernel.Refusals.{instr_at}
use Rattle.page_store.specs.model_kernel.State.{AtlasState, LocusState}
use Rattle.table_laws.proofs.plain_states_lemmas.model_act_facts_lemmas.Alone.{wanted_says}
use Rattle.table_laws.proofs.plain_states_lemmas.model_acts_lemmas.Beside.{wanted_same}
use Rattle.cell_steps.specs.model_acts.Views.{may_name_itself}
use Rattle.table_laws.specs.act_alone.Loci.{locus_of}
use Rattle.table_laws.specs.act_alone.declared.loci.Locus.{Locus}
use Rattle.table_laws.specs.cell_calls.act_calls.Calls.{is_make, is_map, is_spawn, is_unmap}
use Rattle.table_laws.specs.cell_calls.Besides.{calls_container}
use Rattle.table_laws.specs.cell_states.declared.cells.Cell.{Cell}
use Rattle.table_laws.specs.cell_looks.act_look.Looks.{is_look}
use Rattle.table_laws.specs.cell_plans.Plans.{IsCallBeside, IsPlanned, PlansFor}
use Rattle.table_laws.specs.cell_plans.declared.plans.Reach.{Reach}
use Rattle.table_laws.specs.cell_plans.declared.plans.Reach.TheVariants as reach
use Rattle.cell_steps.proofs.cell_newborns_lemmas.BirthSteps.{make_touches, spawn_touches}
use Rattle.table_laws.proofs.cell_plans_lemmas.cell_calls_lemmas.MapSteps.{mapping_touches}
use Rattle.table_laws.proofs.cell_plans_lemmas.cell_calls_lemmas.Wants.{wanted_apart}
use Rattle.cell_looks.proofs.LookSteps.{look_touches}
use Rattle.thread_steps.specs.Lending.{touched_by}
use Rattle.thread_steps.proofs.Facing.{same_locus}

-- WHAT IS TOUCHED, by the instruction and what the act touches
touched_in : AtlasState → Bool → Bool → Bool → Option ℕ → List ℕ
touched_in a maps makes atlas (Some y) = if maps then 0 ∷ y ∷ [] else y ∷ []
touched_in a maps makes true None = 0 ∷ option_to_list (if makes then free_container a else free_locus a)
touched_in a maps makes false None = []

abbrev maps : Instr → Bool
maps i = is_map i || is_unmap i

-- AN INSTRUCTION IS OF ONE KIND

no_mapping : (i : Instr) → (calls_container i || may_name_itself i) ≡ true → maps i ≡ false
no_mapping (Map d a c b n rights) calls = cc
no_mapping (Unmap d a) calls = cc
no_mapping i calls = refl

look_maps : (i : Instr) → is_look i ≡ true → maps i ≡ false
look_maps (Load d a) looks = refl
look_maps (Store a v) looks = refl
look_maps i looks = cc

spawn_makes : (i : Instr) → is_spawn i ≡ true → is_make i ≡ false
spawn_makes (Spawn d p) spawns = refl
spawn_makes i spawns = cc

module _ (a : AtlasState) (me : ℕ) (l : LocusState) (i : Instr) (at : i ≡ instr_at l) where
  wanted_instr : (wanted 64 l).instr ≡ i
  wanted_instr = (wanted_says 64 l).instr ∙ sym at

  call_other : (y : ℕ) → IsCallBeside me l i y → (wanted me l).other ≡ Some y
  call_other y call = by (may_name_itself i) refl
    where
      by : (b : Bool) → may_name_itself i ≡ b → (wanted me l).other ≡ Some y
      by true names = ap (λ (w : Act). w.other) (wanted_apart me y l call.wants.other (λ e. call.apart names (sym e))) ∙ call.wants.other
      by false names = ap (λ (w : Act). w.other) (wanted_same me 64 l (ap may_name_itself (sym at) ∙ names)) ∙ call.wants.other

  by_act : (r : Reach) → PlansFor me l i r → touched_by a r ≡ touched_in a (maps i) (is_make i) (wanted me l).atlas (wanted me l).other
  unfolding touched_in
  by_act (reach.Alone own) p = sym (λ t. touched_in a (maps i) (is_make i) (p.alone.atlas t) (p.alone.other t))
  by_act (reach.Beside y) p = sym (λ t. touched_in a (no_mapping i p.calls t) (is_make i) (wanted me l).atlas (call_other y p t))
  by_act (reach.Look y) p = sym (λ t. touched_in a (look_maps i (ap is_look (sym wanted_instr) ∙ p.instr) t) (is_make i) (wanted me l).atlas ((look_touches me y l p).other t))
  by_act (reach.Mapping y) p = sym (λ t. touched_in a (p.maps t) (is_make i) (wanted me l).atlas ((mapping_touches me y l i p).other t))
  by_act reach.Make p = sym (λ t. touched_in a (maps i) ((ap is_make (sym wanted_instr) ∙ p.instr) t) ((make_touches me l p).atlas t) ((make_touches me l p).other t))
  by_act reach.Spawn p = sym (λ t. touched_in a (maps i) (spawn_makes i (ap is_spawn (sym wanted_instr) ∙ p.instr) t) ((spawn_touches me l p).atlas t) ((spawn_touches me l p).other t))

pub one_plan : (a : AtlasState) (c : Cell) (i j : Instr) (r q : Reach) → IsPlanned c i r → IsPlanned c j q → (i ≡ j) × (touched_by a r ≡ touched_by a q)
one_plan a c i j r q p o =
    let same : p.locus ≡ o.locus = same_locus p.locus o.locus (sym p.runs.is ∙ o.runs.is) in
    let instr : i ≡ j = p.instr ∙ ap (λ (l : Locus). instr_at (locus_of l)) same ∙ sym o.instr in
    let other : PlansFor c.clock.entity (locus_of p.locus) i q = subst (λ (l : Locus). PlansFor c.clock.entity (locus_of l) i q) (sym same) (subst (λ k. PlansFor c.clock.entity (locus_of o.locus) k q) (sym instr) o.wants) in
    (instr, by_act a c.clock.entity (locus_of p.locus) i p.instr r p.wants ∙ sym (by_act a c.clock.entity (locus_of p.locus) i p.instr q other))
