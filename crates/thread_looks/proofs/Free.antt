-- Which steps owe no Stable.
use Rattle.std.proofs.Common.{◌≡◌, ℕ, Bool, true, false, ◌||◌, ◌&&◌, List, [], ◌∷◌, slice_get, Some, None, refl, sym, ap, subst, ◌∙◌}
use Rattle.base_types.specs.declared.histories.Answer.TheVariants.{Reply as Replied}
use Rattle.base_types.specs.declared.instructions.Instr.{Instr}
use Rattle.base_types.specs.declared.instructions.Instr.TheVariants.{Stabilise}
use Rattle.base_types.specs.declared.instructions.Reply.TheVariants.{Ok as AnsweredOk}
use Rattle.page_store.specs.model_kernel.Acts.{wanted}
use Rattle.page_store.specs.model_kernel.Histories.{stabilises}
use Rattle.page_store.specs.model_kernel.State.{AtlasState, Supply, no_atlas}
use Rattle.thread_cell_steps.specs.cell_steps.model_acts.Views.{may_name_itself}
use Rattle.thread_cell_steps.specs.table_laws.act_alone.Loci.{locus_of}
use Rattle.thread_cell_steps.specs.table_laws.act_calls.Calls.{atlas_state, is_make, is_map, is_spawn, is_unmap}
use Rattle.thread_cell_steps.specs.table_laws.cell_calls.Besides.{calls_container}
use Rattle.thread_cell_steps.specs.table_laws.cell_looks.act_look.Looks.{is_look}
use Rattle.thread_cell_steps.specs.table_laws.cell_states.declared.cells.Cell.{Cell}
use Rattle.std.proofs.lemmas.Option.{same_Some}
use Rattle.thread_cell_steps.specs.table_laws.cell_plans.Plans.{IsPlanned, idle_of}
use Rattle.thread_cell_steps.specs.table_laws.cell_plans.declared.idle.Idle.{Idle}
use Rattle.thread_cell_steps.specs.table_laws.cell_plans.declared.plans.Reach.{Reach}
use Rattle.thread_cell_steps.specs.table_laws.cell_plans.declared.plans.Reach.TheVariants as reach
use Rattle.thread_cell_steps.specs.table_laws.Steps.{IsPlannedAt}
use Rattle.thread_cell_steps.specs.table_laws.Tables.{entity_in, left_of, state_in}
use Rattle.thread_cell_steps.proofs.table_laws_lemmas.Facing.{no_supply, no_words}
use Rattle.thread_cell_steps.proofs.table_laws_lemmas.cell_plans_lemmas.Once.{planned_goes}
use Rattle.thread_cell_steps.proofs.table_laws_lemmas.plain_states_lemmas.model_act_facts_lemmas.Alone.{wanted_says}
use Rattle.kernel_core_facts.specs.Stepping.{is_ok, is_owing}
use Rattle.kernel_core_facts.specs.table_steps.declared.stepping.Made.{Made as Step}
use Rattle.thread_cell_steps.specs.thread_steps.Lending.{touched_by}
use Rattle.thread_cell_steps.proofs.thread_steps_lemmas.Numbers.{none_is}
use Rattle.thread_cell_steps.proofs.thread_steps_lemmas.OnePlan.{one_plan}
use Rattle.thread_cell_steps.specs.Advancing.{TouchesThese}
use Rattle.thread_looks.specs.Looking.{WantsStable}

-- whether an instruction owes a Stable, answered Ok
abbrev pub owes : Instr → Bool
owes i = stabilises (Replied AnsweredOk) i

calls_free : (i : Instr) → (calls_container i || may_name_itself i) ≡ true → owes i ≡ false
calls_free (Stabilise d) calls = absurd (let clash : false ≡ true = calls in cc clash)
calls_free i calls = refl

maps_free : (i : Instr) → (is_map i || is_unmap i) ≡ true → owes i ≡ false
maps_free (Stabilise d) maps = absurd (let clash : false ≡ true = maps in cc clash)
maps_free i maps = refl

look_free : (i : Instr) → is_look i ≡ true → owes i ≡ false
look_free (Stabilise d) looks = absurd (let clash : false ≡ true = looks in cc clash)
look_free i looks = refl

make_free : (i : Instr) → is_make i ≡ true → owes i ≡ false
make_free (Stabilise d) makes = absurd (let clash : false ≡ true = makes in cc clash)
make_free i makes = refl

spawn_free : (i : Instr) → is_spawn i ≡ true → owes i ≡ false
spawn_free (Stabilise d) spawns = absurd (let clash : false ≡ true = spawns in cc clash)
spawn_free i spawns = refl

-- the instruction of a plan is that of the act that is wanted
by_act : (c : Cell) (i : Instr) (r : Reach) (p : IsPlanned c i r) (is : Instr → Bool) → is (wanted 64 (locus_of p.locus)).instr ≡ true → is i ≡ true
by_act c i r p is wants = ap is (p.instr ∙ sym (wanted_says 64 (locus_of p.locus)).instr) ∙ wants

-- a step that touches another entity
planned_free : (c : Cell) (i : Instr) (a : AtlasState) (x : ℕ) (xs : List ℕ) (r : Reach) → IsPlanned c i r → x ∷ xs ≡ touched_by a r → owes i ≡ false
planned_free c i a x xs (reach.Alone own) p these = absurd (none_is _ _ these)
planned_free c i a x xs (reach.Beside y) p these = calls_free i p.wants.calls
planned_free c i a x xs (reach.Look y) p these = look_free i (by_act c i (reach.Look y) p is_look p.wants.instr)
planned_free c i a x xs (reach.Mapping y) p these = maps_free i p.wants.maps
planned_free c i a x xs reach.Make p these = make_free i (by_act c i reach.Make p is_make p.wants.instr)
planned_free c i a x xs reach.Spawn p these = spawn_free i (by_act c i reach.Spawn p is_spawn p.wants.instr)

pub other_free : (cs : List Cell) (me x : ℕ) (xs : List ℕ) (m : Step) → TouchesThese cs me (x ∷ xs) m → is_owing m.instr m.entry.answer ≡ false
other_free cs me x xs m t = ap (λ (b : Bool). b && is_ok m.entry.answer) (planned_free t.planned.cell m.instr (atlas_state t.directory) x xs t.reach t.planned.plan t.these)

-- and one that wants no Stable
pub unwanted_free : (cs : List Cell) (me : ℕ) (m : Step) → (WantsStable cs me → ⊥) → TouchesThese cs me [] m → is_owing m.instr m.entry.answer ≡ false
unwanted_free cs me m none t = ap (λ (b : Bool). b && is_ok m.entry.answer) (by (owes m.instr) refl)
  where
    by : (b : Bool) → owes m.instr ≡ b → owes m.instr ≡ false
    by true is = absurd (none (record { instr = m.instr; reach = t.reach; planned = t.planned; stabilises = is }))
    by false is = is

-- WHAT THE NEXT STEP IS
one_instr : (cs : List Cell) (me : ℕ) (i j : Instr) (r q : Reach) → IsPlannedAt cs me i r → IsPlannedAt cs me j q → i ≡ j
one_instr cs me i j r q p o =
    let same = same_Some o.cell p.cell (sym o.is ∙ p.is) in
    (one_plan no_atlas p.cell i j r q p.plan (subst (λ (k : Cell). IsPlanned k j q) same o.plan)).0

is_stabilise : (i : Instr) → owes i ≡ true → (x : ℕ) × (i ≡ Stabilise x)
is_stabilise (Stabilise x) is = (x, refl)
is_stabilise i is = absurd (let clash : false ≡ true = is in cc clash)

pub wants_by : (cs : List Cell) (me : ℕ) (i : Instr) (r : Reach) → IsPlannedAt cs me i r → ((x : ℕ) → i ≡ Stabilise x → ⊥) → WantsStable cs me → ⊥
wants_by cs me i r p other w =
    let f = is_stabilise w.instr w.stabilises in
    other f.0 (one_instr cs me i w.instr r w.reach p w.planned ∙ f.1)

pub wants_here : (cs : List Cell) (me : ℕ) (i : Instr) (r : Reach) (x : ℕ) → IsPlannedAt cs me i r → i ≡ Stabilise x → WantsStable cs me
wants_here cs me i r x p is = record { instr = i; reach = r; planned = p; stabilises = ap owes is }

-- an idle locus has none
pub wants_never : (cs : List Cell) (me : ℕ) (why : Idle) → ((s : Supply) (words : ℕ → List ℕ) → idle_of (left_of (slice_get cs me)) (state_in s words cs me).cell ≡ Some why) → WantsStable cs me → ⊥
wants_never cs me why idle w =
    let p = w.planned in
    let goes = ap (λ o. idle_of (left_of o) (entity_in no_supply no_words me o).cell) p.is ∙ planned_goes p.cell w.instr w.reach p.plan no_supply no_words in
    let clash : None ≡ Some why = sym goes ∙ idle no_supply no_words in
    absurd (cc clash)
