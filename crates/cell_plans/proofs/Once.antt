-- A locus that has a plan isn't idle, and where it looks at a container it plans nothing else.
use Rattle.std.proofs.Common.{◌≡◌, ℕ, ◌<◌, Bool, true, false, ◌||◌, if◌then◌else◌, List, Some, None, sym, ap, subst, ◌∙◌, arith, ne_eqb}
use Rattle.std.proofs.lemmas.Option.{same_Some}
use Rattle.base_types.specs.declared.instructions.Condition.{Condition}
use Rattle.base_types.specs.declared.instructions.Condition.TheVariants.{Halted, Running, Stopped}
use Rattle.base_types.specs.declared.instructions.Instr.{Instr}
use Rattle.base_types.specs.declared.instructions.Instr.TheVariants.{Load, Store}
use Rattle.act_look.specs.model_kernel.Acts.{Act, wanted}
use Rattle.act_look.specs.model_kernel.Refusals.{instr_at}
use Rattle.act_look.specs.model_kernel.State.{LocusState, Supply}
use Rattle.act_look.specs.model_acts.Views.{may_name_itself}
use Rattle.act_look.specs.act_alone.Loci.{locus_of}
use Rattle.act_look.specs.act_alone.declared.loci.Locus.{Locus}
use Rattle.act_look.specs.act_invoke.Entries.{WantsBeside}
use Rattle.act_look.specs.Looks.{is_look}
use Rattle.act_look.proofs.model_acts_lemmas.Beside.{wanted_same}
use Rattle.act_look.proofs.act_invoke_lemmas.Entered.{instr_is}
use Rattle.act_look.proofs.Making.{look_apart}
use Rattle.cell_calls.specs.act_calls.Calls.{is_make, is_map, is_spawn, is_unmap}
use Rattle.cell_calls.specs.Besides.{calls_container}
use Rattle.cell_calls.specs.cell_states.Cells.{part_of}
use Rattle.cell_calls.specs.cell_states.declared.cells.Cell.{Cell}
use Rattle.cell_calls.specs.cell_states.declared.cells.Part.TheVariants as part
use Rattle.cell_plans.specs.Plans.{IsPlanned, PlansFor, idle_by, idle_of}
use Rattle.cell_plans.specs.declared.idle.Idle.TheVariants as idle
use Rattle.cell_plans.specs.declared.plans.Reach.{Reach}
use Rattle.cell_plans.specs.declared.plans.Reach.TheVariants as reach

-- a locus that has a plan isn't idle
goes_by : (left : ℕ) (c : Condition) → c ≡ Running → 0 < left → idle_by left c ≡ None
goes_by left Running runs some = ap (λ (t : Bool). if t then Some idle.Spent else None) (ne_eqb left 0 (λ (none : left ≡ 0). absurd (omega (arith, some, none))))
goes_by left Stopped runs some = absurd (let clash : Stopped ≡ Running = runs in cc clash)
goes_by left Halted runs some = absurd (let clash : Halted ≡ Running = runs in cc clash)

pub planned_goes : (c : Cell) (i : Instr) (r : Reach) → IsPlanned c i r → (s : Supply) (words : ℕ → List ℕ) → idle_of c.left (part_of s words c.part) ≡ None
planned_goes c i r plan s words = ap (λ p. idle_of c.left (part_of s words p)) plan.runs.is ∙ goes_by c.left plan.locus.condition plan.runs.runs plan.left

-- A LOAD OR A STORE is of no other kind

no_call : (i : Instr) → is_look i ≡ true → (calls_container i || may_name_itself i) ≡ true → ⊥
no_call (Load d a) looks calls = let clash : false ≡ true = calls in cc clash
no_call (Store a v) looks calls = let clash : false ≡ true = calls in cc clash
no_call i looks calls = let clash : false ≡ true = looks in cc clash

no_mapping : (i : Instr) → is_look i ≡ true → (is_map i || is_unmap i) ≡ true → ⊥
no_mapping (Load d a) looks maps = let clash : false ≡ true = maps in cc clash
no_mapping (Store a v) looks maps = let clash : false ≡ true = maps in cc clash
no_mapping i looks maps = let clash : false ≡ true = looks in cc clash

no_make : (i : Instr) → is_look i ≡ true → is_make i ≡ true → ⊥
no_make (Load d a) looks makes = let clash : false ≡ true = makes in cc clash
no_make (Store a v) looks makes = let clash : false ≡ true = makes in cc clash
no_make i looks makes = let clash : false ≡ true = looks in cc clash

no_spawn : (i : Instr) → is_look i ≡ true → is_spawn i ≡ true → ⊥
no_spawn (Load d a) looks spawns = let clash : false ≡ true = spawns in cc clash
no_spawn (Store a v) looks spawns = let clash : false ≡ true = spawns in cc clash
no_spawn i looks spawns = let clash : false ≡ true = looks in cc clash

-- THE PLAN

look_other : (me x : ℕ) (l : LocusState) → WantsBeside is_look l x → (wanted me l).other ≡ Some x
look_other me x l look = ap (λ (act : Act). act.other) (wanted_same me 64 l (look_apart (instr_at l) (instr_is is_look l x look))) ∙ look.other

one_reach : (me x : ℕ) (l : LocusState) (i : Instr) (r : Reach) → PlansFor me l i r → WantsBeside is_look l x → r ≡ reach.Look x
one_reach me x l i (reach.Alone own) alone look = let clash : None ≡ Some x = sym alone.alone.other ∙ look_other me x l look in absurd (cc clash)
one_reach me x l i (reach.Beside y) call look = absurd (no_call i (sym (ap is_look call.wants.instr) ∙ look.instr) call.calls)
one_reach me x l i (reach.Look y) other look = ap reach.Look (same_Some y x (sym other.other ∙ look.other))
one_reach me x l i (reach.Mapping y) mapping look = absurd (no_mapping i (sym (ap is_look mapping.instr) ∙ look.instr) mapping.maps)
one_reach me x l i reach.Make birth look = absurd (no_make (wanted 64 l).instr look.instr birth.instr)
one_reach me x l i reach.Spawn birth look = absurd (no_spawn (wanted 64 l).instr look.instr birth.instr)

same_locus : (k l : Locus) → part.Locus (Some k) ≡ part.Locus (Some l) → k ≡ l
same_locus k l e = cc

-- each plan of the cell is that look
pub planned_once : (c : Cell) (i j : Instr) (r : Reach) (x : ℕ) → IsPlanned c i r → IsPlanned c j (reach.Look x) → r ≡ reach.Look x
planned_once c i j r x plan look =
    let same = same_locus look.locus plan.locus (sym look.runs.is ∙ plan.runs.is) in
    one_reach c.clock.entity x (locus_of plan.locus) i r plan.wants (subst (λ (l : Locus). WantsBeside is_look (locus_of l) x) same look.wants)
