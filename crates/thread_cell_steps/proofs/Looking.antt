-- A step by lent cells that looks at a container is the table's.
use Rattle.std.proofs.Common.{◌≡◌, ◌<◌, ◌≤◌, List, [], ◌∷◌, slice_get, Some, Ok, Err, sym, ap, subst, ◌∙◌, arith}
use Rattle.base_types.specs.declared.histories.Entry.{Entry}
use Rattle.base_types.specs.declared.instructions.Instr.{Instr}
use Rattle.page_store.specs.declared.faults.PageFault.{PageFault}
use Rattle.page_store.specs.declared.store.PageStore.{Ghosts}
use Rattle.page_store.specs.model_kernel.State.{Supply}
use Rattle.table_laws.specs.cell_states.declared.cells.Cell.{Cell}
use Rattle.table_laws.specs.cell_looks.Looking.{LeavesMemoryIn}
use Rattle.table_laws.specs.cell_plans.Plans.{IsPlanned}
use Rattle.table_laws.specs.cell_plans.declared.plans.Reach.{Reach}
use Rattle.table_laws.specs.Lending.{Lends}
use Rattle.table_laws.specs.Tables.{HasKind, IsOrderly}
use Rattle.table_laws.proofs.Blocks.{ChangesTwo}
use Rattle.table_laws.proofs.Facing.{high_at}
use Rattle.table_laws.proofs.LookDone.{LookLeaves, look_leaves}
use Rattle.thread_steps.specs.Stepping.{FaultsAt, LooksAt}

module _ {B : Type 0} (stores : Ghosts B) (s : Supply) (cs : List Cell) (b b' : B) (orderly : IsOrderly (stores.held b) cs)
    (c o c' o' : Cell) (at : slice_get cs c.clock.entity ≡ Some c) (there : slice_get cs o.clock.entity ≡ Some o) (i : Instr) (r : Reach) (planned : IsPlanned c i r) (memory : LeavesMemoryIn s stores o.part o'.part b b') where
  high : 40 < c.clock.entity
  high = high_at (stores.held b) cs orderly c.clock.entity c planned.locus at planned.runs.is

  low : o.clock.entity ≤ 40
  low = (subst (HasKind o.clock.entity) memory.was (orderly.kinds o.clock.entity o there)).1

  module _ (cs' : List Cell) (lends : Lends cs cs' (c ∷ o ∷ []) (c' ∷ o' ∷ [])) where
    pub two : ChangesTwo cs cs' c.clock.entity o.clock.entity c o c' o'
    two = record {
      len = lends.len;
      high = high;
      low = (let up = high in let down = low in omega (arith, up, down));
      locus = planned.locus;
      is_locus = planned.runs.is;
      was_a = at;
      was_b = there;
      is_a = ap (slice_get cs') (sym lends.numbers.0) ∙ lends.stand.0;
      is_b = ap (slice_get cs') (sym lends.numbers.1.0) ∙ lends.stand.1.0;
      same_a = lends.numbers.0;
      same_b = lends.numbers.1.0;
      others = λ n far near. lends.others n (far, (near, tt));
    }

    pub look_made : (e : Entry) → LooksAt stores s c o c' o' b b' e → LookLeaves stores.tells s stores.held stores.kept_names stores.words c.clock.entity cs cs' b b' (Ok e)
    look_made e looks =
        look_leaves stores.tells s stores.held stores.kept_names stores.words b b' cs cs' c.clock.entity o.clock.entity c o c' o' orderly lends memory two (Ok e)
        (record { step = looks.step; somehow = looks.somehow; locus_stays = tt; other_stays = tt; same_part = tt; memory = memory })

    pub look_failed : (f : PageFault) → FaultsAt stores s c o c' o' b b' f → LookLeaves stores.tells s stores.held stores.kept_names stores.words c.clock.entity cs cs' b b' (Err f)
    look_failed f faults =
        look_leaves stores.tells s stores.held stores.kept_names stores.words b b' cs cs' c.clock.entity o.clock.entity c o c' o' orderly lends memory two (Err f)
        (record {
          step = λ told. tt;
          somehow = tt;
          locus_stays = faults.locus;
          other_stays = (ap (λ (k : Cell). k.clock) faults.rest, ap (λ (k : Cell). k.wish) faults.rest, ap (λ (k : Cell). k.left) faults.rest);
          same_part = faults.same;
          memory = memory;
        })
