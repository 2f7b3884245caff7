-- Cells lent from a table in order are lent rightly.
use Rattle.std.proofs.Common.{◌≡◌, ℕ, Bool, zero, suc, List, [], ◌∷◌, ◌++◌, slice_get, Some, sym, ap, subst, ◌∙◌}
use Rattle.base_types.specs.declared.instructions.Instr.{Instr}
use Rattle.page_store.specs.declared.store.PageStore.{Ghosts}
use Rattle.page_store.specs.model_kernel.Soundness.{AreSound}
use Rattle.page_store.specs.model_kernel.State.{Supply}
use Rattle.table_laws.specs.data_atlas_facts.Directory.{Directory}
use Rattle.table_laws.specs.act_calls.Calls.{atlas_state}
use Rattle.table_laws.specs.cell_states.declared.cells.Cell.{Cell}
use Rattle.table_laws.specs.cell_plans.Plans.{IsPlanned}
use Rattle.table_laws.specs.cell_plans.declared.plans.Reach.{Reach}
use Rattle.table_laws.specs.cell_plans.declared.plans.Reach.TheVariants as reach
use Rattle.table_laws.proofs.cell_plans_lemmas.Once.{planned_once}
use Rattle.table_laws.specs.Lending.{StandIn}
use Rattle.table_laws.specs.Steps.{HasDirectory}
use Rattle.table_laws.specs.Tables.{AreClean, AreFewWrites, IsOrderly, memory_at, state_in}
use Rattle.table_laws.proofs.Facing.{cells, no_supply, no_words}
use Rattle.table_laws.proofs.FacingAtlas.{directory_sound}
use Rattle.table_laws.proofs.Having.{state_has_all}
use Rattle.thread_steps.specs.Lending.{AreLent, GivesStore, HoldsPages, IsLentFrom, Lent, MayStep}
use Rattle.thread_steps.proofs.Facing.{look_lent}
use Rattle.thread_steps.proofs.OnePlan.{one_plan}

-- each of the cells stands at its number
stands : (cs old : List Cell) (x : ℕ) (c : Cell) → StandIn cs old → slice_get old x ≡ Some c → slice_get cs c.clock.entity ≡ Some c
stands cs [] x c stand is = cc
stands cs (d ∷ old) zero c stand is = let same : d ≡ c = cc in subst (λ (e : Cell). slice_get cs e.clock.entity ≡ Some e) same stand.0
stands cs (d ∷ old) (suc x) c stand is = stands cs old x c stand.1 is

last_stands : (cs atlas : List Cell) (d : Cell) → StandIn cs (atlas ++ d ∷ []) → slice_get cs d.clock.entity ≡ Some d
last_stands cs [] d stand = stand.0
last_stands cs (k ∷ atlas) d stand = last_stands cs atlas d stand.1

sound_there : (held : ℕ → Bool) (cs : List Cell) (orderly : IsOrderly held cs) (d : Directory) → HasDirectory cs d → AreSound (atlas_state d) (λ x. (state_in no_supply no_words cs x).cell)
unfolding cells
sound_there held cs orderly d has = directory_sound held cs orderly d has

module _ {B : Type 0} (stores : Ghosts B) (s : Supply) (cs : List Cell) (d : Directory) (b : B) (i : Instr) (r : Reach) (x : Lent B)
    (orderly : IsOrderly (stores.held b) cs) (has : HasDirectory cs d) (from : IsLentFrom cs d b i r x) where
  lent_right : AreLent x.locus x.atlas x.other
  lent_right = record {
    supply = no_supply;
    words = no_words;
    state = state_in no_supply no_words cs;
    directory = atlas_state d;
    sound = sound_there (stores.held b) cs orderly d has;
    has = state_has_all no_supply no_words cs (x.locus ∷ x.atlas ++ x.other) (from.locus, from.others);
    first = from.first;
    apart = from.apart;
    kind = λ e is. orderly.kinds e.clock.entity e (last_stands cs x.atlas e (subst (λ es. StandIn cs (x.atlas ++ es)) is from.others));
    touched = λ j q planned. from.numbers ∙ (one_plan (atlas_state d) x.locus i j r q from.planned planned).1;
  }

  holds : (tells : stores.tells → AreClean s (stores.words b) cs) (e : Cell) → slice_get cs e.clock.entity ≡ Some e → HoldsPages stores s b e.part
  holds clean e at = record { own = orderly.own e.clock.entity e at; clean = λ told m is. clean told e.clock.entity m (ap memory_at at ∙ is) }

  given : (clean : stores.tells → AreClean s (stores.words b) cs) (j : Instr) (y : ℕ) → IsPlanned x.locus j (reach.Look y) → GivesStore stores s x.other x.store
  given clean j y planned =
      let f = look_lent x.locus x.atlas x.other lent_right j y planned in
      let at = last_stands cs x.atlas f.0 (subst (λ es. StandIn cs (x.atlas ++ es)) f.2 from.others) in
      subst (λ es. GivesStore stores s es x.store) (sym f.2) (subst (GivesStore stores s (f.0 ∷ [])) (sym (from.store y (planned_once x.locus i j r y from.planned planned))) (holds clean f.0 at))

  pub may_step : AreFewWrites cs → (stores.tells → AreClean s (stores.words b) cs) → MayStep stores s x
  may_step few clean = record {
    lent = lent_right;
    few = λ n c is. few c.clock.entity c (stands cs (x.locus ∷ x.atlas ++ x.other) n c (from.locus, from.others) is);
    given = given clean;
  }
