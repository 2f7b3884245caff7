-- What an event of a sound state touches has a number below 64.
use Rattle.std.proofs.Common.{◌≡◌, ℕ, ◌+◌, ◌<◌, ◌≤◌, Bool, true, false, if◌then◌else◌, ◌==◌, nat_lt, IsTrue, List, [], ◌∷◌, length, Option, Some, None, is_some, refl, arith}
use Rattle.std.proofs.lemmas.Bool.{ltb-true}
use Rattle.std.proofs.lemmas.Bool.Decides.{nat_tests}
use Rattle.script_types.specs.base_types.declared.instructions.Call.{Call}
use Rattle.script_types.specs.base_types.declared.instructions.Instr.{Instr}
use Rattle.script_types.specs.base_types.declared.instructions.Instr.TheVariants.{Load, Store, Invoke, Leave, Return, Map, Unmap, Take, Give, Stop, Go, Snap}
use Rattle.script_types.specs.base_types.declared.instructions.Reply.{Reply}
use Rattle.script_types.specs.model_kernel.State.{Supply, AtlasState, LocusState, Cell, KernelState}
use Rattle.script_types.specs.model_kernel.Words.{last_call}
use Rattle.script_types.specs.model_kernel.Refusals.{reg, instr_at, entity_of, refusal}
use Rattle.script_types.specs.model_kernel.Acts.{alone, beside, beside_or_self, caller, container_of_call, allowed, act_by, wanted}
use Rattle.script_types.specs.model_kernel.Outcomes.{outcome}
use Rattle.script_types.specs.model_kernel.Changes.{Access, merged, insert_access, ordered, touches_of}
use Rattle.script_types.specs.model_kernel.LocalEvents.{touch_at}
use Rattle.script_types.specs.model_kernel.Soundness.{IsSoundAtlas, IsSoundLocus, IsSoundCall, is_born}
use Rattle.script_types.specs.model_kernel.Steps.{with_atlas_access, with_other_access, with_newborn_access, accesses_of}
use Rattle.script_types.proofs.model_kernel_lemmas.Faithful.{free_container_is}
use Rattle.model_sound_steps.proofs.Growth.{born_container}
use Rattle.model_sound_steps.proofs.ContainerActs.{look_born}
use Rattle.model_sound_steps.proofs.OwnActs.{entity_born}
use Rattle.model_sound_steps.proofs.Lists.{last_of_all}
use Rattle.model_sound_runs.proofs.Acting.{HoldsBorn, newborn_holds}

-- ACCESSES

abbrev pub AllUnder : List Access → Type 0
AllUnder [] = Unit {0}
AllUnder (m ∷ ms) = (m.entity < 64) × AllUnder ms

insert_under : (m : Access) (ms : List Access) → m.entity < 64 → AllUnder ms → AllUnder (insert_access m ms)
insert_under m [] h all = (h, tt)
insert_under m (n ∷ ms) h all =
    elim (nat_lt m.entity n.entity) as (λ b. AllUnder (if b then m ∷ n ∷ ms else if m.entity == n.entity then merged m n ∷ ms else n ∷ insert_access m ms)) [
      | true ↦ (h, (all.0, all.1))
      | false ↦ elim (m.entity == n.entity) as (λ b. AllUnder (if b then merged m n ∷ ms else n ∷ insert_access m ms)) [
        | true ↦ (elim (is_some n.new) as (λ b. (if◌then◌else◌ {A = Access} b n m).entity < 64) [ true ↦ all.0 | false ↦ h ], all.1)
        | false ↦ (all.0, insert_under m ms h all.1)
      ]
    ]

ordered_under : (ms : List Access) → AllUnder ms → AllUnder (ordered ms)
ordered_under [] all = tt
ordered_under (m ∷ ms) all = insert_under m (ordered ms) all.0 (ordered_under ms all.1)

off : (a x : ℕ) → a < 64 → 64 ≤ x → (a == x) ≡ false
off a x h k = grind (arith, nat_tests)

none_touched : (w : KernelState) (ms : List Access) (x : ℕ) → AllUnder ms → 64 ≤ x → touch_at (touches_of w ms) x ≡ None
none_touched w [] x all h = refl
none_touched w (m ∷ ms) x all h = let e = off m.entity x all.0 h in rw e (none_touched w ms x all.1 h)

pub ordered_touches : (w : KernelState) (ms : List Access) (x : ℕ) → AllUnder ms → 64 ≤ x → touch_at (touches_of w (ordered ms)) x ≡ None
ordered_touches w ms x all h = none_touched w (ordered ms) x (ordered_under ms all) h

-- THE ACCESSES OF A STEP

pub born_under : (a : AtlasState) (x : ℕ) → IsSoundAtlas a → IsTrue (is_born a x) → x < 64
born_under a x names born = by_lengths (length a.containers) (length a.loci) refl refl names.few_containers names.few_loci
  where
    by_lengths : (m n : ℕ) → length a.containers ≡ m → length a.loci ≡ n → length a.containers ≤ 40 → length a.loci ≤ 23 → x < 64
    by_lengths m n p q h k = grind (arith, nat_tests)

-- the other entity that an act names is born
abbrev pub NamesBorn : AtlasState → Option ℕ → Type 0
NamesBorn a None = Unit {0}
NamesBorn a (Some x) = IsTrue (is_born a x)

module _ (a : AtlasState) (l : LocusState) (sound : IsSoundLocus a l) where
  -- one that was not called names the atlas
  called_born : IsTrue (is_born a (caller l))
  called_born = by_call (last_call l.chain) refl
    where
      by_call : (o : Option Call) → last_call l.chain ≡ o → IsTrue (is_born a (container_of_call o))
      by_call None is = refl
      by_call (Some c) is = born_container a c.container (last_of_all (IsSoundCall a) l.chain c sound.chain is).container

  self_or_other : (me : ℕ) (i : Instr) (x : ℕ) → IsTrue (is_born a x) → NamesBorn a (beside_or_self me i x).other
  self_or_other me i x h = elim (x == me) as (λ b. NamesBorn a (if b then alone i None else beside i x).other) [ true ↦ tt | false ↦ h ]

  allowed_born : (me : ℕ) (i : Instr) → NamesBorn a (allowed me l i).other
  unfolding allowed
  allowed_born me (Load d r) = born_container a _ (look_born a l sound (reg l r))
  allowed_born me (Store r v) = born_container a _ (look_born a l sound (reg l r))
  allowed_born me (Invoke c) = entity_born a l sound c
  allowed_born me (Leave c) = entity_born a l sound c
  allowed_born me Return = called_born
  allowed_born me (Map d r c b n rights) = entity_born a l sound d
  allowed_born me (Unmap d r) = entity_born a l sound d
  allowed_born me (Take d c y) = entity_born a l sound c
  allowed_born me (Give d c r rights) = entity_born a l sound c
  allowed_born me (Stop c) = self_or_other me (Stop c) (entity_of l c) (entity_born a l sound c)
  allowed_born me (Go c) = self_or_other me (Go c) (entity_of l c) (entity_born a l sound c)
  allowed_born me (Snap c) = self_or_other me (Snap c) (entity_of l c) (entity_born a l sound c)
  allowed_born me i = tt

  pub wanted_born : (me : ℕ) → NamesBorn a (wanted me l).other
  unfolding wanted
  wanted_born me = by_refusal (refusal l (instr_at l))
    where
      by_refusal : (o : Option Reply) → NamesBorn a (act_by me l (instr_at l) o).other
      by_refusal (Some why) = tt
      by_refusal None = allowed_born me (instr_at l)

-- what is born
module _ (s : Supply) (me : ℕ) (l : LocusState) (a : AtlasState) (cell : Cell) where
  small : HoldsBorn s l a (λ b. b.0 < 64)
  small = record {
    container = λ d pages tag entry n free. (let number = free_container_is a n free in omega (arith, number.1));
    locus = λ d place n free. (
        elim (nat_lt (length a.loci) 23) as (λ t. nat_lt (length a.loci) 23 ≡ t → (if t then Some (length a.loci + 41) else None) ≡ Some n → n < 64) [
          | true ↦ λ is f. (let few = ltb-true _ _ is in let e : length a.loci + 41 ≡ n = cc in omega arith)
          | false ↦ λ is f. cc
        ] refl free);
  }

  newborn_under : (b : ℕ × Cell) → (outcome s l (wanted me l) a cell).newborn ≡ Some b → b.0 < 64
  newborn_under = newborn_holds s me l a cell (λ b. b.0 < 64) small

newborn_accesses : (newborn : Option (ℕ × Cell)) (rest : List Access) → ((b : ℕ × Cell) → newborn ≡ Some b → b.0 < 64) → AllUnder rest → AllUnder (with_newborn_access newborn rest)
newborn_accesses None rest h all = all
newborn_accesses (Some b) rest h all = (h b refl, all)

other_accesses : (a : AtlasState) (other : Option ℕ) (cell : Option Cell) (rest : List Access) → IsSoundAtlas a → NamesBorn a other → AllUnder rest → AllUnder (with_other_access other cell rest)
other_accesses a None cell rest names h all = all
other_accesses a (Some x) cell rest names h all = (born_under a x names h, all)

atlas_accesses : (t : Bool) (a : AtlasState) (rest : List Access) → AllUnder rest → AllUnder (with_atlas_access t a rest)
atlas_accesses true a rest all = (omega arith, all)
atlas_accesses false a rest all = all

-- all that a step touches
pub step_under : (s : Supply) (me : ℕ) (a seen : AtlasState) (l : LocusState) (cell : Cell) → IsSoundAtlas a → IsSoundLocus a l → me < 64 → AllUnder (accesses_of me (wanted me l) (outcome s l (wanted me l) seen cell))
step_under s me a seen l cell names sound small =
    let act = wanted me l in
    let o = outcome s l act seen cell in
    atlas_accesses act.atlas o.atlas _ (other_accesses a act.other o.other _ names (wanted_born a l sound me) (newborn_accesses o.newborn _ (newborn_under s me l seen cell) (small, tt)))
