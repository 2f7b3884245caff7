-- Where a copy is refused.
use Rattle.std.proofs.Common.{◌≡◌, ℕ, Bool, true, false, ◌&&◌, if◌then◌else◌, not, IsTrue, ◌↔◌, nat_le, nat_lt, Option, Some, None, is_none, is_some, option_map, refl, ap, subst, ◌∙◌}
use Rattle.std.proofs.lemmas.Bool.{false≢true}
use Rattle.base_types.specs.declared.histories.Event.TheVariants.{Birth}
use Rattle.data_atlas.specs.data_atlas_facts.Directory.{Directory, IsDirectory}
use Rattle.cell_births.specs.act_calls.Calls.{atlas_state}
use Rattle.cell_births.proofs.act_atlas_laws_lemmas.ByKind.{container_number, container_test, no_container}
use Rattle.script_types.specs.declared.refusals.Why.{Why}
use Rattle.script_types.specs.declared.refusals.Why.TheVariants.{Name, NoRoom, Unknown}
use Rattle.model_copies.specs.Copies.{IsCopied, copy_change, copy_named, copy_numbered, copy_of, copying}
use Rattle.model_copies.specs.model_kernel.Changes.{Change, carried}
use Rattle.model_copies.specs.model_kernel.Outcomes.{free_container}
use Rattle.model_copies.specs.model_kernel.Scripts.{container_named, number_of}
use Rattle.model_copies.specs.model_kernel.Soundness.{is_given_name}
use Rattle.model_copies.specs.model_kernel.State.{AtlasState, KernelState, Supply, Text}
use Rattle.model_copies.specs.model_kernel.Steps.{atlas_in}
use Rattle.model_copies.specs.model_sound_states.States.{IsSoundState}
use Rattle.model_copies.proofs.Copying.{again}
use Rattle.model_sound_states.proofs.model_sound_runs_lemmas.Tables.{container_named_born}
use Rattle.cell_copies.specs.Refusals.{copy_refusal}

some_in : {A : Type 0} (o : Option A) → is_none o ≡ false → (x : A) × (o ≡ Some x)
some_in (Some x) e = (x, refl)
some_in None e = absurd (cc e)

some_of : {A : Type 0} (o : Option A) → is_some o ≡ true → (x : A) × (o ≡ Some x)
some_of (Some x) e = (x, refl)
some_of None e = absurd (cc e)

none_of : {A : Type 0} (o : Option A) → is_some o ≡ false → o ≡ None
none_of (Some x) e = absurd (cc e)
none_of None e = refl

-- the directory's number of a container's name, and of any other
pub named_as : (d : Directory) (name : Text) (k : ℕ) → IsDirectory d → number_of (atlas_state d) name ≡ Some k → (nat_le 1 k && nat_lt k 41) ≡ true → container_named (atlas_state d) name ≡ Some k
named_as d name k h at is =
    let m = some_of (container_named (atlas_state d) name) (container_test d name k h at ∙ is) in
    let n = container_number d name m.0 h m.1 in
    let same : m.0 ≡ k = cc (at, n.named) in
    m.1 ∙ ap Some same

pub not_named : (d : Directory) (name : Text) (k : ℕ) → IsDirectory d → number_of (atlas_state d) name ≡ Some k → (nat_le 1 k && nat_lt k 41) ≡ false → container_named (atlas_state d) name ≡ None
not_named d name k h at is = none_of (container_named (atlas_state d) name) (container_test d name k h at ∙ is)

pub none_named : (d : Directory) (name : Text) → IsDirectory d → number_of (atlas_state d) name ≡ None → container_named (atlas_state d) name ≡ None
none_named d name h none = none_of (container_named (atlas_state d) name) (no_container d name h none)

-- two tests that hold of the same are one
pub same_test : (a b : Bool) (P : Type 0) → (IsTrue a ↔ P) → (P ↔ IsTrue b) → a ≡ b
same_test true true P f g = refl
same_test true false P f g = absurd (false≢true (g.0 (f.0 refl)))
same_test false true P f g = absurd (false≢true (f.1 (g.1 refl)))
same_test false false P f g = refl

pub none_not : (o : Option ℕ) → not (is_some o) ≡ is_none o
none_not None = refl
none_not (Some n) = refl

pub no_free : (t : Bool) (n : ℕ) → is_none (if t then Some n else None) ≡ not t
no_free true n = refl
no_free false n = refl

-- THE THREE TESTS
pub record AreGood (a : AtlasState) (name fresh : Text) : Type 0 where
  pub source : ℕ
  pub named : container_named a name ≡ Some source
  pub tests : (is_given_name fresh && is_none (number_of a fresh)) ≡ true
  pub number : ℕ
  pub free : free_container a ≡ Some number

pub good : (a : AtlasState) (name fresh : Text) → copy_refusal a name fresh ≡ None → AreGood a name fresh
good a name fresh is = by_first (is_none (container_named a name)) refl is
  where
    by_third : is_none (container_named a name) ≡ false → (is_given_name fresh && is_none (number_of a fresh)) ≡ true → (t : Bool) → is_none (free_container a) ≡ t → (if t then Some NoRoom else None) ≡ None → AreGood a name fresh
    by_third known tests true e none = absurd (cc none)
    by_third known tests false e none =
        let n = some_in (container_named a name) known in
        let m = some_in (free_container a) e in
        record { source = n.0; named = n.1; tests = tests; number = m.0; free = m.1 }

    by_second : is_none (container_named a name) ≡ false → (t : Bool) → (is_given_name fresh && is_none (number_of a fresh)) ≡ t → (if not t then Some Name else (if is_none (free_container a) then Some NoRoom else None)) ≡ None → AreGood a name fresh
    by_second known true e none = by_third known e (is_none (free_container a)) refl none
    by_second known false e none = absurd (cc none)

    by_first : (t : Bool) → is_none (container_named a name) ≡ t → (if t then Some Unknown else (if not (is_given_name fresh && is_none (number_of a fresh)) then Some Name else (if is_none (free_container a) then Some NoRoom else None))) ≡ None → AreGood a name fresh
    by_first true e none = absurd (cc none)
    by_first false e none = by_second e (is_given_name fresh && is_none (number_of a fresh)) refl none

-- in a sound state a container's name is that of a container
pub defined : (s : Supply) (v : KernelState) (name fresh : Text) → IsSoundState s v → copy_refusal (atlas_in (v 0).cell) name fresh ≡ None → (w : KernelState) × IsCopied name fresh v w
unfolding copy_change
defined s v name fresh k none =
    let a : AtlasState = atlas_in (v 0).cell in
    let g = good a name fresh none in
    let same : a ≡ k.sound.0 = ap atlas_in k.sound.1.atlas in
    let born = subst (λ (b : AtlasState). container_named b name ≡ Some g.source) same g.named in
    let there = k.sound.1.containers g.source (container_named_born k.sound.0 name g.source born) in
    let change : copy_change name fresh v ≡ Some (g.number, copy_of a g.source fresh g.number there.0) = again name fresh v a g.source g.number there.0 g.tests g.named g.free there.1 in
    let c : ℕ × Change = (g.number, copy_of a g.source fresh g.number there.0) in
    ((carried v Birth c.0 c.1).1, record { entry = (carried v Birth c.0 c.1).0; is = ap (option_map (λ (m : ℕ × Change). carried v Birth m.0 m.1)) change })

-- and where one of the three holds there is no copy
pub refused : (v : KernelState) (name fresh : Text) (why : Why) → copy_refusal (atlas_in (v 0).cell) name fresh ≡ Some why → copying name fresh v ≡ None
unfolding copy_change
refused v name fresh why is = ap (option_map (λ (m : ℕ × Change). carried v Birth m.0 m.1)) (none (atlas_in (v 0).cell) is)
  where
    no_source : (a : AtlasState) (n o : Option ℕ) → is_none o ≡ true → copy_numbered v a fresh o n ≡ None
    no_source a n None e = refl
    no_source a n (Some x) e = absurd (cc e)

    no_number : (a : AtlasState) (n o : Option ℕ) → is_none n ≡ true → copy_numbered v a fresh o n ≡ None
    no_number a None None e = refl
    no_number a None (Some x) e = refl
    no_number a (Some m) o e = absurd (cc e)

    either : (t : Bool) (o : Option (ℕ × Change)) → o ≡ None → (if t then o else None) ≡ None
    either true o e = e
    either false o e = refl

    none : (a : AtlasState) → copy_refusal a name fresh ≡ Some why → copy_named name fresh v a ≡ None
    none a is = by_first (is_none (container_named a name)) refl is
      where
        by_third : (t : Bool) → is_none (free_container a) ≡ t → (if t then Some NoRoom else None) ≡ Some why → copy_named name fresh v a ≡ None
        by_third true e some = either (is_given_name fresh && is_none (number_of a fresh)) _ (no_number a (free_container a) (container_named a name) e)
        by_third false e some = absurd (cc some)

        by_second : (t : Bool) → (is_given_name fresh && is_none (number_of a fresh)) ≡ t → (if not t then Some Name else (if is_none (free_container a) then Some NoRoom else None)) ≡ Some why → copy_named name fresh v a ≡ None
        by_second true e some = by_third (is_none (free_container a)) refl some
        by_second false e some = ap (λ (t : Bool). if t then copy_numbered v a fresh (container_named a name) (free_container a) else None) e

        by_first : (t : Bool) → is_none (container_named a name) ≡ t → (if t then Some Unknown else (if not (is_given_name fresh && is_none (number_of a fresh)) then Some Name else (if is_none (free_container a) then Some NoRoom else None))) ≡ Some why → copy_named name fresh v a ≡ None
        by_first true e some = either (is_given_name fresh && is_none (number_of a fresh)) _ (no_source a (free_container a) (container_named a name) e)
        by_first false e some = by_second (is_given_name fresh && is_none (number_of a fresh)) refl some
