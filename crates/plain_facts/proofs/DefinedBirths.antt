-- The births of a script that fits: each is defined, and the rest still fits.
use Rattle.std.proofs.Common.{◌≡◌, ℕ, ◌+◌, true, List, [], ◌∷◌, length, Option, Some, None, is_some, option_map, refl, sym, ap, ◌∙◌, arith}
use Rattle.std.proofs.lemmas.List.{length-append}
use Rattle.base_types.specs.declared.histories.Entry.{Entry}
use Rattle.base_types.specs.declared.histories.Event.TheVariants.{Birth}
use Rattle.model_kernel.specs.Births.{birth, birth_change, birth_named}
use Rattle.model_kernel.specs.Changes.{Change, carried}
use Rattle.model_kernel.specs.Scripts.{Script}
use Rattle.model_kernel.specs.State.{Supply, Text, AtlasState, Cell, AtlasCell, KernelState}
use Rattle.model_kernel.specs.Steps.{atlas_in}
use Rattle.plain_states.specs.script_types.Rules.{IsScript}
use Rattle.plain_states.specs.Born.{IsUndefined}
use Rattle.plain_states.specs.Events.{state_with}
use Rattle.plain_states.proofs.ScriptLemmas.{birth_at}
use Rattle.plain_facts.specs.Standing.{names_born}
use Rattle.plain_facts.proofs.Goings.{acts_made}
use Rattle.model_serial_turns.specs.model_births.Fitting.{Fits}
use Rattle.model_serial_turns.proofs.model_births_lemmas.KnownNames.{NextName, none_some}
use Rattle.model_serial_turns.proofs.model_births_lemmas.Growing.{born_atlas as atlas_after, Grew, ByContainer, ByLocus, named_defined}

-- EACH BIRTH IS DEFINED

mapped_some : {A B : Type 0} (f : A → B) (o : Option A) → is_some (option_map f o) ≡ is_some o
mapped_some f None = refl
mapped_some f (Some x) = refl

-- the next birth of a script that fits
pub birth_defined : (s : Supply) (script : Script) (name : Text) (a : AtlasState) (old : ℕ → Cell) (us : List ℕ) → old 0 ≡ AtlasCell a → IsScript script → Fits a script → NextName a script name → IsUndefined s script name old us → ⊥
birth_defined s script name a old us here rules fits next undefined =
    let w = state_with old us (λ _ _. 0) in
    let is = birth_at s script name old us (λ _ _. 0) a (λ w. birth_named s script name w a) here refl in
    let some : is_some (birth s script name w) ≡ true = ap is_some is ∙ mapped_some (λ (c : ℕ × Change). carried w Birth c.0 c.1) (birth_named s script name w a) ∙ named_defined s script name w a rules fits next in
    none_some (birth s script name w) (undefined (λ _ _. 0)) some

-- THE ATLAS AFTER A BIRTH

pub birth_named_made : (s : Supply) (script : Script) (name : Text) (w v : KernelState) (a : AtlasState) (e : Entry) → (w 0).cell ≡ AtlasCell a → birth s script name w ≡ Some (e, v) → (c : ℕ × Change) × (birth_named s script name w a ≡ Some c) × (carried w Birth c.0 c.1 ≡ (e, v))
unfolding birth_change
birth_named_made s script name w v a e here is =
    let m = acts_made Birth (birth_change s script name) w (e, v) is in
    (m.0, ap (λ (k : Cell). birth_named s script name w (atlas_in k)) (sym here) ∙ m.1, m.2)

pub born_atlas : (s : Supply) (script : Script) (name : Text) (w v : KernelState) (a : AtlasState) (e : Entry) → (w 0).cell ≡ AtlasCell a → NextName a script name → birth s script name w ≡ Some (e, v) → (b : AtlasState) × ((v 0).cell ≡ AtlasCell b) × Grew a b script name
born_atlas s script name w v a e here next is =
    let m = birth_named_made s script name w v a e here is in
    let b = atlas_after s script name w a m.0 next m.1 in
    (b.0, ap (λ (r : Entry × KernelState). (r.1 0).cell) (sym m.2) ∙ b.1, b.2)

pub one_more_name : (a b : AtlasState) (script : Script) (name : Text) → Grew a b script name → names_born b ≡ names_born a + 1
one_more_name a b script name (ByContainer next containers loci) = let l = ap length containers in let m = length-append a.containers (name ∷ []) in let k = ap length loci in omega (arith, l, m, k)
one_more_name a b script name (ByLocus next containers loci) = let l = ap length containers in let m = length-append a.loci (name ∷ []) in let k = ap length loci in omega (arith, l, m, k)
