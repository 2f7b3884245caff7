-- Tables of a script that are found by name, and the births of names by their tables.
use Rattle.std.proofs.Common.{◌≡◌, ℕ, inl, inr, ◌↔◌, true, false, if◌then◌else◌, List, [], ◌∷◌, map, find, Option, Some, None, Result, Ok, Err, IfOk, IfSome, IfNone, IsNone, is_some, option_map, string_bytes, refl, sym, ap, subst, ◌∙◌}
use Rattle.base_types.specs.declared.histories.Entry.{Entry}
use Rattle.base_types.specs.declared.histories.Event.TheVariants.{Birth}
use Rattle.model_kernel.specs.Births.{birth, birth_change, birth_named, container_birth, knows_caps, knows_regions, locus_birth}
use Rattle.model_kernel.specs.Changes.{Change, acts, carried}
use Rattle.model_kernel.specs.Outcomes.{free_container}
use Rattle.model_kernel.specs.Scripts.{ContainerTable, LocusTable, Script, container_named, container_table, locus_table, number_in, number_of, text_eq}
use Rattle.model_kernel.specs.State.{Supply, Text, AtlasState, Cell, AtlasCell, KernelState}
use Rattle.model_kernel.specs.Steps.{atlas_in}
use Rattle.script_types.specs.Rules.{IsScript, container_names}
use Rattle.script_types.specs.Scripts.{container_of, locus_of}
use Rattle.script_types.specs.declared.ScriptContainer.{ScriptContainer}
use Rattle.script_types.specs.declared.ScriptLocus.{ScriptLocus}
use Rattle.plain_states.specs.Born.{AreOfOneKind, BearsContainer, BearsLocus, BearsNoLocus, IsReadyContainerTable, IsReadyLocusTable, IsUndefined, KnowsContainer, KnowsLocus, KnowsNames}
use Rattle.plain_states.specs.Events.{Bears, state_with}
use Rattle.model_sound_runs.proofs.Found.{IsFound, and_both, find_locus, found_container}

-- TABLES BY NAME

pub container_found : (ts : List ScriptContainer) (name : Text) → container_table (map container_of ts) name ≡ option_map container_of (find (λ t. text_eq name (string_bytes t.name)) ts)
container_found [] name = refl
container_found (t ∷ ts) name =
    elim (text_eq name (string_bytes t.name)) as (λ b. (if b then Some (container_of t) else container_table (map container_of ts) name) ≡ option_map container_of (if b then Some t else find (λ t. text_eq name (string_bytes t.name)) ts)) [
      | true ↦ refl
      | false ↦ container_found ts name
    ]

pub locus_found : (ts : List ScriptLocus) (name : Text) → locus_table (map locus_of ts) name ≡ option_map locus_of (find (λ t. text_eq name (string_bytes t.name)) ts)
locus_found [] name = refl
locus_found (t ∷ ts) name =
    elim (text_eq name (string_bytes t.name)) as (λ b. (if b then Some (locus_of t) else locus_table (map locus_of ts) name) ≡ option_map locus_of (if b then Some t else find (λ t. text_eq name (string_bytes t.name)) ts)) [
      | true ↦ refl
      | false ↦ locus_found ts name
    ]

-- NAMES OF A SCRIPT

-- a found table whose names are all known is ready for a birth
pub ready_container : (a : AtlasState) (script : Script) (name : Text) (t : ContainerTable) → IsScript script → KnowsNames a script name → AreOfOneKind a script → number_of a name ≡ None → container_table script.containers name ≡ Some t → IsReadyContainerTable a t
ready_container a script name t h knows kinds none is = record {
  earlier = (found 0).1.earlier;
  ranges = (found 0).1.ranges;
  fresh = subst (λ x. number_of a x ≡ None) (found 0).0 none;
  knows = k;
  targets = λ n. (found n).1.targets;
}
  where
    k : KnowsContainer a (Some t)
    k = subst (KnowsContainer a) is knows.container

    found : (n : ℕ) → (name ≡ t.name) × IsFound a t n
    found n = found_container a script name t n h kinds.containers is (and_both (knows_regions (number_in a t.name n) t.regions) (knows_caps (number_in a t.name n) t.caps) (k n)).0

-- and so it is what is found of it
pub found_of : (a : AtlasState) (t : ContainerTable) (n : ℕ) → IsReadyContainerTable a t → IsFound a t n
found_of a t n h = record { earlier = h.earlier; ranges = h.ranges; targets = h.targets n }

pub ready_locus_table : (a : AtlasState) (script : Script) (name : Text) (t : LocusTable) → IsScript script → KnowsNames a script name → number_of a name ≡ None → locus_table script.loci name ≡ Some t → IsReadyLocusTable a t
ready_locus_table a script name t h knows none is =
    let f = find_locus a (container_names script.containers) [] script.loci name t h.loci is in
    record { containers = container_names script.containers; earlier = f.0; ranges = f.1; fresh = subst (λ x. number_of a x ≡ None) f.2 none; knows = subst (KnowsLocus a) is knows.locus }

-- BIRTHS BY TABLES

pub named_container : (s : Supply) (script : Script) (name : Text) (w : KernelState) (a : AtlasState) (t : ContainerTable) → number_of a name ≡ None → container_table script.containers name ≡ Some t → birth_named s script name w a ≡ container_birth s a t (free_container a)
named_container s script name w a t none is = rw (none, is) refl

pub named_locus : (s : Supply) (script : Script) (name : Text) (w : KernelState) (a : AtlasState) (t : LocusTable) → number_of a name ≡ None → container_table script.containers name ≡ None → locus_table script.loci name ≡ Some t
    → birth_named s script name w a ≡ locus_birth w a t (container_named a t.host)
named_locus s script name w a t none no' is = rw (none, no', is) refl

pub named_known : (s : Supply) (script : Script) (name : Text) (w : KernelState) (a : AtlasState) → is_some (number_of a name) ≡ true → birth_named s script name w a ≡ None
named_known s script name w a known = by_number (number_of a name) known refl
  where
    by_number : (o : Option ℕ) → is_some (number_of a name) ≡ true → number_of a name ≡ o → birth_named s script name w a ≡ None
    by_number (Some m) known is = rw is refl
    by_number None known is = absurd (never (sym (ap is_some is) ∙ known))
      where
        never : false ≡ true → ⊥
        never e = cc

pub named_nothing : (s : Supply) (script : Script) (name : Text) (w : KernelState) (a : AtlasState) → number_of a name ≡ None → container_table script.containers name ≡ None → locus_table script.loci name ≡ None → birth_named s script name w a ≡ None
named_nothing s script name w a none no' nor = rw (none, no', nor) refl

-- the birth of a name, by what the atlas is
pub birth_at : (s : Supply) (script : Script) (name : Text) (old : ℕ → Cell) (us : List ℕ) (stamps : ℕ → ℕ → ℕ) (a : AtlasState) (f : KernelState → Option (ℕ × Change)) → old 0 ≡ AtlasCell a
    → birth_named s script name (state_with old us stamps) a ≡ f (state_with old us stamps) → birth s script name (state_with old us stamps) ≡ acts Birth f (state_with old us stamps)
unfolding birth_change
birth_at s script name old us stamps a f here is =
    let w = state_with old us stamps in
    ap (option_map (λ (c : ℕ × Change). carried w Birth c.0 c.1)) (ap (λ k. birth_named s script name w (atlas_in k)) here ∙ is)

pub bears_container : (s : Supply) (script : Script) (name : Text) (a : AtlasState) (t : ContainerTable) (old new : ℕ → Cell) (us vs : List ℕ) (e : Entry) → old 0 ≡ AtlasCell a → number_of a name ≡ None → container_table script.containers name ≡ Some t
    → BearsContainer s t a old us e new vs → Bears s script name old us e new vs
bears_container s script name a t old new us vs e here none is h stamps =
    let r = h stamps in
    (r.0, birth_at s script name old us stamps a (λ w. container_birth s a t (free_container a)) here (named_container s script name (state_with old us stamps) a t none is) ∙ r.1, r.2)

pub bears_locus : (s : Supply) (script : Script) (name : Text) (a : AtlasState) (t : LocusTable) (old new : ℕ → Cell) (us vs : List ℕ) (e : Entry) → old 0 ≡ AtlasCell a → number_of a name ≡ None → container_table script.containers name ≡ None → locus_table script.loci name ≡ Some t
    → BearsLocus t a old us e new vs → Bears s script name old us e new vs
bears_locus s script name a t old new us vs e here none no' is h stamps =
    let r = h stamps in
    (r.0, birth_at s script name old us stamps a (λ w. locus_birth w a t (container_named a t.host)) here (named_locus s script name (state_with old us stamps) a t none no' is) ∙ r.1, r.2)

-- where nothing is born
pub undefined_at : (s : Supply) (script : Script) (name : Text) (old : ℕ → Cell) (us : List ℕ) (a : AtlasState) → old 0 ≡ AtlasCell a → ((w : KernelState) → birth_named s script name w a ≡ None) → IsUndefined s script name old us
undefined_at s script name old us a here none stamps = birth_at s script name old us stamps a (λ w. None) here (none (state_with old us stamps))

pub full_containers : (s : Supply) (a : AtlasState) (t : ContainerTable) → free_container a ≡ None → container_birth s a t (free_container a) ≡ None
full_containers s a t none = rw none refl

pub no_locus_born : (w : KernelState) (a : AtlasState) (t : LocusTable) → BearsNoLocus a t → locus_birth w a t (container_named a t.host) ≡ None
no_locus_born w a t (inl none) = rw none refl
no_locus_born w a t (inr none) = by_host (container_named a t.host)
  where
    by_host : (o : Option ℕ) → locus_birth w a t o ≡ None
    by_host None = refl
    by_host (Some h) = rw none refl

-- a birth that gives an entry is defined
pub none_where_undefined : {E : Type 0} (script : Script) (name : Text) (old new : Supply → ℕ → Cell) (us vs : List ℕ) (r : Result (Option Entry) E) → IfOk r (λ o. IfSome o (λ e. (s : Supply) → Bears s script name (old s) us e (new s) vs))
    → IfOk r (λ o. IfNone o ((s : Supply) → IsUndefined s script name (old s) us)) → IfOk r (λ o. IsNone o ↔ ((s : Supply) → IsUndefined s script name (old s) us))
none_where_undefined script name old new us vs (Err x) some none = tt
none_where_undefined script name old new us vs (Ok None) some none = (λ _. none, λ _. refl)
none_where_undefined script name old new us vs (Ok (Some e)) some none = (λ h. absurd (never h), λ undefined. absurd (no _ (sym (some nothing (λ _ _. 0)).1 ∙ undefined nothing (λ _ _. 0))))
  where
    nothing : Supply
    nothing tag page place = 0

    never : true ≡ false → ⊥
    never e = cc

    no : (x : Entry × KernelState) → Some x ≡ None → ⊥
    no x e = cc
