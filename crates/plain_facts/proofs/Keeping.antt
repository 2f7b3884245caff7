-- Names that are kept: what was known by them still is.
use Rattle.std.proofs.Common.{◌≡◌, ℕ, ◌<◌, Bool, true, false, if◌then◌else◌, IsTrue, List, [], ◌∷◌, length, get_or, Option, Some, None, is_some, is_none, refl, sym, ap, subst, ◌∙◌}
use Rattle.std.specs.List.{All, list_all}
use Rattle.std.proofs.lemmas.List.Elements.{All-cons, All-nil}
use Rattle.model_kernel.specs.Scripts.{ContainerTable, LocusTable, Script, container_named, locus_named, next_container_name, next_locus_name, next_name, number_of, place_of}
use Rattle.model_kernel.specs.Soundness.{is_given_name}
use Rattle.model_kernel.specs.State.{Text, AtlasState}
use Rattle.model_kernel.specs.Words.{or_else}
use Rattle.plain_states.specs.model_sound_runs.Names.{IsFront, KeepsNames}
use Rattle.plain_states.specs.script_types.Rules.{IsScript, container_names, is_among, locus_names}
use Rattle.model_serial_turns.specs.model_births.Fitting.{Fits}
use Rattle.model_serial_turns.proofs.model_births_lemmas.Growing.{grown_known, place_more}
use Rattle.model_serial_turns.proofs.model_births_lemmas.KnownNames.{is_named, loci_known, none_some, some_none, true_false}
use Rattle.plain_states.proofs.model_sound_runs_lemmas.Found.{not_atlas}
use Rattle.model_serial_turns.proofs.Picks.{locus_of_kind}

-- KNOWN NAMES

-- a name keeps its number
place_kept : (x : Text) (ts us : List Text) (k n : ℕ) → IsFront ts us → place_of x ts k ≡ Some n → place_of x us k ≡ Some n
place_kept x ts us k n f is = ap (λ ys. place_of x ys k) f.1 ∙ place_more x ts f.0 k n is

some_kept : (x : Text) (ts us : List Text) (k : ℕ) → IsFront ts us → is_some (place_of x ts k) ≡ true → is_some (place_of x us k) ≡ true
some_kept x ts us k f h = by_place (place_of x ts k) refl h
  where
    by_place : (o : Option ℕ) → place_of x ts k ≡ o → is_some o ≡ true → is_some (place_of x us k) ≡ true
    by_place (Some n) is e = ap is_some (place_kept x ts us k n f is)
    by_place None is e = true_false false e refl

known_kept : (a b : AtlasState) (x : Text) → KeepsNames a b → is_some (number_of a x) ≡ true → is_some (number_of b x) ≡ true
known_kept a b x f h = grown_known a b x (some_kept x a.containers b.containers 1 f.containers) (some_kept x a.loci b.loci 41 f.loci) h

known_old : (o : Option ℕ) → is_some o ≡ true → is_none o ≡ false
known_old (Some n) h = refl
known_old None h = true_false false h refl

-- NO BIRTH IS OWED

no_container : (a b : AtlasState) (ts : List ContainerTable) → KeepsNames a b → next_container_name a ts ≡ None → next_container_name b ts ≡ None
no_container a b [] f none = refl
no_container a b (t ∷ ts) f none =
    elim (is_none (number_of a t.name)) as (λ q. is_none (number_of a t.name) ≡ q → (if q then Some t.name else next_container_name a ts) ≡ None → next_container_name b (t ∷ ts) ≡ None) [
      | true ↦ λ new e. some_none t.name e
      | false ↦ λ old e.
          let now = known_old (number_of b t.name) (known_kept a b t.name f (is_named (number_of a t.name) old)) in
          ap (λ (q : Bool). if q then Some t.name else next_container_name b ts) now ∙ no_container a b ts f e
    ] refl none

no_locus : (a b : AtlasState) (ts : List LocusTable) → KeepsNames a b → next_locus_name a ts ≡ None → next_locus_name b ts ≡ None
no_locus a b [] f none = refl
no_locus a b (t ∷ ts) f none =
    elim (is_none (number_of a t.name)) as (λ q. is_none (number_of a t.name) ≡ q → (if q then Some t.name else next_locus_name a ts) ≡ None → next_locus_name b (t ∷ ts) ≡ None) [
      | true ↦ λ new e. some_none t.name e
      | false ↦ λ old e.
          let now = known_old (number_of b t.name) (known_kept a b t.name f (is_named (number_of a t.name) old)) in
          ap (λ (q : Bool). if q then Some t.name else next_locus_name b ts) now ∙ no_locus a b ts f e
    ] refl none

-- neither has one
both_none : (o p : Option Text) → is_some (or_else o p) ≡ false → (o ≡ None) × (p ≡ None)
both_none None None h = (refl, refl)
both_none None (Some x) h = true_false true refl h
both_none (Some x) p h = true_false true refl h

-- where all names of the script are born they stay so
pub next_kept : (a b : AtlasState) (script : Script) → KeepsNames a b → is_some (next_name a script) ≡ false → is_some (next_name b script) ≡ false
next_kept a b script f none =
    let h = both_none (next_container_name a script.containers) (next_locus_name a script.loci) none in
    (λ i. is_some (or_else (no_container a b script.containers f h.0 i) (no_locus a b script.loci f h.1 i)))

-- PICKS

-- so, where it is known, it is a born locus's
locus_known : (a : AtlasState) (x : Text) → IsTrue (is_given_name x) → container_named a x ≡ None → is_some (number_of a x) ≡ true → IsTrue (is_some (locus_named a x))
locus_known a x given kind known = by_named (locus_named a x) refl
  where
    by_named : (o : Option ℕ) → locus_named a x ≡ o → IsTrue (is_some (locus_named a x))
    by_named (Some h) is = ap is_some is
    by_named None is =
        let none : number_of a x ≡ None = ap (λ (q : Bool). if q then Some 0 else or_else (container_named a x) (locus_named a x)) (not_atlas x given) ∙ (λ i. or_else (kind i) (is i)) in
        none_some (number_of a x) none known

all_of : (test : Text → Bool) (P : Text → Type 0) (xs : List Text) → ((x : Text) → IsTrue (test x) → P x) → IsTrue (list_all test xs) → All P xs
all_of test P [] f h = All-nil P
all_of test P (x ∷ xs) f h = All-cons P x xs (f x (Rattle.model_kernel.proofs.Basics.and_left (test x) (list_all test xs) h)) (all_of test P xs f (Rattle.model_kernel.proofs.Basics.and_right (test x) (list_all test xs) h))

-- where all names are born, all picks are loci
pub picks_born : (a : AtlasState) (script : Script) → IsScript script → Fits a script → is_some (next_name a script) ≡ false → All (λ (name : Text). IsTrue (is_some (locus_named a name))) script.order
picks_born a script rules fits none =
    let h = both_none (next_container_name a script.containers) (next_locus_name a script.loci) none in
    all_of (is_among (locus_names script.loci)) (λ (name : Text). IsTrue (is_some (locus_named a name))) script.order
    (λ x among.
    let given = locus_of_kind a (container_names script.containers) [] script.loci x rules.loci fits.kinds.loci among in
    locus_known a x given.0 given.1 (loci_known a script.loci h.1 x among)) rules.order

-- a pick that was born early has its number since then
pub named_since : (a b : AtlasState) (names : List Text) (i : ℕ) (name : Text) (o : Option ℕ) → All (λ (name : Text). IsTrue (is_some (locus_named a name))) names → i < length names → get_or names i [] ≡ name → KeepsNames a b → locus_named b name ≡ o → locus_named a name ≡ o
named_since a b names i name o all few at f is = by_then (locus_named a name) refl
  where
    by_then : (p : Option ℕ) → locus_named a name ≡ p → locus_named a name ≡ o
    by_then (Some k) was = was ∙ sym (place_kept name a.loci b.loci 41 k f.loci was) ∙ is
    by_then None was = none_some (locus_named a name) was (subst (λ (x : Text). is_some (locus_named a x) ≡ true) at (all i [] few))
