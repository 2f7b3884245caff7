-- The tables of a script, looked through one by one.
use Rattle.std.proofs.Common.{◌≡◌, ℕ, zero, suc, ◌+◌, ◌<◌, Bool, true, false, if◌then◌else◌, List, [], ◌∷◌, length, map, drop, get_or, Option, Some, None, is_some, string_bytes, refl, sym, ap, ◌∙◌, arith}
use Rattle.std.specs.List.{All}
use Rattle.std.proofs.lemmas.List.Elements.{All-cons, All-nil}
use Rattle.model_sound_runs.specs.model_kernel.Scripts.{ContainerTable, LocusTable, container_named, locus_named}
use Rattle.model_sound_runs.specs.model_kernel.State.{AtlasState}
use Rattle.model_sound_runs.specs.script_types.Scripts.{container_of, locus_of}
use Rattle.model_sound_runs.specs.script_types.declared.ScriptContainer.{ScriptContainer}
use Rattle.model_sound_runs.specs.script_types.declared.ScriptLocus.{ScriptLocus}
use Rattle.model_births.specs.Misfits.{container_clash, locus_clash}
use Rattle.model_births.proofs.KnownNames.{some_none, true_false}

-- where a table stands by a search from k on
pub container_here : (a : AtlasState) (ts : List ScriptContainer) (k n : ℕ) (t : ScriptContainer) → k < length ts → t ≡ get_or ts k t → is_some (locus_named a (string_bytes t.name)) ≡ true → container_clash a (map container_of (drop k ts)) n ≡ Some n
container_here a [] k n t h at is = absurd (omega (arith, h))
container_here a (u ∷ ts) zero n t h at is = ap (λ (b : Bool). if b then Some n else container_clash a (map container_of ts) (n + 1)) (ap (λ (x : ScriptContainer). is_some (locus_named a (string_bytes x.name))) (sym at) ∙ is)
container_here a (u ∷ ts) (suc k) n t h at is = container_here a ts k n t (omega (arith, h)) at is

pub container_passed : (a : AtlasState) (ts : List ScriptContainer) (k n : ℕ) (t : ScriptContainer) → k < length ts → t ≡ get_or ts k t → is_some (locus_named a (string_bytes t.name)) ≡ false
    → container_clash a (map container_of (drop k ts)) n ≡ container_clash a (map container_of (drop (k + 1) ts)) (n + 1)
container_passed a [] k n t h at is = absurd (omega (arith, h))
container_passed a (u ∷ ts) zero n t h at is = ap (λ (b : Bool). if b then Some n else container_clash a (map container_of ts) (n + 1)) (ap (λ (x : ScriptContainer). is_some (locus_named a (string_bytes x.name))) (sym at) ∙ is)
container_passed a (u ∷ ts) (suc k) n t h at is = let e : suc k + 1 ≡ suc (k + 1) = omega arith in container_passed a ts k n t (omega (arith, h)) at is ∙ ap (λ m. container_clash a (map container_of (drop m (u ∷ ts))) (n + 1)) (sym e)

pub locus_here : (a : AtlasState) (ts : List ScriptLocus) (k n : ℕ) (t : ScriptLocus) → k < length ts → t ≡ get_or ts k t → is_some (container_named a (string_bytes t.name)) ≡ true → locus_clash a (map locus_of (drop k ts)) n ≡ Some n
locus_here a [] k n t h at is = absurd (omega (arith, h))
locus_here a (u ∷ ts) zero n t h at is = ap (λ (b : Bool). if b then Some n else locus_clash a (map locus_of ts) (n + 1)) (ap (λ (x : ScriptLocus). is_some (container_named a (string_bytes x.name))) (sym at) ∙ is)
locus_here a (u ∷ ts) (suc k) n t h at is = locus_here a ts k n t (omega (arith, h)) at is

pub locus_passed : (a : AtlasState) (ts : List ScriptLocus) (k n : ℕ) (t : ScriptLocus) → k < length ts → t ≡ get_or ts k t → is_some (container_named a (string_bytes t.name)) ≡ false
    → locus_clash a (map locus_of (drop k ts)) n ≡ locus_clash a (map locus_of (drop (k + 1) ts)) (n + 1)
locus_passed a [] k n t h at is = absurd (omega (arith, h))
locus_passed a (u ∷ ts) zero n t h at is = ap (λ (b : Bool). if b then Some n else locus_clash a (map locus_of ts) (n + 1)) (ap (λ (x : ScriptLocus). is_some (container_named a (string_bytes x.name))) (sym at) ∙ is)
locus_passed a (u ∷ ts) (suc k) n t h at is = let e : suc k + 1 ≡ suc (k + 1) = omega arith in locus_passed a ts k n t (omega (arith, h)) at is ∙ ap (λ m. locus_clash a (map locus_of (drop m (u ∷ ts))) (n + 1)) (sym e)

-- WHAT NO CLASH MEANS

none_named : (o : Option ℕ) → is_some o ≡ false → o ≡ None
none_named None e = refl
none_named (Some n) e = true_false true refl e

pub containers_apart : (a : AtlasState) (ts : List ContainerTable) (n : ℕ) → container_clash a ts n ≡ None → All (λ (t : ContainerTable). locus_named a t.name ≡ None) ts
containers_apart a [] n none = All-nil (λ (t : ContainerTable). locus_named a t.name ≡ None)
containers_apart a (t ∷ ts) n none =
    elim (is_some (locus_named a t.name)) as (λ b. is_some (locus_named a t.name) ≡ b → (if b then Some n else container_clash a ts (n + 1)) ≡ None → All (λ (t : ContainerTable). locus_named a t.name ≡ None) (t ∷ ts)) [
      | true ↦ λ is e. some_none n e
      | false ↦ λ is e. All-cons (λ (t : ContainerTable). locus_named a t.name ≡ None) t ts (none_named (locus_named a t.name) is) (containers_apart a ts (n + 1) e)
    ] refl none

pub loci_apart : (a : AtlasState) (ts : List LocusTable) (n : ℕ) → locus_clash a ts n ≡ None → All (λ (t : LocusTable). container_named a t.name ≡ None) ts
loci_apart a [] n none = All-nil (λ (t : LocusTable). container_named a t.name ≡ None)
loci_apart a (t ∷ ts) n none =
    elim (is_some (container_named a t.name)) as (λ b. is_some (container_named a t.name) ≡ b → (if b then Some n else locus_clash a ts (n + 1)) ≡ None → All (λ (t : LocusTable). container_named a t.name ≡ None) (t ∷ ts)) [
      | true ↦ λ is e. some_none n e
      | false ↦ λ is e. All-cons (λ (t : LocusTable). container_named a t.name ≡ None) t ts (none_named (container_named a t.name) is) (loci_apart a ts (n + 1) e)
    ] refl none
