-- The next name, looked for table by table.
use Rattle.std.proofs.Common.{◌≡◌, ℕ, zero, suc, ◌+◌, ◌<◌, ◌≤◌, Bool, true, false, if◌then◌else◌, List, [], ◌∷◌, length, map, drop, get_or, Option, Some, None, is_some, is_none, string_bytes, refl, sym, ap, ◌∙◌, arith}
use Rattle.model_kernel.specs.Scripts.{next_container_name, next_locus_name, number_of}
use Rattle.model_kernel.specs.State.{AtlasState}
use Rattle.plain_states.specs.script_types.Scripts.{container_of, locus_of}
use Rattle.plain_states.specs.script_types.declared.ScriptContainer.{ScriptContainer}
use Rattle.plain_states.specs.script_types.declared.ScriptLocus.{ScriptLocus}
use Rattle.model_serial_turns.proofs.model_births_lemmas.KnownNames.{true_false}

none_is : {X : Type 0} (o : Option X) (b : Bool) → is_some o ≡ b → is_none o ≡ (if b then false else true)
none_is None true e = true_false false e refl
none_is None false e = refl
none_is (Some x) true e = refl
none_is (Some x) false e = true_false true refl e

pub drop_end : {X : Type 0} (xs : List X) (k : ℕ) → length xs ≤ k → drop k xs ≡ []
drop_end [] zero h = refl
drop_end [] (suc k) h = refl
drop_end (x ∷ xs) zero h = absurd (omega (arith, h))
drop_end (x ∷ xs) (suc k) h = drop_end xs k (omega (arith, h))

-- CONTAINERS

pub container_new : (a : AtlasState) (ts : List ScriptContainer) (k : ℕ) (t : ScriptContainer) → k < length ts → t ≡ get_or ts k t → is_some (number_of a (string_bytes t.name)) ≡ false → next_container_name a (map container_of (drop k ts)) ≡ Some (string_bytes t.name)
container_new a [] k t h at new = absurd (omega (arith, h))
container_new a (u ∷ ts) zero t h at new =
    ap (λ (b : Bool). if b then Some (string_bytes u.name) else next_container_name a (map container_of ts)) (ap (λ (x : ScriptContainer). is_none (number_of a (string_bytes x.name))) (sym at) ∙ none_is (number_of a (string_bytes t.name)) false new) ∙ ap (λ (x : ScriptContainer). Some (string_bytes x.name)) (sym at)
container_new a (u ∷ ts) (suc k) t h at new = container_new a ts k t (omega (arith, h)) at new

pub container_old : (a : AtlasState) (ts : List ScriptContainer) (k : ℕ) (t : ScriptContainer) → k < length ts → t ≡ get_or ts k t → is_some (number_of a (string_bytes t.name)) ≡ true → next_container_name a (map container_of (drop k ts)) ≡ next_container_name a (map container_of (drop (k + 1) ts))
container_old a [] k t h at old = absurd (omega (arith, h))
container_old a (u ∷ ts) zero t h at old =
    ap (λ (b : Bool). if b then Some (string_bytes u.name) else next_container_name a (map container_of ts)) (ap (λ (x : ScriptContainer). is_none (number_of a (string_bytes x.name))) (sym at) ∙ none_is (number_of a (string_bytes t.name)) true old)
container_old a (u ∷ ts) (suc k) t h at old = let e : suc k + 1 ≡ suc (k + 1) = omega arith in container_old a ts k t (omega (arith, h)) at old ∙ ap (λ n. next_container_name a (map container_of (drop n (u ∷ ts)))) (sym e)

-- LOCI

pub locus_new : (a : AtlasState) (ts : List ScriptLocus) (k : ℕ) (t : ScriptLocus) → k < length ts → t ≡ get_or ts k t → is_some (number_of a (string_bytes t.name)) ≡ false → next_locus_name a (map locus_of (drop k ts)) ≡ Some (string_bytes t.name)
locus_new a [] k t h at new = absurd (omega (arith, h))
locus_new a (u ∷ ts) zero t h at new =
    ap (λ (b : Bool). if b then Some (string_bytes u.name) else next_locus_name a (map locus_of ts)) (ap (λ (x : ScriptLocus). is_none (number_of a (string_bytes x.name))) (sym at) ∙ none_is (number_of a (string_bytes t.name)) false new) ∙ ap (λ (x : ScriptLocus). Some (string_bytes x.name)) (sym at)
locus_new a (u ∷ ts) (suc k) t h at new = locus_new a ts k t (omega (arith, h)) at new

pub locus_old : (a : AtlasState) (ts : List ScriptLocus) (k : ℕ) (t : ScriptLocus) → k < length ts → t ≡ get_or ts k t → is_some (number_of a (string_bytes t.name)) ≡ true → next_locus_name a (map locus_of (drop k ts)) ≡ next_locus_name a (map locus_of (drop (k + 1) ts))
locus_old a [] k t h at old = absurd (omega (arith, h))
locus_old a (u ∷ ts) zero t h at old =
    ap (λ (b : Bool). if b then Some (string_bytes u.name) else next_locus_name a (map locus_of ts)) (ap (λ (x : ScriptLocus). is_none (number_of a (string_bytes x.name))) (sym at) ∙ none_is (number_of a (string_bytes t.name)) true old)
locus_old a (u ∷ ts) (suc k) t h at old = let e : suc k + 1 ≡ suc (k + 1) = omega arith in locus_old a ts k t (omega (arith, h)) at old ∙ ap (λ n. next_locus_name a (map locus_of (drop n (u ∷ ts)))) (sym e)
