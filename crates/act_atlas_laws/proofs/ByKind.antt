-- Names of a directory by their kind.
use Rattle.std.proofs.Common.{◌≡◌, ℕ, suc, ◌+◌, ◌-◌, ◌<◌, ◌≤◌, true, false, ◌&&◌, if◌then◌else◌, ◌==◌, nat_lt, nat_le, List, [], ◌∷◌, length, Option, Some, None, IfSome, is_some, slice_get, refl, sym, ap, subst, ◌∙◌, arith}
use Rattle.std.proofs.lemmas.Bool.{lt-ltb}
use Rattle.std.proofs.lemmas.Bool.Decides.{nat_tests}
use Rattle.act_calls.specs.model_kernel.Scripts.{atlas_name, container_named, locus_named, number_of, place_of, text_eq}
use Rattle.act_calls.specs.model_kernel.State.{Text}
use Rattle.act_calls.specs.model_kernel.Words.{or_else}
use Rattle.act_atlas_laws.proofs.AtlasNames.{text_same}
use Rattle.act_calls.specs.data_atlas_facts.Directory.{Directory, IsDirectory, entity_named, name_of}
use Rattle.act_atlas_laws.proofs.NameLaws.{numbers_same}
use Rattle.act_calls.specs.Calls.{atlas_state}

none_some : {A : Type 0} {x : A} → None ≡ Some x → ⊥
none_some e = cc

-- where a name stands
pub record Stands (name : Text) (ts : List Text) (n k : ℕ) : Type 0 where
  pub above : n ≤ k
  pub below : k < n + length ts
  pub is : slice_get ts (k - n) ≡ Some name

stands : (name : Text) (ts : List Text) (n k : ℕ) → place_of name ts n ≡ Some k → Stands name ts n k
stands name [] n k e = absurd (none_some e)
stands name (t ∷ ts) n k e =
    elim (text_eq name t) as (λ b. text_eq name t ≡ b → (if b then Some n else place_of name ts (n + 1)) ≡ Some k → Stands name (t ∷ ts) n k) [
      | true ↦ λ same f.
          let at : n ≡ k = cc in
          let here : k - n ≡ 0 = omega arith in
          record { above = omega arith; below = omega arith; is = ap (slice_get (t ∷ ts)) here ∙ ap Some (sym (text_same name t same)) }
      | false ↦ λ _ f.
          let rest = stands name ts (n + 1) k f in
          let next : k - n ≡ suc (k - (n + 1)) = omega (arith, rest.above) in
          record { above = omega (arith, rest.above); below = omega (arith, rest.below); is = ap (slice_get (t ∷ ts)) next ∙ rest.is }
    ] refl e

-- a name that stands at a number has that number
named_at : (d : Directory) (name : Text) (k : ℕ) → IsDirectory d → name_of d k ≡ Some name → number_of (atlas_state d) name ≡ Some k
named_at d name k h is = sym (numbers_same d name) ∙ subst (λ o. IfSome o (λ name. entity_named d name ≡ Some k)) is (h.found k)

-- CONTAINERS AND LOCI BY NUMBERS

pub record IsContainerNumber (d : Directory) (name : Text) (k : ℕ) : Type 0 where
  pub named : number_of (atlas_state d) name ≡ Some k
  pub above : 1 ≤ k
  pub below : k < 41

pub container_number : (d : Directory) (name : Text) (k : ℕ) → IsDirectory d → container_named (atlas_state d) name ≡ Some k → IsContainerNumber d name k
container_number d name k h e =
    let at = stands name d.containers 1 k e in
    let small : k < 41 = omega (arith, at.below, h.few_containers) in
    let some : 1 ≤ k = at.above in
    let is : name_of d k ≡ Some name = low k some small ∙ at.is in
    record { named = named_at d name k h is; above = at.above; below = small }
  where
    low : (k : ℕ) → 1 ≤ k → k < 41 → name_of d k ≡ slice_get d.containers (k - 1)
    low k some small =
        let off : (k == 0) ≡ false = grind (arith, nat_tests) in
        rw (off, lt-ltb k 41 small) refl

pub record IsLocusNumber (d : Directory) (name : Text) (k : ℕ) : Type 0 where
  pub named : number_of (atlas_state d) name ≡ Some k
  pub above : 41 ≤ k

locus_number : (d : Directory) (name : Text) (k : ℕ) → IsDirectory d → locus_named (atlas_state d) name ≡ Some k → IsLocusNumber d name k
locus_number d name k h e =
    let at = stands name d.loci 41 k e in
    let is : name_of d k ≡ Some name = high k at.above ∙ at.is in
    record { named = named_at d name k h is; above = at.above }
  where
    high : (k : ℕ) → 41 ≤ k → name_of d k ≡ slice_get d.loci (k - 41)
    high k some =
        let off : (k == 0) ≡ false = grind (arith, nat_tests) in
        let far : nat_lt k 41 ≡ false = grind (arith, nat_tests) in
        rw (off, far) refl

-- what a number is of
pub data OfKind (d : Directory) (name : Text) (k : ℕ) : Type 0 where
  TheAtlas : k ≡ 0 → OfKind d name k
  AContainer : container_named (atlas_state d) name ≡ Some k → OfKind d name k
  ALocus : locus_named (atlas_state d) name ≡ Some k → OfKind d name k

kind_of : (d : Directory) (name : Text) (k : ℕ) → number_of (atlas_state d) name ≡ Some k → OfKind d name k
kind_of d name k e =
    elim (text_eq name atlas_name) as (λ b. (if b then Some 0 else or_else (container_named (atlas_state d) name) (locus_named (atlas_state d) name)) ≡ Some k → OfKind d name k) [
      | true ↦ λ f. TheAtlas (zero_is k f)
      | false ↦ λ f. by (container_named (atlas_state d) name) refl f
    ] e
  where
    zero_is : (k : ℕ) → Some 0 ≡ Some k → k ≡ 0
    zero_is k f = cc

    by : (o : Option ℕ) → container_named (atlas_state d) name ≡ o → or_else o (locus_named (atlas_state d) name) ≡ Some k → OfKind d name k
    by (Some m) is f = AContainer (is ∙ f)
    by None is f = ALocus f

-- THE TESTS

one_number : (o : Option ℕ) (k m : ℕ) → o ≡ Some k → o ≡ Some m → k ≡ m
one_number o k m e f = let g : Some k ≡ Some m = sym e ∙ f in cc

none_is : (o : Option ℕ) → ((k : ℕ) → o ≡ Some k → ⊥) → is_some o ≡ false
none_is None h = refl
none_is (Some k) h = absurd (h k refl)

pub container_test : (d : Directory) (name : Text) (k : ℕ) → IsDirectory d → number_of (atlas_state d) name ≡ Some k → is_some (container_named (atlas_state d) name) ≡ (nat_le 1 k && nat_lt k 41)
container_test d name k h e = by (kind_of d name k e)
  where
    other : ((m : ℕ) → IsContainerNumber d name m → ⊥) → is_some (container_named (atlas_state d) name) ≡ false
    other never = none_is (container_named (atlas_state d) name) (λ m f. never m (container_number d name m h f))

    by : OfKind d name k → is_some (container_named (atlas_state d) name) ≡ (nat_le 1 k && nat_lt k 41)
    by (AContainer is) =
        let c = container_number d name k h is in
        let low : 1 ≤ k = c.above in
        let high : k < 41 = c.below in
        let test : (nat_le 1 k && nat_lt k 41) ≡ true = both k low high in
        ap is_some is ∙ sym test
      where
        both : (k : ℕ) → 1 ≤ k → k < 41 → (nat_le 1 k && nat_lt k 41) ≡ true
        both k low high = grind (arith, nat_tests)
    by (TheAtlas zero_at) =
        let test : (nat_le 1 k && nat_lt k 41) ≡ false = rw zero_at refl in
        other (λ m c. (let same = one_number _ k m e c.named in let some = c.above in omega (arith, same, some, zero_at))) ∙ sym test
    by (ALocus is) =
        let far : 41 ≤ k = (locus_number d name k h is).above in
        let test : (nat_le 1 k && nat_lt k 41) ≡ false = past k far in
        other (λ m c. (let same = one_number _ k m e c.named in let small = c.below in omega (arith, same, small, far))) ∙ sym test
      where
        past : (k : ℕ) → 41 ≤ k → (nat_le 1 k && nat_lt k 41) ≡ false
        past k far = grind (arith, nat_tests)

pub locus_test : (d : Directory) (name : Text) (k : ℕ) → IsDirectory d → number_of (atlas_state d) name ≡ Some k → is_some (locus_named (atlas_state d) name) ≡ nat_le 41 k
locus_test d name k h e = by (kind_of d name k e)
  where
    other : k < 41 → is_some (locus_named (atlas_state d) name) ≡ nat_le 41 k
    other small =
        let test : nat_le 41 k ≡ false = grind (arith, nat_tests) in
        none_is (locus_named (atlas_state d) name)
        (λ m f. (let l = locus_number d name m h f in let same = one_number _ k m e l.named in let far = l.above in omega (arith, same, far, small))) ∙ sym test

    by : OfKind d name k → is_some (locus_named (atlas_state d) name) ≡ nat_le 41 k
    by (TheAtlas zero_at) = other (omega arith)
    by (AContainer is) = other (container_number d name k h is).below
    by (ALocus is) =
        let far : 41 ≤ k = (locus_number d name k h is).above in
        let test : nat_le 41 k ≡ true = grind (arith, nat_tests) in
        ap is_some is ∙ sym test

-- a name without a number
pub no_container : (d : Directory) (name : Text) → IsDirectory d → number_of (atlas_state d) name ≡ None → is_some (container_named (atlas_state d) name) ≡ false
no_container d name h none = none_is (container_named (atlas_state d) name) (λ m f. none_some (sym none ∙ (container_number d name m h f).named))

pub no_locus : (d : Directory) (name : Text) → IsDirectory d → number_of (atlas_state d) name ≡ None → is_some (locus_named (atlas_state d) name) ≡ false
no_locus d name h none = none_is (locus_named (atlas_state d) name) (λ m f. none_some (sym none ∙ (locus_number d name m h f).named))
