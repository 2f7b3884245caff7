-- Which numbers are lent.
use Rattle.std.proofs.Common.{◌≡◌, ℕ, ◌+◌, ◌<◌, ◌≤◌, Bool, true, false, nat_lt, if◌then◌else◌, List, [], ◌∷◌, length, Option, Some, None, refl, sym, arith}
use Rattle.std.specs.Option.{option_to_list}
use Rattle.std.proofs.lemmas.Bool.Decides.{nat_tests}
use Rattle.std.proofs.lemmas.Option.{same_Some}
use Rattle.page_store.specs.model_kernel.Outcomes.{free_container, free_locus}
use Rattle.page_store.specs.model_kernel.State.{AtlasState}

pub first_is : (x y : ℕ) (xs ys : List ℕ) → x ∷ xs ≡ y ∷ ys → x ≡ y
first_is x y xs ys e = cc

pub rest_is : (x y : ℕ) (xs ys : List ℕ) → x ∷ xs ≡ y ∷ ys → xs ≡ ys
rest_is x y xs ys e = cc

pub none_is : (x : ℕ) (xs : List ℕ) → x ∷ xs ≡ [] → ⊥
none_is x xs e = cc

pub one_listed : (o : Option ℕ) (x : ℕ) → x ∷ [] ≡ option_to_list o → o ≡ Some x
one_listed (Some y) x e = cc
one_listed None x e = cc

pub none_listed : (o : Option ℕ) → [] ≡ option_to_list o → o ≡ None
none_listed (Some y) e = cc
none_listed None e = refl

-- a number that is free is the lowest, and where none is, all are taken
free_below : (n most first x : ℕ) → (if nat_lt n most then Some (n + first) else None) ≡ Some x → (n < most) × (x ≡ n + first)
free_below n most first x is = by (nat_lt n most) refl is
  where
    by : (b : Bool) → nat_lt n most ≡ b → (if b then Some (n + first) else None) ≡ Some x → (n < most) × (x ≡ n + first)
    by true lt e = (grind (arith, nat_tests), sym (same_Some (n + first) x e))
    by false ge e = cc

none_below : (n most first : ℕ) → (if nat_lt n most then Some (n + first) else None) ≡ None → most ≤ n
none_below n most first is = by (nat_lt n most) refl is
  where
    by : (b : Bool) → nat_lt n most ≡ b → (if b then Some (n + first) else None) ≡ None → most ≤ n
    by true lt e = cc
    by false ge e = grind (arith, nat_tests)

pub container_free : (a : AtlasState) (x : ℕ) → free_container a ≡ Some x → (length a.containers < 40) × (x ≡ length a.containers + 1)
container_free a x is = free_below (length a.containers) 40 1 x is

pub locus_free : (a : AtlasState) (x : ℕ) → free_locus a ≡ Some x → (length a.loci < 23) × (x ≡ length a.loci + 41)
locus_free a x is = free_below (length a.loci) 23 41 x is

pub containers_full : (a : AtlasState) → free_container a ≡ None → 40 ≤ length a.containers
containers_full a is = none_below (length a.containers) 40 1 is

pub loci_full : (a : AtlasState) → free_locus a ≡ None → 23 ≤ length a.loci
loci_full a is = none_below (length a.loci) 23 41 is
