-- The kind of a part, by its number.
use Rattle.std.proofs.Common.{◌≡◌, ℕ, ◌<◌, ◌≤◌, ◌==◌, if◌then◌else◌, Bool, true, false, nat_lt, refl, arith, eqb-true}
use Rattle.std.proofs.lemmas.Bool.{eqb-false, ltb-true}
use Rattle.base_types.specs.Kinds.{kind_of}
use Rattle.base_types.specs.declared.entities.Kind.TheVariants as kinds

pub is_atlas : (x : ℕ) → kind_of x ≡ kinds.Atlas → x ≡ 0
is_atlas x is = go (x == 0) (nat_lt x 41) refl is
  where
    go : (b c : Bool) → (x == 0) ≡ b → (if b then kinds.Atlas else if c then kinds.Container else kinds.Locus) ≡ kinds.Atlas → x ≡ 0
    go true c e is = eqb-true x 0 e
    go false true e is = cc
    go false false e is = cc

pub is_container : (x : ℕ) → kind_of x ≡ kinds.Container → (0 < x) × (x ≤ 40)
is_container x is = go (x == 0) (nat_lt x 41) refl refl is
  where
    go : (b c : Bool) → (x == 0) ≡ b → nat_lt x 41 ≡ c → (if b then kinds.Atlas else if c then kinds.Container else kinds.Locus) ≡ kinds.Container → (0 < x) × (x ≤ 40)
    go true c e f is = cc
    go false true e f is = (let other = eqb-false x 0 e in omega (arith, other), (let low : x < 41 = ltb-true x 41 f in omega (arith, low)))
    go false false e f is = cc
