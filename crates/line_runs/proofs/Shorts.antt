-- The names of a directory have at most 24 bytes.
use Rattle.std.proofs.Common.{◌≡◌, ℕ, ◌-◌, ◌<◌, ◌≤◌, ◌==◌, Bool, true, false, nat_lt, if◌then◌else◌, inl, inr, [], length, Option, Some, None, unwrap_or, codes, refl, ap, subst, ◌∙◌, arith, ltb-true}
use Rattle.std.specs.Prelude.{IfSome, decimal, slice_get}
use Rattle.std.proofs.lemmas.Bool.{eqb-false}
use Rattle.std.proofs.lemmas.Fmt.{length-decimal-le}
use Rattle.std.proofs.lemmas.Option.{slice_get_within}
use Rattle.data_atlas.specs.data_atlas_facts.Directory.{Directory, IsDirectory, IsNameOf, name_of}
use Rattle.line_text.specs.model_kernel.Scripts.{atlas_name}
use Rattle.line_text.specs.model_kernel.State.{Text}
use Rattle.act_calls.specs.Calls.{atlas_state}
use Rattle.line_text.specs.Lines.{HasShortNames, name_in}

-- a name that is given, or made of a number
name_short : (x : ℕ) (name : Text) → x < 100 → IsNameOf x name → length name ≤ 24
name_short x name small (inl given) = given.1
name_short x name small (inr made) =
    let same = ap length made in
    let digits : length (decimal x) ≤ 2 = length-decimal-le 2 x (omega arith) (omega (arith, small)) (omega (arith, small)) in
    omega (arith, same, digits)

module _ (a : Directory) (formed : IsDirectory a) where
  -- how a name is found, by the kind of its number
  found_by : (x : ℕ) (z b : Bool) → (x == 0) ≡ z → nat_lt x 41 ≡ b
      → name_of a x ≡ (if z then Some (codes "atlas") else if b then slice_get a.containers (x - 1) else slice_get a.loci (x - 41))
  found_by x z b ez eb =
      ap (λ (c : Bool). if c then Some (codes "atlas") else if nat_lt x 41 then slice_get a.containers (x - 1) else slice_get a.loci (x - 41)) ez
      ∙ ap (λ (c : Bool). if z then Some (codes "atlas") else if c then slice_get a.containers (x - 1) else slice_get a.loci (x - 41)) eb

  short_in : (x : ℕ) (o : Option Text) → 0 < x → name_of a x ≡ o → ((t : Text) → o ≡ Some t → x < 100) → length (unwrap_or o []) ≤ 24
  short_in x None some is small = omega arith
  short_in x (Some t) some is small = name_short x t (small t refl) (subst (λ (o : Option Text). IfSome o (IsNameOf x)) is (formed.formed x some))

  pub directory_short : HasShortNames (atlas_state a)
  unfolding name_in
  directory_short x = by_tests (x == 0) (nat_lt x 41) refl refl
    where
      by_tests : (z b : Bool) → (x == 0) ≡ z → nat_lt x 41 ≡ b → length (if z then atlas_name else if b then unwrap_or (slice_get a.containers (x - 1)) [] else unwrap_or (slice_get a.loci (x - 41)) []) ≤ 24
      by_tests true b ez eb = omega arith
      by_tests false true ez eb =
          let some = eqb-false x 0 ez in
          let low = ltb-true x 41 eb in
          short_in x (slice_get a.containers (x - 1)) (omega (arith, some)) (found_by x false true ez eb) (λ t is. omega (arith, low))
      by_tests false false ez eb =
          let some = eqb-false x 0 ez in
          short_in x (slice_get a.loci (x - 41)) (omega (arith, some)) (found_by x false false ez eb) (λ t is. let n = slice_get_within a.loci (x - 41) t is in let few = formed.few_loci in omega (arith, n, few))
