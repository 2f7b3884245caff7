-- Lists under a map, and values as data.
use Rattle.std.proofs.Common.{◌≡◌, ℕ, ◌<◌, ◌≤◌, Bool, true, false, nat_le, le-leb, ◌||◌, ◌&&◌, List, [], ◌∷◌, ◌++◌, length, map, Ok, refl, ap, ◌∙◌, arith}
use Rattle.std.proofs.lemmas.Bool.Decides.{nat_tests}
use Rattle.std.specs.List.{list_any, list_all}
use Rattle.script_types.specs.model_kernel.State.{Text}
use Rattle.toml.specs.Data.{Data}
use Rattle.toml.specs.View.{view, items_view}
use Rattle.toml.specs.declared.value.Value.{Value}
use Rattle.script_meaning.specs.Fields.{list_of, at_most}
use Rattle.script_meaning.specs.Reading.{Reading, refused, IsFaultOf, IsBlamed}
use Rattle.script_types.specs.declared.refusals.Why.{Why}
use Rattle.script_types.specs.declared.refusals.Why.TheVariants.{TooMany}
use Rattle.script_types.specs.declared.refusals.ScriptFault.{ScriptFault}
use Rattle.script_types.specs.declared.refusals.ScriptFault.TheVariants.{Refused, Memory}

pub any_of_map : {A B : Type 0} (test : B → Bool) (f : A → B) (xs : List A) → list_any (λ x. test (f x)) xs ≡ list_any test (map f xs)
any_of_map test f [] = refl
any_of_map test f (x ∷ xs) = ap (λ b. test (f x) || b) (any_of_map test f xs)

pub all_of_map : {A B : Type 0} (test : B → Bool) (f : A → B) (xs : List A) → list_all (λ x. test (f x)) xs ≡ list_all test (map f xs)
all_of_map test f [] = refl
all_of_map test f (x ∷ xs) = ap (λ b. test (f x) && b) (all_of_map test f xs)

pub list_of-items : (vs : List Value) → list_of (items_view vs) ≡ map view vs
list_of-items [] = refl
list_of-items (v ∷ vs) = ap (λ ds. view v ∷ ds) (list_of-items vs)

-- few items are let through, and many are not
pub at_most-few : (most : ℕ) (key : Text) (ds : List Data) → length ds ≤ most → at_most most key ds ≡ Ok ds
at_most-few most key ds few = rw (le-leb (length ds) most few)

pub at_most-many : (most : ℕ) (key : Text) (ds : List Data) → most < length ds → at_most most key ds ≡ refused TooMany key
at_most-many most key ds many =
    let test : nat_le (length ds) most ≡ false = grind (arith, nat_tests) in
    rw test

-- a fault that is blamed right is that of the reading
pub blamed : {A : Type 0} (reading : Reading A) (why : Why) (key : Text) (e : ScriptFault) → IsBlamed why key e → reading ≡ refused why key → IsFaultOf reading e
blamed reading why key (Refused r) h is = rw (h.0, h.1) is
blamed reading why key Memory h is = tt

pub any_of_two_maps : {A B C : Type 0} (test : C → Bool) (f : B → C) (g : A → B) (xs : List A) → list_any (λ x. test (f (g x))) xs ≡ list_any test (map f (map g xs))
any_of_two_maps test f g xs = any_of_map (λ y. test (f y)) g xs ∙ any_of_map test f (map g xs)

pub any_of_append : {A : Type 0} (test : A → Bool) (xs ys : List A) → list_any test (xs ++ ys) ≡ (list_any test xs || list_any test ys)
any_of_append test [] ys = refl
any_of_append test (x ∷ xs) ys = ap (λ b. test x || b) (any_of_append test xs ys) ∙ or_assoc (test x) (list_any test xs) (list_any test ys)
  where
    or_assoc : (a b c : Bool) → (a || (b || c)) ≡ (a || b || c)
    or_assoc true b c = refl
    or_assoc false b c = refl
