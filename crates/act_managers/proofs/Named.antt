-- The manager of a number is one of the managers, so its program is a manager's.
use Rattle.std.proofs.Common.{◌≡◌, ℕ, ◌==◌, Bool, true, false, List, [], ◌∷◌, Option, Some, None, if◌then◌else◌, map, option_map, refl, sym, ◌∙◌, subst}
use Rattle.std.specs.List.{find, position_or_len}
use Rattle.std.proofs.lemmas.List.Elements.{All-get_or}
use Rattle.std.proofs.lemmas.List.Folds.{find_at}
use Rattle.std.proofs.lemmas.Option.{get_or_from_slice_get, slice_get_within}
use Rattle.base_managers.specs.Managing.{IsManagerCode, ManagerTable}
use Rattle.act_managers.specs.Answering.{CanAnswer, manager_named}

pub map_of_map : {A B C : Type 0} (f : B → C) (g : A → B) (o : Option A) → option_map (λ x. f (g x)) o ≡ option_map f (option_map g o)
map_of_map f g None = refl
map_of_map f g (Some x) = refl

pub find_of_map : {A B : Type 0} (test : B → Bool) (f : A → B) (xs : List A) → find test (map f xs) ≡ option_map f (find (λ x. test (f x)) xs)
find_of_map test f [] = refl
find_of_map test f (x ∷ xs) = by (find_of_map test f xs) (test (f x))
  where
    by : find test (map f xs) ≡ option_map f (find (λ y. test (f y)) xs) → (b : Bool) → (if b then Some (f x) else find test (map f xs)) ≡ option_map f (if b then Some x else find (λ y. test (f y)) xs)
    by more true = refl
    by more false = more

pub named_manages : (ms : List ManagerTable) (n : ℕ) (m : ManagerTable) → CanAnswer ms → Some m ≡ manager_named ms n
    → IsManagerCode m.code
named_manages ms n m all is =
    let place = position_or_len (λ (x : ManagerTable). x.number == n) ms in
    let at = sym (is ∙ find_at (λ (x : ManagerTable). x.number == n) ms) in
    subst (λ (x : ManagerTable). IsManagerCode x.code) (get_or_from_slice_get ms place m m at)
    (All-get_or (λ (x : ManagerTable). IsManagerCode x.code) ms place m (slice_get_within ms place m at) all)
