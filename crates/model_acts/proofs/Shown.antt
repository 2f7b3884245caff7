-- The private region that a look begins through shows its page.
use Rattle.std.proofs.Common.{◌≡◌, ℕ, Bool, true, false, ◌&&◌, ◌==◌, if◌then◌else◌, List, [], ◌∷◌, All, Some, find, refl, arith, subst}
use Rattle.std.proofs.lemmas.List.Elements.{All-head, All-tail}
use Rattle.std.proofs.lemmas.Bool.Decides.{nat_tests}
use Rattle.base_types.specs.declared.capabilities.Private.{Private}
use Rattle.base_types.specs.declared.capabilities.Region.{Region}
use Rattle.model_kernel.specs.State.{LocusState}
use Rattle.model_kernel.specs.Refusals.{private_at}
use Rattle.model_kernel.specs.Words.{covers}
use Rattle.model_acts.specs.Views.{IsInside, ShowsPage}
use Rattle.model_kernel.proofs.Basics.{and_right}

-- what is found passes the test, and what holds of each holds of it
pub found_passes : {X : Type 0} (test : X → Bool) (P : X → Type 0) (xs : List X) (x : X) → All P xs → find test xs ≡ Some x → (test x ≡ true) × P x
found_passes test P [] x all h = cc
found_passes test P (y ∷ ys) x all h =
    elim (test y) as (λ b. test y ≡ b → (if b then Some y else find test ys) ≡ Some x → (test x ≡ true) × P x) [
      | true ↦ λ is e. let same : y ≡ x = cc in subst (λ z. (test z ≡ true) × P z) same (is, All-head P y ys all)
      | false ↦ λ is e. found_passes test P ys x (All-tail P y ys all) e
    ] refl h

pub shows : (r : Region) (page : ℕ) → covers r page ≡ true → IsInside r → ShowsPage r page
shows r page e inside = record { at = grind (arith, nat_tests); count = grind (arith, nat_tests); inside = inside }

-- the private region that covers a page shows it
pub private_shows : (l : LocusState) (page : ℕ) (p : Private) → All (λ (p : Private). IsInside p.region) l.privates → private_at l page ≡ Some p → ShowsPage p.region page
private_shows l page p all is =
    let found = found_passes (λ (p : Private). p.made == l.host && covers p.region page) (λ (p : Private). IsInside p.region) l.privates p all is in
    shows p.region page (and_right (p.made == l.host) (covers p.region page) found.0) found.1
