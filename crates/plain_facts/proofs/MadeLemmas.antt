-- What make makes.
use Rattle.std.proofs.Common.{◌≡◌, ℕ, ◌+◌, nat_lt, if◌then◌else◌, true, false, [], ◌∷◌, ◌++◌, length, Option, Some, None, refl, sym, subst}
use Rattle.base_types.specs.declared.histories.Answer.{Answer}
use Rattle.base_types.specs.declared.histories.Answer.TheVariants.{Reply as Replied}
use Rattle.base_types.specs.declared.instructions.Reply.TheVariants.{Ok}
use Rattle.model_kernel.specs.Outcomes.{finish, free_container, holding, made_container, made_name, make, make_at}
use Rattle.model_kernel.specs.State.{Supply, AtlasState, ContainerState, LocusState, ContainerCell}
use Rattle.plain_facts.specs.AtlasActs.{ActedOnAtlas}

free_is : (a : AtlasState) (n : ℕ) → free_container a ≡ Some n → length a.containers + 1 ≡ n
free_is a n free =
    elim (nat_lt (length a.containers) 40) as (λ b. (if b then Some (length a.containers + 1) else None) ≡ Some n → length a.containers + 1 ≡ n) [ true ↦ λ f. cc | false ↦ λ f. cc ] free

module _ (s : Supply) (l m : LocusState) (a b : AtlasState) (d pages tag : ℕ) (entry : Option ℕ) (n : ℕ) (k : ContainerState) (answer : Answer) where
  pub make_makes : free_container a ≡ Some n → m ≡ finish (holding l d n) Ok → answer ≡ Replied Ok → b ≡ record a { containers = a.containers ++ made_name n ∷ [] } → k ≡ made_container s l pages tag entry
      → ActedOnAtlas (make s l a d pages tag entry) m b (Some (length a.containers + 1, ContainerCell k)) answer
  unfolding make
  make_makes free locus answers atlas container =
      subst (λ o. ActedOnAtlas (make_at s l a d pages tag entry o) m b (Some (length a.containers + 1, ContainerCell k)) answer) (sym free)
      (record { locus = locus; answers = answers; atlas = atlas; other = refl; newborn = λ i. Some (sym (free_is a n free) i, ContainerCell (sym container i)) })
