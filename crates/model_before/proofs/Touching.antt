-- Lists of touches and of entities.
use Rattle.std.proofs.Common.{◌≡◌, ℕ, Bool, true, false, ◌&&◌, ◌||◌, ◌==◌, inl, inr, List, [], ◌∷◌, ◌++◌, refl, ap, ◌∙◌, eq-eqb, eqb-true}
use Rattle.std.specs.List.{list_any}
use Rattle.std.proofs.lemmas.Bool.{false≢true, or_cases}
use Rattle.base_types.specs.declared.histories.Touch.{Touch}
use Rattle.model_kernel.specs.Pasts.{entities, has}
use Rattle.model_kernel.proofs.Basics.{and_left, and_right, both, or_left, or_right}

pub has_append : (ys zs : List ℕ) (x : ℕ) → has (ys ++ zs) x ≡ (has ys x || has zs x)
has_append [] zs x = refl
has_append (y ∷ ys) zs x = ap (λ b. (y == x) || b) (has_append ys zs x) ∙ regroup (y == x) (has ys x) (has zs x)
  where
    regroup : (a b c : Bool) → (a || (b || c)) ≡ ((a || b) || c)
    regroup true b c = refl
    regroup false b c = refl

pub has_entities : (ts : List Touch) (x : ℕ) → has (entities ts) x ≡ list_any (λ t. t.entity == x) ts
has_entities [] x = refl
has_entities (t ∷ ts) x = ap (λ b. (t.entity == x) || b) (has_entities ts x)

-- an entry that writes one of these
pub one_written : (ts : List Touch) (zs : List ℕ) (x : ℕ) → list_any (λ t. t.entity == x && t.wrote) ts ≡ true → has zs x ≡ true → list_any (λ t. t.wrote && has zs t.entity) ts ≡ true
one_written [] zs x wrote there = wrote
one_written (t ∷ ts) zs x wrote there =
    elim (or_cases (t.entity == x && t.wrote) _ wrote) as (λ _. (t.wrote && has zs t.entity || list_any (λ t. t.wrote && has zs t.entity) ts) ≡ true) [
      | inl here ↦ or_left (t.wrote && has zs t.entity) _ (both t.wrote (has zs t.entity) (and_right _ _ here) (ap (has zs) (eqb-true _ _ (and_left _ _ here)) ∙ there))
      | inr later ↦ or_right (t.wrote && has zs t.entity) _ (one_written ts zs x later there)
    ]

pub written_one : (ts : List Touch) (zs : List ℕ) → list_any (λ t. t.wrote && has zs t.entity) ts ≡ true → (x : ℕ) × (list_any (λ t. t.entity == x && t.wrote) ts ≡ true) × (has zs x ≡ true)
written_one [] zs some = absurd (false≢true some)
written_one (t ∷ ts) zs some =
    elim (or_cases (t.wrote && has zs t.entity) _ some) as (λ _. (x : ℕ) × (list_any (λ t. t.entity == x && t.wrote) (t ∷ ts) ≡ true) × (has zs x ≡ true)) [
      | inl here ↦ (t.entity, or_left (t.entity == t.entity && t.wrote) _ (both _ _ (eq-eqb t.entity t.entity refl) (and_left _ _ here)), and_right t.wrote _ here)
      | inr later ↦ (let k = written_one ts zs later in (k.0, or_right (t.entity == k.0 && t.wrote) _ k.1, k.2))
    ]
