-- What is left of a list from a cut on.
use Rattle.std.proofs.Common.{◌≡◌, ℕ, ◌≤◌, Bool, true, false, List, [], ◌∷◌, ◌++◌, if◌then◌else◌, refl, sym, ap, subst, ◌∙◌, arith}
use Rattle.std.proofs.lemmas.Bool.{le-leb, leb-true, false≢true}
use Rattle.std.proofs.lemmas.List.Elements.{filter-append}
use Rattle.std.specs.Prelude.{filter}
use Rattle.model_kernel.specs.Choices.{Commit, IsBelow}
use Rattle.model_cut_laws.specs.Agreeing.{is_from, from_cut}

module _ {X : Type 0} (low high : X → Bool) (lower : (c : X) → high c ≡ true → low c ≡ true) where
  pair : (c : X) (cs : List X) (a b : Bool) → low c ≡ a → high c ≡ b → filter high (filter low cs) ≡ filter high cs
      → filter high (if a then c ∷ filter low cs else filter low cs) ≡ (if b then c ∷ filter high cs else filter high cs)
  pair c cs true true l h e = subst (λ (x : Bool). (if x then c ∷ filter high (filter low cs) else filter high (filter low cs)) ≡ c ∷ filter high cs) (sym h) (ap (λ ds. c ∷ ds) e)
  pair c cs true false l h e = subst (λ (x : Bool). (if x then c ∷ filter high (filter low cs) else filter high (filter low cs)) ≡ filter high cs) (sym h) e
  pair c cs false true l h e = absurd (false≢true (sym l ∙ lower c h))
  pair c cs false false l h e = e

  -- a filter within a filter
  pub filter_within : (cs : List X) → filter high (filter low cs) ≡ filter high cs
  filter_within [] = refl
  filter_within (c ∷ cs) = pair c cs (low c) (high c) refl refl (filter_within cs)

raise : (cut p : ℕ → ℕ) → IsBelow cut p → (c : Commit) → is_from p c ≡ true → is_from cut c ≡ true
raise cut p below c h = le-leb (cut c.entity) c.version (let a : p c.entity ≤ c.version = leb-true (p c.entity) c.version h in let b : cut c.entity ≤ p c.entity = below c.entity in omega arith)

-- lists that agree from a cut on agree from any later cut on
pub higher : (cut p : ℕ → ℕ) (cs ds : List Commit) → IsBelow cut p → from_cut cut cs ≡ from_cut cut ds → from_cut p cs ≡ from_cut p ds
higher cut p cs ds below same =
    sym (filter_within (is_from cut) (is_from p) (raise cut p below) cs) ∙ (ap (filter (is_from p)) same ∙ filter_within (is_from cut) (is_from p) (raise cut p below) ds)

pub more : (cut p : ℕ → ℕ) (cs ds es : List Commit) → IsBelow cut p → from_cut cut cs ≡ from_cut cut ds → from_cut p (cs ++ es) ≡ from_cut p (ds ++ es)
more cut p cs ds es below same =
    filter-append (is_from p) cs es ∙ (ap (λ fs. fs ++ from_cut p es) (higher cut p cs ds below same) ∙ sym (filter-append (is_from p) ds es))

pub kept : (cut : ℕ → ℕ) (cs : List Commit) → from_cut cut cs ≡ from_cut cut (from_cut cut cs)
kept cut cs = sym (filter_within (is_from cut) (is_from cut) (λ c h. h) cs)
