-- One record more doesn't lower the greatest closed choice.
use Rattle.std.proofs.Common.{◌≡◌, ℕ, ◌⊎◌, inl, inr, List, [], ◌∷◌, ◌++◌, sym, subst}
use Rattle.std.proofs.lemmas.List.{map-append}
use Rattle.base_types.specs.declared.records.Rec.{Rec}
use Rattle.store_books.proofs.model_kernel_lemmas.Lowering.{greatest_is}
use Rattle.store_books.specs.model_kernel.Choices.{Among, Commit, IsBelow, IsClosedChoice, IsNarrow}
use Rattle.store_books.specs.model_cut_laws.Agreeing.{nothing}
use Rattle.store_books.specs.model_cut_laws.Records.{commit_of, commits_of}
use Rattle.store_books.specs.image_meaning.Parts.{cut_of}

among_more : (P : Commit → Type 0) (cs ds : List Commit) → Among cs P → Among (cs ++ ds) P
among_more P [] ds h = elim h [ ]
among_more P (c ∷ cs) ds (inl h) = inl h
among_more P (c ∷ cs) ds (inr h) = inr (among_more P cs ds h)

closed_more : (cs ds : List Commit) (p : ℕ → ℕ) → IsClosedChoice nothing cs p → IsClosedChoice nothing (cs ++ ds) p
closed_more cs ds p closed x = elim (closed x) as (λ _. (p x ≡ nothing x) ⊎ Among (cs ++ ds) (λ c. (c.entity ≡ x) × (c.version ≡ p x) × IsBelow c.stamp p)) [
  | inl none ↦ inl none
  | inr some ↦ inr (among_more (λ c. (c.entity ≡ x) × (c.version ≡ p x) × IsBelow c.stamp p) cs ds some)
]

-- a closed choice stays below the greatest one of a record more
pub closed_below : (recs : List Rec) (r : Rec) (p : ℕ → ℕ) → IsClosedChoice nothing (commits_of recs) p → IsNarrow (commits_of (recs ++ r ∷ [])) → IsBelow p (cut_of (recs ++ r ∷ []))
closed_below recs r p closed more =
    (greatest_is nothing (commits_of (recs ++ r ∷ [])) more).greatest p
    (subst (λ (cs : List Commit). IsClosedChoice nothing cs p) (sym (map-append commit_of recs (r ∷ []))) (closed_more (commits_of recs) (commit_of r ∷ []) p closed))

pub cut_rises : (recs : List Rec) (r : Rec) → IsNarrow (commits_of recs) → IsNarrow (commits_of (recs ++ r ∷ [])) → IsBelow (cut_of recs) (cut_of (recs ++ r ∷ []))
cut_rises recs r narrow more = closed_below recs r (cut_of recs) (greatest_is nothing (commits_of recs) narrow).closed more
