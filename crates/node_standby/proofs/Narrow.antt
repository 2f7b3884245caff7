-- Records put behind a log have 64 components, as those before.
use Rattle.std.proofs.Common.{◌≡◌, ◌⊎◌, inl, inr, Bool, true, false, nat_le, if◌then◌else◌, arith, List, [], ◌∷◌, ◌++◌, length, filter, sym, subst}
use Rattle.std.proofs.lemmas.List.{get_or_past}
use Rattle.node_shipments.specs.kernel_invariant.model_cut_laws.Records.{commits_of}
use Rattle.node_shipments.specs.kernel_invariant.model_kernel.Choices.{IsNarrow}
use Rattle.kernel_views.specs.store_snapshots.store_books.Books.{Books, Logged, cut_in, kept_in, logged_recs, recs_in}

narrow_more : (ls : List Logged) (l : Logged) → length l.rec.stamp ≡ 64 → IsNarrow (commits_of (logged_recs ls)) → IsNarrow (commits_of (logged_recs (ls ++ l ∷ [])))
narrow_more [] l len narrow = ((λ y far. get_or_past l.rec.stamp y 0 (omega (arith, len, far))), tt)
narrow_more (m ∷ ls) l len narrow = (narrow.0, narrow_more ls l len narrow.1)

narrow_some : (f : Logged → Bool) (ls : List Logged) → IsNarrow (commits_of (logged_recs ls)) → IsNarrow (commits_of (logged_recs (filter f ls)))
narrow_some f [] narrow = tt
narrow_some f (m ∷ ls) narrow = elim (f m) as (λ t. IsNarrow (commits_of (logged_recs (if t then m ∷ filter f ls else filter f ls)))) [
  | true ↦ (narrow.0, narrow_some f ls narrow.1)
  | false ↦ narrow_some f ls narrow.1
]

pub narrow_log : (old new : Books) (l : Logged) → length l.rec.stamp ≡ 64 → IsNarrow (commits_of (recs_in old))
    → (new.logged ≡ old.logged ++ l ∷ []) ⊎ (new.logged ≡ kept_in old ++ l ∷ []) → IsNarrow (commits_of (recs_in new))
narrow_log old new l len narrow (inl is) = subst (λ (ls : List Logged). IsNarrow (commits_of (logged_recs ls))) (sym is) (narrow_more old.logged l len narrow)
narrow_log old new l len narrow (inr is) = subst (λ (ls : List Logged). IsNarrow (commits_of (logged_recs ls))) (sym is)
    (narrow_more (kept_in old) l len (narrow_some (λ (m : Logged). nat_le (cut_in old m.rec.entity) m.rec.version) old.logged narrow))
