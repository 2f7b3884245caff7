-- Paths and circles: one edge more.
use Rattle.std.proofs.Common.{◌≡◌, ℕ, ◌<◌, ◌⊎◌, inl, inr, List, [], ◌∷◌, ◌++◌, sym, subst}
use Rattle.model_kernel.specs.base_types.Edges.{Edges, IsPath}
use Rattle.model_kernel.specs.Soundness.{HasNoCircle}

-- a path behind a path
pub joined_path : (edges : Edges) (c d e : ℕ) (p q : List ℕ) → IsPath edges c p d → IsPath edges d q e → IsPath edges c (p ++ q) e
joined_path edges c d e [] q h k = subst (λ x. IsPath edges x q e) (sym h) k
joined_path edges c d e (x ∷ p) q h k = (h.0, joined_path edges x d e p q h.1 k)

-- fewer edges close no circle
pub fewer_no_circle : (old new : Edges) → ((x y : ℕ) → 0 < new x y → 0 < old x y) → HasNoCircle old → HasNoCircle new
fewer_no_circle old new less none c x path h = none c x path (less c x h.0, kept x path h.1)
  where
    kept : (x : ℕ) (path : List ℕ) → IsPath new x path c → IsPath old x path c
    kept x [] h = h
    kept x (y ∷ path) h = (less x y h.0, kept y path h.1)

-- ONE EDGE MORE

-- each edge is an old one, or the one from n to d
module _ (old new : Edges) (n d : ℕ) (more : (x y : ℕ) → 0 < new x y → (0 < old x y) ⊎ ((x ≡ n) × (y ≡ d))) where
  -- a path along old edges, or one that passes the new edge
  abbrev pub Passes : ℕ → List ℕ → ℕ → Type 0
  Passes u p v = IsPath old u p v ⊎ (((q : List ℕ) × IsPath old u q n) × ((q : List ℕ) × IsPath old d q v))

  passes : (u v : ℕ) (p : List ℕ) → IsPath new u p v → Passes u p v
  passes u v [] h = inl h
  passes u v (x ∷ p) h = by_edge (more u x h.0) (passes x v p h.1)
    where
      by_edge : (0 < old u x) ⊎ ((u ≡ n) × (x ≡ d)) → Passes x p v → Passes u (x ∷ p) v
      by_edge (inl e) (inl k) = inl (e, k)
      by_edge (inl e) (inr k) = inr ((x ∷ k.0.0, (e, k.0.1)), k.1)
      by_edge (inr e) (inl k) = inr (([], e.0), (p, subst (λ z. IsPath old z p v) e.1 k))
      by_edge (inr e) (inr k) = inr (([], e.0), k.1)

  -- where d doesn't reach n, it closes no circle
  pub more_no_circle : HasNoCircle old → ((q : List ℕ) → IsPath old d q n → ⊥) → HasNoCircle new
  more_no_circle none apart c x path h = by_pass (passes c c (x ∷ path) h)
    where
      by_pass : Passes c (x ∷ path) c → ⊥
      by_pass (inl k) = none c x path k
      by_pass (inr k) = apart (k.1.0 ++ k.0.0) (joined_path old d c n k.1.0 k.0.0 k.1.1 k.0.1)
