-- Marks that spread along edges from one number: what is reached, and how many are left to be marked.
use Rattle.std.proofs.Common.{◌≡◌, ℕ, zero, suc, ◌<◌, Bool, true, false, List, [], ◌∷◌, ◌++◌, length, set, refl, sym, ap, ◌∙◌, subst, ⊎_elim, arith, get_or-set_other}
use Rattle.std.specs.Prelude.{replicate}
use Rattle.std.proofs.lemmas.Bool.{false≢true, cases_eq}
use Rattle.base_types.specs.Edges.{Edges, IsPath}
use Rattle.model_circles.specs.Marks.{IsClosed, is_marked}

-- one edge more
pub path_more : (edges : Edges) (c x y : ℕ) (path : List ℕ) → IsPath edges c path x → 0 < edges x y → IsPath edges c (path ++ y ∷ []) y
path_more edges c x y [] p e = (subst (λ z. 0 < edges z y) (sym p) e, refl)
path_more edges c x y (z ∷ path) p e = (p.0, path_more edges z x y path p.1 e)

-- what is reached from a marked number is marked where no edge leads out
pub closed_path : (edges : Edges) (marks : List Bool) → IsClosed edges marks → (c d : ℕ) (path : List ℕ) → is_marked marks c ≡ true → IsPath edges c path d → is_marked marks d ≡ true
closed_path edges marks closed c d [] m p = ap (is_marked marks) (sym p) ∙ m
closed_path edges marks closed c d (x ∷ path) m p = closed_path edges marks closed x d path (closed c x m p.0) p.1

-- each marked number is reached
abbrev pub AllReached : Edges → ℕ → List Bool → Type 0
AllReached edges from marks = (y : ℕ) → is_marked marks y ≡ true → (path : List ℕ) × IsPath edges from path y

pub reached_more : (edges : Edges) (from : ℕ) (marks : List Bool) (x y : ℕ) → AllReached edges from marks → is_marked marks x ≡ true → 0 < edges x y → AllReached edges from (set marks y true)
reached_more edges from marks x y all m e = λ z k. ⊎_elim
    (λ (same : z ≡ y). let p = all x m in (p.0 ++ y ∷ [], subst (IsPath edges from (p.0 ++ y ∷ [])) (sym same) (path_more edges from x y p.0 p.1 e)))
    (λ (other : z ≡ y → ⊥). all z (sym (get_or-set_other marks y z true false other) ∙ k))
    (cases_eq z y)

pub still_marked : (marks : List Bool) (x y : ℕ) → is_marked marks x ≡ true → is_marked (set marks y true) x ≡ true
still_marked [] x y m = m
still_marked (b ∷ marks) zero zero m = refl
still_marked (b ∷ marks) zero (suc y) m = m
still_marked (b ∷ marks) (suc x) zero m = m
still_marked (b ∷ marks) (suc x) (suc y) m = still_marked marks x y m

-- how many are not marked
abbrev pub unmarked : List Bool → ℕ
unmarked [] = 0
unmarked (true ∷ marks) = unmarked marks
unmarked (false ∷ marks) = suc (unmarked marks)

pub unmarked_less : (marks : List Bool) (y : ℕ) → y < length marks → is_marked marks y ≡ false → unmarked (set marks y true) < unmarked marks
unmarked_less [] y l m = absurd (omega arith)
unmarked_less (true ∷ marks) zero l m = absurd (false≢true (sym m))
unmarked_less (false ∷ marks) zero l m = omega arith
unmarked_less (true ∷ marks) (suc y) l m = unmarked_less marks y (omega arith) m
unmarked_less (false ∷ marks) (suc y) l m = omega (arith, unmarked_less marks y (omega arith) m)

-- at first none is marked, and then one number alone
pub none_marked : (n y : ℕ) → is_marked (replicate n false) y ≡ false
none_marked zero y = refl
none_marked (suc n) zero = refl
none_marked (suc n) (suc y) = none_marked n y

pub one_marked : (edges : Edges) (from n : ℕ) → AllReached edges from (set (replicate n false) from true)
one_marked edges from n = λ y k. ⊎_elim
    (λ (same : y ≡ from). ([], sym same))
    (λ (other : y ≡ from → ⊥). absurd (false≢true (sym (none_marked n y) ∙ sym (get_or-set_other (replicate n false) from y true false other) ∙ k)))
    (cases_eq y from)
