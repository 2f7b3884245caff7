-- Marks that spread from containers that show no others: those that are marked are on no circle, and where none is left to be
-- marked each unmarked one leads on to an unmarked one, so that some path comes back.
use Rattle.std.proofs.Common.{◌≡◌, ℕ, zero, suc, ◌<◌, ◌≤◌, Bool, true, false, ◌⊎◌, inl, inr, List, [], ◌∷◌, ◌++◌, length, set, refl, sym, ap, subst, ◌∙◌, ⊎_elim, arith, get_or-set_other}
use Rattle.std.specs.Prelude.{◌↔◌, IsTrue, replicate}
use Rattle.std.specs.List.{list_all}
use Rattle.std.proofs.lemmas.Bool.{false≢true, cases_eq, cases_lt}
use Rattle.data_atlas_facts.proofs.Pigeons.{pigeons}
use Rattle.model_circles.specs.Containers.{IsAmongContainers}
use Rattle.model_circles.specs.Marks.{IsClosed, is_marked}
use Rattle.model_circles.proofs.Marks.{closed_path, none_marked, path_more, still_marked}
use Rattle.base_types.specs.Edges.{Edges, IsPath}
use Rattle.image_meaning.specs.model_kernel.Soundness.{HasNoCircle}
use Rattle.image_fit_facts.specs.Circles.{IsLeaf, IsStuck}

-- what a marked container shows is marked, and no marked one is on a circle
pub record AreFree (edges : Edges) (marks : List Bool) : Type 0 where
  pub closed : IsClosed edges marks
  pub free : (x y : ℕ) (path : List ℕ) → is_marked marks x ≡ true → IsPath edges x (y ∷ path) x → ⊥

mark_cases : (marks : List Bool) (x : ℕ) → (is_marked marks x ≡ true) ⊎ (is_marked marks x ≡ false)
mark_cases marks x = by (is_marked marks x)
  where
    by : (b : Bool) → (b ≡ true) ⊎ (b ≡ false)
    by true = inl refl
    by false = inr refl

module _ (edges : Edges) (among : IsAmongContainers edges) (marks : List Bool) (leaf : ℕ) (is : IsLeaf edges marks leaf) where
  -- what a leaf shows is marked
  shown_marked : (y : ℕ) → 0 < edges leaf y → is_marked marks y ≡ true
  shown_marked y some = ⊎_elim
      (λ (m : is_marked marks y ≡ true). m)
      (λ (u : is_marked marks y ≡ false). absurd (is.none (record { other = y; is_container = (among leaf y some).3; unmarked = u; shows = some })))
      (mark_cases marks y)

  was_marked : (x : ℕ) → (x ≡ leaf → ⊥) → is_marked (set marks leaf true) x ≡ true → is_marked marks x ≡ true
  was_marked x other m = sym (get_or-set_other marks leaf x true false other) ∙ m

  pub free_more : AreFree edges marks → AreFree edges (set marks leaf true)
  free_more f = record {
    closed = λ x y m some. still_marked marks y leaf (shown x y m some (cases_eq x leaf));
    free = λ x y path m p. none x y path m p (cases_eq x leaf);
  }
    where
      shown : (x y : ℕ) → is_marked (set marks leaf true) x ≡ true → 0 < edges x y → (x ≡ leaf) ⊎ (x ≡ leaf → ⊥) → is_marked marks y ≡ true
      shown x y m some (inl same) = shown_marked y (subst (λ z. 0 < edges z y) same some)
      shown x y m some (inr other) = f.closed x y (was_marked x other m) some

      none : (x y : ℕ) (path : List ℕ) → is_marked (set marks leaf true) x ≡ true → IsPath edges x (y ∷ path) x → (x ≡ leaf) ⊎ (x ≡ leaf → ⊥) → ⊥
      none x y path m p (inl same) =
          let there : is_marked marks x ≡ true = closed_path edges marks f.closed y x path (shown_marked y (subst (λ z. 0 < edges z y) same p.0)) p.1 in
          false≢true (sym is.unmarked ∙ (ap (is_marked marks) (sym same) ∙ there))
      none x y path m p (inr other) = f.free x y path (was_marked x other m) p

-- THE END: none is left to be marked

module _ (edges : Edges) (marks : List Bool) (stuck : IsStuck edges marks) where
  abbrev Unmarked : Type 0
  Unmarked = (x : ℕ) × (x < 41) × (is_marked marks x ≡ false)

  abbrev next : Unmarked → Unmarked
  next u = let s = stuck u.0 u.1 u.2 in (s.other, s.is_container, s.unmarked)

  abbrev walk : Unmarked → ℕ → Unmarked
  walk u zero = u
  walk u (suc n) = next (walk u n)

  edge : (u : Unmarked) (n : ℕ) → 0 < edges (walk u n).0 (walk u (suc n)).0
  edge u n = let w = walk u n in (stuck w.0 w.1 w.2).shows

  leads_on : (u : Unmarked) (i j : ℕ) → i ≤ j → (path : List ℕ) × IsPath edges (walk u i).0 path (walk u j).0
  leads_on u i zero le = ([], let e : i ≡ 0 = omega arith in ap (λ n. (walk u n).0) e)
  leads_on u i (suc j) le = ⊎_elim
      (λ (before : i < suc j). let p = leads_on u i j (omega arith) in (p.0 ++ (walk u (suc j)).0 ∷ [], path_more edges (walk u i).0 (walk u j).0 (walk u (suc j)).0 p.0 p.1 (edge u j)))
      (λ (behind : suc j ≤ i). ([], let e : i ≡ suc j = omega arith in ap (λ n. (walk u n).0) e))
      (cases_lt i (suc j))

  comes_back : HasNoCircle edges → (u : Unmarked) (i j : ℕ) → i < j → (walk u i).0 ≡ (walk u j).0 → ⊥
  comes_back none u i j lt same =
      let p = leads_on u (suc i) j (omega arith) in
      none (walk u i).0 (walk u (suc i)).0 p.0 (edge u i, subst (IsPath edges (walk u (suc i)).0 p.0) (sym same) p.1)

  has_circle : Unmarked → HasNoCircle edges → ⊥
  has_circle u none =
      let most : 42 ≤ 41 = pigeons 42 41 (λ i. (walk u i).0) (λ i lt. (walk u i).1) (λ i j lt end same. comes_back none u i j lt same) in
      omega (arith, most)

unmarked_one : (marks : List Bool) → list_all (λ mark. mark) marks ≡ false → (x : ℕ) × (x < length marks) × (is_marked marks x ≡ false)
unmarked_one [] e = absurd (false≢true (sym e))
unmarked_one (true ∷ marks) e = let u = unmarked_one marks e in (suc u.0, omega (arith, u.1), u.2)
unmarked_one (false ∷ marks) e = (0, omega arith, refl)

marked_each : (marks : List Bool) → list_all (λ mark. mark) marks ≡ true → (x : ℕ) → x < length marks → is_marked marks x ≡ true
marked_each [] e x lt = absurd (omega arith)
marked_each (true ∷ marks) e zero lt = refl
marked_each (true ∷ marks) e (suc x) lt = marked_each marks e x (omega arith)
marked_each (false ∷ marks) e x lt = absurd (false≢true e)

pub marks_tell : (edges : Edges) (marks : List Bool) → IsAmongContainers edges → length marks ≡ 41 → AreFree edges marks → IsStuck edges marks
    → IsTrue (list_all (λ mark. mark) marks) ↔ HasNoCircle edges
marks_tell edges marks among long free stuck = (none, λ h. by h (list_all (λ mark. mark) marks) refl)
  where
    none : list_all (λ mark. mark) marks ≡ true → HasNoCircle edges
    none all x y path p = free.free x y path (marked_each marks all x (omega (arith, long, (among x y p.0).1))) p

    by : HasNoCircle edges → (b : Bool) → list_all (λ mark. mark) marks ≡ b → b ≡ true
    by h true e = refl
    by h false e = let u = unmarked_one marks e in absurd (has_circle edges marks stuck (u.0, omega (arith, u.1, long), u.2) h)

-- at first none is marked
pub free_at_first : (edges : Edges) (n : ℕ) → AreFree edges (replicate n false)
free_at_first edges n = record {
  closed = λ x y m some. absurd (false≢true (sym (none_marked n x) ∙ m));
  free = λ x y path m p. false≢true (sym (none_marked n x) ∙ m);
}
