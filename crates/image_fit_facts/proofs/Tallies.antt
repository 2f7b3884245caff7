-- Counts of the regions that show each entity.
use Rattle.std.proofs.Common.{◌≡◌, ℕ, zero, suc, ◌+◌, ◌<◌, ◌≤◌, Bool, cond, ◌==◌, List, [], ◌∷◌, length, set, get_or, take, refl, sym, ap, ◌∙◌, ⊎_elim, arith, get_or-set_same, get_or-set_other, eq-eqb}
use Rattle.std.specs.Prelude.{slice_index}
use Rattle.std.proofs.lemmas.Bool.{cases_eq, cases_lt}
use Rattle.std.proofs.lemmas.List.Sums.{sum_by_more}
use borrow.Author.Tests.{ne_eqb}
use Rattle.model_circles.specs.Containers.{IsAmongContainers}
use Rattle.base_types.specs.Edges.{Edges}
use Rattle.base_types.specs.declared.capabilities.Region.{Region}
use Rattle.image_fit_facts.specs.Edges.{IsRow, IsTally, count_onto}

-- past the end of a list of numbers there is 0
pub past_end : (xs : List ℕ) (y : ℕ) → length xs ≤ y → slice_index xs y ≡ 0
past_end [] y le = refl
past_end (x ∷ xs) zero le = absurd (omega arith)
past_end (x ∷ xs) (suc y) le = past_end xs y (omega arith)

abbrev one_if : Bool → ℕ
one_if b = cond b 1 0

pub tally_more : (counts : List ℕ) (regions : List Region) (i : ℕ) (r : Region) → i < length regions → r ≡ get_or regions i r → r.target < length counts
    → IsTally counts (take i regions) → IsTally (set counts r.target (get_or counts r.target 0 + 1)) (take (i + 1) regions)
tally_more counts regions i r lt is within tally y =
    let more : count_onto (take (i + 1) regions) y ≡ count_onto (take i regions) y + one_if (r.target == y) =
    sum_by_more (λ (q : Region). cond (q.target == y) 1 0) regions i r lt ∙ ap (λ (q : Region). count_onto (take i regions) y + one_if (q.target == y)) (sym is) in
    ⊎_elim
    (λ (same : y ≡ r.target).
    let here : get_or (set counts r.target (get_or counts r.target 0 + 1)) y 0 ≡ get_or counts r.target 0 + 1 =
    ap (λ z. get_or (set counts r.target (get_or counts r.target 0 + 1)) z 0) same ∙ get_or-set_same counts r.target (get_or counts r.target 0 + 1) 0 within in
    let was : get_or counts r.target 0 ≡ count_onto (take i regions) y = ap (λ z. get_or counts z 0) (sym same) ∙ tally y in
    let one : one_if (r.target == y) ≡ 1 = ap one_if (eq-eqb r.target y (sym same)) in
    here ∙ (ap (λ n. n + 1) was ∙ (ap (λ n. count_onto (take i regions) y + n) (sym one) ∙ sym more)))
    (λ (other : y ≡ r.target → ⊥).
    let there : get_or (set counts r.target (get_or counts r.target 0 + 1)) y 0 ≡ get_or counts y 0 = get_or-set_other counts r.target y (get_or counts r.target 0 + 1) 0 other in
    let none : one_if (r.target == y) ≡ 0 = ap one_if (ne_eqb r.target y (λ e. other (sym e))) in
    let plus : count_onto (take i regions) y ≡ count_onto (take i regions) y + one_if (r.target == y) = omega (arith, none) in
    there ∙ (tally y ∙ (plus ∙ sym more)))
    (cases_eq y r.target)

-- a row that agrees with the counts of all entities is that of the regions
pub row_by : (edges : Edges) (x : ℕ) (counts : List ℕ) (regions : List Region) → IsAmongContainers edges → length counts ≡ 64 → IsTally counts regions
    → ((y : ℕ) → y < 64 → edges x y ≡ slice_index counts y) → IsRow edges x regions
row_by edges x counts regions among long tally row y = ⊎_elim
    (λ (below : y < 64). row y below ∙ tally y)
    (λ (behind : 64 ≤ y). none (edges x y) refl behind ∙ (sym (past_end counts y (omega arith)) ∙ tally y))
    (cases_lt y 64)
  where
    none : (n : ℕ) → edges x y ≡ n → 64 ≤ y → edges x y ≡ 0
    none zero e behind = e
    none (suc n) e behind = let lt = (among x y (omega (arith, e))).3 in absurd (omega arith)
