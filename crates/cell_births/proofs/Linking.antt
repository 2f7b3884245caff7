-- The edges of a newborn container, counted region by region.
use Rattle.std.proofs.Common.{◌≡◌, ℕ, ◌+◌, ◌<◌, ◌≤◌, Bool, true, false, ◌&&◌, ◌==◌, if◌then◌else◌, List, [], ◌∷◌, ◌++◌, Option, IsTrue, take, get_or, length, refl, sym, ap, ◌∙◌, arith, eqb-true, eq-eqb}
use Rattle.std.specs.List.{All}
use Rattle.std.proofs.lemmas.Bool.Decides.{nat_tests}
use Rattle.std.proofs.lemmas.List.Sums.{count_by_more_no, count_by_more_yes, count_by-le-length}
use Rattle.std.proofs.lemmas.List.Elements.{All-weaker}
use Rattle.std.proofs.lemmas.List.{length-take}
use Rattle.base_types.specs.Edges.{Edges}
use Rattle.base_types.specs.declared.capabilities.Region.{Region}
use Rattle.script_types.specs.model_kernel.Births.{edges_from, number_or_0, regions_from, with_container_name}
use Rattle.script_types.specs.model_kernel.Scripts.{RegionTable}
use Rattle.script_types.specs.model_kernel.Soundness.{is_born_container}
use Rattle.script_types.specs.model_kernel.State.{Text}
use Rattle.act_alone.proofs.model_sound_steps_lemmas.RegionLists.{shown}
use Rattle.script_fits.proofs.model_sound_runs_lemmas.Tables.{all_regions}
use Rattle.script_fits.proofs.model_sound_runs_lemmas.TableEdges.{model_containers, model_edges, model_loci}
use Rattle.data_atlas.specs.data_atlas_facts.Directory.{Directory, edges_of}
use Rattle.data_atlas.specs.data_atlas_facts.Reached.{with_edge}
use Rattle.script_fits.specs.act_calls.Calls.{atlas_state}

shown_next : (rs : List Region) (i : ℕ) (r : Region) (y : ℕ) → i < length rs → r ≡ get_or rs i r → shown (take (i + 1) rs) y ≡ shown (take i rs) y + (if r.target == y then 1 else 0)
shown_next rs i r y lt is = by (r.target == y) refl
  where
    at : {b : Bool} → (r.target == y) ≡ b → (get_or rs i r).target == y ≡ b
    at e = ap (λ (q : Region). q.target == y) (sym is) ∙ e

    by : (b : Bool) → (r.target == y) ≡ b → shown (take (i + 1) rs) y ≡ shown (take i rs) y + (if b then 1 else 0)
    by true e = count_by_more_yes (λ (q : Region). q.target == y) rs i r lt (at e)
    by false e = count_by_more_no (λ (q : Region). q.target == y) rs i r lt (at e) ∙ omega arith

-- one edge more
pub linked : (old here new : Edges) (n : ℕ) (rs : List Region) (i : ℕ) (r : Region) → i < length rs → r ≡ get_or rs i r
    → ((x y : ℕ) → here x y ≡ old x y + (if x == n then shown (take i rs) y else 0)) → new ≡ with_edge here n r.target (here n r.target + 1)
    → (x y : ℕ) → new x y ≡ old x y + (if x == n then shown (take (i + 1) rs) y else 0)
linked old here new n rs i r lt is so_far makes x y = ap (λ (e : Edges). e x y) makes ∙ by (x == n) (y == r.target) refl refl
  where
    next : shown (take (i + 1) rs) y ≡ shown (take i rs) y + (if r.target == y then 1 else 0)
    next = shown_next rs i r y lt is

    by : (b c : Bool) → (x == n) ≡ b → (y == r.target) ≡ c → (if x == n && y == r.target then here n r.target + 1 else here x y) ≡ old x y + (if x == n then shown (take (i + 1) rs) y else 0)
    by false c e f =
        ap (λ (b : Bool). if b && y == r.target then here n r.target + 1 else here x y) e ∙ so_far x y ∙ ap (λ (b : Bool). old x y + (if b then shown (take i rs) y else 0)) e
        ∙ sym (ap (λ (b : Bool). old x y + (if b then shown (take (i + 1) rs) y else 0)) e)
    by true true e f =
        let at : x ≡ n = eqb-true x n e in
        let to : y ≡ r.target = eqb-true y r.target f in
        let back : (r.target == y) ≡ true = eq-eqb r.target y (sym to) in
        let before : here n r.target ≡ old x y + shown (take i rs) y =
        (λ j. here (sym at j) (sym to j)) ∙ so_far x y ∙ ap (λ (b : Bool). old x y + (if b then shown (take i rs) y else 0)) e in
        let more : shown (take (i + 1) rs) y ≡ shown (take i rs) y + 1 = next ∙ ap (λ (b : Bool). shown (take i rs) y + (if b then 1 else 0)) back in
        (λ j. if e j && f j then here n r.target + 1 else here x y) ∙ omega (arith, before, more) ∙ sym (ap (λ (b : Bool). old x y + (if b then shown (take (i + 1) rs) y else 0)) e)
    by true false e f =
        let back : (r.target == y) ≡ false = off f in
        let more : shown (take (i + 1) rs) y ≡ shown (take i rs) y = next ∙ ap (λ (b : Bool). shown (take i rs) y + (if b then 1 else 0)) back ∙ omega arith in
        (λ j. if e j && f j then here n r.target + 1 else here x y) ∙ so_far x y ∙ ap (λ (b : Bool). old x y + (if b then shown (take i rs) y else 0)) e ∙ ap (λ m. old x y + m) (sym more)
        ∙ sym (ap (λ (b : Bool). old x y + (if b then shown (take (i + 1) rs) y else 0)) e)
      where
        off : (y == r.target) ≡ false → (r.target == y) ≡ false
        off f = grind (arith, nat_tests)

-- the directory with the newborn's name and its edges
pub same_atlas : (d e : Directory) (number : Text → Option ℕ) (n : ℕ) (ts : List RegionTable) (name : Text) → e.containers ≡ d.containers ++ name ∷ [] → e.loci ≡ d.loci
    → ((x y : ℕ) → edges_of e x y ≡ edges_of d x y + (if x == n then shown (regions_from number ts) y else 0))
    → atlas_state e ≡ edges_from number n ts (with_container_name (atlas_state d) name)
same_atlas d e number n ts name containers loci counts =
    let named = with_container_name (atlas_state d) name in
    let cs = containers ∙ sym (model_containers number n ts named) in
    let ls = loci ∙ sym (model_loci number n ts named) in
    let es : (x y : ℕ) → edges_of e x y ≡ (edges_from number n ts named).edges x y = (λ x y. counts x y ∙ sym (model_edges number n ts named x y)) in
    (λ i. record { containers = cs i; loci = ls i; edges = λ x y. es x y i })

-- regions show numbers of containers
pub targets_small : (d : Directory) (number : Text → Option ℕ) (ts : List RegionTable) → length d.containers < 40 → All (λ (r : RegionTable). IsTrue (is_born_container (atlas_state d) (number_or_0 number r.target))) ts
    → All (λ (r : Region). (1 ≤ r.target) × (r.target ≤ 40)) (regions_from number ts)
targets_small d number ts few all =
    All-weaker (λ (r : Region). IsTrue (is_born_container (atlas_state d) r.target)) (λ (r : Region). (1 ≤ r.target) × (r.target ≤ 40)) (λ r born. small r.target born) (regions_from number ts)
    (all_regions (λ (r : Region). IsTrue (is_born_container (atlas_state d) r.target)) number ts all)
  where
    small : (x : ℕ) → IsTrue (is_born_container (atlas_state d) x) → (1 ≤ x) × (x ≤ 40)
    small x born = (low x born, high x born)
      where
        low : (x : ℕ) → IsTrue (is_born_container (atlas_state d) x) → 1 ≤ x
        low x born = grind (arith, nat_tests)

        high : (x : ℕ) → IsTrue (is_born_container (atlas_state d) x) → x ≤ 40
        high x born = grind (arith, nat_tests)
