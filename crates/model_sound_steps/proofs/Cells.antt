-- Sound states, cell by cell: what may stand at a number, and a few changed cells.
use Rattle.std.proofs.Common.{◌≡◌, ℕ, ◌+◌, ◌<◌, ◌≤◌, Bool, true, false, if◌then◌else◌, ◌==◌, IsTrue, List, [], ◌∷◌, length, refl, sym, ap, subst, ◌∙◌, arith, eqb-true}
use Rattle.std.specs.List.{All}
use Rattle.std.proofs.lemmas.Bool.Decides.{nat_tests}
use Rattle.std.proofs.lemmas.List.Elements.{All-head, All-tail, All-weaker}
use Rattle.model_kernel.specs.base_types.declared.capabilities.Region.{Region}
use Rattle.model_kernel.specs.State.{AtlasState, ContainerState, LocusState, Cell, NotBorn, AtlasCell, ContainerCell, LocusCell}
use Rattle.model_kernel.specs.Soundness.{AreSound, IsSoundAtlas, IsSoundContainer, IsSoundLocus, IsSoundRegion, is_born, is_born_container, is_born_locus, regions_onto}
use Rattle.model_kernel.specs.Words.{is_container, is_locus}
use Rattle.model_circles.specs.Containers.{IsAmongContainers}
use Rattle.model_sound_steps.proofs.Growth.{Wider, born_container, born_locus, wider_container, wider_container_state, wider_locus, wider_locus_state}
use Rattle.model_sound_steps.proofs.RegionLists.{shown, shown_more}
use Rattle.std.proofs.lemmas.Bool.{true≢false}

-- what may stand at x in a sound state
abbrev pub Fits : AtlasState → ℕ → Cell → Type 0
Fits a x NotBorn = is_born a x ≡ false
Fits a x (AtlasCell b) = (x ≡ 0) × (b ≡ a)
Fits a x (ContainerCell c) = IsTrue (is_born_container a x) × IsSoundContainer a c
Fits a x (LocusCell l) = IsTrue (is_born_locus a x) × IsSoundLocus a l

-- SOUND STATES ARE THOSE WHOSE CELLS FIT

pub fits_in : (a : AtlasState) (cells : ℕ → Cell) → AreSound a cells → (x : ℕ) → Fits a x (cells x)
fits_in a cells h x = by_birth (x == 0) (is_born_container a x) (is_born_locus a x) refl refl refl
  where
    by_birth : (z c l : Bool) → (x == 0) ≡ z → is_born_container a x ≡ c → is_born_locus a x ≡ l → Fits a x (cells x)
    by_birth true c l ez ec el = let e : x ≡ 0 = eqb-true x 0 ez in subst (Fits a x) (sym (ap cells e ∙ h.atlas)) (e, refl)
    by_birth false true l ez ec el = let k = h.containers x ec in subst (Fits a x) (sym k.1) (ec, k.2)
    by_birth false false true ez ec el = let k = h.loci x el in subst (Fits a x) (sym k.1) (el, k.2)
    by_birth false false false ez ec el = let out : is_born a x ≡ false = rw (ez, ec, el) refl in subst (Fits a x) (sym (h.others x out)) out

both_born : (a : AtlasState) (x : ℕ) → length a.containers ≤ 40 → IsTrue (is_born_container a x) → IsTrue (is_born_locus a x) → ⊥
both_born a x few c l = grind (arith, nat_tests)

zero_container : (a : AtlasState) (x : ℕ) → x ≡ 0 → IsTrue (is_born_container a x) → ⊥
zero_container a x e c = grind (arith, nat_tests)

zero_locus : (a : AtlasState) (x : ℕ) → x ≡ 0 → IsTrue (is_born_locus a x) → ⊥
zero_locus a x e l = grind (arith, nat_tests)

module _ (a : AtlasState) (names : IsSoundAtlas a) where
  atlas_at : (k : Cell) → Fits a 0 k → k ≡ AtlasCell a
  atlas_at NotBorn f = absurd (true≢false f)
  atlas_at (AtlasCell b) f = ap AtlasCell f.1
  atlas_at (ContainerCell c) f = absurd (zero_container a 0 refl f.0)
  atlas_at (LocusCell l) f = absurd (zero_locus a 0 refl f.0)

  container_at : (x : ℕ) (k : Cell) → IsTrue (is_born_container a x) → Fits a x k → (c : ContainerState) × (k ≡ ContainerCell c) × IsSoundContainer a c
  container_at x NotBorn born f = absurd (true≢false (sym (born_container a x born) ∙ f))
  container_at x (AtlasCell b) born f = absurd (zero_container a x f.0 born)
  container_at x (ContainerCell c) born f = (c, refl, f.1)
  container_at x (LocusCell l) born f = absurd (both_born a x names.few_containers born f.0)

  locus_at : (x : ℕ) (k : Cell) → IsTrue (is_born_locus a x) → Fits a x k → (l : LocusState) × (k ≡ LocusCell l) × IsSoundLocus a l
  locus_at x NotBorn born f = absurd (true≢false (sym (born_locus a x born) ∙ f))
  locus_at x (AtlasCell b) born f = absurd (zero_locus a x f.0 born)
  locus_at x (ContainerCell c) born f = absurd (both_born a x names.few_containers f.0 born)
  locus_at x (LocusCell l) born f = (l, refl, f.1)

  nothing_at : (x : ℕ) (k : Cell) → is_born a x ≡ false → Fits a x k → k ≡ NotBorn
  nothing_at x NotBorn out f = refl
  nothing_at x (AtlasCell b) out f = absurd (true≢false (subst (λ y. is_born a y ≡ false) f.0 out))
  nothing_at x (ContainerCell c) out f = absurd (true≢false (sym (born_container a x f.0) ∙ out))
  nothing_at x (LocusCell l) out f = absurd (true≢false (sym (born_locus a x f.0) ∙ out))

  pub sound_of : (cells : ℕ → Cell) → ((x : ℕ) → Fits a x (cells x)) → ((x y : ℕ) → a.edges x y ≡ regions_onto (cells x) y) → AreSound a cells
  sound_of cells fits edges = record {
    atlas = atlas_at (cells 0) (fits 0);
    names = names;
    containers = λ x born. container_at x (cells x) born (fits x);
    loci = λ x born. locus_at x (cells x) born (fits x);
    others = λ x out. nothing_at x (cells x) out (fits x);
    edges = edges;
  }

-- CHANGED CELLS

-- the cell at n is k
abbrev pub put_cell : (ℕ → Cell) → ℕ → Cell → ℕ → Cell
put_cell cells n k = λ x. if n == x then k else cells x

at_put : (P : ℕ → Cell → Type 0) (cells : ℕ → Cell) (n : ℕ) (k : Cell) → P n k → ((x : ℕ) → (n == x) ≡ false → P x (cells x)) → (x : ℕ) → P x (put_cell cells n k x)
at_put P cells n k here there x =
    elim (n == x) as (λ b. (n == x) ≡ b → P x (if b then k else cells x)) [
      | true ↦ λ is. subst (λ z. P z k) (eqb-true n x is) here
      | false ↦ there x
    ] refl

-- one cell is changed, and shows the same
pub put_sound : (a : AtlasState) (cells : ℕ → Cell) (n : ℕ) (k : Cell) → AreSound a cells → Fits a n k → ((y : ℕ) → regions_onto (cells n) y ≡ regions_onto k y) → AreSound a (put_cell cells n k)
put_sound a cells n k h fits same =
    sound_of a h.names (put_cell cells n k) (at_put (Fits a) cells n k fits (λ x _. fits_in a cells h x))
    (at_put (λ x c. (y : ℕ) → a.edges x y ≡ regions_onto c y) cells n k (λ y. h.edges n y ∙ same y) (λ x _. h.edges x))

locus_shows : (k : Cell) (l : LocusState) → k ≡ LocusCell l → (y : ℕ) → regions_onto k y ≡ 0
locus_shows k l e y = ap (λ k. regions_onto k y) e

-- a locus is changed
pub locus_sound : (a : AtlasState) (cells : ℕ → Cell) (n : ℕ) (l : LocusState) → AreSound a cells → IsTrue (is_born_locus a n) → IsSoundLocus a l → AreSound a (put_cell cells n (LocusCell l))
locus_sound a cells n l h born sound =
    let k = h.loci n born in
    put_sound a cells n (LocusCell l) h (born, sound) (locus_shows (cells n) k.0 k.1)

-- a cell is written as it is
pub same_sound : (a : AtlasState) (cells : ℕ → Cell) (n : ℕ) (k : Cell) → AreSound a cells → cells n ≡ k → AreSound a (put_cell cells n k)
same_sound a cells n k h is = put_sound a cells n k h (subst (Fits a n) is (fits_in a cells h n)) (λ y. ap (λ c. regions_onto c y) is)

-- a cell is read
pub read_sound : (a : AtlasState) (cells : ℕ → Cell) (n : ℕ) → AreSound a cells → AreSound a (λ x. if n == x then cells x else cells x)
read_sound a cells n h = let e : (x : ℕ) → cells x ≡ (if n == x then cells x else cells x) = λ x. elim (n == x) as (λ b. cells x ≡ (if b then cells x else cells x)) [ true ↦ refl | false ↦ refl ] in
    subst (AreSound a) (λ i x. e x i) h

-- the atlas is changed, and one cell
module _ (a b : AtlasState) (cells : ℕ → Cell) (n : ℕ) (k : Cell) (h : AreSound a cells) (wider : Wider a b)
    (unborn : (x : ℕ) → (n == x) ≡ false → is_born a x ≡ false → is_born b x ≡ false) (names : IsSoundAtlas b) (fits : Fits b n k)
    (edges : (x y : ℕ) → (n == x) ≡ false → b.edges x y ≡ a.edges x y) (here : (y : ℕ) → b.edges n y ≡ regions_onto k y) where
  others_fit : (x : ℕ) (c : Cell) → (n == x) ≡ false → (0 == x) ≡ false → Fits a x c → Fits b x c
  others_fit x NotBorn other over f = unborn x other f
  others_fit x (AtlasCell e) other over f = absurd (true≢false (sym (ap (λ y. 0 == y) f.0) ∙ over))
  others_fit x (ContainerCell c) other over f = (wider_container a b x wider f.0, wider_container_state a b c wider f.1)
  others_fit x (LocusCell l) other over f = (wider_locus a b x wider f.0, wider_locus_state a b l wider f.1)

  -- the cell of another number
  beside_fit : (x : ℕ) → (n == x) ≡ false → Fits b x (put_cell cells 0 (AtlasCell b) x)
  beside_fit x other =
      elim (0 == x) as (λ t. (0 == x) ≡ t → Fits b x (if t then AtlasCell b else cells x)) [
        | true ↦ λ is. (sym (eqb-true 0 x is), refl)
        | false ↦ λ is. others_fit x (cells x) other is (fits_in a cells h x)
      ] refl

  beside_edges : (x : ℕ) → (n == x) ≡ false → (y : ℕ) → b.edges x y ≡ regions_onto (put_cell cells 0 (AtlasCell b) x) y
  beside_edges x other y =
      elim (0 == x) as (λ t. (0 == x) ≡ t → b.edges x y ≡ regions_onto (if t then AtlasCell b else cells x) y) [
        | true ↦ λ is. edges x y other ∙ h.edges x y ∙ ap (λ c. regions_onto c y) (ap cells (sym (eqb-true 0 x is)) ∙ h.atlas)
        | false ↦ λ is. edges x y other ∙ h.edges x y
      ] refl

  pub changed_sound : AreSound b (put_cell (put_cell cells 0 (AtlasCell b)) n k)
  changed_sound =
      sound_of b names (put_cell (put_cell cells 0 (AtlasCell b)) n k)
      (at_put (Fits b) (put_cell cells 0 (AtlasCell b)) n k fits beside_fit)
      (at_put (λ x c. (y : ℕ) → b.edges x y ≡ regions_onto c y) (put_cell cells 0 (AtlasCell b)) n k here beside_edges)

-- WHO IS BORN

pub container_born : (a : AtlasState) (x : ℕ) → IsTrue (is_born a x) → is_container x ≡ true → IsTrue (is_born_container a x)
container_born a x born is = grind (arith, nat_tests)

pub locus_born : (a : AtlasState) (x : ℕ) → length a.containers ≤ 40 → IsTrue (is_born a x) → is_locus x ≡ true → IsTrue (is_born_locus a x)
locus_born a x few born is = grind (arith, nat_tests)

locus_number : (a : AtlasState) (x : ℕ) (k : Cell) (l : LocusState) → k ≡ LocusCell l → Fits a x k → IsTrue (is_born_locus a x) × IsSoundLocus a l
locus_number a x NotBorn l e f = cc
locus_number a x (AtlasCell b) l e f = cc
locus_number a x (ContainerCell c) l e f = cc
locus_number a x (LocusCell m) l e f = let same : m ≡ l = cc in (f.0, subst (IsSoundLocus a) same f.1)

-- a locus of a sound state is born and sound
pub locus_in : (a : AtlasState) (cells : ℕ → Cell) (x : ℕ) (l : LocusState) → AreSound a cells → cells x ≡ LocusCell l → IsTrue (is_born_locus a x) × IsSoundLocus a l
locus_in a cells x l h e = locus_number a x (cells x) l e (fits_in a cells h x)

-- EDGES

-- what holds of each region's target holds of what is shown
shown_target : (P : ℕ → Type 0) (rs : List Region) (y : ℕ) → All (λ (r : Region). P r.target) rs → 0 < shown rs y → P y
shown_target P [] y all some = absurd (omega arith)
shown_target P (r ∷ rs) y all some =
    elim (r.target == y) as (λ b. (r.target == y) ≡ b → 0 < (if b then 1 else 0) + shown rs y → P y) [
      | true ↦ λ is _. subst P (eqb-true r.target y is) (All-head (λ (r : Region). P r.target) r rs all)
      | false ↦ λ _ some. shown_target P rs y (All-tail (λ (r : Region). P r.target) r rs all) (omega arith)
    ] refl (subst (λ n. 0 < n) (shown_more r rs y) some)

none_shown : (n : ℕ) → n ≡ 0 → 0 < n → ⊥
none_shown n e h = omega arith

shows_born : (a : AtlasState) (x y : ℕ) (k : Cell) → Fits a x k → 0 < regions_onto k y → IsTrue (is_born_container a y)
shows_born a x y NotBorn f some = absurd (none_shown 0 refl some)
shows_born a x y (AtlasCell b) f some = absurd (none_shown 0 refl some)
shows_born a x y (ContainerCell c) f some =
    shown_target (λ z. IsTrue (is_born_container a z)) c.regions y (All-weaker (IsSoundRegion a) (λ (r : Region). IsTrue (is_born_container a r.target)) (λ r s. s.target) c.regions f.1.regions) some
shows_born a x y (LocusCell l) f some = absurd (none_shown 0 refl some)

-- what an edge leads to is a born container
pub edge_born : (a : AtlasState) (cells : ℕ → Cell) (x y : ℕ) → AreSound a cells → 0 < a.edges x y → IsTrue (is_born_container a y)
edge_born a cells x y h some = shows_born a x y (cells x) (fits_in a cells h x) (subst (λ n. 0 < n) (h.edges x y) some)

pub born_low : (a : AtlasState) (x : ℕ) → length a.containers ≤ 40 → IsTrue (is_born_container a x) → x < 41
born_low a x few born = grind (arith, nat_tests)

born_some : (a : AtlasState) (x : ℕ) → IsTrue (is_born_container a x) → 1 ≤ x
born_some a x born = grind (arith, nat_tests)

shower_born : (a : AtlasState) (x y : ℕ) (k : Cell) → Fits a x k → 0 < regions_onto k y → IsTrue (is_born_container a x)
shower_born a x y NotBorn f some = absurd (none_shown 0 refl some)
shower_born a x y (AtlasCell b) f some = absurd (none_shown 0 refl some)
shower_born a x y (ContainerCell c) f some = f.0
shower_born a x y (LocusCell l) f some = absurd (none_shown 0 refl some)

-- the edges of a sound state lead from containers to containers
pub edges_among : (a : AtlasState) (cells : ℕ → Cell) → AreSound a cells → IsAmongContainers a.edges
edges_among a cells h x y some =
    let from = shower_born a x y (cells x) (fits_in a cells h x) (subst (λ n. 0 < n) (h.edges x y) some) in
    let to = edge_born a cells x y h some in
    (born_some a x from, born_low a x h.names.few_containers from, born_some a y to, born_low a y h.names.few_containers to)
