-- The parts of an image make the cells of a plain state.
use Rattle.std.proofs.Common.{◌≡◌, ◌≢◌, ℕ, ◌+◌, ◌-◌, ◌<◌, ◌≤◌, ◌||◌, ◌==◌, Bool, true, false, if◌then◌else◌, nat_lt, List, length, Option, Some, None, refl, sym, ap, subst, ◌∙◌, ⊎_elim, arith, eqb-true, eq-eqb}
use Rattle.std.specs.Prelude.{slice_get, string_bytes}
use Rattle.std.proofs.lemmas.Bool.{cases_lt, false≢true, ltb-false, ltb-true}
use Rattle.std.proofs.lemmas.Bool.Decides.{nat_tests}
use Rattle.std.proofs.lemmas.List.{length-map}
use Rattle.std.proofs.lemmas.List.Elements.{All-from_get_or}
use Rattle.std.proofs.lemmas.Option.{slice_get-get_or, slice_get_past}
use Rattle.image_plain.specs.plain_states.Plains.{atlas_of, cells_by, container_cell, locus_cell}
use Rattle.image_plain.specs.plain_states.declared.plain.PlainAtlas.{PlainAtlas}
use Rattle.image_plain.specs.plain_states.declared.plain.PlainContainer.{PlainContainer}
use Rattle.image_plain.specs.plain_states.declared.plain.PlainLocus.{PlainLocus}
use Rattle.base_types.specs.Kinds.{kind_of}
use Rattle.base_types.specs.declared.entities.Kind.TheVariants as kinds
use Rattle.base_types.specs.declared.records.Rec.{Rec}
use Rattle.image_facts.specs.model_kernel.Soundness.{is_born, is_born_container, is_born_locus}
use Rattle.image_facts.specs.model_kernel.State.{AtlasCell, AtlasState, NotBorn, Supply, no_atlas}
use Rattle.image_state_laws.specs.image_meaning.Fits.{IsTiedAtlas}
use Rattle.image_state_laws.specs.image_meaning.Parts.{AreFormed, AtlasPart, ContainerPart, LocusPart, Part, kind_in, table_in}
use Rattle.image_chosen.specs.image_chosen_facts.Tables.{blocks_in}
use Rattle.image_chosen.specs.image_fits.Fits.{AreFit}
use Rattle.image_shown_facts.specs.States.{AreOnDisk, IsCellOf, IsContainerPart, IsLocusPart, atlas_by, cell_in, cell_with}
use Rattle.image_state_laws.proofs.image_meaning_lemmas.Sounding.{kind_locus}

-- KINDS

kind_container : (x : ℕ) → 1 ≤ x → x < 41 → kind_of x ≡ kinds.Container
kind_container x low high = go (x == 0) (nat_lt x 41) refl refl
  where
    go : (b c : Bool) → (x == 0) ≡ b → nat_lt x 41 ≡ c → (if b then kinds.Atlas else if c then kinds.Container else kinds.Locus) ≡ kinds.Container
    go true c e f = absurd (let is : x ≡ 0 = eqb-true x 0 e in omega (arith, is, low))
    go false true e f = refl
    go false false e f = absurd (let far : 41 ≤ x = ltb-false x 41 f in omega (arith, far, high))

is_container : (p : Part) → kind_in p ≡ kinds.Container → IsContainerPart (Some p)
is_container (AtlasPart a) e = absurd (let is : kinds.Atlas ≡ kinds.Container = e in cc)
is_container (ContainerPart c table) e = tt
is_container (LocusPart l) e = absurd (let is : kinds.Locus ≡ kinds.Container = e in cc)

is_locus : (p : Part) → kind_in p ≡ kinds.Locus → IsLocusPart (Some p)
is_locus (AtlasPart a) e = absurd (let is : kinds.Atlas ≡ kinds.Locus = e in cc)
is_locus (ContainerPart c table) e = absurd (let is : kinds.Container ≡ kinds.Locus = e in cc)
is_locus (LocusPart l) e = tt

is_atlas : (p : Part) → kind_in p ≡ kinds.Atlas → p ≡ AtlasPart (atlas_by (Some p))
is_atlas (AtlasPart a) e = refl
is_atlas (ContainerPart c table) e = absurd (let is : kinds.Container ≡ kinds.Atlas = e in cc)
is_atlas (LocusPart l) e = absurd (let is : kinds.Locus ≡ kinds.Atlas = e in cc)

-- BIRTHS

or_first : (z c l : Bool) → c ≡ true → (z || c || l) ≡ true
or_first true c l h = refl
or_first false true l h = refl
or_first false false l h = absurd (false≢true h)

or_last : (z c l : Bool) → l ≡ true → (z || c || l) ≡ true
or_last true c l h = refl
or_last false true l h = refl
or_last false false l h = h

born_container : (a : AtlasState) (i : ℕ) → i < length a.containers → is_born a (i + 1) ≡ true
born_container a i lt =
    let born : is_born_container a (i + 1) ≡ true = grind (arith, nat_tests) in
    or_first (i + 1 == 0) (is_born_container a (i + 1)) (is_born_locus a (i + 1)) born

born_locus : (a : AtlasState) (i : ℕ) → i < length a.loci → is_born a (i + 41) ≡ true
born_locus a i lt =
    let born : is_born_locus a (i + 41) ≡ true = grind (arith, nat_tests) in
    or_last (i + 41 == 0) (is_born_container a (i + 41)) (is_born_locus a (i + 41)) born

-- who is born has a place in one of the lists
container_place : (a : AtlasState) (x : ℕ) → 1 ≤ x → x < 41 → is_born a x ≡ true → x - 1 < length a.containers
container_place a x low high born = grind (arith, nat_tests)

locus_place : (a : AtlasState) (x : ℕ) → 41 ≤ x → length a.containers ≤ 40 → is_born a x ≡ true → x - 41 < length a.loci
locus_place a x low few born = grind (arith, nat_tests)

-- PARTS IN FORM that fit
module _ (count : ℕ) (recs : List Rec) (parts : ℕ → Option Part) (formed : AreFormed parts) (fit : AreFit count recs parts) where
  abbrev atlas : AtlasState
  atlas = atlas_by (parts 0)

  first_is : (p : Part) → parts 0 ≡ Some p → parts 0 ≡ Some (AtlasPart atlas)
  first_is p is = is ∙ (ap Some (is_atlas p (formed 0 p is).kind) ∙ ap (λ (o : Option Part). Some (AtlasPart (atlas_by o))) (sym is))

  -- whoever is chosen is born to the chosen atlas
  born : (x : ℕ) (p : Part) → parts x ≡ Some p → is_born atlas x ≡ true
  born x p is = subst (λ (o : Option Part). is_born (atlas_by o) x ≡ true) (sym (fit x p is).chosen_atlas) (fit x p is).named

  pub few_containers : length atlas.containers ≤ 40
  few_containers = by (parts 0) refl
    where
      by : (o : Option Part) → parts 0 ≡ o → length atlas.containers ≤ 40
      by None is = subst (λ (o : Option Part). length (atlas_by o).containers ≤ 40) (sym is) (omega arith)
      by (Some p) is = (formed 0 (AtlasPart atlas) (first_is p is)).spells.form.few_containers

  pub few_loci : length atlas.loci ≤ 23
  few_loci = by (parts 0) refl
    where
      by : (o : Option Part) → parts 0 ≡ o → length atlas.loci ≤ 23
      by None is = subst (λ (o : Option Part). length (atlas_by o).loci ≤ 23) (sym is) (omega arith)
      by (Some p) is = (formed 0 (AtlasPart atlas) (first_is p is)).spells.form.few_loci

  -- and whoever is born is chosen
  tied : (x : ℕ) → is_born atlas x ≡ true → (p : Part) → parts 0 ≡ Some p → (q : Part) × (parts x ≡ Some q)
  tied x is p first = (let t : IsTiedAtlas parts atlas = (fit 0 (AtlasPart atlas) (first_is p first)).tied in t.all_chosen x is)

  pub container_kinds : (i : ℕ) → i < length atlas.containers → IsContainerPart (parts (i + 1))
  container_kinds i lt = by (parts 0) refl
    where
      by : (o : Option Part) → parts 0 ≡ o → IsContainerPart (parts (i + 1))
      by None is = absurd (let none = ap (λ (o : Option Part). length (atlas_by o).containers) is in omega (arith, none, lt))
      by (Some p) is =
          let found = tied (i + 1) (born_container atlas i lt) p is in
          let few = few_containers in
          let kind : kind_of (i + 1) ≡ kinds.Container = kind_container (i + 1) (omega arith) (omega (arith, lt, few)) in
          subst IsContainerPart (sym found.1) (is_container found.0 ((formed (i + 1) found.0 found.1).kind ∙ kind))

  pub locus_kinds : (i : ℕ) → i < length atlas.loci → IsLocusPart (parts (i + 41))
  locus_kinds i lt = by (parts 0) refl
    where
      by : (o : Option Part) → parts 0 ≡ o → IsLocusPart (parts (i + 41))
      by None is = absurd (let none = ap (λ (o : Option Part). length (atlas_by o).loci) is in omega (arith, none, lt))
      by (Some p) is =
          let found = tied (i + 41) (born_locus atlas i lt) p is in
          let kind : kind_of (i + 41) ≡ kinds.Locus = kind_locus (i + 41) (omega arith) in
          subst IsLocusPart (sym found.1) (is_locus found.0 ((formed (i + 41) found.0 found.1).kind ∙ kind))

  -- a plain atlas has as many names
  module _ (p : PlainAtlas) (same : atlas_of p ≡ atlas) where
    pub many_containers : length p.containers.items ≡ length atlas.containers
    many_containers = sym (length-map p.containers.items string_bytes) ∙ ap (λ (a : AtlasState). length a.containers) same

    pub many_loci : length p.loci.items ≡ length atlas.loci
    many_loci = sym (length-map p.loci.items string_bytes) ∙ ap (λ (a : AtlasState). length a.loci) same

  -- each page's block is one of the image's
  pub on_disk : (n : ℕ) → count ≤ n → (x : ℕ) → AreOnDisk n (blocks_in (parts x))
  on_disk n within x = by (parts x) refl
    where
      by : (o : Option Part) → parts x ≡ o → AreOnDisk n (blocks_in o)
      by None is = λ i d lt. absurd (omega (arith, lt))
      by (Some p) is = All-from_get_or (λ b. b ≢ 0 → b < n) (table_in p) 0
          (λ k lt some.
          let low = ((fit x p is).blocks k _ (slice_get-get_or (table_in p) k 0 lt) some).pool.1 in
          omega (arith, low, within))

  -- THE CELLS
  module _ (tells : Type 0) (s : Supply) (bytes : ℕ → List ℕ) where
    no_words : ℕ → ℕ
    no_words a = 0

    not_born : (x : ℕ) (b : Bool) → (x == 0) ≡ b → x ≢ 0 → NotBorn ≡ (if b then AtlasCell no_atlas else NotBorn)
    not_born x true e other = absurd (other (eqb-true x 0 e))
    not_born x false e other = refl

    none_cell : (x : ℕ) → x ≢ 0 → IsCellOf tells s bytes x None NotBorn
    none_cell x other = record { words = no_words; is = not_born x (x == 0) refl other; told = λ t. not_born x (x == 0) refl other }

    atlas_cell : (o : Option Part) → parts 0 ≡ o → IsCellOf tells s bytes 0 (parts 0) (AtlasCell atlas)
    atlas_cell None is = subst (λ (o : Option Part). IsCellOf tells s bytes 0 o (AtlasCell (atlas_by o))) (sym is) (record { words = no_words; is = refl; told = λ t. refl })
    atlas_cell (Some p) is = subst (λ (o : Option Part). IsCellOf tells s bytes 0 o (AtlasCell atlas)) (sym (first_is p is)) (record { words = no_words; is = refl; told = λ t. refl })

    locus_same : (words : ℕ → ℕ) (x : ℕ) (o : Option Part) → IsLocusPart o → cell_with words x o ≡ cell_in s bytes x o
    locus_same words x None kind = absurd kind
    locus_same words x (Some (AtlasPart a)) kind = absurd kind
    locus_same words x (Some (ContainerPart c table)) kind = absurd kind
    locus_same words x (Some (LocusPart l)) kind = refl

    module _ (cs : List PlainContainer) (ls : List PlainLocus)
        (many : length cs ≡ length atlas.containers) (containers : (i : ℕ) → i < length atlas.containers → IsCellOf tells s bytes (i + 1) (parts (i + 1)) (container_cell s (slice_get cs i)))
        (more : length ls ≡ length atlas.loci) (loci : (words : ℕ → ℕ) (i : ℕ) → i < length atlas.loci → locus_cell (slice_get ls i) ≡ cell_with words (i + 41) (parts (i + 41))) where
      container_here : (x : ℕ) → 1 ≤ x → x < 41 → IsCellOf tells s bytes x (parts x) (container_cell s (slice_get cs (x - 1)))
      container_here x low high = ⊎_elim
          (λ (lt : x - 1 < length atlas.containers). (let at : x - 1 + 1 ≡ x = omega (arith, low) in
          subst (λ (y : ℕ). IsCellOf tells s bytes y (parts y) (container_cell s (slice_get cs (x - 1)))) at (containers (x - 1) lt)))
          (λ (past : length atlas.containers ≤ x - 1). by past (parts x) refl)
          (cases_lt (x - 1) (length atlas.containers))
        where
          by : length atlas.containers ≤ x - 1 → (o : Option Part) → parts x ≡ o → IsCellOf tells s bytes x (parts x) (container_cell s (slice_get cs (x - 1)))
          by past (Some p) is = absurd (let lt = container_place atlas x low high (born x p is) in omega (arith, lt, past))
          by past None is =
              let other : x ≢ 0 = λ e. (let zero : x ≡ 0 = e in omega (arith, zero, low)) in
              let none : slice_get cs (x - 1) ≡ None = slice_get_past cs (x - 1) (omega (arith, past, many)) in
              subst (λ (o : Option Part). IsCellOf tells s bytes x o (container_cell s (slice_get cs (x - 1)))) (sym is)
              (subst (λ (o : Option PlainContainer). IsCellOf tells s bytes x None (container_cell s o)) (sym none) (none_cell x other))

      locus_here : (x : ℕ) → 41 ≤ x → IsCellOf tells s bytes x (parts x) (locus_cell (slice_get ls (x - 41)))
      locus_here x low = ⊎_elim
          (λ (lt : x - 41 < length atlas.loci). (let at : x - 41 + 41 ≡ x = omega (arith, low) in
          subst (λ (y : ℕ). IsCellOf tells s bytes y (parts y) (locus_cell (slice_get ls (x - 41)))) at
          (record { words = no_words; is = loci no_words (x - 41) lt; told = λ t. loci no_words (x - 41) lt ∙ locus_same no_words (x - 41 + 41) (parts (x - 41 + 41)) (locus_kinds (x - 41) lt) })))
          (λ (past : length atlas.loci ≤ x - 41). by past (parts x) refl)
          (cases_lt (x - 41) (length atlas.loci))
        where
          by : length atlas.loci ≤ x - 41 → (o : Option Part) → parts x ≡ o → IsCellOf tells s bytes x (parts x) (locus_cell (slice_get ls (x - 41)))
          by past (Some p) is = absurd (let lt = locus_place atlas x low few_containers (born x p is) in omega (arith, lt, past))
          by past None is =
              let other : x ≢ 0 = λ e. (let zero : x ≡ 0 = e in omega (arith, zero, low)) in
              let none : slice_get ls (x - 41) ≡ None = slice_get_past ls (x - 41) (omega (arith, past, more)) in
              subst (λ (o : Option Part). IsCellOf tells s bytes x o (locus_cell (slice_get ls (x - 41)))) (sym is)
              (subst (λ (o : Option PlainLocus). IsCellOf tells s bytes x None (locus_cell o)) (sym none) (none_cell x other))

      pub all_cells : (a : AtlasState) → a ≡ atlas → (x : ℕ) → IsCellOf tells s bytes x (parts x) (cells_by s a cs ls x)
      all_cells a same x = subst (λ (b : AtlasState). IsCellOf tells s bytes x (parts x) (cells_by s b cs ls x)) (sym same) (by (x == 0) (nat_lt x 41) refl refl)
        where
          by : (b c : Bool) → (x == 0) ≡ b → nat_lt x 41 ≡ c
              → IsCellOf tells s bytes x (parts x) (if b then AtlasCell atlas else if c then container_cell s (slice_get cs (x - 1)) else locus_cell (slice_get ls (x - 41)))
          by true c e f = (let zero : 0 ≡ x = sym (eqb-true x 0 e) in subst (λ (y : ℕ). IsCellOf tells s bytes y (parts y) (AtlasCell atlas)) zero (atlas_cell (parts 0) refl))
          by false true e f = container_here x (let some : x ≢ 0 = λ z. false≢true (sym e ∙ eq-eqb x 0 z) in grind (arith, some)) (ltb-true x 41 f)
          by false false e f = locus_here x (ltb-false x 41 f)
