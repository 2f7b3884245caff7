-- What soundness says of the chosen entities.
use Rattle.std.proofs.Common.{◌≡◌, ◌≢◌, ℕ, Bool, true, false, ◌⊎◌, inl, inr, ◌&&◌, ◌||◌, ◌==◌, nat_le, nat_lt, if◌then◌else◌, List, Option, Some, None, refl, sym, ap, subst, ◌∙◌, arith, eqb-true}
use Rattle.std.specs.Prelude.{MatchOption, IsTrue, Contains}
use Rattle.std.specs.Option.{ForSome}
use Rattle.std.proofs.lemmas.Bool.{false≢true}
use Rattle.std.proofs.lemmas.Bool.Decides.{nat_tests}
use Rattle.image_blocks.specs.base_types.Kinds.{kind_of}
use Rattle.image_blocks.specs.base_types.declared.entities.Kind.{Kind}
use Rattle.image_blocks.specs.base_types.declared.entities.Kind.TheVariants as kinds
use Rattle.image_blocks.specs.base_types.declared.records.Rec.{Rec}
use Rattle.blob_grammar.specs.model_kernel.Soundness.{AreSound, IsSound, IsSoundContainer, IsSoundLocus, IsSoundWalk, looks, is_born, is_born_container, is_born_locus, regions_onto}
use Rattle.image_blocks.specs.base_types.declared.instructions.Walk.{Walk}
use Rattle.blob_grammar.specs.model_kernel.Refusals.{instr_at}
use Rattle.image_blocks.specs.image_facts.Bodies.{blob_blocks}
use Rattle.blob_grammar.specs.model_kernel.State.{Supply, AtlasState, ContainerState, LocusState, KernelState, Cell, NotBorn, AtlasCell, ContainerCell, LocusCell, empty_state, no_atlas}
use Rattle.image_meaning.specs.Describing.{Describes, DescribesEntity, bytes_of}
use Rattle.image_meaning.specs.Fits.{AreNamedOnce, IsFit, IsTied, IsTiedAtlas, shown_by}
use Rattle.image_meaning.specs.Parts.{AtlasPart, ContainerPart, IsOf, LocusPart, Part, cell_of, chosen, table_in}
use Rattle.image_meaning.specs.Stores.{Kept, chosen_kept, recs_of}
use Rattle.std.proofs.lemmas.Option.{same_Some}

-- CELLS AGAINST PARTS

-- the cell is the part's, with some words
abbrev CellIs : Part → Cell → Type 0
CellIs (AtlasPart a) cell = cell ≡ AtlasCell a
CellIs (ContainerPart c table) cell = (words : ℕ → ℕ) × (cell ≡ ContainerCell (record c { words = words }))
CellIs (LocusPart l) cell = cell ≡ LocusCell l

cell_is : (s : Supply) (bytes : ℕ → List ℕ) (part : Part) (cell : Cell) → cell ≡ cell_of s bytes part → CellIs part cell
cell_is s bytes (AtlasPart a) cell e = e
cell_is s bytes (ContainerPart c table) cell e = (_, e)
cell_is s bytes (LocusPart l) cell e = e

-- what is known of an entity: nothing is chosen, or a part of its kind is, whose cell it is
abbrev Known : KernelState → (ℕ → Option Part) → ℕ → Type 0
Known v parts x = ((parts x ≡ None) × (v x ≡ empty_state x)) ⊎ ((part : Part) × (parts x ≡ Some part) × IsOf x part × CellIs part (v x).cell)

known_by : (s : Supply) (v : KernelState) (parts : ℕ → Option Part) (x : ℕ) (o : Option Kept)
    → MatchOption o ((parts x ≡ None) × (v x ≡ empty_state x)) (λ k. (part : Part) × (parts x ≡ Some part) × DescribesEntity s v x k part) → Known v parts x
known_by s v parts x None said = inl said
known_by s v parts x (Some k) (part, is, d) = inr (part, is, d.spells.kind, cell_is s (bytes_of k.pages) part (v x).cell d.cell)

abbrev pub part_or : Part → Option Part → Part
part_or d None = d
part_or d (Some p) = p

pub none_some : {A : Type 0} (p : Part) → None ≡ Some p → A
none_some p e = absurd (false≢true (ap is_there e))
  where
    is_there : Option Part → Bool
    is_there None = false
    is_there (Some p) = true

-- the entity with a part
known_part : (v : KernelState) (parts : ℕ → Option Part) (x : ℕ) (part : Part) → parts x ≡ Some part → Known v parts x → IsOf x part × CellIs part (v x).cell
known_part v parts x part is (inl (none, same)) = none_some part (sym none ∙ is)
known_part v parts x part is (inr (p, at, kind, cell)) =
    let e : p ≡ part = same_Some p part (sym at ∙ is) in
    subst (λ (q : Part). IsOf x q × CellIs q (v x).cell) e (kind, cell)

-- CONSTRUCTORS OF CELLS

abbrev is_atlas : Cell → Bool
is_atlas (AtlasCell a) = true
is_atlas NotBorn = false
is_atlas (ContainerCell c) = false
is_atlas (LocusCell l) = false

abbrev is_container_cell : Cell → Bool
is_container_cell (ContainerCell c) = true
is_container_cell NotBorn = false
is_container_cell (AtlasCell a) = false
is_container_cell (LocusCell l) = false

abbrev is_locus_cell : Cell → Bool
is_locus_cell (LocusCell l) = true
is_locus_cell NotBorn = false
is_locus_cell (AtlasCell a) = false
is_locus_cell (ContainerCell c) = false

abbrev atlas_or : AtlasState → Cell → AtlasState
atlas_or d (AtlasCell a) = a
atlas_or d NotBorn = d
atlas_or d (ContainerCell c) = d
atlas_or d (LocusCell l) = d

abbrev container_or : ContainerState → Cell → ContainerState
container_or d (ContainerCell c) = c
container_or d NotBorn = d
container_or d (AtlasCell a) = d
container_or d (LocusCell l) = d

abbrev locus_or : LocusState → Cell → LocusState
locus_or d (LocusCell l) = l
locus_or d NotBorn = d
locus_or d (AtlasCell a) = d
locus_or d (ContainerCell c) = d

born_cell : (part : Part) (cell : Cell) → CellIs part cell → cell ≢ NotBorn
born_cell (AtlasPart a) cell is e = false≢true (sym (ap is_atlas e) ∙ ap is_atlas is)
born_cell (ContainerPart c table) cell (words, is) e = false≢true (sym (ap is_container_cell e) ∙ ap is_container_cell is)
born_cell (LocusPart l) cell is e = false≢true (sym (ap is_locus_cell e) ∙ ap is_locus_cell is)

-- THE ATLAS

kind_zero : (part : Part) → IsOf 0 part → (a : AtlasState) × (part ≡ AtlasPart a)
kind_zero (AtlasPart a) kind = (a, refl)
kind_zero (ContainerPart c table) kind = cc
kind_zero (LocusPart l) kind = cc

abbrev is_atlas_kind : Kind → Bool
is_atlas_kind kinds.Atlas = true
is_atlas_kind kinds.Container = false
is_atlas_kind kinds.Locus = false

kind_test : (b c : Bool) → is_atlas_kind (if b then kinds.Atlas else (if c then kinds.Container else kinds.Locus)) ≡ b
kind_test true c = refl
kind_test false true = refl
kind_test false false = refl

atlas_zero : (x : ℕ) → kinds.Atlas ≡ kind_of x → x ≡ 0
atlas_zero x e = eqb-true x 0 (sym (kind_test (x == 0) (nat_lt x 41)) ∙ sym (ap is_atlas_kind e))

or_three : (p q r : Bool) → (p || q || r) ≡ true → (p ≡ true) ⊎ (q ≡ true) ⊎ (r ≡ true)
or_three true q r h = inl refl
or_three false true r h = inr (inl refl)
or_three false false true h = inr (inr refl)
or_three false false false h = absurd (false≢true h)

none_born : (x : ℕ) → is_born no_atlas x ≡ true → x ≡ 0
none_born x h = elim (or_three (x == 0) (is_born_container no_atlas x) (is_born_locus no_atlas x) h) as (λ _. x ≡ 0) [
  | inl zero ↦ eqb-true x 0 zero
  | inr (inl born) ↦ absurd (not_container x born)
  | inr (inr born) ↦ absurd (not_locus x born)
]
  where
    not_container : (x : ℕ) → (nat_lt 0 x && nat_le x 0) ≡ true → ⊥
    not_container x h = grind (arith, nat_tests)

    not_locus : (x : ℕ) → (nat_lt 40 x && nat_le x 40) ≡ true → ⊥
    not_locus x h = grind (arith, nat_tests)

empty_regions : (x y : ℕ) → regions_onto (empty_state x).cell y ≡ 0
empty_regions x y = go (x == 0)
  where
    go : (b : Bool) → regions_onto (if b then AtlasCell no_atlas else NotBorn) y ≡ 0
    go true = refl
    go false = refl

empty_tests : (x : ℕ) → (is_container_cell (empty_state x).cell ≡ false) × (is_locus_cell (empty_state x).cell ≡ false)
empty_tests x = go (x == 0)
  where
    go : (b : Bool) → (is_container_cell (if b then AtlasCell no_atlas else NotBorn) ≡ false) × (is_locus_cell (if b then AtlasCell no_atlas else NotBorn) ≡ false)
    go true = (refl, refl)
    go false = (refl, refl)

for_some_map : {T : Type 0} (P Q : T → Type 0) (o : Option T) → ((x : T) → P x → Q x) → ForSome o P → ForSome o Q
for_some_map P Q o f h = λ x e. f x (h x e)

-- ALL OF SOUNDNESS

module _ (v : KernelState) (parts : ℕ → Option Part) (known : (x : ℕ) → Known v parts x) (a : AtlasState) (sound : AreSound a (λ x. (v x).cell)) where
  born : (x : ℕ) (part : Part) → parts x ≡ Some part → is_born a x ≡ true
  born x part is = go (is_born a x) refl
    where
      go : (b : Bool) → is_born a x ≡ b → b ≡ true
      go true e = refl
      go false e = absurd (born_cell part (v x).cell (known_part v parts x part is (known x)).1 (sound.others x e))

  atlas_chosen : (x : ℕ) (part : Part) → parts x ≡ Some part → parts 0 ≡ Some (AtlasPart a)
  atlas_chosen x part is = go (known 0)
    where
      go : Known v parts 0 → parts 0 ≡ Some (AtlasPart a)
      go (inl (none, same)) =
          let nothing : a ≡ no_atlas = ap (atlas_or a) (sym sound.atlas ∙ ap (λ e. e.cell) same) in
          let zero : x ≡ 0 = none_born x (subst (λ (d : AtlasState). is_born d x ≡ true) nothing (born x part is)) in
          none_some part (sym none ∙ subst (λ n. parts n ≡ Some part) zero is)
      go (inr (p, at, kind, cell)) =
          let z = kind_zero p kind in
          let here : (v 0).cell ≡ AtlasCell z.0 = subst (λ (q : Part). CellIs q (v 0).cell) z.1 cell in
          let same : z.0 ≡ a = ap (atlas_or a) (sym here ∙ sound.atlas) in
          at ∙ ap Some (z.1 ∙ ap AtlasPart same)

  -- each that the atlas names is chosen
  all_chosen : parts 0 ≡ Some (AtlasPart a) → (x : ℕ) → is_born a x ≡ true → (part : Part) × (parts x ≡ Some part)
  all_chosen first x h = go (known x)
    where
      clash : v x ≡ empty_state x → parts x ≡ None → ⊥
      clash same none = elim (or_three (x == 0) (is_born_container a x) (is_born_locus a x) h) as (λ _. ⊥) [
        | inl zero ↦ none_some (AtlasPart a) (sym none ∙ subst (λ n. parts n ≡ Some (AtlasPart a)) (sym (eqb-true x 0 zero)) first)
        | inr (inl there) ↦ (let c = sound.containers x there in
            false≢true (sym (empty_tests x).0 ∙ (ap (λ e. is_container_cell e.cell) (sym same) ∙ ap is_container_cell c.1)))
        | inr (inr there) ↦ (let l = sound.loci x there in
            false≢true (sym (empty_tests x).1 ∙ (ap (λ e. is_locus_cell e.cell) (sym same) ∙ ap is_locus_cell l.1)))
      ]

      go : Known v parts x → (part : Part) × (parts x ≡ Some part)
      go (inl (none, same)) = absurd (clash same none)
      go (inr (p, at, kind, cell)) = (p, at)

  -- edges
  regions_of : (part : Part) (cell : Cell) (y : ℕ) → CellIs part cell → regions_onto cell y ≡ shown_by (Some part) y
  regions_of (AtlasPart b) cell y is = ap (λ d. regions_onto d y) is
  regions_of (ContainerPart c table) cell y (words, is) = ap (λ d. regions_onto d y) is
  regions_of (LocusPart l) cell y is = ap (λ d. regions_onto d y) is

  edges_shown : (x y : ℕ) → a.edges x y ≡ shown_by (parts x) y
  edges_shown x y = sound.edges x y ∙ go (known x)
    where
      go : Known v parts x → regions_onto (v x).cell y ≡ shown_by (parts x) y
      go (inl (none, same)) = ap (λ e. regions_onto e.cell y) same ∙ (empty_regions x y ∙ ap (λ p. shown_by p y) (sym none))
      go (inr (p, at, kind, cell)) = regions_of p (v x).cell y cell ∙ ap (λ q. shown_by q y) (sym at)

  -- who is what
  born_as_container : (x : ℕ) → is_born a x ≡ true → is_container_cell (v x).cell ≡ true → is_born_container a x ≡ true
  born_as_container x h is = elim (or_three (x == 0) (is_born_container a x) (is_born_locus a x) h) as (λ _. is_born_container a x ≡ true) [
    | inl zero ↦ absurd (false≢true (ap is_container_cell (sym (subst (λ n. (v n).cell ≡ AtlasCell a) (sym (eqb-true x 0 zero)) sound.atlas)) ∙ is))
    | inr (inl there) ↦ there
    | inr (inr there) ↦ absurd (false≢true (ap is_container_cell (sym (sound.loci x there).1) ∙ is))
  ]

  born_as_locus : (x : ℕ) → is_born a x ≡ true → is_locus_cell (v x).cell ≡ true → is_born_locus a x ≡ true
  born_as_locus x h is = elim (or_three (x == 0) (is_born_container a x) (is_born_locus a x) h) as (λ _. is_born_locus a x ≡ true) [
    | inl zero ↦ absurd (false≢true (ap is_locus_cell (sym (subst (λ n. (v n).cell ≡ AtlasCell a) (sym (eqb-true x 0 zero)) sound.atlas)) ∙ is))
    | inr (inl there) ↦ absurd (false≢true (ap is_locus_cell (sym (sound.containers x there).1) ∙ is))
    | inr (inr there) ↦ there
  ]

  tied : parts 0 ≡ Some (AtlasPart a) → (x : ℕ) (part : Part) → is_born a x ≡ true → IsOf x part → CellIs part (v x).cell → IsTied parts a part
  tied first x (AtlasPart b) there kind is =
      let zero : x ≡ 0 = atlas_zero x kind in
      let same : b ≡ a = ap (atlas_or a) (sym is ∙ subst (λ n. (v n).cell ≡ AtlasCell a) (sym zero) sound.atlas) in
      subst (λ (d : AtlasState). IsTiedAtlas parts d) (sym same) (record { all_chosen = all_chosen first; edges = edges_shown; no_circle = sound.names.no_circle })
  tied first x (ContainerPart c table) there kind (words, is) =
      let found = sound.containers x (born_as_container x there (ap is_container_cell is)) in
      let same : found.0 ≡ record c { words = words } = ap (container_or found.0) (sym found.1 ∙ is) in
      let good : IsSoundContainer a (record c { words = words }) = subst (λ (d : ContainerState). IsSoundContainer a d) same found.2 in
      record { regions = λ i d lt. (good.regions i d lt).target; caps = good.caps.each }
  tied first x (LocusPart l) there kind is =
      let found = sound.loci x (born_as_locus x there (ap is_locus_cell is)) in
      let same : found.0 ≡ l = ap (locus_or found.0) (sym found.1 ∙ is) in
      let good : IsSoundLocus a l = subst (λ (d : LocusState). IsSoundLocus a d) same found.2 in
      record {
        host = good.host;
        chain = λ i d lt. (good.chain i d lt).container;
        privates = λ i d lt. ((good.privates i d lt).made, (good.privates i d lt).region.target);
        caps = good.caps.each;
        walk = for_some_map (IsSoundWalk a l) (λ (w : Walk). IsTrue (is_born_container a w.at)) l.walk (λ w h. h.at) good.walk;
        looking = for_some_map (IsSoundWalk a l) (λ (w : Walk). IsTrue (looks (instr_at l))) l.walk (λ w h. h.looking) good.walk;
      }

-- BLOCKS
named_in : (count : ℕ) (recs others : List Rec) (parts : ℕ → Option Part) → ((x : ℕ) → chosen recs x ≡ chosen others x) → (x : ℕ) (table : List ℕ)
    → AreNamedOnce count others parts x table → AreNamedOnce count recs parts x table
named_in count recs others parts same x table named page block at some =
    let n = named page block at some in
    record {
      pool = n.pool;
      once = n.once;
      blob = subst (λ (o : Option Rec). ForSome o (λ r. Contains (blob_blocks r) block → ⊥)) (sym (same x)) n.blob;
      others = λ y apart. record {
        by_blob = subst (λ (o : Option Rec). ForSome o (λ r. Contains (blob_blocks r) block → ⊥)) (sym (same y)) (n.others y apart).by_blob;
        by_table = (n.others y apart).by_table;
      };
    }

-- THE LAW
pub fits : (s : Supply) (count : ℕ) (recs : List Rec) (ks : List Kept) (parts : ℕ → Option Part) (v : KernelState) → Describes s ks parts v → IsSound (λ x. (v x).cell)
    → ((x : ℕ) → chosen recs x ≡ chosen (recs_of ks) x)
    → ((x : ℕ) (part : Part) → parts x ≡ Some part → AreNamedOnce count (recs_of ks) parts x (table_in part))
    → (x : ℕ) (part : Part) → parts x ≡ Some part → IsFit count recs parts x part
fits s count recs ks parts v describes (a, sound) same named x part is =
    let known : (y : ℕ) → Known v parts y = λ y. known_by s v parts y (chosen_kept ks y) (describes.each y) in
    let me = known_part v parts x part is (known x) in
    let first = atlas_chosen v parts known a sound x part is in
    let there = born v parts known a sound x part is in
    record {
      atlas = a;
      chosen_atlas = first;
      named = there;
      tied = tied v parts known a sound first x part there me.0 me.1;
      blocks = named_in count recs (recs_of ks) parts same x (table_in part) (named x part is);
    }
