-- An image means a sound state.
use Rattle.std.proofs.Common.{◌≡◌, ◌≢◌, ℕ, ◌+◌, ◌≤◌, ◌<◌, ◌||◌, ◌==◌, if◌then◌else◌, Bool, true, false, List, length, nat_le, nat_lt, Option, Some, None, refl, sym, ap, subst, ◌∙◌, arith, eqb-true, eq-eqb}
use Rattle.std.specs.Prelude.{MatchOption}
use Rattle.std.proofs.lemmas.Bool.{false≢true, leb-true, ltb-false, ltb-true}
use Rattle.image_blocks.specs.edge_disk.Image.{Image, block_at}
use Rattle.image_blocks.specs.base_types.Kinds.{kind_of}
use Rattle.image_blocks.specs.base_types.declared.entities.Kind.TheVariants as kinds
use Rattle.image_blocks.specs.base_types.declared.records.Rec.{Rec}
use Rattle.blob_grammar.proofs.model_kernel_lemmas.Basics.{and_left, and_right}
use Rattle.blob_grammar.specs.model_kernel.Soundness.{AreSound, IsSound, IsSoundAtlas, IsSoundContainer, IsSoundLocus, is_born, is_born_container, is_born_locus, regions_onto}
use Rattle.blob_grammar.specs.model_kernel.State.{Supply, AtlasState, ContainerState, LocusState, EntityState, KernelState, Cell, NotBorn, AtlasCell, ContainerCell, LocusCell, empty_state, no_atlas}
use Rattle.blob_grammar.proofs.Joins.{container_number}
use Rattle.blob_grammar.specs.Forms.{IsContainerForm, IsLocusForm}
use Rattle.image_blocks.specs.image_facts.Bodies.{blob_in}
use Rattle.image_blocks.specs.image_facts.Checks.{count_in}
use Rattle.image_meaning.specs.Fits.{IsFit, IsTied, IsTiedAtlas, IsTiedContainer, IsTiedLocus, shown_by}
use Rattle.image_meaning.specs.Meaning.{Accepted, Means, entity_of, state_of}
use Rattle.image_meaning.specs.Parts.{AreFormed, AreSpelt, AreTaken, AtlasPart, ContainerPart, IsFormed, LocusPart, Part, cell_of, chosen, kind_in, words_in}
use Rattle.image_meaning.proofs.Firsts.{clash}
use Rattle.image_meaning.proofs.Ones.{SpeltAs}
use Rattle.std.proofs.lemmas.Option.{same_Some}

-- VALUES in form that name those who are born are sound

sound_container : (a : AtlasState) (c : ContainerState) (table : List ℕ) (words : ℕ → ℕ) → IsContainerForm c table → IsTiedContainer a c → IsSoundContainer a (record c { words = words })
sound_container a c table words f t = record {
  some = f.shape.some;
  size = f.shape.size;
  entry = f.shape.entry;
  code = f.shape.code;
  few = f.shape.few;
  regions = λ i d lt. record {
    some = (f.shape.regions i d lt).some;
    at = (f.shape.regions i d lt).at;
    from = (f.shape.regions i d lt).from;
    access = (f.shape.regions i d lt).access;
    target = t.regions i d lt;
  };
  inside = f.shape.inside;
  apart = f.shape.apart;
  caps = record { slots = f.shape.caps.slots; each = t.caps };
}

sound_locus : (a : AtlasState) (l : LocusState) → IsLocusForm l → IsTiedLocus a l → IsSoundLocus a l
sound_locus a l f t = record {
  registers = f.shape.registers;
  place = f.shape.place;
  code = f.shape.code;
  host = t.host;
  deep = f.shape.deep;
  chain = λ i d lt. record { container = t.chain i d lt; place = (f.shape.chain i d lt).place };
  few = f.shape.few;
  privates = λ i d lt. record {
    made = (t.privates i d lt).0;
    region = record {
      some = (f.shape.privates i d lt).region.some;
      at = (f.shape.privates i d lt).region.at;
      from = (f.shape.privates i d lt).region.from;
      access = (f.shape.privates i d lt).region.access;
      target = (t.privates i d lt).1;
    };
  };
  ordered = f.shape.ordered;
  caps = record { slots = f.shape.caps.slots; each = t.caps };
  walk = λ w is. record { at = t.walk w is; some = (f.shape.walk w is).some; hops = (f.shape.walk w is).hops; looking = t.looking w is };
  printed = f.shape.printed;
}

-- WHO IS BORN, by kind
kind_container : (x : ℕ) → 1 ≤ x → x ≤ 40 → kind_of x ≡ kinds.Container
kind_container x low high = go (x == 0) (nat_lt x 41) refl refl
  where
    go : (b c : Bool) → (x == 0) ≡ b → nat_lt x 41 ≡ c → (if b then kinds.Atlas else if c then kinds.Container else kinds.Locus) ≡ kinds.Container
    go true c e f = absurd (let is : x ≡ 0 = eqb-true x 0 e in omega (arith, is, low))
    go false true e f = refl
    go false false e f = absurd (let far : 41 ≤ x = ltb-false x 41 f in omega (arith, far, high))

pub kind_locus : (x : ℕ) → 41 ≤ x → kind_of x ≡ kinds.Locus
kind_locus x low = go (x == 0) (nat_lt x 41) refl refl
  where
    go : (b c : Bool) → (x == 0) ≡ b → nat_lt x 41 ≡ c → (if b then kinds.Atlas else if c then kinds.Container else kinds.Locus) ≡ kinds.Locus
    go true c e f = absurd (let is : x ≡ 0 = eqb-true x 0 e in omega (arith, is, low))
    go false true e f = absurd (let near : x < 41 = ltb-true x 41 f in omega (arith, near, low))
    go false false e f = refl

container_part : (p : Part) → kind_in p ≡ kinds.Container → (c : ContainerState) × (table : List ℕ) × (p ≡ ContainerPart c table)
container_part (AtlasPart a) e = cc
container_part (ContainerPart c table) e = (c, table, refl)
container_part (LocusPart l) e = cc

locus_part : (p : Part) → kind_in p ≡ kinds.Locus → (l : LocusState) × (p ≡ LocusPart l)
locus_part (AtlasPart a) e = cc
locus_part (ContainerPart c table) e = cc
locus_part (LocusPart l) e = (l, refl)

-- what is taken of an entity with this record
abbrev TakenAs : Option Rec → Option Part → Type 0
TakenAs o q = MatchOption o (q ≡ None) (λ _. (part : Part) × (q ≡ Some part))

-- THE STATE of records and of parts in form that fit
module _ (s : Supply) (bytes : ℕ → List ℕ) (count : ℕ) (recs : List Rec) (parts : ℕ → Option Part) (taken : AreTaken recs parts) (formed : AreFormed parts)
    (fit : (x : ℕ) (part : Part) → parts x ≡ Some part → IsFit count recs parts x part) where
  abbrev state : KernelState
  state = state_of s bytes recs parts

  -- an entity with a part is as its part says
  cell_by : (x : ℕ) (p : Part) (o : Option Rec) → TakenAs o (parts x) → parts x ≡ Some p → (entity_of s bytes x o (parts x)).cell ≡ cell_of s bytes p
  cell_by x p None none is = clash (parts x) p none is
  cell_by x p (Some r) some is = ap (λ (o : Option Part). (entity_of s bytes x (Some r) o).cell) is

  here : (x : ℕ) (p : Part) → parts x ≡ Some p → ((state x).cell ≡ cell_of s bytes p) × IsFormed x p
  here x p is = (cell_by x p (chosen recs x) (taken x) is, formed x p is)

  -- an entity without one is as in the state of nothing
  empty_by : (x : ℕ) (o : Option Rec) → TakenAs o (parts x) → parts x ≡ None → entity_of s bytes x o (parts x) ≡ empty_state x
  empty_by x None none is = refl
  empty_by x (Some r) (q, at) is = clash (parts x) q is at

  empty_here : (x : ℕ) → parts x ≡ None → state x ≡ empty_state x
  empty_here x is = empty_by x (chosen recs x) (taken x) is

  not_born : (x : ℕ) (b : Bool) → (x == 0) ≡ b → x ≢ 0 → (if b then AtlasCell no_atlas else NotBorn) ≡ NotBorn
  not_born x true e other = absurd (other (eqb-true x 0 e))
  not_born x false e other = refl

  none_regions : (x y : ℕ) (b : Bool) → regions_onto (if b then AtlasCell no_atlas else NotBorn) y ≡ 0
  none_regions x y true = refl
  none_regions x y false = refl

  shown_here : (p : Part) (y : ℕ) → regions_onto (cell_of s bytes p) y ≡ shown_by (Some p) y
  shown_here (AtlasPart a) y = refl
  shown_here (ContainerPart c table) y = refl
  shown_here (LocusPart l) y = refl

  regions_by : (x y : ℕ) (o : Option Part) → parts x ≡ o → regions_onto (state x).cell y ≡ shown_by (parts x) y
  regions_by x y None is = ap (λ (e : EntityState). regions_onto e.cell y) (empty_here x is) ∙ (none_regions x y (x == 0) ∙ ap (λ (o : Option Part). shown_by o y) (sym is))
  regions_by x y (Some p) is = ap (λ (c : Cell). regions_onto c y) (here x p is).0 ∙ (shown_here p y ∙ ap (λ (o : Option Part). shown_by o y) (sym is))

  module _ (a : AtlasState) (first : parts 0 ≡ Some (AtlasPart a)) where
    tied_atlas : IsTiedAtlas parts a
    tied_atlas = (fit 0 (AtlasPart a) first).tied

    -- the atlas of each entity that fits is this one
    same_atlas : (x : ℕ) (p : Part) (is : parts x ≡ Some p) → (fit x p is).atlas ≡ a
    same_atlas x p is = ap (atlas_or a) (sym (fit x p is).chosen_atlas ∙ first)
      where
        atlas_or : AtlasState → Option Part → AtlasState
        atlas_or d (Some (AtlasPart b)) = b
        atlas_or d (Some (ContainerPart c table)) = d
        atlas_or d (Some (LocusPart l)) = d
        atlas_or d None = d

    tied_here : (x : ℕ) (p : Part) → parts x ≡ Some p → IsTied parts a p
    tied_here x p is = subst (λ (b : AtlasState). IsTied parts b p) (same_atlas x p is) (fit x p is).tied

    born_here : (x : ℕ) (p : Part) → parts x ≡ Some p → is_born a x ≡ true
    born_here x p is = subst (λ (b : AtlasState). is_born b x ≡ true) (same_atlas x p is) (fit x p is).named

    sound_names : IsSoundAtlas a
    sound_names = by_form (here 0 (AtlasPart a) first).1
      where
        by_form : IsFormed 0 (AtlasPart a) → IsSoundAtlas a
        by_form told = record {
          few_containers = told.spells.form.few_containers;
          few_loci = told.spells.form.few_loci;
          containers = told.spells.form.containers;
          loci = told.spells.form.loci;
          different = told.spells.form.different;
          no_circle = tied_atlas.no_circle;
        }

    container_at : (x : ℕ) (p : Part) → parts x ≡ Some p → kind_of x ≡ kinds.Container → (c : ContainerState) × ((state x).cell ≡ ContainerCell c) × IsSoundContainer a c
    container_at x p is kind = by_part (here x p is)
      where
        by_kind : (c : ContainerState) (table : List ℕ) → p ≡ ContainerPart c table → IsFormed x p → (state x).cell ≡ cell_of s bytes p
            → (d : ContainerState) × ((state x).cell ≡ ContainerCell d) × IsSoundContainer a d
        by_kind c table e told cell =
            let words : ℕ → ℕ = words_in s c.tag bytes table in
            let at : IsFormed x (ContainerPart c table) = subst (λ (q : Part). IsFormed x q) e told in
            (record c { words = words }, cell ∙ ap (cell_of s bytes) e, sound_container a c table words at.spells.form (subst (λ (q : Part). IsTied parts a q) e (tied_here x p is)))

        by_part : ((state x).cell ≡ cell_of s bytes p) × IsFormed x p → (d : ContainerState) × ((state x).cell ≡ ContainerCell d) × IsSoundContainer a d
        by_part (cell, told) = (let found = container_part p (told.kind ∙ kind) in by_kind found.0 found.1 found.2 told cell)

    locus_at : (x : ℕ) (p : Part) → parts x ≡ Some p → kind_of x ≡ kinds.Locus → (l : LocusState) × ((state x).cell ≡ LocusCell l) × IsSoundLocus a l
    locus_at x p is kind = by_part (here x p is)
      where
        by_kind : (l : LocusState) → p ≡ LocusPart l → IsFormed x p → (state x).cell ≡ cell_of s bytes p
            → (m : LocusState) × ((state x).cell ≡ LocusCell m) × IsSoundLocus a m
        by_kind l e told cell =
            let at : IsFormed x (LocusPart l) = subst (λ (q : Part). IsFormed x q) e told in
            (l, cell ∙ ap (cell_of s bytes) e, sound_locus a l at.spells.form (subst (λ (q : Part). IsTied parts a q) e (tied_here x p is)))

        by_part : ((state x).cell ≡ cell_of s bytes p) × IsFormed x p → (m : LocusState) × ((state x).cell ≡ LocusCell m) × IsSoundLocus a m
        by_part (cell, told) = (let found = locus_part p (told.kind ∙ kind) in by_kind found.0 found.1 told cell)

    or_middle : (z c l : Bool) → c ≡ true → (z || c || l) ≡ true
    or_middle true c l h = refl
    or_middle false true l h = refl
    or_middle false false l h = absurd (false≢true h)

    or_last : (z c l : Bool) → l ≡ true → (z || c || l) ≡ true
    or_last true c l h = refl
    or_last false true l h = refl
    or_last false false l h = h

    zero_born : (x : ℕ) → is_born a x ≡ false → x ≢ 0
    zero_born x none zero_is = false≢true (sym none ∙ (ap (λ (b : Bool). b || is_born_container a x || is_born_locus a x) (eq-eqb x 0 zero_is)))

    nothing_at : (x : ℕ) → is_born a x ≡ false → (o : Option Part) → parts x ≡ o → (state x).cell ≡ NotBorn
    nothing_at x none (Some p) is = absurd (false≢true (sym none ∙ born_here x p is))
    nothing_at x none None is = ap (λ (e : EntityState). e.cell) (empty_here x is) ∙ not_born x (x == 0) refl (zero_born x none)

    sound_here : AreSound a (λ x. (state x).cell)
    sound_here = record {
      atlas = (here 0 (AtlasPart a) first).0;
      names = sound_names;
      containers = λ x born.
          let found = tied_atlas.all_chosen x (or_middle (x == 0) (is_born_container a x) (is_born_locus a x) born) in
          let range = container_number a sound_names.few_containers x born in
          container_at x found.0 found.1 (kind_container x range.0 range.1);
      loci = λ x born.
          let found = tied_atlas.all_chosen x (or_last (x == 0) (is_born_container a x) (is_born_locus a x) born) in
          let low : 40 < x = ltb-true 40 x (and_left (nat_lt 40 x) (nat_le x (40 + length a.loci)) born) in
          locus_at x found.0 found.1 (kind_locus x (omega (arith, low)));
      others = λ x none. nothing_at x none (parts x) refl;
      edges = λ x y. tied_atlas.edges x y ∙ sym (regions_by x y (parts x) refl);
    }

-- THE STATE OF NOTHING

nothing_sound : AreSound no_atlas (λ x. (empty_state x).cell)
nothing_sound = record {
  atlas = refl;
  names = record {
    few_containers = omega arith;
    few_loci = omega arith;
    containers = refl;
    loci = refl;
    different = record { containers = λ i j name e f. clash None name refl e; loci = λ i j name e f. clash None name refl e; both = λ i j name e f. clash None name refl e };
    no_circle = λ c x path way. (let one = way.0 in omega (arith, one));
  };
  containers = λ x born. absurd (none_container x born);
  loci = λ x born. absurd (none_locus x born);
  others = λ x none. empty_cell x (x == 0) refl none;
  edges = λ x y. sym (no_regions y (x == 0));
}
  where
    none_container : (x : ℕ) → is_born_container no_atlas x ≡ true → ⊥
    none_container x born =
        let low = ltb-true 0 x (and_left (nat_lt 0 x) (nat_le x 0) born) in
        let high = leb-true x 0 (and_right (nat_lt 0 x) (nat_le x 0) born) in
        omega (arith, low, high)

    none_locus : (x : ℕ) → is_born_locus no_atlas x ≡ true → ⊥
    none_locus x born =
        let low = ltb-true 40 x (and_left (nat_lt 40 x) (nat_le x (40 + 0)) born) in
        let high = leb-true x (40 + 0) (and_right (nat_lt 40 x) (nat_le x (40 + 0)) born) in
        omega (arith, low, high)

    empty_cell : (x : ℕ) (b : Bool) → (x == 0) ≡ b → (x == 0 || is_born_container no_atlas x || is_born_locus no_atlas x) ≡ false → (if b then AtlasCell no_atlas else NotBorn) ≡ NotBorn
    empty_cell x true e none = absurd (false≢true (sym none ∙ ap (λ (b : Bool). b || is_born_container no_atlas x || is_born_locus no_atlas x) e))
    empty_cell x false e none = refl

    no_regions : (y : ℕ) (b : Bool) → regions_onto (if b then AtlasCell no_atlas else NotBorn) y ≡ 0
    no_regions y true = refl
    no_regions y false = refl

-- THE LAW
module _ (s : Supply) (bytes : ℕ → List ℕ) (count : ℕ) (recs : List Rec) (parts : ℕ → Option Part) (taken : AreTaken recs parts) (formed : AreFormed parts)
    (fit : (x : ℕ) (part : Part) → parts x ≡ Some part → IsFit count recs parts x part) where
  by_atlas : (o : Option Part) → parts 0 ≡ o → IsSound (λ x. (state_of s bytes recs parts x).cell)
  by_atlas None none = (no_atlas, subst (λ (v : KernelState). AreSound no_atlas (λ x. (v x).cell)) (λ i x. sym (nowhere x (parts x) refl) i) nothing_sound)
    where
      nowhere : (x : ℕ) (o : Option Part) → parts x ≡ o → state_of s bytes recs parts x ≡ empty_state x
      nowhere x None is = empty_here s bytes count recs parts taken formed fit x is
      nowhere x (Some p) is = clash (parts 0) (AtlasPart (fit x p is).atlas) none (fit x p is).chosen_atlas
  by_atlas (Some p) is = by_kind p is (formed 0 p is)
    where
      by_kind : (p : Part) → parts 0 ≡ Some p → IsFormed 0 p → IsSound (λ x. (state_of s bytes recs parts x).cell)
      by_kind (AtlasPart b) is told = (b, sound_here s bytes count recs parts taken formed fit b is)
      by_kind (ContainerPart c table) is told = absurd (let kind = told.kind in cc)
      by_kind (LocusPart l) is told = absurd (let kind = told.kind in cc)

  pub sound_parts : IsSound (λ x. (state_of s bytes recs parts x).cell)
  sound_parts = by_atlas (parts 0) refl

-- what is spelt is taken, and in form
pub spelt_taken : (image : Image) (recs : List Rec) (parts : ℕ → Option Part) → AreSpelt image recs parts → AreTaken recs parts
spelt_taken image recs parts spelt x = taken_by (chosen recs x) (parts x) (spelt x)
  where
    taken_by : (o : Option Rec) (q : Option Part) → SpeltAs image x o q → TakenAs o q
    taken_by None q none = none
    taken_by (Some r) q (p, at, told) = (p, at)

pub spelt_formed : (image : Image) (recs : List Rec) (parts : ℕ → Option Part) → AreSpelt image recs parts → AreFormed parts
spelt_formed image recs parts spelt x p is = formed_by (chosen recs x) (spelt x)
  where
    formed_by : (o : Option Rec) → SpeltAs image x o (parts x) → IsFormed x p
    formed_by None none = clash (parts x) p none is
    formed_by (Some r) (q, at, told) = subst (IsFormed x) (same_Some q p (sym at ∙ is)) (record { kind = told.kind; blob = blob_in image r; spells = told.spells })

pub sound_meaning : (s : Supply) (image : Image) (v : KernelState) → Means s image v → IsSound (λ x. (v x).cell)
sound_meaning s image v m =
    let a : Accepted image = m.accepted in
    subst (λ (w : KernelState). IsSound (λ x. (w x).cell)) (sym m.is)
    (sound_parts s (block_at image) (count_in image) a.recs a.parts (spelt_taken image a.recs a.parts a.spelt) (spelt_formed image a.recs a.parts a.spelt) a.fit)
