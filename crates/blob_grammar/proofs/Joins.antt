-- What is sound has the form that a spelling asks for.
use Rattle.std.proofs.Common.{◌≡◌, ◌<◌, ◌≤◌, ◌↔◌, ℕ, suc, ◌+◌, ◌==◌, ◌||◌, Bool, true, false, cond, List, [], ◌∷◌, length, nat_le, nat_lt, Option, refl, ap, subst, ◌∙◌, arith, eqb-true, get_or}
use Rattle.std.proofs.lemmas.Bool.{false≢true, leb-true, ltb-true}
use Rattle.std.proofs.lemmas.List.Sums.{count_by-le-length, sum_by-cons}
use Rattle.std.specs.Prelude.{All, IsTrue, count_by}
use Rattle.std.specs.Option.{ForSome}
use Rattle.model_kernel.specs.base_types.declared.capabilities.Cap.{Cap}
use Rattle.model_kernel.specs.base_types.declared.capabilities.Region.{Region}
use Rattle.model_kernel.specs.Refusals.{instr_at}
use Rattle.model_kernel.specs.Soundness.{AreSound, IsSoundAtlas, IsSoundContainer, IsSoundLocus, IsSoundRegion, is_born, is_born_container, is_born_locus, looks, regions_onto}
use Rattle.model_kernel.specs.State.{AtlasState, Cell, ContainerState, LocusState}
use Rattle.blob_grammar.specs.Forms.{IsAtlasForm, IsNumber}
use Rattle.blob_grammar.specs.Shapes.{AreCapsOver, Born, BornContainer, IsContainerOver, IsLocusOver, IsRegionOver}
use Rattle.blob_grammar.proofs.AtlasSizes.{none_shown}
use Rattle.model_kernel.proofs.Basics.{and_left, and_right}

-- FROM ONE PREDICATE TO A WIDER ONE
module _ (N S M T : ℕ → Type 0) (wider : (x : ℕ) → N x → M x) (shown : (x : ℕ) → S x → T x) where
  caps_over : (caps : List (Option Cap)) → AreCapsOver N caps → AreCapsOver M caps
  caps_over caps c = record { slots = c.slots; each = λ slot cap is. wider cap.entity (c.each slot cap is) }

  region_over : (r : Region) → IsRegionOver S r → IsRegionOver T r
  region_over r f = record { some = f.some; at = f.at; from = f.from; access = f.access; target = shown r.target f.target }

  pub container_over : (c : ContainerState) → IsContainerOver N S c → IsContainerOver M T c
  container_over c f = record {
    some = f.some;
    size = f.size;
    entry = f.entry;
    code = f.code;
    few = f.few;
    regions = λ i d lt. region_over (get_or c.regions i d) (f.regions i d lt);
    inside = f.inside;
    apart = f.apart;
    caps = caps_over c.caps f.caps;
  }

  pub locus_over : (l : LocusState) → IsLocusOver N S l → IsLocusOver M T l
  locus_over l f = record {
    registers = f.registers;
    place = f.place;
    code = f.code;
    host = shown l.host f.host;
    deep = f.deep;
    chain = λ i d lt. record { container = shown _ (f.chain i d lt).container; place = (f.chain i d lt).place };
    few = f.few;
    privates = λ i d lt. record { made = shown _ (f.privates i d lt).made; region = region_over _ (f.privates i d lt).region };
    ordered = f.ordered;
    caps = caps_over l.caps f.caps;
    walk = λ w is. record { at = shown w.at (f.walk w is).at; some = (f.walk w is).some; hops = (f.walk w is).hops };
    printed = f.printed;
  }

-- SOUND VALUES
module _ (a : AtlasState) where
  sound_region : (r : Region) → IsSoundRegion a r → IsRegionOver (BornContainer a) r
  sound_region r f = record { some = f.some; at = f.at; from = f.from; access = f.access; target = f.target }

  region_sound : (r : Region) → IsRegionOver (BornContainer a) r → IsSoundRegion a r
  region_sound r f = record { some = f.some; at = f.at; from = f.from; access = f.access; target = f.target }

  pub container : (c : ContainerState) → IsSoundContainer a c ↔ IsContainerOver (Born a) (BornContainer a) c
  container c = (
    λ f. record {
      some = f.some;
      size = f.size;
      entry = f.entry;
      code = f.code;
      few = f.few;
      regions = λ i d lt. sound_region _ (f.regions i d lt);
      inside = f.inside;
      apart = f.apart;
      caps = record { slots = f.caps.slots; each = f.caps.each };
    },
    λ f. record {
      some = f.some;
      size = f.size;
      entry = f.entry;
      code = f.code;
      few = f.few;
      regions = λ i d lt. region_sound _ (f.regions i d lt);
      inside = f.inside;
      apart = f.apart;
      caps = record { slots = f.caps.slots; each = f.caps.each };
    },
  )

  pub locus : (l : LocusState) → IsSoundLocus a l ↔ (IsLocusOver (Born a) (BornContainer a) l × ForSome l.walk (λ walk. IsTrue (looks (instr_at l))))
  locus l = (
    λ f. (
      record {
        registers = f.registers;
        place = f.place;
        code = f.code;
        host = f.host;
        deep = f.deep;
        chain = λ i d lt. record { container = (f.chain i d lt).container; place = (f.chain i d lt).place };
        few = f.few;
        privates = λ i d lt. record { made = (f.privates i d lt).made; region = sound_region _ (f.privates i d lt).region };
        ordered = f.ordered;
        caps = record { slots = f.caps.slots; each = f.caps.each };
        walk = λ w is. record { at = (f.walk w is).at; some = (f.walk w is).some; hops = (f.walk w is).hops };
        printed = f.printed;
      },
      λ w is. (f.walk w is).looking,
    ),
    λ (f, looking). record {
      registers = f.registers;
      place = f.place;
      code = f.code;
      host = f.host;
      deep = f.deep;
      chain = λ i d lt. record { container = (f.chain i d lt).container; place = (f.chain i d lt).place };
      few = f.few;
      privates = λ i d lt. record { made = (f.privates i d lt).made; region = region_sound _ (f.privates i d lt).region };
      ordered = f.ordered;
      caps = record { slots = f.caps.slots; each = f.caps.each };
      walk = λ w is. record { at = (f.walk w is).at; some = (f.walk w is).some; hops = (f.walk w is).hops; looking = looking w is };
      printed = f.printed;
    },
  )

-- WHO IS BORN HAS A NUMBER
container_range : (a : AtlasState) (x : ℕ) → is_born_container a x ≡ true → (1 ≤ x) × (x ≤ length a.containers)
container_range a x h =
    (ltb-true 0 x (and_left (nat_lt 0 x) (nat_le x (length a.containers)) h), leb-true x (length a.containers) (and_right (nat_lt 0 x) (nat_le x (length a.containers)) h))

locus_range : (a : AtlasState) (x : ℕ) → is_born_locus a x ≡ true → x ≤ 40 + length a.loci
locus_range a x h = leb-true x (40 + length a.loci) (and_right (nat_lt 40 x) (nat_le x (40 + length a.loci)) h)

pub container_number : (a : AtlasState) → length a.containers ≤ 40 → (x : ℕ) → is_born_container a x ≡ true → (1 ≤ x) × (x ≤ 40)
container_number a few x h = let r = container_range a x h in (r.0, (let low = r.1 in omega (arith, low, few)))

born_by : (a : AtlasState) (x : ℕ) → length a.containers ≤ 40 → length a.loci ≤ 23 → (z c l : Bool) → (x == 0) ≡ z → is_born_container a x ≡ c → is_born_locus a x ≡ l → (z || c || l) ≡ true → x < 64
born_by a x few others true c l p q r h = let e : x ≡ 0 = eqb-true x 0 p in omega (arith, e)
born_by a x few others false true l p q r h = let low = (container_number a few x q).1 in omega (arith, low)
born_by a x few others false false true p q r h = let low = locus_range a x r in omega (arith, low, others)
born_by a x few others false false false p q r h = absurd (false≢true h)

pub born_number : (a : AtlasState) → length a.containers ≤ 40 → length a.loci ≤ 23 → (x : ℕ) → is_born a x ≡ true → IsNumber x
born_number a few others x h = born_by a x few others (x == 0) (is_born_container a x) (is_born_locus a x) refl refl refl h

container_is_number : (a : AtlasState) → length a.containers ≤ 40 → (x : ℕ) → is_born_container a x ≡ true → IsNumber x
container_is_number a few x h = let low = (container_number a few x h).1 in omega (arith, low)

pub container_form : (a : AtlasState) (c : ContainerState) → IsSoundAtlas a → IsSoundContainer a c → IsContainerOver IsNumber IsNumber c
container_form a c names f =
    container_over (Born a) (BornContainer a) IsNumber IsNumber (born_number a names.few_containers names.few_loci) (container_is_number a names.few_containers) c ((container a c).0 f)

pub locus_form : (a : AtlasState) (l : LocusState) → IsSoundAtlas a → IsSoundLocus a l → IsLocusOver IsNumber IsNumber l
locus_form a l names f =
    locus_over (Born a) (BornContainer a) IsNumber IsNumber (born_number a names.few_containers names.few_loci) (container_is_number a names.few_containers) l ((locus a l).0 f).0

-- EDGES OF A SOUND STATE

abbrev one_if : Bool → ℕ
one_if b = cond b 1 0

target_by : (a : AtlasState) (y : ℕ) (r : Region) (rs : List Region) (b : Bool) → (r.target == y) ≡ b → is_born_container a r.target ≡ true
    → 0 < count_by (λ (s : Region). s.target == y) (r ∷ rs) → (0 < count_by (λ (s : Region). s.target == y) rs → is_born_container a y ≡ true) → is_born_container a y ≡ true
target_by a y r rs true e here some later = subst (λ n. is_born_container a n ≡ true) (eqb-true r.target y e) here
target_by a y r rs false e here some later =
    let one = sum_by-cons (λ (x : Region). cond (x.target == y) 1 0) r rs in
    let none = ap one_if e in
    later (omega (arith, one, none, some))

-- a region that is counted names the container
target_of : (a : AtlasState) (y : ℕ) (rs : List Region) → All (IsSoundRegion a) rs → 0 < count_by (λ (r : Region). r.target == y) rs → is_born_container a y ≡ true
target_of a y [] all some = absurd (omega (arith, some))
target_of a y (r ∷ rs) all some = target_by a y r rs (r.target == y) refl (all 0 r (omega arith)).target some (target_of a y rs (λ i d lt. all (suc i) d (omega (arith, lt))))

module _ (a : AtlasState) (cells : ℕ → Cell) (sound : AreSound a cells) where
  edge_facts : (x y : ℕ) (b : Bool) → is_born_container a x ≡ b → (a.edges x y ≤ 16) × (0 < a.edges x y → (is_born_container a x ≡ true) × (is_born_container a y ≡ true))
  edge_facts x y true born =
      let c = sound.containers x born in
      let is : a.edges x y ≡ count_by (λ (r : Region). r.target == y) c.0.regions = sound.edges x y ∙ ap (λ (d : Cell). regions_onto d y) c.1 in
      let most = count_by-le-length (λ (r : Region). r.target == y) c.0.regions in
      let few = c.2.few in
      (omega (arith, is, most, few), λ some. (born, target_of a y c.0.regions c.2.regions (omega (arith, is, some))))
  edge_facts x y false other =
      let none : a.edges x y ≡ 0 = sound.edges x y ∙ none_shown a cells sound x (is_born_locus a x) refl other y in
      (omega (arith, none), λ some. absurd (omega (arith, none, some)))

  pub atlas_form : IsAtlasForm a
  atlas_form = record {
    few_containers = sound.names.few_containers;
    few_loci = sound.names.few_loci;
    containers = sound.names.containers;
    loci = sound.names.loci;
    different = sound.names.different;
    edges = record {
      most = λ x y. (edge_facts x y (is_born_container a x) refl).0;
      from = λ x y some. container_number a sound.names.few_containers x ((edge_facts x y (is_born_container a x) refl).1 some).0;
      to = λ x y some. container_number a sound.names.few_containers y ((edge_facts x y (is_born_container a x) refl).1 some).1;
    };
  }
