-- A mapping that is made or taken away leaves a sound state.
use Rattle.std.proofs.Common.{◌≡◌, ℕ, ◌+◌, ◌-◌, ◌<◌, ◌≤◌, ◌⊎◌, inl, inr, true, false, not, if◌then◌else◌, ◌==◌, nat_lt, nat_le, IsTrue, length, find, Option, Some, None, refl, sym, ap, subst, ◌∙◌, arith, eqb-true, eq-eqb}
use Rattle.std.specs.List.{list_any}
use Rattle.std.proofs.lemmas.Bool.Decides.{nat_tests}
use Rattle.std.proofs.lemmas.List.Elements.{All-filter, All-weaker}
use Rattle.model_kernel.specs.base_types.Edges.{leads}
use Rattle.model_kernel.specs.base_types.declared.capabilities.Region.{Region}
use Rattle.model_kernel.specs.base_types.declared.instructions.Reply.{Reply}
use Rattle.model_kernel.specs.base_types.declared.instructions.Reply.TheVariants.{Ok, NoRegion}
use Rattle.model_kernel.specs.State.{AtlasState, ContainerState, LocusState, Cell, AtlasCell, ContainerCell, LocusCell}
use Rattle.model_kernel.specs.Outcomes.{edge_put, finish, map_by, map_refusal, map_region, unmap, unmap_at}
use Rattle.model_kernel.specs.Soundness.{AreSound, HasNoCircle, IsSoundAtlas, IsSoundContainer, IsSoundLocus, IsSoundRegion, is_born_container, is_born_locus, regions_onto}
use Rattle.model_kernel.specs.Words.{insert_region, overlaps, put, unless}
use Rattle.model_circles.proofs.Circles.{circle_found}
use Rattle.model_sound_steps.proofs.Cells.{changed_sound, edges_among, locus_sound, put_cell, same_sound}
use Rattle.model_sound_steps.proofs.Circles.{fewer_no_circle, more_no_circle}
use Rattle.model_sound_steps.proofs.Growth.{Wider, wider_container_state, wider_locus_state}
use Rattle.model_sound_steps.proofs.Leaving.{Leaves}
use Rattle.model_sound_steps.proofs.Lists.{first_passes, test_passes}
use Rattle.model_sound_steps.proofs.LocusEdits.{finish_sound}
use Rattle.model_sound_steps.proofs.RegionLists.{all_inserted, apart_inserted, apart_without, fewer_without, length_inserted, shown, shown_inserted, shown_without, without}
use Rattle.std.proofs.lemmas.Bool.{not-true}

-- ONE EDGE

-- the edges of another container
edge_other : (a : AtlasState) (x d n y z : ℕ) → (x == y) ≡ false → (edge_put a x d n).edges y z ≡ a.edges y z
edge_other a x d n y z off = let back : (y == x) ≡ false = grind (arith, nat_tests) in
    λ i. (if back i then put (a.edges x) d n else a.edges y) z

edge_here : (a : AtlasState) (x d n z : ℕ) → (edge_put a x d n).edges x z ≡ (if z == d then n else a.edges x z)
edge_here a x d n z = let is : (x == x) ≡ true = eq-eqb x x refl in
    λ i. (if is i then put (a.edges x) d n else a.edges x) z

-- one count higher
counted_more : (e f k d z : ℕ) → e ≡ k → (z ≡ d → e ≡ f) → (if z == d then f + 1 else e) ≡ (if d == z then 1 else 0) + k
counted_more e f k d z same at =
    elim (z == d) as (λ b. (z == d) ≡ b → (if b then f + 1 else e) ≡ (if d == z then 1 else 0) + k) [
      | true ↦ λ is. let here : z ≡ d = eqb-true z d is in let back : (d == z) ≡ true = eq-eqb d z (sym here) in let same' = at here in rw back (omega arith)
      | false ↦ λ is. let back : (d == z) ≡ false = grind (arith, nat_tests) in rw back (omega arith)
    ] refl

-- one count lower
counted_less : (e f k d z : ℕ) → e ≡ (if d == z then 1 else 0) + k → (z ≡ d → e ≡ f) → (if z == d then f - 1 else e) ≡ k
counted_less e f k d z same at =
    elim (z == d) as (λ b. (z == d) ≡ b → (if b then f - 1 else e) ≡ k) [
      | true ↦ λ is. let here : z ≡ d = eqb-true z d is in let back : (d == z) ≡ true = eq-eqb d z (sym here) in let same' = at here in let one : e ≡ 1 + k = rw back at same in omega arith
      | false ↦ λ is. let back : (d == z) ≡ false = grind (arith, nat_tests) in let one : e ≡ 0 + k = rw back at same in omega arith
    ] refl

-- where an edge is put, each edge is an old one or this
put_more : (a : AtlasState) (x d n y z : ℕ) → 0 < (edge_put a x d n).edges y z → (0 < a.edges y z) ⊎ ((y ≡ x) × (z ≡ d))
put_more a x d n y z some =
    elim (y == x) as (λ b. (y == x) ≡ b → 0 < (if b then put (a.edges x) d n else a.edges y) z → (0 < a.edges y z) ⊎ ((y ≡ x) × (z ≡ d))) [
      | true ↦ λ is.
          let e : y ≡ x = eqb-true y x is in
          elim (z == d) as (λ b. (z == d) ≡ b → 0 < (if b then n else a.edges x z) → (0 < a.edges y z) ⊎ ((y ≡ x) × (z ≡ d))) [
            | true ↦ λ at _. inr (e, eqb-true z d at)
            | false ↦ λ at some. inl (subst (λ t. 0 < a.edges t z) (sym e) some)
          ] refl
      | false ↦ λ is some. inl some
    ] refl some

same_names : (a : AtlasState) (x d n : ℕ) → IsSoundAtlas a → HasNoCircle (edge_put a x d n).edges → IsSoundAtlas (edge_put a x d n)
same_names a x d n names none = record {
  few_containers = names.few_containers;
  few_loci = names.few_loci;
  containers = names.containers;
  loci = names.loci;
  different = record { containers = names.different.containers; loci = names.different.loci; both = names.different.both };
  no_circle = none;
}

same_width : (a : AtlasState) (x d n : ℕ) → Wider a (edge_put a x d n)
same_width a x d n = record { containers = omega arith; loci = omega arith }

module _ (a : AtlasState) (cells : ℕ → Cell) (h : AreSound a cells) (me : ℕ) (l : LocusState) (known : IsTrue (is_born_locus a me)) (sound : IsSoundLocus a l) (within : l.place < 128)
    (x : ℕ) (c : ContainerState) (at : cells x ≡ ContainerCell c) (born : IsTrue (is_born_container a x)) (good : IsSoundContainer a c) where
  -- the container and the atlas are written as they are
  pub unchanged : (r : Reply) → AreSound a (put_cell (put_cell (put_cell cells 0 (AtlasCell a)) x (ContainerCell c)) me (LocusCell (finish l r)))
  unchanged r =
      let off : (0 == x) ≡ false = grind (arith, nat_tests) in
      let there : put_cell cells 0 (AtlasCell a) x ≡ ContainerCell c = (λ i. if off i then AtlasCell a else cells x) ∙ at in
      locus_sound a (put_cell (put_cell cells 0 (AtlasCell a)) x (ContainerCell c)) me _
      (same_sound a (put_cell cells 0 (AtlasCell a)) x (ContainerCell c) (same_sound a cells 0 (AtlasCell a) h h.atlas) there) known (finish_sound a l sound r within)

  -- the container's regions and its edges are changed
  module _ (d n : ℕ) (e : ContainerState) (kept : IsSoundContainer a e) (none : HasNoCircle (edge_put a x d n).edges) (here : (z : ℕ) → (edge_put a x d n).edges x z ≡ shown e.regions z) where
    edited : AreSound (edge_put a x d n) (put_cell (put_cell cells 0 (AtlasCell (edge_put a x d n))) x (ContainerCell e))
    edited =
        changed_sound a (edge_put a x d n) cells x (ContainerCell e) h (same_width a x d n) (λ y _ out. out) (same_names a x d n h.names none)
        (born, wider_container_state a (edge_put a x d n) e (same_width a x d n) kept) (λ y z off. edge_other a x d n y z off) here

    edited_leaves : (r : Reply) → AreSound (edge_put a x d n) (put_cell (put_cell (put_cell cells 0 (AtlasCell (edge_put a x d n))) x (ContainerCell e)) me (LocusCell (finish l r)))
    edited_leaves r =
        locus_sound (edge_put a x d n) (put_cell (put_cell cells 0 (AtlasCell (edge_put a x d n))) x (ContainerCell e)) me _ edited known
        (wider_locus_state a (edge_put a x d n) _ (same_width a x d n) (finish_sound a l sound r within))

  shows : (z : ℕ) → a.edges x z ≡ shown c.regions z
  shows z = h.edges x z ∙ ap (λ k. regions_onto k z) at

  -- A NEW REGION

  with_region : (r : Region) → IsSoundRegion a r → r.at + r.count ≤ c.pages → list_any (overlaps r) c.regions ≡ false → length c.regions < 16 → IsSoundContainer a (record c { regions = insert_region r c.regions })
  with_region r region inside clear few = record {
    some = good.some;
    size = good.size;
    entry = good.entry;
    code = good.code;
    few = (let e = length_inserted r c.regions in omega arith);
    regions = all_inserted (IsSoundRegion a) r c.regions region good.regions;
    inside = all_inserted (λ (s : Region). s.at + s.count ≤ c.pages) r c.regions inside good.inside;
    apart = apart_inserted r c.regions region.some (All-weaker (IsSoundRegion a) (λ (s : Region). 1 ≤ s.count) (λ s k. k.some) c.regions good.regions) clear good.apart;
    caps = good.caps;
  }

  no_circle_with : (r : Region) (n : ℕ) → IsSoundRegion a r → leads 40 a.edges r.target x ≡ false → HasNoCircle (edge_put a x r.target n).edges
  no_circle_with r n region fails =
      more_no_circle a.edges (edge_put a x r.target n).edges x r.target (put_more a x r.target n) h.names.no_circle
      (λ q path. never ((circle_found a.edges x r.target 40 (edges_among a cells h) (omega arith)).1 (q, path)) fails)
    where
      never : leads 40 a.edges r.target x ≡ true → leads 40 a.edges r.target x ≡ false → ⊥
      never e f = let bad : true ≡ false = sym e ∙ f in cc

  map_by_leaves : (r : Region) (why : Option Reply) → IsSoundRegion a r → map_refusal a x c r ≡ why → Leaves cells me true (Some x) (map_by l a x c r why)
  map_by_leaves r (Some why) region is = (a, unchanged why)
  map_by_leaves r None region is =
      let page = first_passes (unless (nat_le (r.at + r.count) c.pages) _) _ is in
      let clear = first_passes (unless (not (list_any (overlaps r) c.regions)) _) _ page.1 in
      let circle = first_passes (unless (not (leads 40 a.edges r.target x)) _) _ clear.1 in
      let few = first_passes (unless (nat_lt (length c.regions) 16) _) _ circle.1 in
      let inside : nat_le (r.at + r.count) c.pages ≡ true = test_passes _ _ page.0 in
      let apart : list_any (overlaps r) c.regions ≡ false = not-true _ (test_passes _ _ clear.0) in
      let fails : leads 40 a.edges r.target x ≡ false = not-true _ (test_passes _ _ circle.0) in
      let lt : nat_lt (length c.regions) 16 ≡ true = test_passes _ _ few.0 in
      let n = a.edges x r.target + 1 in
      let here : (z : ℕ) → (edge_put a x r.target n).edges x z ≡ shown (insert_region r c.regions) z = λ z.
      edge_here a x r.target n z ∙ counted_more (a.edges x z) (a.edges x r.target) (shown c.regions z) r.target z (shows z) (λ e. ap (a.edges x) e) ∙ sym (shown_inserted r c.regions z) in (
        edge_put a x r.target n,
        edited_leaves r.target n _ (with_region r region (low inside) apart (below lt)) (no_circle_with r n region fails) here Ok,
      )
    where
      low : nat_le (r.at + r.count) c.pages ≡ true → r.at + r.count ≤ c.pages
      low is = grind (arith, nat_tests)

      below : nat_lt (length c.regions) 16 ≡ true → length c.regions < 16
      below is = grind (arith, nat_tests)

  pub map_leaves : (r : Region) → IsSoundRegion a r → Leaves cells me true (Some x) (map_region l a x c r)
  unfolding map_region
  map_leaves r region = map_by_leaves r (map_refusal a x c r) region refl

  -- A REGION LESS

  without_region : (page : ℕ) → IsSoundContainer a (record c { regions = without page c.regions })
  without_region page = record {
    some = good.some;
    size = good.size;
    entry = good.entry;
    code = good.code;
    few = (let few = good.few in let less = fewer_without page c.regions in omega arith);
    regions = All-filter (λ (s : Region). not (s.at == page)) (IsSoundRegion a) c.regions good.regions;
    inside = All-filter (λ (s : Region). not (s.at == page)) (λ (s : Region). s.at + s.count ≤ c.pages) c.regions good.inside;
    apart = apart_without page c.regions good.apart;
    caps = good.caps;
  }

  unmap_at_leaves : (page : ℕ) (found : Option Region) → find (λ (r : Region). r.at == page) c.regions ≡ found → Leaves cells me true (Some x) (unmap_at l a x c page found)
  unmap_at_leaves page None is = (a, unchanged NoRegion)
  unmap_at_leaves page (Some r) is =
      let n = a.edges x r.target - 1 in
      let less = shown_without page c.regions r in
      let some = All-weaker (IsSoundRegion a) (λ (s : Region). 1 ≤ s.count) (λ s k. k.some) c.regions good.regions in
      let here : (z : ℕ) → (edge_put a x r.target n).edges x z ≡ shown (without page c.regions) z = λ z.
      edge_here a x r.target n z ∙ counted_less (a.edges x z) (a.edges x r.target) (shown (without page c.regions) z) r.target z (shows z ∙ less z some good.apart is) (λ e. ap (a.edges x) e) in (
        edge_put a x r.target n,
        edited_leaves r.target n _ (without_region page) (fewer_no_circle a.edges (edge_put a x r.target n).edges (λ y z more. kept y z more (put_more a x r.target n y z more)) h.names.no_circle) here Ok,
      )
    where
      kept : (y z : ℕ) → 0 < (edge_put a x r.target (a.edges x r.target - 1)).edges y z → (0 < a.edges y z) ⊎ ((y ≡ x) × (z ≡ r.target)) → 0 < a.edges y z
      kept y z more (inl some) = some
      kept y z more (inr e) =
          let same : (edge_put a x r.target (a.edges x r.target - 1)).edges y z ≡ a.edges x r.target - 1 = (λ i. (edge_put a x r.target (a.edges x r.target - 1)).edges (e.0 i) (e.1 i)) ∙ edge_here a x r.target (a.edges x r.target - 1) r.target ∙ (λ i. if eq-eqb r.target r.target refl i then a.edges x r.target - 1 else a.edges x r.target) in
          let back : a.edges y z ≡ a.edges x r.target = λ i. a.edges (e.0 i) (e.1 i) in
          omega arith

  pub unmap_leaves : (page : ℕ) → Leaves cells me true (Some x) (unmap l a x c page)
  unfolding unmap
  unmap_leaves page = unmap_at_leaves page (find (λ (r : Region). r.at == page) c.regions) refl
