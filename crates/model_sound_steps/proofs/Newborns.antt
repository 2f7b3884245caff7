-- What a program makes and spawns leaves a sound state.
use Rattle.std.proofs.Common.{◌≡◌, ℕ, ◌+◌, ◌<◌, ◌≤◌, inl, inr, true, false, ◌&&◌, ◌||◌, if◌then◌else◌, ◌==◌, nat_lt, nat_le, IsTrue, [], ◌∷◌, ◌++◌, length, Option, Some, None, IfSome, refl, sym, ap, subst, ◌∙◌, arith}
use Rattle.std.specs.Option.{ForSome}
use Rattle.std.proofs.lemmas.Bool.Decides.{nat_tests}
use Rattle.std.proofs.lemmas.List.{length_push}
use Rattle.std.proofs.lemmas.List.Elements.{All-nil}
use Rattle.model_kernel.specs.base_types.Instructions.{IsInstruction, IsPlace}
use Rattle.model_kernel.specs.base_types.declared.capabilities.Region.{Region}
use Rattle.model_kernel.specs.base_types.declared.instructions.Reply.TheVariants.{Ok, NoNumber}
use Rattle.model_kernel.specs.State.{Supply, AtlasState, ContainerState, LocusState, Cell, AtlasCell, ContainerCell, LocusCell}
use Rattle.model_kernel.specs.Outcomes.{code_for, free_container, free_locus, made_container, made_name, make, make_at, spawn, spawn_at, spawned, with_atlas, born as bearing}
use Rattle.model_kernel.specs.Soundness.{AreSound, IsSoundAtlas, IsSoundCode, IsSoundContainer, IsSoundLocus, IsSoundRegion, is_born, is_born_container, is_born_locus, regions_onto}
use Rattle.model_sound_steps.proofs.Cells.{changed_sound, locus_sound, put_cell, same_sound}
use Rattle.model_sound_steps.proofs.Growth.{Wider, born_container, born_locus, wider_locus, wider_locus_state}
use Rattle.model_sound_steps.proofs.Leaving.{Leaves}
use Rattle.model_sound_steps.proofs.Lists.{no_caps}
use Rattle.model_sound_steps.proofs.LocusEdits.{finish_sound, holding_sound, spawned_sound}
use Rattle.model_sound_steps.proofs.MadeNames.{names_with_made, not_among, pushed_apart, pushed_different}

-- NUMBERS

-- what isn't born, isn't where one container more is
more_containers : (k m x y : ℕ) → x ≡ k + 1 → (x == y) ≡ false → (y == 0 || nat_lt 0 y && nat_le y k || nat_lt 40 y && nat_le y (40 + m)) ≡ false → (y == 0 || nat_lt 0 y && nat_le y (k + 1) || nat_lt 40 y && nat_le y (40 + m)) ≡ false
more_containers k m x y e off out = grind (arith, nat_tests)

more_loci : (k m x y : ℕ) → x ≡ m + 41 → (x == y) ≡ false → (y == 0 || nat_lt 0 y && nat_le y k || nat_lt 40 y && nat_le y (40 + m)) ≡ false → (y == 0 || nat_lt 0 y && nat_le y k || nat_lt 40 y && nat_le y (40 + (m + 1))) ≡ false
more_loci k m x y e off out = grind (arith, nat_tests)

free_number : (k m : ℕ) → k < 40 → (k + 1 == 0 || nat_lt 0 (k + 1) && nat_le (k + 1) k || nat_lt 40 (k + 1) && nat_le (k + 1) (40 + m)) ≡ false
free_number k m few = grind (arith, nat_tests)

free_high : (k m : ℕ) → k ≤ 40 → (m + 41 == 0 || nat_lt 0 (m + 41) && nat_le (m + 41) k || nat_lt 40 (m + 41) && nat_le (m + 41) (40 + m)) ≡ false
free_high k m few = grind (arith, nat_tests)

newest_container : (k : ℕ) → (nat_lt 0 (k + 1) && nat_le (k + 1) (k + 1)) ≡ true
newest_container k = grind (arith, nat_tests)

newest_locus : (m : ℕ) → (nat_lt 40 (m + 41) && nat_le (m + 41) (40 + (m + 1))) ≡ true
newest_locus m = grind (arith, nat_tests)

-- the atlas with one made name more
abbrev pub one_container : AtlasState → AtlasState
one_container a = record a { containers = a.containers ++ made_name (length a.containers + 1) ∷ [] }

abbrev pub one_locus : AtlasState → AtlasState
one_locus a = record a { loci = a.loci ++ made_name (length a.loci + 41) ∷ [] }

module _ (a : AtlasState) (cells : ℕ → Cell) (h : AreSound a cells) (me : ℕ) (l : LocusState) (known : IsTrue (is_born_locus a me)) (sound : IsSoundLocus a l) (within : l.place < 128) where
  -- the atlas is written as it is
  no_number : Leaves cells me true None (with_atlas l NoNumber a None)
  no_number = (a, locus_sound a (put_cell cells 0 (AtlasCell a)) me _ (same_sound a cells 0 (AtlasCell a) h h.atlas) known (finish_sound a l sound NoNumber within))

  -- nothing shows what isn't born
  shows_nothing : (x : ℕ) → is_born a x ≡ false → (y : ℕ) → a.edges x y ≡ 0
  shows_nothing x out y = h.edges x y ∙ ap (λ k. regions_onto k y) (h.others x out)

  -- the locus holds what is born
  holds : (b : AtlasState) (x d : ℕ) (k : Cell) → Wider a b → IsTrue (is_born b x) → AreSound b (put_cell (put_cell cells 0 (AtlasCell b)) x k) → Leaves cells me true None (bearing l d b x k)
  holds b x d k wider born all =
      (b, locus_sound b (put_cell (put_cell cells 0 (AtlasCell b)) x k) me _ all (wider_locus a b me wider known) (finish_sound b _ (holding_sound b l (wider_locus_state a b l wider sound) d x born) Ok within))

  -- A CONTAINER

  container_names : length a.containers < 40 → IsSoundAtlas (one_container a)
  container_names few =
      let name = made_name (length a.containers + 1) in
      let size = length_push a.containers name in
      let loci = h.names.few_loci in record {
        few_containers = omega arith;
        few_loci = h.names.few_loci;
        containers = names_with_made 1 a.containers h.names.containers;
        loci = h.names.loci;
        different = record {
          containers = pushed_different a.containers name (λ i is. not_among 1 (length a.containers + 1) a.containers i h.names.containers (omega arith) (omega arith) (inr (omega arith)) is) h.names.different.containers;
          loci = h.names.different.loci;
          both = pushed_apart a.containers a.loci name (λ i is. not_among 41 (length a.containers + 1) a.loci i h.names.loci (omega arith) (omega arith) (inl (omega arith)) is) h.names.different.both;
        };
        no_circle = h.names.no_circle;
      }

  container_width : Wider a (one_container a)
  container_width = record { containers = (let size = length_push a.containers (made_name (length a.containers + 1)) in omega arith); loci = omega arith }

  newborn_container : IsTrue (is_born_container (one_container a) (length a.containers + 1))
  newborn_container = subst (λ n. (nat_lt 0 (length a.containers + 1) && nat_le (length a.containers + 1) n) ≡ true) (sym (length_push a.containers (made_name (length a.containers + 1)))) (newest_container (length a.containers))

  with_container : (c : ContainerState) → length a.containers < 40 → IsSoundContainer (one_container a) c → ((y : ℕ) → regions_onto (ContainerCell c) y ≡ 0)
      → AreSound (one_container a) (put_cell (put_cell cells 0 (AtlasCell (one_container a))) (length a.containers + 1) (ContainerCell c))
  with_container c few good bare =
      changed_sound a (one_container a) cells (length a.containers + 1) (ContainerCell c) h container_width unborn (container_names few) (newborn_container, good) (λ y z _. refl)
      (λ y. shows_nothing (length a.containers + 1) (free_number (length a.containers) (length a.loci) few) y ∙ sym (bare y))
    where
      unborn : (y : ℕ) → (length a.containers + 1 == y) ≡ false → is_born a y ≡ false → is_born (one_container a) y ≡ false
      unborn y off out =
          subst (λ n. (y == 0 || nat_lt 0 y && nat_le y n || nat_lt 40 y && nat_le y (40 + length a.loci)) ≡ false) (sym (length_push a.containers (made_name (length a.containers + 1))))
          (more_containers (length a.containers) (length a.loci) (length a.containers + 1) y refl off out)

  made_sound : (s : Supply) (b : AtlasState) (pages tag : ℕ) (entry : Option ℕ) → 0 < pages → pages ≤ 256 → IfSome entry IsPlace → IsSoundContainer b (made_container s l pages tag entry)
  made_sound s b pages tag entry some size place = record {
    some = omega arith;
    size = size;
    entry = placed entry place;
    code = coded entry;
    few = omega arith;
    regions = All-nil (IsSoundRegion b);
    inside = All-nil (λ (r : Region). r.at + r.count ≤ pages);
    apart = tt;
    caps = no_caps b;
  }
    where
      placed : (o : Option ℕ) → IfSome o IsPlace → ForSome o IsPlace
      placed None h p is = cc
      placed (Some q) h p is = let same : q ≡ p = cc in subst IsPlace same h

      coded : (o : Option ℕ) → IsSoundCode (code_for l o)
      coded None = record { few = omega arith; each = All-nil IsInstruction }
      coded (Some q) = sound.code

  make_at_leaves : (s : Supply) (d pages tag : ℕ) (entry free : Option ℕ) → 0 < pages → pages ≤ 256 → IfSome entry IsPlace → free_container a ≡ free → Leaves cells me true None (make_at s l a d pages tag entry free)
  make_at_leaves s d pages tag entry free some size place is =
      elim (nat_lt (length a.containers) 40) as (λ t. nat_lt (length a.containers) 40 ≡ t → (if t then Some (length a.containers + 1) else None) ≡ free → Leaves cells me true None (make_at s l a d pages tag entry free)) [
        | true ↦ λ lt e. subst (λ o. Leaves cells me true None (make_at s l a d pages tag entry o)) e
            (holds (one_container a) (length a.containers + 1) d _ container_width (born_container (one_container a) (length a.containers + 1) newborn_container)
            (with_container (made_container s l pages tag entry) (below lt) (made_sound s (one_container a) pages tag entry some size place) (λ y. refl)))
        | false ↦ λ ge e. subst (λ o. Leaves cells me true None (make_at s l a d pages tag entry o)) e no_number
      ] refl is
    where
      below : nat_lt (length a.containers) 40 ≡ true → length a.containers < 40
      below lt = grind (arith, nat_tests)

  pub make_leaves : (s : Supply) (d pages tag : ℕ) (entry : Option ℕ) → 0 < pages → pages ≤ 256 → IfSome entry IsPlace → Leaves cells me true None (make s l a d pages tag entry)
  unfolding make
  make_leaves s d pages tag entry some size place = make_at_leaves s d pages tag entry (free_container a) some size place refl

  -- A LOCUS

  locus_names : length a.loci < 23 → IsSoundAtlas (one_locus a)
  locus_names few =
      let name = made_name (length a.loci + 41) in
      let size = length_push a.loci name in
      let containers = h.names.few_containers in record {
        few_containers = h.names.few_containers;
        few_loci = omega arith;
        containers = h.names.containers;
        loci = names_with_made 41 a.loci h.names.loci;
        different = record {
          containers = h.names.different.containers;
          loci = pushed_different a.loci name (λ i is. not_among 41 (length a.loci + 41) a.loci i h.names.loci (omega arith) (omega arith) (inr (omega arith)) is) h.names.different.loci;
          both = λ i j t at at'. pushed_apart a.loci a.containers name (λ k is. not_among 1 (length a.loci + 41) a.containers k h.names.containers (omega arith) (omega arith) (inr (omega arith)) is) (λ j i t at' at. h.names.different.both i j t at at') j i t at' at;
        };
        no_circle = h.names.no_circle;
      }

  locus_width : Wider a (one_locus a)
  locus_width = record { containers = omega arith; loci = (let size = length_push a.loci (made_name (length a.loci + 41)) in omega arith) }

  newborn_locus : IsTrue (is_born_locus (one_locus a) (length a.loci + 41))
  newborn_locus = subst (λ n. (nat_lt 40 (length a.loci + 41) && nat_le (length a.loci + 41) (40 + n)) ≡ true) (sym (length_push a.loci (made_name (length a.loci + 41)))) (newest_locus (length a.loci))

  with_locus : (m : LocusState) → length a.loci < 23 → IsSoundLocus (one_locus a) m → AreSound (one_locus a) (put_cell (put_cell cells 0 (AtlasCell (one_locus a))) (length a.loci + 41) (LocusCell m))
  with_locus m few good =
      changed_sound a (one_locus a) cells (length a.loci + 41) (LocusCell m) h locus_width unborn (locus_names few) (newborn_locus, good) (λ y z _. refl)
      (shows_nothing (length a.loci + 41) (free_high (length a.containers) (length a.loci) h.names.few_containers))
    where
      unborn : (y : ℕ) → (length a.loci + 41 == y) ≡ false → is_born a y ≡ false → is_born (one_locus a) y ≡ false
      unborn y off out =
          subst (λ n. (y == 0 || nat_lt 0 y && nat_le y (length a.containers) || nat_lt 40 y && nat_le y (40 + n)) ≡ false) (sym (length_push a.loci (made_name (length a.loci + 41))))
          (more_loci (length a.containers) (length a.loci) (length a.loci + 41) y refl off out)

  spawn_at_leaves : (d place : ℕ) (free : Option ℕ) → place ≤ 128 → free_locus a ≡ free → Leaves cells me true None (spawn_at l a d place free)
  spawn_at_leaves d place free le is =
      elim (nat_lt (length a.loci) 23) as (λ t. nat_lt (length a.loci) 23 ≡ t → (if t then Some (length a.loci + 41) else None) ≡ free → Leaves cells me true None (spawn_at l a d place free)) [
        | true ↦ λ lt e. subst (λ o. Leaves cells me true None (spawn_at l a d place o)) e
            (holds (one_locus a) (length a.loci + 41) d _ locus_width (born_locus (one_locus a) (length a.loci + 41) newborn_locus)
            (with_locus (spawned l place) (below lt) (spawned_sound (one_locus a) l (wider_locus_state a (one_locus a) l locus_width sound) place le)))
        | false ↦ λ ge e. subst (λ o. Leaves cells me true None (spawn_at l a d place o)) e no_number
      ] refl is
    where
      below : nat_lt (length a.loci) 23 ≡ true → length a.loci < 23
      below lt = grind (arith, nat_tests)

  pub spawn_leaves : (d place : ℕ) → place ≤ 128 → Leaves cells me true None (spawn l a d place)
  unfolding spawn
  spawn_leaves d place le = spawn_at_leaves d place (free_locus a) le refl
