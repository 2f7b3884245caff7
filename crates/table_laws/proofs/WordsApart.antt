-- Soundness says nothing of words within a container's pages.
use Rattle.std.proofs.Common.{◌≡◌, ℕ, ◌≤◌, refl, sym, ap, ◌∙◌, subst}
use Rattle.cell_steps.specs.model_kernel.Soundness.{AreSound, IsSoundContainer, regions_onto}
use Rattle.cell_steps.specs.model_kernel.State.{AtlasState, Cell, ContainerState, KernelState, LocusState, NotBorn, AtlasCell, ContainerCell, LocusCell, Supply}
use Rattle.model_sound_states.specs.States.{IsSoundState, IsSupplied}

-- the cell with no words
abbrev pub blank : Cell → Cell
blank NotBorn = NotBorn
blank (AtlasCell a) = AtlasCell a
blank (ContainerCell c) = ContainerCell (record c { words = λ _. 0 })
blank (LocusCell l) = LocusCell l

pub same_container : (c d : ContainerState) → ContainerCell c ≡ ContainerCell d → c ≡ d
same_container c d e = cc

same_regions : (k : Cell) (y : ℕ) → regions_onto (blank k) y ≡ regions_onto k y
same_regions NotBorn y = refl
same_regions (AtlasCell a) y = refl
same_regions (ContainerCell c) y = refl
same_regions (LocusCell l) y = refl

sound_with : (a : AtlasState) (c : ContainerState) (f : ℕ → ℕ) → IsSoundContainer a c → IsSoundContainer a (record c { words = f })
sound_with a c f k = record { some = k.some; size = k.size; entry = k.entry; code = k.code; few = k.few; regions = k.regions; inside = k.inside; apart = k.apart; caps = k.caps }

to_blank : (a : AtlasState) (cells : ℕ → Cell) → AreSound a cells → AreSound a (λ x. blank (cells x))
to_blank a cells h = record {
  atlas = ap blank h.atlas;
  names = h.names;
  containers = λ x born. (let f = h.containers x born in (record f.0 { words = λ _. 0 }, ap blank f.1, sound_with a f.0 (λ _. 0) f.2));
  loci = λ x born. (let f = h.loci x born in (f.0, ap blank f.1, f.2));
  others = λ x none. ap blank (h.others x none);
  edges = λ x y. h.edges x y ∙ sym (same_regions (cells x) y);
}

of_blank : (a : AtlasState) (cells : ℕ → Cell) → AreSound a (λ x. blank (cells x)) → AreSound a cells
of_blank a cells h = record {
  atlas = at_atlas (cells 0) h.atlas;
  names = h.names;
  containers = λ x born. (let f = h.containers x born in at_container (cells x) f.0 f.1 f.2);
  loci = λ x born. (let f = h.loci x born in (f.0, at_locus (cells x) f.0 f.1, f.2));
  others = λ x none. at_none (cells x) (h.others x none);
  edges = λ x y. h.edges x y ∙ same_regions (cells x) y;
}
  where
    at_atlas : (k : Cell) → blank k ≡ AtlasCell a → k ≡ AtlasCell a
    at_atlas NotBorn e = e
    at_atlas (AtlasCell b) e = e
    at_atlas (ContainerCell c) e = cc
    at_atlas (LocusCell l) e = e

    at_none : (k : Cell) → blank k ≡ NotBorn → k ≡ NotBorn
    at_none NotBorn e = e
    at_none (AtlasCell b) e = e
    at_none (ContainerCell c) e = cc
    at_none (LocusCell l) e = e

    at_locus : (k : Cell) (m : LocusState) → blank k ≡ LocusCell m → k ≡ LocusCell m
    at_locus NotBorn m e = e
    at_locus (AtlasCell b) m e = e
    at_locus (ContainerCell c) m e = cc
    at_locus (LocusCell l) m e = e

    at_container : (k : Cell) (c : ContainerState) → blank k ≡ ContainerCell c → IsSoundContainer a c → (d : ContainerState) × (k ≡ ContainerCell d) × IsSoundContainer a d
    at_container (ContainerCell d) c e sound =
        (d, refl, (let back = subst (IsSoundContainer a) (sym (same_container (record d { words = λ _. 0 }) c e)) sound in sound_with a (record d { words = λ _. 0 }) d.words back))
    at_container NotBorn c e sound = cc
    at_container (AtlasCell b) c e sound = cc
    at_container (LocusCell l) c e sound = cc

not_born : (k m : Cell) → blank k ≡ blank m → k ≡ NotBorn → m ≡ NotBorn
not_born k NotBorn e none = refl
not_born k (AtlasCell b) e none = (let f = sym (ap blank none) ∙ e in cc)
not_born k (ContainerCell c) e none = (let f = sym (ap blank none) ∙ e in cc)
not_born k (LocusCell l) e none = (let f = sym (ap blank none) ∙ e in cc)

-- A state is sound as another is that has the same entities but for words; its own words past pages are the supplier's.
pub sound_by_blank : (s t : Supply) (w u : KernelState) → IsSoundState s w → ((x : ℕ) → blank (u x).cell ≡ blank (w x).cell) → ((x : ℕ) → (u x).version ≡ (w x).version) → ((x y : ℕ) → (u x).stamp y ≡ (w x).stamp y)
    → ((x : ℕ) (c : ContainerState) → (u x).cell ≡ ContainerCell c → IsSupplied t c) → IsSoundState t u
sound_by_blank s t w u sound cells versions stamps words = record {
  sound = (
    sound.sound.0,
    of_blank sound.sound.0 (λ x. (u x).cell) (subst (AreSound sound.sound.0) (λ i. λ x. sym (cells x) i) (to_blank sound.sound.0 (λ x. (w x).cell) sound.sound.1)),
  );
  born = λ x some. (
    λ none. versions x ∙ (sound.born x some).0 (not_born (u x).cell (w x).cell (cells x) none),
    λ zero. not_born (w x).cell (u x).cell (sym (cells x)) ((sound.born x some).1 (sym (versions x) ∙ zero)),
  );
  own = λ x. stamps x x ∙ sound.own x ∙ sym (versions x);
  below = λ x y. subst (λ n. n ≤ (u y).version) (sym (stamps x y)) (subst (λ n. (w x).stamp y ≤ n) (sym (versions y)) (sound.below x y));
  words = words;
}
