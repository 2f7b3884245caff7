-- A sound state stays one with other words of its containers, and what the parts of an image mean is sound.
use Rattle.std.proofs.Common.{◌≡◌, ℕ, ◌==◌, Bool, true, false, if◌then◌else◌, List, Option, Some, None, refl, sym, ap, subst, ◌∙◌}
use Rattle.std.specs.Prelude.{MatchOption, slice_index}
use Rattle.edge_disk.specs.Image.{Image, block_at}
use Rattle.image_plain.specs.plain_states.Plains.{cells_of}
use Rattle.image_plain.specs.plain_states.declared.plain.Plain.{Plain}
use Rattle.base_types.specs.declared.records.Rec.{Rec}
use Rattle.image_facts.specs.model_kernel.Soundness.{IsSound, IsSoundContainer, IsSoundLocus, regions_onto}
use Rattle.image_facts.specs.model_kernel.State.{AtlasCell, AtlasState, Cell, ContainerCell, ContainerState, LocusCell, LocusState, NotBorn, Supply, no_atlas}
use Rattle.image_state_laws.specs.image_meaning.Meaning.{Accepted, entity_of, state_of}
use Rattle.image_state_laws.specs.image_meaning.Parts.{AreFormed, AreTaken, AtlasPart, ContainerPart, IsSpelt, LocusPart, Part, chosen, cut_of}
use Rattle.image_state_laws.proofs.image_meaning_lemmas.Sounding.{sound_parts}
use Rattle.image_state_laws.proofs.Meant.{meant_versions}
use Rattle.image_chosen.specs.image_fits.Chosen.{entity_at, part_in, part_of, parts_of, record_in}
use Rattle.image_chosen.specs.image_fits.Fits.{AreChosen, AreFit}
use Rattle.image_chosen.specs.image_fits.declared.chosen.ChosenEntity.{ChosenEntity}
use Rattle.image_shown_facts.specs.Facts.{MeansState}
use Rattle.image_shown_facts.specs.States.{IsCellOf, cell_in, cell_with}

abbrev with_words : (ℕ → ℕ) → Cell → Cell
with_words words NotBorn = NotBorn
with_words words (AtlasCell a) = AtlasCell a
with_words words (ContainerCell c) = ContainerCell (record c { words = words })
with_words words (LocusCell l) = LocusCell l

abbrev IsAside : Cell → Cell → Type 0
IsAside cell other = (words : ℕ → ℕ) × (other ≡ with_words words cell)

sound_container : (a : AtlasState) (c : ContainerState) (words : ℕ → ℕ) → IsSoundContainer a c → IsSoundContainer a (record c { words = words })
sound_container a c words h = record {
  some = h.some;
  size = h.size;
  entry = h.entry;
  code = h.code;
  few = h.few;
  regions = h.regions;
  inside = h.inside;
  apart = h.apart;
  caps = h.caps;
}

same_regions : (words : ℕ → ℕ) (cell : Cell) (y : ℕ) → regions_onto (with_words words cell) y ≡ regions_onto cell y
same_regions words NotBorn y = refl
same_regions words (AtlasCell a) y = refl
same_regions words (ContainerCell c) y = refl
same_regions words (LocusCell l) y = refl

sound_aside : (cells other : ℕ → Cell) → ((x : ℕ) → IsAside (cells x) (other x)) → IsSound cells → IsSound other
sound_aside cells other aside (a, h) = (
  a,
  record {
    atlas = (aside 0).1 ∙ ap (with_words (aside 0).0) h.atlas;
    names = h.names;
    containers = λ x born. container x (h.containers x born);
    loci = λ x born. locus x (h.loci x born);
    others = λ x none. (aside x).1 ∙ ap (with_words (aside x).0) (h.others x none);
    edges = λ x y. h.edges x y ∙ (sym (same_regions (aside x).0 (cells x) y) ∙ ap (λ (c : Cell). regions_onto c y) (sym (aside x).1));
  },
)
  where
    container : (x : ℕ) → (c : ContainerState) × (cells x ≡ ContainerCell c) × IsSoundContainer a c → (c : ContainerState) × (other x ≡ ContainerCell c) × IsSoundContainer a c
    container x (c, is, sound) = (record c { words = (aside x).0 }, (aside x).1 ∙ ap (with_words (aside x).0) is, sound_container a c (aside x).0 sound)

    locus : (x : ℕ) → (l : LocusState) × (cells x ≡ LocusCell l) × IsSoundLocus a l → (l : LocusState) × (other x ≡ LocusCell l) × IsSoundLocus a l
    locus x (l, is, sound) = (l, (aside x).1 ∙ ap (with_words (aside x).0) is, sound)

module _ (s : Supply) (bytes : ℕ → List ℕ) where
  with_same : (words : ℕ → ℕ) (x : ℕ) (o : Option Part) → cell_with words x o ≡ with_words words (cell_in s bytes x o)
  with_same words x None = by (x == 0)
    where
      by : (b : Bool) → (if b then AtlasCell no_atlas else NotBorn) ≡ with_words words (if b then AtlasCell no_atlas else NotBorn)
      by true = refl
      by false = refl
  with_same words x (Some (AtlasPart a)) = refl
  with_same words x (Some (ContainerPart c table)) = refl
  with_same words x (Some (LocusPart l)) = refl

  -- what is taken of an entity
  taken_cell : (x : ℕ) (o : Option Rec) (q : Option Part) → MatchOption o (q ≡ None) (λ _. (p : Part) × (q ≡ Some p)) → (entity_of s bytes x o q).cell ≡ cell_in s bytes x q
  taken_cell x None q none = sym (ap (cell_in s bytes x) none)
  taken_cell x (Some r) q (p, at) = subst (λ (q : Option Part). (entity_of s bytes x (Some r) q).cell ≡ cell_in s bytes x q) (sym at) refl

  module _ (count : ℕ) (recs : List Rec) (parts : ℕ → Option Part) (taken : AreTaken recs parts) where
    here : (x : ℕ) → (state_of s bytes recs parts x).cell ≡ cell_in s bytes x (parts x)
    here x = taken_cell x (chosen recs x) (parts x) (taken x)

    -- THE STATE OF THE PARTS IS SOUND, whatever the words are
    pub sound_cells : (tells : Type 0) (formed : AreFormed parts) (fit : AreFit count recs parts) (cells : ℕ → Cell) → ((x : ℕ) → IsCellOf tells s bytes x (parts x) (cells x)) → IsSound cells
    sound_cells tells formed fit cells are = sound_aside (λ x. (state_of s bytes recs parts x).cell) cells
        (λ x. ((are x).words, (are x).is ∙ (with_same (are x).words x (parts x) ∙ sym (ap (with_words (are x).words) (here x)))))
        (sound_parts s bytes count recs parts taken formed fit)

-- a part is taken of each entity of which a record is chosen
taken_one : (c : Option Rec) (o : Option ChosenEntity) → c ≡ record_in o → MatchOption c (part_in o ≡ None) (λ _. (p : Part) × (part_in o ≡ Some p))
taken_one c None is = subst (λ (d : Option Rec). MatchOption d (part_in None ≡ None) (λ _. (p : Part) × (part_in None ≡ Some p))) (sym is) refl
taken_one c (Some e) is = subst (λ (d : Option Rec). MatchOption d (part_in (Some e) ≡ None) (λ _. (p : Part) × (part_in (Some e) ≡ Some p))) (sym is) (part_of e.part, refl)

pub taken_of : (recs : List Rec) (es : List (Option ChosenEntity)) → AreChosen recs es → AreTaken recs (parts_of es)
taken_of recs es are x = taken_one (chosen recs x) (entity_at es x) (are x)

-- WHAT AN ACCEPTED IMAGE MEANS
module _ (s : Supply) (image : Image) (a : Accepted image) where
  taken_by : (x : ℕ) (o : Option Rec) (q : Option Part) → MatchOption o (q ≡ None) (λ r. (p : Part) × (q ≡ Some p) × IsSpelt image x r p) → MatchOption o (q ≡ None) (λ _. (p : Part) × (q ≡ Some p))
  taken_by x None q none = none
  taken_by x (Some r) q (p, at, told) = (p, at)

  pub accepted_means : (plain : Plain) (versions : List ℕ) → ((x : ℕ) → cells_of s plain x ≡ cell_in s (block_at image) x (a.parts x)) → ((x : ℕ) → slice_index versions x ≡ cut_of a.recs x)
      → MeansState s image plain versions
  accepted_means plain versions cells cut = record {
    state = state_of s (block_at image) a.recs a.parts;
    means = record { accepted = a; is = refl };
    has = record {
      cells = λ x. taken_cell s (block_at image) x (chosen a.recs x) (a.parts x) (taken_by x (chosen a.recs x) (a.parts x) (a.spelt x)) ∙ sym (cells x);
      numbers = λ x. meant_versions s image (state_of s (block_at image) a.recs a.parts) (record { accepted = a; is = refl }) x ∙ sym (cut x);
    };
  }
