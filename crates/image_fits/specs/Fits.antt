-- Which chosen entities fit.
use Rattle.std.specs.Prelude.{◌≡◌, ℕ, ◌<◌, IsTrue, List, Option, Some}
use Rattle.std.specs.List.{list_all}
use Rattle.data_atlas.specs.data_atlas_facts.Directory.{Directory}
use Rattle.base_types.specs.declared.records.Rec.{Rec}
use Rattle.act_alone.specs.model_kernel.Soundness.{is_born}
use Rattle.act_alone.specs.model_kernel.State.{AtlasState}
use Rattle.image_fit_facts.specs.image_meaning.Fits.{IsFit, IsTied}
use Rattle.image_fit_facts.specs.image_meaning.Parts.{Part, AtlasPart, chosen, table_in}
use Rattle.blob_atlas.specs.act_calls.Calls.{atlas_state}
use Rattle.image_fits.specs.Chosen.{parts_of, records_of}
use Rattle.image_fit_facts.specs.Naming.{block_passes}
use Rattle.image_fits.specs.declared.chosen.ChosenEntity.{ChosenEntity}

-- the chosen records of these entities are those that the greatest closed choice over the records takes
abbrev pub AreChosen : List Rec → List (Option ChosenEntity) → Type 0
AreChosen recs es = (x : ℕ) → chosen recs x ≡ records_of es x

-- each chosen entity fits the others
abbrev pub AreFit : ℕ → List Rec → (ℕ → Option Part) → Type 0
AreFit count recs parts = (x : ℕ) (part : Part) → parts x ≡ Some part → IsFit count recs parts x part

-- it doesn't fit the others, and each chosen one before it does
pub record IsFirstUnfit (count : ℕ) (recs : List Rec) (parts : ℕ → Option Part) (x : ℕ) : Type 0 where
  pub part : Part
  pub is : parts x ≡ Some part
  pub before : (y : ℕ) (p : Part) → y < x → parts y ≡ Some p → IsFit count recs parts y p
  pub unfit : IsFit count recs parts x part → ⊥

-- THE SAME, by how often blocks are named

abbrev pub HasAtlas : List (Option ChosenEntity) → Directory → Type 0
HasAtlas es a = parts_of es 0 ≡ Some (AtlasPart (atlas_state a))

abbrev pub NoAtlas : List (Option ChosenEntity) → Type 0
NoAtlas es = (a : AtlasState) → parts_of es 0 ≡ Some (AtlasPart a) → ⊥

pub record IsFitBy (uses : List ℕ) (es : List (Option ChosenEntity)) (x : ℕ) (part : Part) : Type 0 where
  pub atlas : AtlasState
  pub chosen_atlas : parts_of es 0 ≡ Some (AtlasPart atlas)
  pub named : IsTrue (is_born atlas x)
  pub tied : IsTied (parts_of es) atlas part
  pub blocks : IsTrue (list_all (block_passes uses) (table_in part))

abbrev pub AreFitBy : List ℕ → List (Option ChosenEntity) → Type 0
AreFitBy uses es = (x : ℕ) (part : Part) → parts_of es x ≡ Some part → IsFitBy uses es x part

pub record IsFirstUnfitBy (uses : List ℕ) (es : List (Option ChosenEntity)) (x : ℕ) : Type 0 where
  pub part : Part
  pub is : parts_of es x ≡ Some part
  pub before : (y : ℕ) (p : Part) → y < x → parts_of es y ≡ Some p → IsFitBy uses es y p
  pub unfit : IsFitBy uses es x part → ⊥
