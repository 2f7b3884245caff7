-- How many regions chosen parts show, row by row.
use Rattle.std.specs.Prelude.{◌≡◌, ℕ, IsTrue, List, [], Option, Some, None}
use Rattle.base_types.specs.Edges.{Edges}
use Rattle.base_types.specs.declared.capabilities.Region.{Region}
use Rattle.act_alone.specs.model_kernel.Soundness.{is_born}
use Rattle.act_alone.specs.model_kernel.State.{AtlasState}
use Rattle.image_fit_facts.specs.image_meaning.Parts.{Part}
use Rattle.image_fits.specs.Chosen.{entity_at, parts_of}
use Rattle.image_fits.specs.declared.chosen.ChosenEntity.{ChosenEntity}
use Rattle.image_fits.specs.declared.chosen.ChosenPart.{ChosenPart}
use Rattle.image_fits.specs.declared.chosen.ChosenPart.TheVariants.{Atlas, Container, Locus}
use Rattle.image_fit_facts.specs.Edges.{IsRow}

abbrev pub regions_by : ChosenPart → List Region
regions_by (Atlas a) = []
regions_by (Container c) = c.head.regions
regions_by (Locus l) = []

abbrev pub regions_in : Option ChosenEntity → List Region
regions_in None = []
regions_in (Some e) = regions_by e.part

abbrev pub AreRows : Edges → List (Option ChosenEntity) → Type 0
AreRows edges es = (x : ℕ) → IsRow edges x (regions_in (entity_at es x))

-- each entity that is born is chosen
abbrev pub AreAllChosen : AtlasState → List (Option ChosenEntity) → Type 0
AreAllChosen a es = (x : ℕ) → IsTrue (is_born a x) → (part : Part) × (parts_of es x ≡ Some part)
