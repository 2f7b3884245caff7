-- What is chosen of each entity, and what its parts are.
use Rattle.std.specs.Prelude.{ℕ, List, Option, Some, None, take, slice_index_or}
use Rattle.base_types.specs.declared.records.Rec.{Rec}
use Rattle.image_fit_facts.specs.image_meaning.Parts.{Part, AtlasPart, ContainerPart, LocusPart}
use Rattle.blob_atlas.specs.act_calls.Calls.{atlas_state}
use Rattle.act_alone.specs.Loci.{container_with, locus_of}
use Rattle.image_fits.specs.declared.chosen.ChosenEntity.{ChosenEntity}
use Rattle.image_fits.specs.declared.chosen.ChosenPart.{ChosenPart}
use Rattle.image_fits.specs.declared.chosen.ChosenPart.TheVariants.{Atlas, Container, Locus}

-- a part has no words of a container
abbrev pub no_words : ℕ → ℕ
no_words address = 0

abbrev pub part_of : ChosenPart → Part
part_of (Atlas a) = AtlasPart (atlas_state a)
part_of (Container c) = ContainerPart (container_with no_words c.head) (take c.head.pages c.blocks)
part_of (Locus l) = LocusPart (locus_of l)

abbrev pub part_in : Option ChosenEntity → Option Part
part_in None = None
part_in (Some e) = Some (part_of e.part)

abbrev pub record_in : Option ChosenEntity → Option Rec
record_in None = None
record_in (Some e) = Some e.rec

-- the entity of each number in a list
abbrev pub entity_at : List (Option ChosenEntity) → ℕ → Option ChosenEntity
entity_at es x = slice_index_or es x None

abbrev pub parts_of : List (Option ChosenEntity) → ℕ → Option Part
parts_of es x = part_in (entity_at es x)

abbrev pub records_of : List (Option ChosenEntity) → ℕ → Option Rec
records_of es x = record_in (entity_at es x)
