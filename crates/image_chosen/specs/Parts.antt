-- The parts of an image, as they are read.
use Rattle.std.specs.Prelude.{◌≡◌, length, slice_index}
use Rattle.image_chosen_facts.specs.image_meaning.Parts.{AreFormed, cut_of}
use Rattle.image_chosen_facts.specs.log_reading.declared.log.ImageLog.{ImageLog}
use Rattle.image_chosen_facts.specs.image_fits.Chosen.{parts_of}
use Rattle.image_chosen_facts.specs.image_fits.Fits.{AreChosen, AreFit}
use Rattle.image_chosen.specs.declared.parts.ImageParts.{ImageParts}

-- THE PARTS OF A LOG: the cut is the greatest closed choice, what it takes stands at the place of its entity, has a
-- spelling whether or not the disk tells, and all fit
pub record ArePartsOf (log : ImageLog) (parts : ImageParts) : Type 0 where
  pub cut : slice_index parts.cut.0 ≡ cut_of log.recs.items
  pub places : length parts.entities.items ≡ 64
  pub chosen : AreChosen log.recs.items parts.entities.items
  pub formed : AreFormed (parts_of parts.entities.items)
  pub fit : AreFit log.blocks log.recs.items (parts_of parts.entities.items)
