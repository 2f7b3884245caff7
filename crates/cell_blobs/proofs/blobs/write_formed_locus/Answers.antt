use Rattle.std.proofs.Common.{subst}
use Rattle.std.specs.List.{All}
use Rattle.cell_blobs.specs.Ranges.{HasByteRights}
use Rattle.cell_blobs.proofs.Forms.{locus_form}
use Rattle.cell_blobs.proofs.blobs.write_formed_locus.Goals as goal

pub returns : goal.returns
returns c = record {
  form = locus_form c.args.locus.now c.requires c.read_words.ensures c.fits_number.ensures
      (subst (All HasByteRights) c.slots.ensures.all c.read_rights.ensures) c.read_walk.ensures;
  is = c.write_locus.ensures;
}
