use Rattle.std.proofs.Common.{subst}
use Rattle.std.specs.List.{All}
use Rattle.cell_blobs.specs.Ranges.{HasByteRights}
use Rattle.cell_blobs.proofs.Forms.{container_form}
use Rattle.cell_blobs.proofs.blobs.write_head.Goals as goal

pub write_container-requires : goal.write_container-requires
write_container-requires c = c.requires.size

pub returns : goal.returns
returns c = record {
  form = container_form c.args.head.now c.args.table.now c.requires c.fits_word.ensures c.fits_number.ensures
      (subst (All HasByteRights) c.slots.ensures.all c.read_rights.ensures) c.read_blocks.ensures c.told-table;
  is = c.write_container.ensures (λ _. 0);
}
