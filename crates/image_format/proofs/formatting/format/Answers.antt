use Rattle.std.proofs.Common.{sym, subst}
use Rattle.edge_disk.specs.Image.{Image}
use Rattle.image_meaning.specs.Empty.{IsFormatted}
use Rattle.image_format.proofs.formatting.format.Goals as goal

pub returns-in-Ok-clause-means : goal.returns-in-Ok-clause-means
returns-in-Ok-clause-means g c t s image may =
    c.empty_image_law.ensures.formatted s c.args.blocks image
    (subst (λ (i : Image). IsFormatted c.args.blocks i) (sym (c.in-Ok.ensures.stable t image may)) (c.in-Ok.ensures.made t).formatted)
