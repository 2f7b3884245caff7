use Rattle.std.proofs.Common.{ap, ◌∙◌, take}
use Rattle.std.proofs.lemmas.List.{take_min}
use Rattle.image_fits.proofs.names.front_of.Goals as goal

pub returns : goal.returns
returns c = ap (λ n. take n c.args.blocks.now) c.min.ensures ∙ take_min c.args.most c.args.blocks.now
