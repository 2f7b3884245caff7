use Rattle.std.proofs.Common.{map}
use Rattle.std.specs.Prelude.{string_bytes}
use Rattle.data_atlas.specs.data_atlas_facts.Directory.{Directory}
use Rattle.image_plain.proofs.Naming.{all_containers, all_loci}
use Rattle.image_plain.proofs.atlases.plain_atlas.Goals as goal

pub returns-clause-atlas : goal.returns-clause-atlas
returns-clause-atlas c =
    let a : Directory = c.args.atlas.now in
    let containers = all_containers a c.named.result (map string_bytes c.in_ok-containers.containers.items) c.named.ensures.number c.named.ensures.containers c.in_ok-containers.ensures in
    let loci = all_loci a c.named-2.result (map string_bytes c.in_ok-loci.loci.items) c.named-2.ensures.number c.in_ok-loci.ensures in
    λ i. record { containers = containers i; loci = loci i; edges = c.in_ok-edges.ensures.counts i }
