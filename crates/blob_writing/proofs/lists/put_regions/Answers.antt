use Rattle.std.proofs.Common.{arith}
use Rattle.blob_grammar.specs.Spelling.{region_bytes}
use Rattle.blob_facts.proofs.ItemsPut.{listed_fit, listed_most}
use Rattle.blob_grammar.proofs.Lengths.{regions_most}
use Rattle.blob_writing.proofs.lists.put_regions.Goals as goal

pub put_region-requires : goal.put_region-requires
put_region-requires c =
    let few = regions_most c.as_slice-regions.result.now c.args.map.now c.as_slice-regions.ensures.all c.as_slice-regions.ensures.few in
    listed_fit region_bytes c.as_slice-regions.result.now c.loop-region.region-index c.region-item.result c.args.blob.now c.loop-region.blob c.loop-region-test.true (omega (arith, few, c.requires)) c.loop-region.invariant

pub returns-clause-most : goal.returns-clause-most
returns-clause-most c =
    listed_most region_bytes c.as_slice-regions.result.now c.loop-region.region-index _ c.args.blob.now c.loop-region.blob c.loop-region.invariant
    (regions_most c.as_slice-regions.result.now c.args.map.now c.as_slice-regions.ensures.all c.as_slice-regions.ensures.few)
