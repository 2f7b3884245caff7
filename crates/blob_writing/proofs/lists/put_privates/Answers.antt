use Rattle.std.proofs.Common.{arith}
use Rattle.blob_grammar.specs.Spelling.{private_bytes}
use Rattle.blob_facts.proofs.ItemsPut.{listed_fit, listed_most}
use Rattle.blob_grammar.proofs.Lengths.{privates_most}
use Rattle.blob_writing.proofs.lists.put_privates.Goals as goal

pub put_private-requires : goal.put_private-requires
put_private-requires c =
    let few = privates_most c.as_slice-items.result.now c.args.privates.now c.as_slice-items.ensures.privates c.as_slice-items.ensures.few in
    listed_fit private_bytes c.as_slice-items.result.now c.loop-item.item-index c.item-item.result c.args.blob.now c.loop-item.blob c.loop-item-test.true (omega (arith, few, c.requires)) c.loop-item.invariant

pub returns-clause-most : goal.returns-clause-most
returns-clause-most c =
    listed_most private_bytes c.as_slice-items.result.now c.loop-item.item-index _ c.args.blob.now c.loop-item.blob c.loop-item.invariant
    (privates_most c.as_slice-items.result.now c.args.privates.now c.as_slice-items.ensures.privates c.as_slice-items.ensures.few)
