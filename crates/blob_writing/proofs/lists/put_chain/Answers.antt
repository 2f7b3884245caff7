use Rattle.std.proofs.Common.{arith}
use Rattle.blob_grammar.specs.Spelling.{call_bytes}
use Rattle.blob_facts.proofs.ItemsPut.{listed_fit, listed_most}
use Rattle.blob_grammar.proofs.Lengths.{calls_most}
use Rattle.blob_writing.proofs.lists.put_chain.Goals as goal

pub put_call-requires : goal.put_call-requires
put_call-requires c =
    let few = calls_most c.as_slice-calls.result.now c.args.chain.now c.as_slice-calls.ensures.calls c.as_slice-calls.ensures.few in
    listed_fit call_bytes c.as_slice-calls.result.now c.loop-call.call-index c.call-item.result c.args.blob.now c.loop-call.blob c.loop-call-test.true (omega (arith, few, c.requires)) c.loop-call.invariant

pub returns-clause-most : goal.returns-clause-most
returns-clause-most c =
    listed_most call_bytes c.as_slice-calls.result.now c.loop-call.call-index _ c.args.blob.now c.loop-call.blob c.loop-call.invariant
    (calls_most c.as_slice-calls.result.now c.args.chain.now c.as_slice-calls.ensures.calls c.as_slice-calls.ensures.few)
