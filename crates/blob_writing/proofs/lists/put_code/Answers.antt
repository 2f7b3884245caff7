use Rattle.std.proofs.Common.{arith}
use Rattle.blob_grammar.specs.Spelling.{instr_bytes}
use Rattle.blob_facts.proofs.ItemsPut.{listed_fit, listed_most}
use Rattle.blob_grammar.proofs.Lengths.{code_most}
use Rattle.blob_writing.proofs.lists.put_code.Goals as goal

pub put_instr-requires : goal.put_instr-requires
put_instr-requires c =
    let few = code_most c.as_slice-instrs.result.now c.args.code.now c.as_slice-instrs.ensures.code c.as_slice-instrs.ensures.few in
    listed_fit instr_bytes c.as_slice-instrs.result.now c.loop-instr.instr-index _ c.args.blob.now c.loop-instr.blob c.loop-instr-test.true (omega (arith, few, c.requires)) c.loop-instr.invariant

pub returns-clause-most : goal.returns-clause-most
returns-clause-most c =
    listed_most instr_bytes c.as_slice-instrs.result.now c.loop-instr.instr-index _ c.args.blob.now c.loop-instr.blob c.loop-instr.invariant
    (code_most c.as_slice-instrs.result.now c.args.code.now c.as_slice-instrs.ensures.code c.as_slice-instrs.ensures.few)
