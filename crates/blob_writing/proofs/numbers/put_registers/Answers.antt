use Rattle.std.proofs.Common.{◌≡◌, length, arith, rules}
use Rattle.byteorder.specs.Endian.{little_bytes}
use Rattle.blob_facts.proofs.ItemsPut.{items_fit, items_most}
use Rattle.blob_grammar.proofs.Lengths.{words_long}
use Rattle.blob_writing.proofs.numbers.put_registers.Goals as goal

pub put_u64-requires : goal.put_u64-requires
put_u64-requires c =
    let eight : length c.args.registers.now ≡ 8 = search rules in
    let long = words_long c.args.registers.now eight in
    items_fit (little_bytes 8) c.args.registers.now c.loop-value.value-index 0 c.args.blob.now c.loop-value.blob (omega (arith, eight, c.loop-value-test.true)) (omega (arith, long, c.requires)) c.loop-value.invariant

pub returns-clause-most : goal.returns-clause-most
returns-clause-most c =
    let long = words_long c.args.registers.now (search rules) in
    items_most (little_bytes 8) c.args.registers.now c.loop-value.value-index 64 c.args.blob.now c.loop-value.blob c.loop-value.invariant (omega (arith, long))
