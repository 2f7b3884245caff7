use Rattle.std.proofs.Common.{subst}
use Rattle.base_types.specs.Instructions.{IsInstruction}
use Rattle.cell_looks.specs.act_alone.Loci.{locus_of}
use Rattle.cell_plans.proofs.act_invoke_lemmas.Entered.{operands}
use Rattle.cell_steps.proofs.noting.named_by_locus.Goals as goal

pub named_entity-requires : goal.named_entity-requires
named_entity-requires c = subst IsInstruction c.in-Snap.is (operands (locus_of c.args.locus.now) c.args.instr c.requires.ready c.requires.instr)
