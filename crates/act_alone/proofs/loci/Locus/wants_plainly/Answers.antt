use Rattle.std.proofs.Common.{sym, ◌∙◌}
use Rattle.act_alone.specs.Loci.{locus_of}
use Rattle.act_alone.proofs.Plain.{wants_plainly}
use Rattle.act_alone.proofs.loci.Locus.wants_plainly.Goals as goal

pub returns-then-is_plain-clause-wants : goal.returns-then-is_plain-clause-wants
returns-then-is_plain-clause-wants c = wants_plainly (locus_of c.args.self.now) c.next-instr.result c.next-instr.ensures.at c.next-instr.ensures.instruction (sym c.is_plain.ensures ∙ c.if-is_plain.true)
