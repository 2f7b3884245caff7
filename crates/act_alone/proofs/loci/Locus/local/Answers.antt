use Rattle.model_acts.specs.Views.{act_of}
use Rattle.model_act_facts.proofs.Alone.{act_instr}
use Rattle.act_alone.specs.Loci.{locus_of}
use Rattle.act_alone.proofs.loci.Locus.local.Goals as goal

pub perform-requires-clause-wants : goal.perform-requires-clause-wants
perform-requires-clause-wants c =
    let act = c.wants-act.ensures in
    record {
      is = act.act;
      instr = act_instr (locus_of c.args.self.now) (act_of c.wants-act.result) act.act;
      seen = act.seen;
      instruction = act.instruction;
    }
