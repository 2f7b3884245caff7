use Rattle.act_alone.specs.Loci.{locus_of}
use Rattle.act_alone.specs.model_acts.Views.{act_of}
use Rattle.act_alone.proofs.model_act_facts_lemmas.Alone.{act_instr}
use Rattle.test_pages.proofs.own.OwnPages.look.Goals as goal

pub look-requires-clause-instr : goal.look-requires-clause-instr
look-requires-clause-instr c = act_instr (locus_of c.args.locus.now) (act_of c.wants-act.result) c.wants-act.ensures.act
