use Rattle.act_calls.specs.act_alone.Loci.{locus_of}
use Rattle.act_calls.specs.model_acts.Views.{act_of}
use Rattle.act_calls.proofs.model_act_facts_lemmas.Itself.{itself_at, alone_at}
use Rattle.cell_states.proofs.alone.act_alone.Goals as goal

pub on_itself-requires-clause-wants : goal.on_itself-requires-clause-wants
on_itself-requires-clause-wants c =
    let own = c.requires.acts in
    (itself_at c.args.me _ (locus_of c.args.locus.now) (act_of c.args.act) own.wants.is (own.wants.seen c.args.me) own.alone c.in-Some.is).1

pub perform-requires-clause-alone : goal.perform-requires-clause-alone
perform-requires-clause-alone c =
    let own = c.requires.acts in
    alone_at c.args.me (locus_of c.args.locus.now) (act_of c.args.act) own.wants.is (own.wants.seen c.args.me) own.alone c.in-None.is
