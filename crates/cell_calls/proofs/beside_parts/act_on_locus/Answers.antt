use Rattle.cell_calls.proofs.beside_parts.act_on_locus.Goals as goal

pub returns-in-Stop : goal.returns-in-Stop
returns-in-Stop c me s a apart = c.stop.ensures me c.args.number c.requires.wants.other apart s a

pub returns-in-Go : goal.returns-in-Go
returns-in-Go c me s a apart = c.go.ensures me c.args.number c.requires.wants.other apart s a
