use Rattle.script_types.specs.Scripts.{tables_of}
use Rattle.plain_states.proofs.ActLemmas.{none_by, some_by}
use Rattle.plain_runs.proofs.Answering.{stills_placed, turns_placed}
use Rattle.plain_runs.proofs.looks.look_then.Goals as goal

pub returns-clause-some : goal.returns-clause-some
returns-clause-some g c = some_by c.in_ok-entry.entry (λ e t. turns_placed g.s (tables_of c.args.script.now) c.args.locus c.args.run.now c.look.new.run e c.args.after t) c.in_ok-entry.ensures.some

pub returns-clause-none : goal.returns-clause-none
returns-clause-none g c = none_by c.in_ok-entry.entry (λ h. stills_placed g.s (tables_of c.args.script.now) c.args.run.now c.look.new.run c.args.after h) c.in_ok-entry.ensures.none
