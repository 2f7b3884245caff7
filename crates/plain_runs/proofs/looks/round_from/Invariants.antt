use Rattle.std.proofs.Common.{◌≡◌, None}
use Rattle.script_types.specs.Scripts.{tables_of}
use Rattle.plain_runs.specs.Looking.{AllIdle}
use Rattle.plain_runs.specs.Standing.{Keeps}
use Rattle.plain_runs.specs.declared.serial.Place.TheVariants.{Round}
use Rattle.plain_runs.proofs.looks.round_from.Given as goal

abbrev pub ghost-round_look : goal.ghost-round_look
ghost-round_look g a = g.s

-- the loci up to this number are idle
abbrev pub invariant-loop-number : goal.invariant-loop-number
invariant-loop-number g l = record {
  keeps : Keeps g.s (tables_of l.fn.script) l.fn.run l.run;
  idle : AllIdle g.s (tables_of l.fn.script) l.fn.first l.number l.fn.run;
  place : l.run.place ≡ Round l.number;
  owed : l.run.owed ≡ None;
}
