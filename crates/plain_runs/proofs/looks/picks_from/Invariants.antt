use Rattle.std.proofs.Common.{◌≡◌, None}
use Rattle.script_types.specs.Scripts.{tables_of}
use Rattle.plain_runs.specs.Standing.{Keeps}
use Rattle.plain_runs.specs.declared.serial.Place.TheVariants.{Pick}
use Rattle.plain_runs.proofs.looks.picks_from.Given as goal

abbrev pub ghost-pick : goal.ghost-pick
ghost-pick g a = g.s

-- the picks before this one were of loci that are idle
abbrev pub invariant-loop-i : goal.invariant-loop-i
invariant-loop-i g l = record {
  keeps : Keeps g.s (tables_of l.fn.script) l.fn.run l.run;
  place : l.run.place ≡ Pick l.i;
  owed : l.run.owed ≡ None;
}
