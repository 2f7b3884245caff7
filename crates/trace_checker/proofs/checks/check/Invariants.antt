-- The lines so far are those of a legal history.
use Rattle.std.proofs.Common.{◌≡◌, List, length}
use Rattle.base_types.specs.declared.histories.Entry.{Entry}
use Rattle.script_types.specs.Scripts.{tables_of}
use Rattle.trace_facts.specs.trace_step_facts.Standing.{fresh}
use Rattle.trace_facts.specs.Reading.{HasRead}
use Rattle.trace_checker.proofs.checks.check.Given as goal

abbrev pub ghost-read_line : goal.ghost-read_line
ghost-read_line g a = g.gate

abbrev pub decreases-loop-rest : goal.decreases-loop-rest
decreases-loop-rest g l = length l.rest

abbrev pub invariant-loop-rest : goal.invariant-loop-rest
invariant-loop-rest g l = record {
  read : (es : List Entry) × HasRead g.gate.word g.gate.wish (tables_of l.script) (fresh g.gate.word l.fn.start l.fn.versions) l.trace l.checker es l.rest × (length es ≡ l.lines);
}
