-- Any drill keeps the rules of scripts.
use Rattle.std.proofs.Common.{sym, subst}
use Rattle.script_types.specs.Rules.{IsScript}
use Rattle.script_drill.specs.Draws.{words_of}
use Rattle.script_drill.proofs.Allowed.{IsScript-drill}
use Rattle.script_drill.proofs.drill.drill_script.Goals as goal

pub returns-clause-rules : goal.returns-clause-rules
returns-clause-rules c = subst IsScript (sym c.in_ok-script.ensures.drawn) (IsScript-drill (words_of c.new-words.result))
