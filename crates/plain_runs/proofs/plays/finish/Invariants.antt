use Rattle.std.proofs.Common.{◌-◌, vec_len}
use Rattle.script_types.specs.Scripts.{tables_of}
use Rattle.plain_runs.specs.Plays.{Records}
use Rattle.plain_runs.proofs.plays.finish.Given as goal

abbrev pub ghost-record_next : goal.ghost-record_next
ghost-record_next g a = g.s

-- the history is that of the run
abbrev pub invariant-loop-more : goal.invariant-loop-more
invariant-loop-more g l = Records g.s (tables_of l.fn.script) l.fn.run l.fn.history.items l.run l.history.items

-- each turn makes an entry, and no run makes more than so many
abbrev pub decreases-loop-more : goal.decreases-loop-more
decreases-loop-more g l = 1840065 - vec_len l.history
