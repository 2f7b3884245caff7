use Rattle.trace_steps.proofs.following.next.Given as goal

abbrev pub ghost-birth_of : goal.ghost-birth_of
ghost-birth_of g a = g.gate

abbrev pub ghost-step : goal.ghost-step
ghost-step g a = g.gate

abbrev pub ghost-snap : goal.ghost-snap
ghost-snap g a = g.gate.wish

abbrev pub ghost-stable : goal.ghost-stable
ghost-stable g a = g.gate.wish

abbrev pub ghost-try_record : goal.ghost-try_record
ghost-try_record g a = g.gate.wish
