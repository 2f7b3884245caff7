use Rattle.trace_own_laws.proofs.Lasting.{own_trace_spells}
use Rattle.trace_own_laws.proofs.own_trace_spells_law.Goals as goal

pub returns : goal.returns
returns c = own_trace_spells
