use Rattle.model_kernel.specs.State.{EntityState}
use Rattle.model_kernel.specs.Histories.{event_of, start_run}
use Rattle.model_kernel.proofs.PartStates.{part_state}
use Rattle.model_kernel.proofs.LegalRuns.{legal_replay, legal_played, event_of_local}
use Rattle.model_kernel.proofs.laws.replay_law.Goals as goal

pub returns-clause-entries : goal.returns-clause-entries
returns-clause-entries c = legal_replay

pub returns-clause-state : goal.returns-clause-state
returns-clause-state c s policy script w es p legal closed low =
    part_state (λ (b : EntityState). b.version) p (event_of s script) (event_of_local s policy script) es w (legal_played s policy script (start_run w) es legal) closed low
