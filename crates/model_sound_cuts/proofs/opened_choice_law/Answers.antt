use Rattle.std.proofs.Common.{[], ◌++◌}
use Rattle.model_run_rules.specs.model_kernel.Histories.{commits_in}
use Rattle.model_run_rules.proofs.model_cut_laws_lemmas.Joins.{from_nothing, to_nothing}
use Rattle.model_run_rules.proofs.model_run_laws_lemmas.Starts.{starts_held}
use Rattle.model_sound_states.proofs.Empty.{none_beyond}
use Rattle.model_sound_cuts.proofs.opened_choice_law.Goals as goal

pub returns : goal.returns
returns c s script w later q k =
    let held = starts_held s script w later k.below (none_beyond s w k) in
    (to_nothing (λ x. (w x).version) (commits_in s script w [] ++ later) q held, from_nothing (λ x. (w x).version) (commits_in s script w [] ++ later) q held)
