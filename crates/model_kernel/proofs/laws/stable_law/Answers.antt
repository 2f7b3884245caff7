use Rattle.std.proofs.Common.{ap, ◌∙◌}
use Rattle.model_kernel.specs.Histories.{Run, run_after, start_run, never}
use Rattle.model_kernel.proofs.StableCuts.{stable_versions, stable_part, commits_grow, run_append}
use Rattle.model_kernel.proofs.laws.stable_law.Goals as goal

pub returns-clause-versions : goal.returns-clause-versions
returns-clause-versions c s policy script = stable_versions s policy script

pub returns-clause-events : goal.returns-clause-events
returns-clause-events c s policy script = stable_part s policy script

pub returns-clause-commits_follow : goal.returns-clause-commits_follow
returns-clause-commits_follow c s script w es fs =
    let g = commits_grow s never script (run_after s script (start_run w) es) fs in
    (g.0, ap (λ (r : Run). r.commits) (run_append s never script (start_run w) es fs) ∙ g.1)
