use Rattle.kernel_watchers.proofs.limiting.run_steps.Given as goal

abbrev pub ghosts-limited : goal.ghosts-limited
ghosts-limited g a = record { steps = a.steps }
