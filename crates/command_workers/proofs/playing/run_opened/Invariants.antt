use Rattle.command_workers.proofs.playing.run_opened.Given as goal

abbrev pub ghost-run_on_threads : goal.ghost-run_on_threads
ghost-run_on_threads g a = g.b
