use Rattle.thread_runs.proofs.running.run_on_threads.Given as goal

abbrev pub ghost-work_on_board : goal.ghost-work_on_board
ghost-work_on_board g a = g.b
