use Rattle.command_words.proofs.threads.thread_options.Goals as goal

pub returns-in-None-clause-none : goal.returns-in-None-clause-none
returns-in-None-clause-none c workers trace these = c.in-None.ensures.none these.digits trace these.are
