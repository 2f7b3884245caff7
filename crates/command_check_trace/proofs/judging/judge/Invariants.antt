use Rattle.command_check_trace.proofs.judging.judge.Given as goal

abbrev pub ghost-read_image : goal.ghost-read_image
ghost-read_image g a = g.N.Answers.word

abbrev pub ghost-verdict_from : goal.ghost-verdict_from
ghost-verdict_from g a = record { word = g.N.Answers.word; wish = g.N.Answers.wish }
