use Rattle.plain_show.proofs.containers.put_container.Given as goal

abbrev pub ghost-put_words : goal.ghost-put_words
ghost-put_words g a = g.s
