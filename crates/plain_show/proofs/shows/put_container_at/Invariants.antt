use Rattle.plain_show.proofs.shows.put_container_at.Given as goal

abbrev pub ghost-container_at : goal.ghost-container_at
ghost-container_at g a = g.s

abbrev pub ghost-put_container : goal.ghost-put_container
ghost-put_container g a = g.s

abbrev pub ghost-names_of : goal.ghost-names_of
ghost-names_of g a = g.s
