use Rattle.plain_show.proofs.shows.write_show.Given as goal

abbrev pub ghost-put_containers : goal.ghost-put_containers
ghost-put_containers g a = g.s

abbrev pub ghost-put_loci : goal.ghost-put_loci
ghost-put_loci g a = g.s
