use Rattle.plain_show.proofs.shows.put_locus_at.Given as goal

abbrev pub ghost-locus_at : goal.ghost-locus_at
ghost-locus_at g a = g.s

abbrev pub ghost-names_of : goal.ghost-names_of
ghost-names_of g a = g.s
