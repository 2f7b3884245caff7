use Rattle.image_reading.proofs.pages.take_page.Given as goal

abbrev pub ghost-keep_page : goal.ghost-keep_page
ghost-keep_page g a = g.s
