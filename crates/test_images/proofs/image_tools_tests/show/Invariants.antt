use Rattle.test_images.proofs.image_tools_tests.show.Given as goal

-- the words are the tags
abbrev pub ghost-write_show : goal.ghost-write_show
ghost-write_show a = λ tag page place. tag
