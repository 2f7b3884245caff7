use Rattle.test_commands.proofs.reading_commands_tests.show.Given as goal

abbrev pub ghost-show_image : goal.ghost-show_image
ghost-show_image a = λ tag page place. tag
