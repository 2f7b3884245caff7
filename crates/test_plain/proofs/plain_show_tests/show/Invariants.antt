use Rattle.test_plain.proofs.plain_show_tests.show.Given as goal

-- a supplier of tags
abbrev pub ghost-write_show : goal.ghost-write_show
ghost-write_show a = λ tag page place. tag
