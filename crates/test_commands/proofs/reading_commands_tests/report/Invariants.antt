use Rattle.test_commands.proofs.reading_commands_tests.report.Given as goal

abbrev pub ghost-report_image : goal.ghost-report_image
ghost-report_image a = λ tag page place. tag
