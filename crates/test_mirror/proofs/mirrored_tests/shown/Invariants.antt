use Rattle.edge_managers.specs.Managers.{counted_word}
use Rattle.test_mirror.proofs.mirrored_tests.shown.Given as goal

abbrev pub ghost-show_image : goal.ghost-show_image
ghost-show_image a = counted_word
