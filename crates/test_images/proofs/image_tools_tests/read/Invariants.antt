use Rattle.test_images.proofs.image_tools_tests.read.Given as goal

-- the words are the tags
abbrev pub ghost-read_image : goal.ghost-read_image
ghost-read_image a = λ tag page place. tag
