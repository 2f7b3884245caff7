use Rattle.test_plain.proofs.scripts_played.played.Given as goal

-- a supplier of tags
abbrev pub ghost-play : goal.ghost-play
ghost-play a = λ tag page place. tag
