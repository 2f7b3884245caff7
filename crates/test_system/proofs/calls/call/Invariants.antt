use Rattle.edge_managers.specs.Managers.{counted_word, is_due}
use Rattle.test_system.proofs.calls.call.Given as goal

-- words that count up from the tag, and a snapshot after every so many versions
abbrev pub ghost-serve : goal.ghost-serve
ghost-serve a = record { supply = λ tag page place. counted_word tag page place; policy = λ every since. is_due every since }
