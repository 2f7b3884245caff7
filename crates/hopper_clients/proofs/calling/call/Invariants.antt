use Rattle.hopper_clients.specs.Calls.{managers}
use Rattle.hopper_clients.proofs.calling.call.Given as goal

-- the managers that the program has
abbrev pub ghost-serve : goal.ghost-serve
ghost-serve a = managers
