use Rattle.hopper_top.specs.Leaving.{counted_managers}
use Rattle.hopper_top.proofs.counted.hopper_by.Given as goal

abbrev pub ghost-hopper : goal.ghost-hopper
ghost-hopper g a = counted_managers
