use Rattle.model_serial.proofs.Histories.{longer, one_whole}
use Rattle.model_serial.proofs.serial_front_law.Goals as goal

pub returns-clause-longer : goal.returns-clause-longer
returns-clause-longer c = longer

pub returns-clause-one : goal.returns-clause-one
returns-clause-one c = one_whole
