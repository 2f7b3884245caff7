use Rattle.model_sound_cuts.proofs.Fronts.{few, few_of_image, five}
use Rattle.model_sound_cuts.proofs.front_room_law.Goals as goal

pub returns-clause-five : goal.returns-clause-five
returns-clause-five c s policy script w es cs later x k is = five s policy script w es cs later k is x

pub returns-clause-few : goal.returns-clause-few
returns-clause-few c s policy script w es cs later k is = few s policy script w es cs later k is

pub returns-clause-image : goal.returns-clause-image
returns-clause-image c s policy script w es cs later q k is g = few_of_image s policy script w es cs later k is q g
