use Rattle.act_atlas_laws.proofs.BirthLaws.{meets_mapping}
use Rattle.act_atlas_laws.proofs.sound_states_meet_mapping.Goals as goal

pub returns : goal.returns
returns c = meets_mapping
