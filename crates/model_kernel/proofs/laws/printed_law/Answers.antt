use Rattle.model_kernel.proofs.PrintedCounts.{legal_printed}
use Rattle.model_kernel.proofs.SoundNames.{sound_names}
use Rattle.model_kernel.proofs.laws.printed_law.Goals as goal

pub returns-clause-printed : goal.returns-clause-printed
returns-clause-printed c = legal_printed

pub returns-clause-sound_states_name_loci : goal.returns-clause-sound_states_name_loci
returns-clause-sound_states_name_loci c = sound_names
