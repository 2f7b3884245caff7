use Rattle.std.proofs.Common.{◌↔◌, ◌<◌, IsTrue, subst}
use Rattle.model_run_rules.specs.model_kernel.Soundness.{is_born}
use Rattle.model_run_rules.proofs.CutStates.{cut_version}
use Rattle.model_sound_states.proofs.States.{part_state as part_sound}
use Rattle.model_sound_cuts.specs.Runs.{part_atlas, part_state}
use Rattle.model_sound_cuts.proofs.Named.{names_born, names_containers, names_loci, names_versions}
use Rattle.model_sound_cuts.proofs.named_part_law.Goals as goal

pub returns-clause-born : goal.returns-clause-born
returns-clause-born c s policy script w es p x k =
    names_born s (part_state s script w es p) (part_sound s script k.rules policy w es p (k.sound, k.names) k.legal) x

pub returns-clause-containers : goal.returns-clause-containers
returns-clause-containers c s policy script w es p x k =
    names_containers s (part_state s script w es p) (part_sound s script k.rules policy w es p (k.sound, k.names) k.legal) x

pub returns-clause-loci : goal.returns-clause-loci
returns-clause-loci c s policy script w es p x k =
    names_loci s (part_state s script w es p) (part_sound s script k.rules policy w es p (k.sound, k.names) k.legal) x

pub returns-clause-versions : goal.returns-clause-versions
returns-clause-versions c s policy script w es p x k high =
    names_versions s (part_state s script w es p) (part_sound s script k.rules policy w es p (k.sound, k.names) k.legal) x high

pub returns-clause-cut : goal.returns-clause-cut
returns-clause-cut c s policy script w es cs later q x k is g high =
    subst (λ n. IsTrue (is_born (part_atlas s script w es q) x) ↔ (0 < n)) (cut_version s policy script w es k.legal cs later q is g k.sound.below x)
    (names_versions s (part_state s script w es q) (part_sound s script k.rules policy w es q (k.sound, k.names) k.legal) x high)
