use Rattle.std.proofs.Common.{refl}
use Rattle.node_mirror.proofs.running.run_mirrored.Goals as goal

pub run_since-requires-clause-since : goal.run_since-requires-clause-since
run_since-requires-clause-since g c = record { begins = λ b f. f; followed = λ b f. f; words_are = refl; loss_is = refl; faults_are = refl }
