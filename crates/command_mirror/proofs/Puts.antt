-- What is put behind a run that was halted.
use Rattle.std.proofs.Common.{◌≡◌, ◌++◌, Option, Some, sym, subst}
use Rattle.command_outcomes.specs.Ends.{Gains}
use Rattle.command_outcomes.specs.Seen.{SeenSink}
use Rattle.script_types.specs.model_kernel.State.{Text}
use Rattle.command_mirror.specs.Lines.{mirror_fault_line}
use Rattle.command_mirror.specs.Playing.{IsPutMirrored}
use Rattle.command_mirror.specs.Statuses.{mirror_status}
use Rattle.command_mirror.specs.declared.faults.MirrorFault.{MirrorFault}
use Rattle.command_mirror.specs.declared.statuses.MirrorStatus.{MirrorStatus}

pub put_halted : (o : Option MirrorFault) (f : MirrorFault) (sink : SeenSink) (lines counts : Text) (status : MirrorStatus) → o ≡ Some f → status ≡ mirror_status f → Gains sink (lines ++ mirror_fault_line f) → IsPutMirrored o sink lines counts status
put_halted o f sink lines counts status is by put = subst (λ (x : Option MirrorFault). IsPutMirrored x sink lines counts status) (sym is) (by, put)
