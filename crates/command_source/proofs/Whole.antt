-- The bytes that were read are those that the source had, so what they mean is said of the source.
use Rattle.std.proofs.Common.{◌≡◌, ℕ, Option, Some, None, IfSome, sym, ap, ◌∙◌}
use Rattle.script_types.specs.model_kernel.Scripts.{Script as Tables}
use Rattle.script_types.specs.model_kernel.State.{Text}
use Rattle.base_managers.specs.Managing.{ManagerTables}
use Rattle.script_reading.specs.script_meaning.Meaning.{script_meaning}
use Rattle.command_source.specs.Sources.{IsAccepted, MeansScript}

pub means_whole : (had : Option Text) (all read : Text) (script : Tables) (frames : ℕ) (brought : ManagerTables) → IfSome had (λ bytes. all ≡ bytes) → read ≡ all → MeansScript read script frames brought
    → IfSome had (λ bytes. MeansScript bytes script frames brought)
means_whole None all read script frames brought whole same means = tt
means_whole (Some bytes) all read script frames brought whole same means = ap script_meaning (sym whole) ∙ ap script_meaning (sym same) ∙ means

pub accepted_whole : (had : Option Text) (script : Tables) (frames : ℕ) (brought : ManagerTables) → IfSome had (λ bytes. MeansScript bytes script frames brought) → IfSome had (λ bytes. IsAccepted bytes script brought)
accepted_whole None script frames brought means = tt
accepted_whole (Some bytes) script frames brought means = (frames, means)
