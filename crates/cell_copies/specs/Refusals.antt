-- Why a container may not be copied under a name.
use Rattle.std.specs.Prelude.{◌&&◌, if◌then◌else◌, not, Option, Some, None, is_none}
use Rattle.script_types.specs.declared.refusals.Why.{Why}
use Rattle.script_types.specs.declared.refusals.Why.TheVariants.{Name, NoRoom, Unknown}
use Rattle.model_copies.specs.model_kernel.Outcomes.{free_container}
use Rattle.model_copies.specs.model_kernel.Scripts.{container_named, number_of}
use Rattle.model_copies.specs.model_kernel.Soundness.{is_given_name}
use Rattle.model_copies.specs.model_kernel.State.{AtlasState, Text}

-- THE FIRST OF THE THREE that holds: no container has the one name; the other is none that may be given, or is taken; no number is free
abbrev pub copy_refusal : AtlasState → Text → Text → Option Why
copy_refusal a name fresh =
    if is_none (container_named a name) then Some Unknown
    else (if not (is_given_name fresh && is_none (number_of a fresh)) then Some Name
    else (if is_none (free_container a) then Some NoRoom else None))
