-- Words of lines.
use Rattle.std.specs.Prelude.{ℕ, ◌++◌, Option, Some, None, codes, decimal}
use Rattle.base_types.specs.declared.instructions.Condition.{Condition}
use Rattle.base_types.specs.declared.instructions.Condition.TheVariants.{Running, Stopped, Halted}
use Rattle.plain_states.specs.model_kernel.State.{Text, AtlasState}
use Rattle.line_text.specs.Lines.{name_in, word}

-- the first word of a line, and the name of the entity that it is about
unfoldable pub named : AtlasState → Text → ℕ → Text
named a first x = first ++ word (name_in a x)

-- a number, or a dash
abbrev pub optional : Option ℕ → Text
optional None = codes "-"
optional (Some n) = decimal n

abbrev pub condition_word : Condition → Text
condition_word Running = codes "running"
condition_word Stopped = codes "stopped"
condition_word Halted = codes "halted"
