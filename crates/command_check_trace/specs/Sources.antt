-- What a script with its trace means, as it is read.
use Rattle.base_managers.specs.Managing.{managers_of}
use Rattle.script_types.specs.Scripts.{tables_of}
use Rattle.command_check_trace.specs.declared.reading.Traced.{Traced as TracedScript}
use Rattle.command_promises.specs.Sources.{Traced}

abbrev pub traced_of : TracedScript → Traced
traced_of t = record { script = tables_of t.read.script; brought = managers_of t.read.managers; trace = t.trace.now }
