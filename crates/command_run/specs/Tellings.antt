-- The lines of a run, by how it is told.
use Rattle.script_types.specs.model_kernel.Output.{output_of}
use Rattle.command_open.specs.command_promises.Manners.{Telling}
use Rattle.line_entries.specs.Entries.{trace_of}
use Rattle.command_run.specs.declared.putting.Lines.{Lines}
use Rattle.command_run.specs.declared.putting.Lines.TheVariants.{Printed, Entries, Summary}
use Rattle.command_open.specs.command_promises.Tellings.{summary_of}

-- the printed lines, the trace, or the summary
abbrev pub lines_of : Lines → Telling
lines_of Printed = output_of
lines_of Entries = trace_of
lines_of Summary = summary_of
