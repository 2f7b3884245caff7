-- The summary of a run.
use Rattle.command_promises.specs.Manners.{Telling}
use Rattle.trace_checker.specs.line_entries.Summaries.{summary_line}

-- the summary has no names
abbrev pub summary_of : Telling
summary_of a es = summary_line es
