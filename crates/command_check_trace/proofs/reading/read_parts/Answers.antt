use Rattle.script_reading.specs.Views.{source_of}
use Rattle.command_promises.proofs.TracedMeaning.{meaning_fault, meaning_ok}
use Rattle.command_check_trace.proofs.reading.read_parts.Goals as goal

pub returns-in-Ok-clause-means : goal.returns-in-Ok-clause-means
returns-in-Ok-clause-means c =
    meaning_ok c.args.bytes.now c.requires.short c.args.at c.requires.place (source_of c.in-Ok.read) c.behind_rule.result.now c.in-Ok.ensures.meaning c.behind_rule.ensures

pub returns-in-Err-clause-fault : goal.returns-in-Err-clause-fault
returns-in-Err-clause-fault c = meaning_fault c.args.bytes.now c.requires.short c.args.at c.requires.place c.in-Err.fault c.in-Err.ensures.meaning
