-- Lines are read by `instr_of`, and what is read is allowed.
use Rattle.base_instructions.specs.Reader.{instr_of}
use Rattle.base_instructions.proofs.Reader.{IsReader-instr_of}
use Rattle.script_reading.proofs.Whole.{rules_of, frames_of, managed_of}
use Rattle.script_reading.proofs.reading.read_script.Goals as goal

pub returns-clause-meaning : goal.returns-clause-meaning
returns-clause-meaning c = c.read_source.ensures instr_of IsReader-instr_of

pub returns-clause-rules : goal.returns-clause-rules
returns-clause-rules c = rules_of c.args.bytes.now c.read_source.result (c.read_source.ensures instr_of IsReader-instr_of)

pub returns-clause-frames : goal.returns-clause-frames
returns-clause-frames c = frames_of c.args.bytes.now c.read_source.result (c.read_source.ensures instr_of IsReader-instr_of)

pub returns-clause-managers : goal.returns-clause-managers
returns-clause-managers c = managed_of c.args.bytes.now c.read_source.result (c.read_source.ensures instr_of IsReader-instr_of)
