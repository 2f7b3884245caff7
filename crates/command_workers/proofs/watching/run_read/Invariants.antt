use Rattle.std.proofs.Common.{map}
use Rattle.act_managers.specs.Answering.{book_wish, book_word}
use Rattle.base_managers.specs.Managing.{manager_of}
use Rattle.script_types.specs.Scripts.{tables_of}
use Rattle.command_workers.specs.Starting.{run_of_cells}
use Rattle.command_workers.proofs.watching.run_read.Given as goal

-- the run that the opened cells begin, by the managers of the script over the handed-in ones
abbrev pub ghost-run_opened : goal.ghost-run_opened
ghost-run_opened g a = run_of_cells g.D.Disk (record {
  supply = book_word (map manager_of a.gate.supply.now.managers.now.supply.items) g.N.Answers.word;
  policy = book_wish (map manager_of a.gate.policy.now.managers.now.policy.items) g.N.Answers.wish;
}) (tables_of a.script.now) g.N.Handed.start.clock a.kernel
