-- The managers of a trace: those that its script brings, over the pair that was handed in.
use Rattle.act_managers.specs.Answering.{book_wish, book_word}
use Rattle.base_managers.specs.Managing.{ManagerTables}
use Rattle.trace_checker.specs.trace_step_facts.Standing.{Managers}

-- the one that the script brings for a tag or an `every` answers; for any other the handed-in one does
abbrev pub over : ManagerTables → Managers → Managers
over brought m = record { word = book_word brought.supply m.word; wish = book_wish brought.policy m.wish }
