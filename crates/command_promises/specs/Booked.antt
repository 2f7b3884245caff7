-- The managers of a run: those that the script brings, over the pair that was handed in.
use Rattle.std.specs.Prelude.{[]}
use Rattle.act_managers.specs.Answering.{book_wish, book_word}
use Rattle.base_managers.specs.Managing.{ManagerTables}
use Rattle.command_promises.specs.Openings.{Managers}

-- none
abbrev pub none_brought : ManagerTables
none_brought = record { supply = []; policy = [] }

-- the one that the script brings for a tag or an `every` answers; for any other the handed-in one does
abbrev pub over : ManagerTables → Managers → Managers
over brought m = record { supply = book_word brought.supply m.supply; policy = book_wish brought.policy m.policy }
