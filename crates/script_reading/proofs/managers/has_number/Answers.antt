-- The search finds a manager of the number.
use Rattle.std.proofs.Common.{◌==◌, ◌∙◌, rules, tests}
use Rattle.std.proofs.lemmas.Iterator.{YieldsList-from_slice}
use Rattle.std.proofs.lemmas.Iterator.Search.{any_from_yields_List}
use Rattle.base_managers.specs.Managing.{ManagerTable, manager_of}
use Rattle.base_managers.specs.declared.ScriptManager.{ScriptManager}
use Rattle.script_meaning.proofs.Lists.{any_of_map}
use Rattle.script_reading.proofs.managers.has_number.Goals as goal

pub returns : goal.returns
returns c =
    any_from_yields_List (λ (m : ScriptManager). m.number == c.args.number) _ _ _ c.any.ensures.ran (YieldsList-from_slice c.args.managers.now cc) (λ x b q k. search (rules, tests))
    ∙ any_of_map (λ (m : ManagerTable). m.number == c.args.number) manager_of c.args.managers.now
