-- The search finds the first manager of the number.
use Rattle.std.proofs.Common.{◌≡◌, ◌==◌, ◌∙◌, Bor, option_map, ap, sym, rules, tests}
use Rattle.std.specs.List.{find}
use Rattle.std.proofs.lemmas.Iterator.{YieldsList-from_slice}
use Rattle.std.proofs.lemmas.Iterator.Search.{find_from_yields_List}
use Rattle.base_managers.specs.Managing.{ManagerTable, manager_of}
use Rattle.base_managers.specs.declared.ScriptManager.{ScriptManager}
use Rattle.act_managers.proofs.Named.{find_of_map, map_of_map}
use Rattle.act_managers.proofs.book.manager_named.Goals as goal

pub returns : goal.returns
returns c =
    let found : option_map (λ (x : Bor ScriptManager). x.now) c.find.result ≡ find (λ (m : ScriptManager). m.number == c.args.number) c.args.managers.now =
    find_from_yields_List (λ (m : ScriptManager). m.number == c.args.number) _ _ c.find.result c.find.ensures.ran (YieldsList-from_slice c.args.managers.now cc) (λ x b q k. search (rules, tests)) in
    map_of_map manager_of (λ (x : Bor ScriptManager). x.now) c.find.result
    ∙ ap (option_map manager_of) found
    ∙ sym (find_of_map (λ (m : ManagerTable). m.number == c.args.number) manager_of c.args.managers.now)
