use Rattle.std.proofs.Common.{◌≡◌, List, Some, map, sym, subst}
use Rattle.base_managers.specs.Managing.{IsManagerCode, manager_of}
use Rattle.base_managers.specs.declared.ScriptManager.{ScriptManager}
use Rattle.act_managers.specs.Answering.{manager_named}
use Rattle.act_managers.proofs.Named.{named_manages}
use Rattle.act_managers.proofs.book.BookSupplier.word.Goals as goal

pub run_manager-requires : goal.run_manager-requires
run_manager-requires g c =
    let managers = c.args.self.now.managers.now.supply.items in
    let m = c.in-Some.manager.now in
    let named : Some (manager_of m) ≡ manager_named (map manager_of managers) c.args.tag =
    subst (λ (ms : List ScriptManager). Some (manager_of m) ≡ manager_named (map manager_of ms) c.args.tag) c.as_slice.ensures.value c.in-Some.ensures in
    subst IsManagerCode (sym c.as_slice-in-Some.ensures.value) (named_manages (map manager_of managers) c.args.tag (manager_of m) c.requires.keeps.0 named)
