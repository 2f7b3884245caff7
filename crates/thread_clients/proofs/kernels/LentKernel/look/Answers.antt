use Rattle.std.proofs.Common.{◌≡◌, Option, None, sym, ap, subst, ◌∙◌}
use Rattle.std.specs.Prelude.{IfSome}
use Rattle.thread_stables.specs.kernel_core_facts.Kernels.{Held, IsKept, Lives, NotesAlong, StaysClean}
use Rattle.thread_stables.specs.kernel_core_facts.kernel_commit_facts.Parts.{Parts, parts_of}
use Rattle.thread_stables.specs.kernel_core_facts.kernel_invariant.Beginnings.{run_of}
use Rattle.thread_stables.specs.kernel_core_facts.kernel_invariant.declared.stopping.Stopped.{Stopped}
use Rattle.thread_stables.specs.kernel_core_facts.model_serial.Serial.{look}
use Rattle.thread_clients.proofs.Looked.{clean_after, held, kept_after, lives_after, notes_after}
use Rattle.thread_clients.proofs.kernels.LentKernel.look.Goals as goal

pub look_under_locks-came-requires-clause-steady : goal.look_under_locks-came-requires-clause-steady
look_under_locks-came-requires-clause-steady g c = c.self.invariant.1.steady c.in_default.is

pub look_under_locks-came-requires-clause-clean : goal.look_under_locks-came-requires-clause-clean
look_under_locks-came-requires-clause-clean g c = λ told.
    subst (StaysClean g.D.Disk (g.S.Supplier.word c.args.gate.now.supply)) (sym c.self.view_is) c.requires.clean told c.in_default.is

pub invariant_of-self : goal.invariant_of-self
invariant_of-self g c =
    let core = c.self.inside.core in
    let new = c.look_under_locks-came.new.core in
    let s = c.look_under_locks-came.ensures in
    let was = subst (λ (o : Option Stopped). IsKept g.D.Disk (held (parts_of core.store core.all core.notes) o)) c.in_default.is c.self.invariant.1 in (
      c.self.invariant.0,
      kept_after g.D.Disk (g.S.Supplier.word c.args.gate.now.supply) (g.P.Policy.wish c.args.gate.now.policy) c.args.me (parts_of core.store core.all core.notes) (parts_of new.store new.all new.notes)
          c.stop_of-self-inside.result was c.look_under_locks-came.result s.none s.looks c.stop_of-self-inside.ensures,
    )

pub returns-clause-clean : goal.returns-clause-clean
returns-clause-clean g c =
    let core = c.self.inside.core in
    let new = c.look_under_locks-came.new.core in
    let s = c.look_under_locks-came.ensures in
    let old : Parts g.row.D.Denot = parts_of core.store core.all core.notes in
    let supply = g.S.Supplier.word c.args.gate.now.supply in
    let was = subst (λ (o : Option Stopped). IsKept g.D.Disk (held old o)) c.in_default.is c.self.invariant.1 in
    let same : held old None ≡ c.args.self.now = ap (held old) (sym c.in_default.is) ∙ c.self.view_is in
    clean_after g.D.Disk supply (g.P.Policy.wish c.args.gate.now.policy) c.args.me old (parts_of new.store new.all new.notes)
    c.stop_of-self-inside.result was c.look_under_locks-came.result s.none s.looks c.stop_of-self-inside.ensures (subst (StaysClean g.D.Disk supply) (sym same) c.requires.clean)

pub returns-clause-run : goal.returns-clause-run
returns-clause-run g c = λ told b supply policy lives.
    let core = c.self.inside.core in
    let new = c.look_under_locks-came.new.core in
    let s = c.look_under_locks-came.ensures in
    let old : Parts g.row.D.Denot = parts_of core.store core.all core.notes in
    let was = subst (λ (o : Option Stopped). IsKept g.D.Disk (held old o)) c.in_default.is c.self.invariant.1 in
    let same : held old None ≡ c.args.self.now = ap (held old) (sym c.in_default.is) ∙ c.self.view_is in
    lives_after g.D.Disk (g.S.Supplier.word c.args.gate.now.supply) (g.P.Policy.wish c.args.gate.now.policy) c.args.me old (parts_of new.store new.all new.notes)
    c.stop_of-self-inside.result was told b supply policy (subst (Lives g.D.Disk b) (sym same) lives) c.look_under_locks-came.result s.none s.looks c.stop_of-self-inside.ensures

pub returns-clause-notes : goal.returns-clause-notes
returns-clause-notes g c = λ told b supply policy lives going.
    let core = c.self.inside.core in
    let new = c.look_under_locks-came.new.core in
    let s = c.look_under_locks-came.ensures in
    let came = c.look_under_locks-came.result in
    let old : Parts g.row.D.Denot = parts_of core.store core.all core.notes in
    let left : Held g.row.D.Denot = held (parts_of new.store new.all new.notes) c.stop_of-self-inside.result in
    let was = subst (λ (o : Option Stopped). IsKept g.D.Disk (held old o)) c.in_default.is c.self.invariant.1 in
    let same : held old None ≡ c.args.self.now = ap (held old) (sym c.in_default.is) ∙ c.self.view_is in
    subst (λ (k : Held g.row.D.Denot). IfSome came (λ _. NotesAlong g.D.Disk b (look b.supply b.policy b.script (run_of b k.parts.noted.entries) c.args.me) k left)) same
    (notes_after g.D.Disk (g.S.Supplier.word c.args.gate.now.supply) (g.P.Policy.wish c.args.gate.now.policy) c.args.me old (parts_of new.store new.all new.notes)
    c.stop_of-self-inside.result was told b supply policy (subst (Lives g.D.Disk b) (sym same) lives) came s.looks c.stop_of-self-inside.ensures)
