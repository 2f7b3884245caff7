use Rattle.std.proofs.Common.{◌≡◌, ◌+◌, ◌∙◌, ℕ, [], min, ap, refl, rules, sym}
use Rattle.edge_disk.specs.MemoryDisk.{moments_of}
use Rattle.edge_disk.specs.declared.memory.MemoryDisk.{MemoryDisk}
use Rattle.edge_managers.specs.Managers.{counted_word}
use Rattle.command_open.specs.command_promises.Openings.{run_from}
use Rattle.kernel_core.specs.kernel_invariant.Beginnings.{Beginning}
use Rattle.kernel_clients.specs.Keeping.{managers}
use Rattle.kernel_clients.proofs.stopping.keep_and_stop.Goals as goal
use Rattle.script_types.specs.Scripts.{tables_of}

pub let_run-requires-clause-clean : goal.let_run-requires-clause-clean
let_run-requires-clause-clean c = c.in-Ok.ensures.clean counted_word

pub returns-in-Ok-stop_and_find-clause-stopped : goal.returns-in-Ok-stop_and_find-clause-stopped
returns-in-Ok-stop_and_find-clause-stopped c =
    let e = c.in-Ok-stop_and_find.ensures in
    let first : ℕ = min (moments_of c.args.disk + c.args.after) 18446744073709551615 in
    let moment : c.saturating_add-moment.result ≡ first = search rules in
    e.stopped ∙ (ap (λ (m : ℕ). min m (moments_of c.let_run.new.kernel.parts.store.disk)) moment ∙ ap (λ (d : MemoryDisk). min first (moments_of d)) (sym e.disk))

pub returns-in-Ok-stop_and_find-clause-found : goal.returns-in-Ok-stop_and_find-clause-found
returns-in-Ok-stop_and_find-clause-found c =
    let o = c.in-Ok.ensures.serves tt managers in
    record {
      state = o.state;
      means = o.means;
      fits = o.fits;
      run = λ low reached.
          let b : Beginning = run_from managers (tables_of c.args.script.now) o.state (moments_of c.args.disk) in
          let s = c.let_run.ensures.serves tt b [] refl refl (o.run low) in
          c.in-Ok-stop_and_find.ensures.found b refl s.lives reached;
    }
