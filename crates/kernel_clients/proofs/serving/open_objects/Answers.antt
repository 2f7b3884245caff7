use Rattle.std.proofs.Common.{refl}
use Rattle.command_open.specs.command_promises.Openings.{run_from}
use Rattle.kernel_core.specs.kernel_invariant.Beginnings.{Beginning}
use Rattle.kernel_clients.proofs.Turns.{serves_born}
use Rattle.kernel_clients.proofs.serving.open_objects.Goals as goal
use Rattle.script_types.specs.Scripts.{tables_of}

pub returns-in-Ok-clause-serves : goal.returns-in-Ok-clause-serves
returns-in-Ok-clause-serves g c told m =
    let o = (c.in-Ok.ensures.ready told).opened m in
    let none = c.in-Ok.ensures.nothing in
    let n = c.births.ensures in
    record {
      state = o.state;
      means = o.means;
      fits = o.fits;
      run = λ low.
          let b : Beginning = run_from m (tables_of c.args.script.now) o.state (g.D.Disk.clock c.args.disk) in
          let lives = o.run low in
          serves_born g.D.Disk b c.in-Ok.kernel c.births.new.self none.0 (n.run told b refl lives) (n.notes told b refl lives none.2).whole;
    }

pub returns-in-Ok-clause-clean : goal.returns-in-Ok-clause-clean
returns-in-Ok-clause-clean g c = λ s. c.births.ensures.clean s (c.in-Ok.ensures.clean s)
