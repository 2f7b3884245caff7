use Rattle.std.proofs.Common.{◌<◌, ◌+◌, ℕ, length, arith, ◌∙◌}
use Rattle.edge_disk.specs.Image.{IsInRun}
use Rattle.edge_disk.proofs.Images.{HasRun-more, SameOutside-one, SameOutside-trans}
use Rattle.edge_disk.proofs.Phases.{IsImage-reading, Quiet-write, told}
use Rattle.edge_disk.proofs.Ticks.{Began-tick, Ticks-one}
use Rattle.edge_disk.proofs.stretches.write_run.Goals as goal

pub loop-i-preserved : goal.loop-i-preserved
loop-i-preserved g c =
    let so_far = c.loop-i.invariant in
    let disk = g.met.D.Disk in
    let place : ℕ = c.args.at + c.loop-i.i in
    let inside : IsInRun c.args.at (length c.args.run.now) place = (omega arith, omega arith) in
    record {
      count = c.write.ensures.count ∙ so_far.count;
      time = omega (arith, so_far.time, Ticks-one _ _ c.write.ensures.clock);
      began = Began-tick _ _ _ _ so_far.began c.write.ensures.clock;
      later = omega (arith, so_far.later, c.write.ensures.cause.later);
      has_run = λ t.
          let whole = IsImage-reading g.D.Disk t disk.reads_now disk.counts_now disk.whole c.loop-i.disk in
          let within : place < length (g.D.Disk.reading c.loop-i.disk) = omega (arith, whole.len, so_far.count, c.requires) in
          HasRun-more _ _ _ _ _ c.loop-i-test.true within (so_far.has_run t) (c.in_ok-write.ensures.block t);
      same = λ t. SameOutside-trans _ _ _ _ (so_far.same t) (SameOutside-one _ place _ _ inside (c.write.ensures.reading t));
      quiet = λ t. Quiet-write (told g.D.Disk t disk.counts_now disk.only_now) inside (so_far.quiet t) (c.write.ensures.stop t) (c.write.ensures.time t);
    }

pub returns-in_err-write-clause-any_moment : goal.returns-in_err-write-clause-any_moment
returns-in_err-write-clause-any_moment g c t =
    let disk = g.met.D.Disk in
    let inside : IsInRun c.args.at (length c.args.run.now) (c.args.at + c.loop-i.i) = (omega arith, omega arith) in
    Quiet-write (told g.D.Disk t disk.counts_now disk.only_now) inside (c.loop-i.invariant.quiet t) (c.write.ensures.stop t) (c.write.ensures.time t)
