use Rattle.std.proofs.Common.{ℕ, None, Some, length, sym, ap, subst}
use Rattle.node_mirror.proofs.Causes.{caused_none, caused_some, mirroring_on}
use Rattle.node_mirror.proofs.mirroring.MirroringWatcher.after.Goals as goal
use Rattle.node_mirror.specs.Mirrors.{Mirrors}

pub returns-in-Ok-clause-knows : goal.returns-in-Ok-clause-knows
returns-in-Ok-clause-knows g c = λ told b es watches shows.
    let w = c.args.self.now in
    record {
      mirrors =
          subst (λ (n : ℕ). Mirrors g.N.Since.words b c.follow-went.new.kernel.parts.noted.entries c.follow-went.new.known n c.follow-went.new.line) (sym (ap length c.history.ensures.entries))
          (c.in-Ok.ensures.mirrors told g.N.Since.words b es watches.mirrors shows);
      follows = λ began. c.follow-went.ensures.follows told g.N.Since.words b es watches.mirrors shows (watches.follows began);
    }

pub returns-in-Err-clause-knows : goal.returns-in-Err-clause-knows
returns-in-Err-clause-knows g c = λ told b es watches shows began. c.follow-went.ensures.follows told g.N.Since.words b es watches.mirrors shows (watches.follows began)

pub invariant_of-self : goal.invariant_of-self
invariant_of-self g c =
    let w = c.args.self.now in
    record {
      kept =
          mirroring_on g.E.Disk g.N.Since.faults g.N.Since.loss w.line c.follow-went.new.line w.stop None w.kept c.follow-went.ensures.step c.follow-went.ensures.loss c.follow-went.ensures.counts
          (caused_none g.E.Disk g.N.Since.faults c.follow-went.new.line.standby);
    }

pub invariant_of-self-in-Err : goal.invariant_of-self-in-Err
invariant_of-self-in-Err g c =
    let w = c.args.self.now in
    record {
      kept =
          mirroring_on g.E.Disk g.N.Since.faults g.N.Since.loss w.line c.follow-went.new.line w.stop (Some c.in-Err.why) w.kept c.follow-went.ensures.step c.follow-went.ensures.loss c.follow-went.ensures.counts
          (caused_some g.E.Disk g.N.Since.faults w.line.standby c.follow-went.new.line.standby c.in-Err.why c.follow-went.ensures.counts w.kept.later w.kept.shut c.in-Err.ensures.stops);
    }

pub follow-went-requires : goal.follow-went-requires
follow-went-requires g c = record { going = c.requires.going; step = c.args.self.now.kept.step }
