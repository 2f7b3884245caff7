use Rattle.std.proofs.Common.{sym, subst, refl, arith}
use Rattle.std.proofs.lemmas.Result.{err_from_is_err_and}
use Rattle.std.specs.Io.KnownBytes.{Appends}
use Rattle.line_report.specs.Reports.{rec_line, rec_lines}
use Rattle.line_report.proofs.Numbered.{in_part, one_more, whole}
use Rattle.line_report.proofs.reports.put_recs.Goals as goal

pub returns-in_err-put_rec-clause-bytes : goal.returns-in_err-put_rec-clause-bytes
unfolding rec_lines
returns-in_err-put_rec-clause-bytes g c =
    let p = err_from_is_err_and c.from_residual.result c.from_residual.ensures.1 in
    rw p.1 (in_part (rec_line c.args.cut.now.0) _ _ _ c.args.recs.now c.loop-slot.slot c.index-recs-slot.result c.loop-slot-test.true c.index-recs-slot.is c.loop-slot.invariant.put c.in_err-put_rec.ensures.bytes)

pub loop-slot-preserved : goal.loop-slot-preserved
loop-slot-preserved g c = record {
  put = one_more (rec_line c.args.cut.now.0) _ _ _ c.args.recs.now c.loop-slot.slot c.index-recs-slot.result c.loop-slot-test.true c.index-recs-slot.is c.loop-slot.invariant.put c.in_ok-put_rec.ensures.bytes;
  count = let n = c.in_ok-put_rec.ensures.count in omega arith;
}

pub returns-clause-bytes : goal.returns-clause-bytes
unfolding rec_lines
returns-clause-bytes g c = subst (Appends (g.W.Sink.held c.args.sink.now) (g.W.Sink.held c.loop-slot.sink)) (whole (rec_line c.args.cut.now.0) c.args.recs.now c.loop-slot.slot c.loop-slot-test.false) c.loop-slot.invariant.put
