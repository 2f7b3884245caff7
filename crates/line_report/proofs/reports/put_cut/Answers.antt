use Rattle.std.proofs.Common.{get_or, sym, subst, refl, arith}
use Rattle.std.proofs.lemmas.List.{get_or_default}
use Rattle.std.proofs.lemmas.Result.{err_from_is_err_and}
use Rattle.std.specs.Io.KnownBytes.{Appends}
use Rattle.line_report.specs.Reports.{cut_line, cut_lines}
use Rattle.line_report.proofs.Numbered.{in_part, one_more, whole}
use Rattle.line_report.proofs.reports.put_cut.Goals as goal

pub returns-in_err-put_choice-clause-bytes : goal.returns-in_err-put_choice-clause-bytes
unfolding cut_lines
returns-in_err-put_choice-clause-bytes g c =
    let p = err_from_is_err_and c.from_residual.result c.from_residual.ensures.1 in
    rw p.1 (in_part cut_line _ _ _ c.args.versions.now c.loop-entity.entity (get_or c.args.versions.now c.loop-entity.entity 0) c.loop-entity-test.true (get_or_default c.args.versions.now c.loop-entity.entity 0 (get_or c.args.versions.now c.loop-entity.entity 0) c.loop-entity-test.true) c.loop-entity.invariant.put c.in_err-put_choice.ensures.bytes)

pub loop-entity-preserved : goal.loop-entity-preserved
loop-entity-preserved g c = record {
  put = one_more cut_line _ _ _ c.args.versions.now c.loop-entity.entity (get_or c.args.versions.now c.loop-entity.entity 0) c.loop-entity-test.true (get_or_default c.args.versions.now c.loop-entity.entity 0 (get_or c.args.versions.now c.loop-entity.entity 0) c.loop-entity-test.true) c.loop-entity.invariant.put c.in_ok-put_choice.ensures.bytes;
  count = let n = c.in_ok-put_choice.ensures.count in omega arith;
}

pub returns-clause-bytes : goal.returns-clause-bytes
unfolding cut_lines
returns-clause-bytes g c = subst (Appends (g.W.Sink.held c.args.sink.now) (g.W.Sink.held c.loop-entity.sink)) (whole cut_line c.args.versions.now c.loop-entity.entity c.loop-entity-test.false) c.loop-entity.invariant.put
