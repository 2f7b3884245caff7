use Rattle.std.proofs.Common.{◌++◌, append_assoc, sym, subst}
use Rattle.std.specs.Io.KnownBytes.{Appends}
use Rattle.std.proofs.KnownBytes.{Appends-trans}
use Rattle.std.proofs.lemmas.Result.{err_from_is_err_and}
use Rattle.edge_streams.specs.Streams.{AppendsPart}
use Rattle.edge_streams.proofs.Streams.{AppendsPart-after}
use Rattle.line_report.specs.Reports.{report_text, log_line, rec_lines, cut_lines}
use Rattle.line_report.proofs.reports.put_report.Goals as goal

pub returns-in_err-put_cut-clause-bytes : goal.returns-in_err-put_cut-clause-bytes
unfolding report_text
returns-in_err-put_cut-clause-bytes g c =
    let p = err_from_is_err_and c.from_residual-in_err-put_cut.result c.from_residual-in_err-put_cut.ensures.1 in
    rw p.1 (AppendsPart-after _ _ _ _ _ (Appends-trans _ _ _ _ _ c.in_ok-put_log.ensures.bytes c.in_ok-put_recs.ensures.bytes) c.in_err-put_cut.ensures.bytes)
