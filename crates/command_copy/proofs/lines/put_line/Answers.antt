use Rattle.std.proofs.Common.{◌++◌, ◌∙◌, List, ℕ, subst}
use Rattle.std.specs.Prelude.{codes}
use Rattle.std.proofs.lemmas.Result.{err_from_is_err_and}
use Rattle.edge_streams.specs.Streams.{AppendsPart}
use Rattle.edge_streams.proofs.Streams.{AppendsPart-after, AppendsPart-more}
use Rattle.std.specs.Io.KnownBytes.{Appends}
use Rattle.command_copy.specs.Copies.{number_end}
use Rattle.command_copy.proofs.lines.put_line.Goals as goal

pub returns-in_err-put-clause-bytes : goal.returns-in_err-put-clause-bytes
returns-in_err-put-clause-bytes g c =
    let held = g.W.Sink.held in
    let p = err_from_is_err_and c.from_residual.result c.from_residual.ensures.1 in
    rw p.1 (AppendsPart-more (held c.args.sink.now) (held c.put.new.self) (codes "copied ") (c.args.fresh.now ++ number_end c.args.number) c.in_err-put.ensures.bytes)

pub returns-in_err-put-2-clause-bytes : goal.returns-in_err-put-2-clause-bytes
returns-in_err-put-2-clause-bytes g c =
    let held = g.W.Sink.held in
    let p = err_from_is_err_and c.from_residual-in_err-put-2.result c.from_residual-in_err-put-2.ensures.1 in
    let part = subst (λ (b : List ℕ). AppendsPart (held c.put.new.self) (held c.put-2.new.self) b) c.as_bytes.ensures.value c.in_err-put-2.ensures.bytes in
    rw p.1 (AppendsPart-after (held c.args.sink.now) (held c.put.new.self) (held c.put-2.new.self) (codes "copied ") (c.args.fresh.now ++ number_end c.args.number) c.in_ok-put.ensures.bytes
    (AppendsPart-more (held c.put.new.self) (held c.put-2.new.self) c.args.fresh.now (number_end c.args.number) part))

pub returns-in_err-put-3-clause-bytes : goal.returns-in_err-put-3-clause-bytes
returns-in_err-put-3-clause-bytes g c =
    let held = g.W.Sink.held in
    let p = err_from_is_err_and c.from_residual-in_err-put-3.result c.from_residual-in_err-put-3.ensures.1 in
    let whole = subst (λ (b : List ℕ). Appends (held c.put.new.self) (held c.put-2.new.self) b) c.as_bytes.ensures.value c.in_ok-put-2.ensures.bytes in
    let part = subst (λ (b : List ℕ). AppendsPart (held c.put-2.new.self) (held c.put-3.new.self) b) (c.as_bytes-2.ensures.value ∙ (c.as_str.ensures.value ∙ c.number_end-end.ensures)) c.in_err-put-3.ensures.bytes in
    rw p.1 (AppendsPart-after (held c.args.sink.now) (held c.put.new.self) (held c.put-3.new.self) (codes "copied ") (c.args.fresh.now ++ number_end c.args.number) c.in_ok-put.ensures.bytes
    (AppendsPart-after (held c.put.new.self) (held c.put-2.new.self) (held c.put-3.new.self) c.args.fresh.now (number_end c.args.number) whole part))
