-- At a fault the lines before it are put, and a front of the word's own.
use Rattle.std.proofs.Common.{◌*◌, ◌<◌, ℕ, Option, subst, arith}
use Rattle.plain_states.specs.Plains.{container_of}
use Rattle.edge_streams.specs.Streams.{AppendsPart}
use Rattle.plain_show.specs.Show.{word_line, word_line_by}
use Rattle.line_text.proofs.Puts.{AppendsPart-upto, Puts-cut}
use Rattle.plain_show.proofs.containers.put_words.Goals as goal

pub returns-in_err-put_word_line-clause-bytes : goal.returns-in_err-put_word_line-clause-bytes
returns-in_err-put_word_line-clause-bytes g c =
    let a = g.N.Names.atlas c.args.names.now in
    let x = c.args.entity in
    let i = c.loop-address.address in
    let within : i < 128 * c.args.c.now.pages = omega arith in
    Puts-cut _ _ _ _ _ c.from_residual.ensures.1
    (AppendsPart-upto (word_line g.s a x (container_of g.s c.args.c.now)) _ _ _ (128 * c.args.c.now.pages) i within c.loop-address.invariant.put
    (subst (λ (w : Option ℕ). AppendsPart (g.W.Sink.held c.loop-address.sink) (g.W.Sink.held c.put_word_line.new.sink) (word_line_by a x i w)) c.changed_word.ensures c.in_err-put_word_line.ensures.bytes))
