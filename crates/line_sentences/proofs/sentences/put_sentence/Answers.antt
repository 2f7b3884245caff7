use Rattle.std.proofs.Common.{◌∙◌, ap, ap₂, subst, sym}
use Rattle.script_types.specs.model_kernel.State.{Text}
use Rattle.edge_streams.specs.Streams.{Puts}
use Rattle.line_sentences.specs.Sentences.{blocks_sentence, foreign_sentence, refusal_sentence, sentence, trace_sentence}
use Rattle.line_sentences.proofs.sentences.put_sentence.Goals as goal

pub returns-in-Script-clause-bytes : goal.returns-in-Script-clause-bytes
returns-in-Script-clause-bytes g c =
    let is = ap₂ refusal_sentence c.subject.ensures c.reason.ensures ∙ sym (ap sentence c.in-Script.is) in
    subst (λ (t : Text). Puts (g.W.Sink.held c.args.sink.now) (g.W.Sink.held c.put_line.new.sink) c.put_line.result t) is c.put_line.ensures.bytes

pub returns-in-Foreign-clause-bytes : goal.returns-in-Foreign-clause-bytes
returns-in-Foreign-clause-bytes g c =
    let is = ap foreign_sentence (c.as_str.ensures.value ∙ c.place_text.ensures) ∙ sym (ap sentence c.in-Foreign.is) in
    subst (λ (t : Text). Puts (g.W.Sink.held c.args.sink.now) (g.W.Sink.held c.put_line-in-Foreign.new.sink) c.put_line-in-Foreign.result t) is c.put_line-in-Foreign.ensures.bytes

pub returns-in-BlocksFull-clause-bytes : goal.returns-in-BlocksFull-clause-bytes
returns-in-BlocksFull-clause-bytes g c =
    let is = ap blocks_sentence (c.as_str-in-BlocksFull.ensures.value ∙ c.blocks_text.ensures) ∙ sym (ap sentence c.in-BlocksFull.is) in
    subst (λ (t : Text). Puts (g.W.Sink.held c.args.sink.now) (g.W.Sink.held c.put_line-in-BlocksFull.new.sink) c.put_line-in-BlocksFull.result t) is c.put_line-in-BlocksFull.ensures.bytes

pub returns-in-Usage-clause-bytes : goal.returns-in-Usage-clause-bytes
returns-in-Usage-clause-bytes g c =
    subst (λ (t : Text). Puts (g.W.Sink.held c.args.sink.now) (g.W.Sink.held c.put.new.self) c.put.result t) (sym (ap sentence c.in-Usage.is)) c.put.ensures.bytes

pub returns-in-DiskFault-clause-bytes : goal.returns-in-DiskFault-clause-bytes
returns-in-DiskFault-clause-bytes g c =
    subst (λ (t : Text). Puts (g.W.Sink.held c.args.sink.now) (g.W.Sink.held c.put-in-DiskFault.new.self) c.put-in-DiskFault.result t) (sym (ap sentence c.in-DiskFault.is)) c.put-in-DiskFault.ensures.bytes

pub returns-in-SourceFault-clause-bytes : goal.returns-in-SourceFault-clause-bytes
returns-in-SourceFault-clause-bytes g c =
    subst (λ (t : Text). Puts (g.W.Sink.held c.args.sink.now) (g.W.Sink.held c.put-in-SourceFault.new.self) c.put-in-SourceFault.result t) (sym (ap sentence c.in-SourceFault.is)) c.put-in-SourceFault.ensures.bytes

pub returns-in-SinkFault-clause-bytes : goal.returns-in-SinkFault-clause-bytes
returns-in-SinkFault-clause-bytes g c =
    subst (λ (t : Text). Puts (g.W.Sink.held c.args.sink.now) (g.W.Sink.held c.put-in-SinkFault.new.self) c.put-in-SinkFault.result t) (sym (ap sentence c.in-SinkFault.is)) c.put-in-SinkFault.ensures.bytes

pub returns-in-Memory-clause-bytes : goal.returns-in-Memory-clause-bytes
returns-in-Memory-clause-bytes g c =
    subst (λ (t : Text). Puts (g.W.Sink.held c.args.sink.now) (g.W.Sink.held c.put-in-Memory.new.self) c.put-in-Memory.result t) (sym (ap sentence c.in-Memory.is)) c.put-in-Memory.ensures.bytes

pub returns-in-TraceWrong-clause-bytes : goal.returns-in-TraceWrong-clause-bytes
returns-in-TraceWrong-clause-bytes g c =
    let is = ap trace_sentence (c.as_str-in-TraceWrong.ensures.value ∙ c.trace_text.ensures) ∙ sym (ap sentence c.in-TraceWrong.is) in
    subst (λ (t : Text). Puts (g.W.Sink.held c.args.sink.now) (g.W.Sink.held c.put_line-in-TraceWrong.new.sink) c.put_line-in-TraceWrong.result t) is c.put_line-in-TraceWrong.ensures.bytes
