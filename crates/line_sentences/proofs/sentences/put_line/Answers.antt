use Rattle.std.proofs.Common.{rules}
use Rattle.line_sentences.proofs.Pieces.{end_part, third_part}
use Rattle.line_sentences.proofs.sentences.put_line.Goals as goal

pub returns-in_err-put-3-clause-bytes : goal.returns-in_err-put-3-clause-bytes
returns-in_err-put-3-clause-bytes g c =
    let part = third_part _ _ _ _ _ _ _ c.in_ok-put.ensures.bytes c.in_ok-put-2.ensures.bytes c.in_err-put-3.ensures.bytes in
    search (rules, part)

pub returns-in_err-put-4-clause-bytes : goal.returns-in_err-put-4-clause-bytes
returns-in_err-put-4-clause-bytes g c =
    let part = end_part _ _ _ _ _ _ _ c.in_ok-put.ensures.bytes c.in_ok-put-2.ensures.bytes _ c.in_ok-put-3.ensures.bytes c.in_err-put-4.ensures.bytes in
    search (rules, part)
