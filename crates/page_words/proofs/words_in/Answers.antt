use Rattle.std.proofs.Common.{◌≡◌, ◌*◌, ◌<◌, length, arith, ◌∙◌}
use Rattle.std.proofs.lemmas.List.{length-set}
use Rattle.base_bytes.specs.Fields.{number_at}
use Rattle.store_books.proofs.image_facts_lemmas.Spelling.{row_all, row_more}
use Rattle.page_words.proofs.words_in.Goals as goal

pub loop-i-preserved : goal.loop-i-preserved
loop-i-preserved c =
    let so_far = c.loop-i.invariant in
    let lt : c.loop-i.i < length c.loop-i.words = (let a = c.loop-i-test.true in let b = so_far.len in omega (arith, a, b)) in
    record {
      len = length-set c.loop-i.words c.loop-i.i c.word_at.result ∙ so_far.len;
      read = row_more (λ k. number_at (8 * k) 8 c.args.block.now) c.loop-i.words c.loop-i.i c.word_at.result lt so_far.read c.word_at.ensures;
    }

pub returns : goal.returns
returns c =
    let so_far = c.loop-i.invariant in
    let last : c.loop-i.i ≡ 128 = (let a = c.loop-i-test.false in let b = c.loop-i.auto.i-end in omega (arith, a, b)) in
    row_all (λ k. number_at (8 * k) 8 c.args.block.now) c.loop-i.words c.loop-i.i 128 last so_far.len so_far.read
