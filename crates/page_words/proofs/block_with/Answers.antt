use Rattle.std.proofs.Common.{◌≡◌, ◌*◌, ◌<◌, length, subst, arith, ◌∙◌}
use Rattle.base_bytes.specs.Fields.{number_at}
use Rattle.page_words.proofs.Words.{put_more}
use Rattle.page_words.proofs.block_with.Goals as goal
use Rattle.store_books.proofs.image_facts_lemmas.Spelling.{numbers_are}

pub loop-i-preserved : goal.loop-i-preserved
loop-i-preserved c = put_more c.args.words.now c.loop-i.i _ _ c.loop-i.invariant c.put_word.ensures.here c.put_word.ensures.others

pub returns : goal.returns
returns c =
    let last : c.loop-i.i ≡ 128 = (let a = c.loop-i-test.false in let b = c.loop-i.auto.i-end in omega (arith, a, b)) in
    let len : length c.args.words.now ≡ 128 = omega arith in
    numbers_are (λ k. number_at (8 * k) 8 c.loop-i.block) c.args.words.now 128 len (λ k lt. c.loop-i.invariant k (omega (arith, lt, last)))
