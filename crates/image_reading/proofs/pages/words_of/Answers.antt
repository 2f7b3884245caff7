use Rattle.std.proofs.Common.{◌≡◌, ◌+◌, ◌*◌, ◌<◌, ℕ, List, length, min, refl, sym, subst, arith}
use Rattle.edge_disk.specs.Image.{Image, block_at}
use Rattle.std.specs.Prelude.{slice_index}
use Rattle.image_shown_facts.specs.image_meaning.Parts.{word_in}
use Rattle.log_reading.proofs.log_facts_lemmas.ReadSoFar.{ReadsOnly-trans}
use Rattle.image_shown_facts.specs.image_plain.Words.{words_with}
use Rattle.image_shown_facts.specs.Words.{IsSparse}
use Rattle.image_shown_facts.proofs.Reading.{all_read, page_read, there_at}
use Rattle.image_reading.proofs.pages.words_of.Goals as goal

pub take_page-requires : goal.take_page-requires
take_page-requires g c κs within =
    let so_far = c.loop-page.invariant in
    let blocks : List ℕ = c.args.blocks.now in
    let long : length blocks ≡ 256 = omega arith in
    let low : c.loop-page.page < min c.args.head.now.pages 256 = (let t = c.loop-page-test.true in let m = c.min-page-end.ensures in omega (arith, t, m)) in (
      λ a mem. within.0 a mem,
      (
        λ a mem. within.1 a mem,
        (
          c.requires.1.1.0,
          (
            c.requires.1.1.1.0,
            (
              omega (arith, low),
              (
                there_at (g.D.Disk.block_count c.args.disk.now) (g.D.Disk.block_count c.loop-page.disk) c.args.head.now.pages c.loop-page.page blocks long low (sym so_far.same.same_count) c.requires.1.1.1.1,
                so_far.sparse,
              ),
            ),
          ),
        ),
      ),
    )

pub loop-page-preserved : goal.loop-page-preserved
loop-page-preserved g c =
    let disk = g.met.D.Disk in
    let so_far = c.loop-page.invariant in
    let read = c.in_ok-take_page.ensures in
    let tag : ℕ = c.args.head.now.tag in
    let blocks : List ℕ = c.args.blocks.now in
    let n : ℕ = c.loop-page.page in
    record {
      sparse = (let e : 128 * n + 128 ≡ 128 * (n + 1) = omega arith in subst (λ (end : ℕ). IsSparse g.s tag end c.take_page.new.words) e read.sparse);
      read = λ t.
          let image : Image = g.D.Disk.reading c.args.disk.now in
          let here = subst (λ (i : Image). (k : ℕ) → k < 128 → words_with g.s tag c.take_page.new.words (128 * n + k) ≡ word_in g.s tag (block_at i) (slice_index blocks n) (128 * n + k)) (so_far.same.same_reading t) (read.here t) in
          page_read g.s tag (block_at image) blocks c.loop-page.words c.take_page.new.words n (slice_index blocks n) refl (so_far.read t) here read.before;
      later = (let before = so_far.later in let now = c.take_page.ensures.same.later in omega (arith, before, now));
      same = ReadsOnly-trans _ _ _ (λ t d s b. disk.counts_now d s b t) so_far.same c.take_page.ensures.same;
    }

pub returns-clause-words : goal.returns-clause-words
returns-clause-words g c t =
    let so_far = c.loop-page.invariant in
    let blocks : List ℕ = c.args.blocks.now in
    let long : length blocks ≡ 256 = omega arith in
    let last : c.loop-page.page ≡ min c.args.head.now.pages 256 = (let a = c.loop-page-test.false in let b = c.loop-page.auto.page-end in let m = c.min-page-end.ensures in omega (arith, a, b, m)) in
    all_read g.s c.args.head.now.tag (block_at (g.D.Disk.reading c.args.disk.now)) blocks c.loop-page.words c.args.head.now.pages c.loop-page.page long last so_far.sparse (so_far.read t)
