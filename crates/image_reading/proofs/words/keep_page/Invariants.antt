-- The words so far are kept.
use Rattle.std.proofs.Common.{◌≡◌, ◌+◌, ◌*◌, ◌<◌, ℕ}
use Rattle.std.specs.Prelude.{slice_index}
use Rattle.image_shown_facts.specs.image_plain.Words.{words_with}
use Rattle.image_shown_facts.specs.Words.{IsSparse}
use Rattle.image_reading.proofs.words.keep_page.Given as goal

abbrev pub ghost-keep_word : goal.ghost-keep_word
ghost-keep_word g a = g.s

abbrev pub invariant-loop-place : goal.invariant-loop-place
invariant-loop-place g l = record {
  sparse : IsSparse g.s l.tag (128 * l.page + l.place) l.words;
  here : (k : ℕ) → k < l.place → words_with g.s l.tag l.words (128 * l.page + k) ≡ slice_index l.page_words k;
  before : (a : ℕ) → a < 128 * l.page → words_with g.s l.tag l.words a ≡ words_with g.s l.tag l.initial.words a;
}
