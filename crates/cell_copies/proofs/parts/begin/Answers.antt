use Rattle.std.proofs.Common.{◌∙◌, List, ℕ, refl, sym, ap, subst}
use Rattle.std.specs.Prelude.{slice_index}
use Rattle.cell_births.specs.page_memory.Words.{AreHeldBlocks}
use Rattle.cell_copies.specs.Copying.{table_words}
use Rattle.cell_copies.proofs.Words.{is_unchanged, no_places}
use Rattle.cell_copies.proofs.parts.begin.Goals as goal

pub returns-clause-begun : goal.returns-clause-begun
returns-clause-begun c = record {
  head = c.args.head;
  memory = c.begin.new.self;
  is = refl;
  tag = ap (λ m. m.tag) c.begin.ensures.is;
  pages = ap (λ m. m.pages) c.begin.ensures.is;
  some = c.requires.some;
  few = c.requires.few;
  table_is = ap (λ m. m.table) c.begin.ensures.is ∙ c.new.ensures;
  words_are = λ s words address. c.begin.ensures.words s words address ∙ ap (λ (t : List ℕ). table_words s c.args.head.tag words t address) c.new.ensures;
  sound = λ held are. c.begin.ensures.table held (subst (AreHeldBlocks held) (sym c.new.ensures) are);
  clean = λ s words. c.begin.ensures.clean s words;
  unchanged = is_unchanged _ c.begin.new.self (ap (λ m. m.frames) c.begin.ensures.is);
}

pub begin-requires-clause-none_past : goal.begin-requires-clause-none_past
begin-requires-clause-none_past c = λ page past. ap (λ (t : List ℕ). slice_index t page) c.new.ensures ∙ no_places 256 page
