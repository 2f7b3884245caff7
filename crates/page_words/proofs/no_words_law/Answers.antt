use Rattle.std.proofs.Common.{refl}
use Rattle.page_words.proofs.no_words_law.Goals as goal

pub returns : goal.returns
returns c = refl
