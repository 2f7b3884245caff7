use Rattle.std.proofs.Common.{ap, ◌∙◌}
use Rattle.image_shown_facts.specs.store_books.Books.{words_of_bytes}
use Rattle.image_reading.proofs.pages.read_words.Goals as goal

pub returns-clause-words : goal.returns-clause-words
returns-clause-words g c t = c.words_in.ensures ∙ ap words_of_bytes (c.in_ok-read.ensures.block t)
