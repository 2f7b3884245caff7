use Rattle.std.proofs.Common.{sym}
use Rattle.blob_reading.proofs.blob_facts_lemmas.NameFronts.{ascii}
use Rattle.blob_reading.proofs.blob_facts_lemmas.NameTests.{no_ascii}
use Rattle.blob_atlas.proofs.names.longer.Goals as goal

pub returns-then-not-is_ascii-clause-none : goal.returns-then-not-is_ascii-clause-none
returns-then-not-is_ascii-clause-none c =
    λ goes. no_ascii c.args.byte (sym c.if-not-is_ascii.ensures) (ascii c.args.atlas.now c.args.number c.args.size c.requires.number c.args.text.now.bytes c.args.byte goes)
