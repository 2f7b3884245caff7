-- The counts of an atlas that is read, against the counts that are spelled.
use Rattle.blob_grammar.specs.Spelling.{Counted}
use Rattle.blob_atlas.specs.declared.edges.Edge.{Edge}

abbrev pub counted_as : Edge → Counted
counted_as e = record { from = e.from; to = e.to; count = e.count }
