use Rattle.std.proofs.Common.{ap, arith}
use Rattle.data_frames.specs.FrameTable.{FrameTable}
use Rattle.page_memory.proofs.Begun.{begun_clean, begun_table, begun_words}
use Rattle.page_memory.proofs.paged.PagedMemory.begin.Goals as goal

pub returns-clause-table : goal.returns-clause-table
returns-clause-table c held blocks = begun_table (record { tag = c.args.tag; pages = c.args.pages; frames = c.clear.new.self; table = c.args.table.now.0 }) 256 (ap (λ (t : FrameTable). t.pages) c.clear.ensures) held c.requires.few (omega arith) c.requires.none_past blocks

pub returns-clause-clean : goal.returns-clause-clean
returns-clause-clean c = begun_clean (record { tag = c.args.tag; pages = c.args.pages; frames = c.clear.new.self; table = c.args.table.now.0 }) 256 (ap (λ (t : FrameTable). t.pages) c.clear.ensures)

pub returns-clause-words : goal.returns-clause-words
returns-clause-words c = begun_words (record { tag = c.args.tag; pages = c.args.pages; frames = c.clear.new.self; table = c.args.table.now.0 }) 256 (ap (λ (t : FrameTable). t.pages) c.clear.ensures)
