use Rattle.std.proofs.Common.{◌≡◌, ℕ, ◌≤◌, List, length, sym, ap, subst}
use Rattle.std.specs.Prelude.{IfSome}
use Rattle.kernel_block_laws.specs.image_facts.Bodies.{blocks_for}
use Rattle.kernel_record_facts.specs.image_meaning.Parts.{Spells}
use Rattle.kernel_record_facts.specs.cell_blobs.Blobs.{blob_need, spelt_in}
use Rattle.kernel_block_laws.specs.store_books.Books.{free_in}
use Rattle.store_snapshots.specs.store_facts.State.{books}
use Rattle.data_blocks.specs.Ledger.{is_held}
use Rattle.kernel_records.proofs.Rests.{held_pages, only_write, record_made}
use Rattle.kernel_records.proofs.Spelling.{bytes_some}
use Rattle.kernel_records.proofs.recording.record_cell.Goals as goal

pub commit-requires-clause-blob : goal.commit-requires-clause-blob
commit-requires-clause-blob g c =
    let may = c.requires.may.spellable in
    bytes_some (spelt_in c.args.cell.now.part) may.spelt c.write_part.new.blob may.born c.write_part.ensures.spells

pub commit-requires-clause-pages : goal.commit-requires-clause-pages
commit-requires-clause-pages g c = rw c.table_of-table.ensures (held_pages (is_held c.args.store.now.blocks) c.args.cell.now.part c.requires.may.table)

pub returns-clause-spelt : goal.returns-clause-spelt
returns-clause-spelt g c =
    let spells : IfSome (spelt_in c.args.cell.now.part) (λ p. Spells p c.write_part.new.blob) = c.write_part.ensures.spells in
    record {
      spells = subst (λ (bytes : List ℕ). IfSome (spelt_in c.args.cell.now.part) (λ p. Spells p bytes)) c.write_part.ensures.bytes spells;
      components = c.read_stamp.ensures;
    }

pub returns-clause-made : goal.returns-clause-made
returns-clause-made g c =
    record_made g.D.Disk c.args.cell.now c.args.store.now c.commit.new.self c.commit.result c.write_part.new.blob c.table_of-table.result.0
    c.write_part.ensures.bytes c.table_of-table.ensures c.commit.ensures.in_memory c.commit.ensures.committed c.commit.ensures.small

pub returns-clause-failed : goal.returns-clause-failed
returns-clause-failed g c =
    let need : blob_need c.args.cell.now.part ≡ blocks_for (length c.write_part.new.blob) = ap (λ (bytes : List ℕ). blocks_for (length bytes)) (sym c.write_part.ensures.bytes) in
    only_write g.D.Disk.faults (length c.write_part.new.blob) c.commit.result c.args.store.now c.commit.new.self c.commit.ensures.answers c.requires.working (subst (λ (n : ℕ). n ≤ free_in (books c.args.store.now)) need c.requires.free)
