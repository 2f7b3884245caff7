use Rattle.std.proofs.Common.{◌≡◌, ◌∙◌, ℕ, ◌+◌, ◌≤◌, List, ap, arith}
use Rattle.std.specs.Prelude.{slice_index}
use Rattle.page_placing.specs.Copying.{blocks_in}
use Rattle.kernel_record_facts.specs.cell_blobs.Blobs.{blob_need}
use Rattle.kernel_record_facts.proofs.Telling.{no_blocks}
use Rattle.kernel_records.specs.cell_states.declared.cells.Cell.{Cell}
use Rattle.kernel_records.specs.store_books.Books.{free_in}
use Rattle.kernel_records.specs.store_facts.State.{books}
use Rattle.copy_commits.proofs.Coming.{fault_is, map_ok}
use Rattle.copy_commits.proofs.Placing.{pair_again, same_blob, sound_in, spellable_placed}
use Rattle.copy_commits.proofs.Stages.{behind_pair, blocks_held, by_pages, by_pair, none_there}
use Rattle.copy_commits.proofs.putting.put_copy.Goals as goal

pub copy_pages-requires-clause-empty : goal.copy_pages-requires-clause-empty
copy_pages-requires-clause-empty g c = λ p. ap (λ (t : List ℕ). slice_index t p) c.new-table.ensures ∙ no_blocks p

pub returns-in-Err-clause-any_moment : goal.returns-in-Err-clause-any_moment
returns-in-Err-clause-any_moment g c = λ t s name fresh v tables may.
    by_pages g.D.Disk s name fresh v c.args.from.now.0 c.args.store.now c.copy_pages.new.store tables c.args.atlas.now c.args.copy.now t (c.requires.true_books t) c.requires.working may c.copy_pages.ensures.goes_on.between

pub returns-in-Err-clause-failed : goal.returns-in-Err-clause-failed
returns-in-Err-clause-failed g c = λ e is.
    let why = c.in-Err.ensures.goes_on.failed c.requires.working in
    let same : c.fault_of.result ≡ e = cc is in
    (fault_is c.in-Err.fault c.fault_of.result e c.fault_of.ensures same, why.0, why.1)

pub place_pages-requires : goal.place_pages-requires
place_pages-requires g c = record {
  before = c.requires.place.before;
  begun = c.requires.place.begun;
  none_past = λ page past. none_there g.D.Disk c.args.from.now.0 c.copy_pages.new.table.0 c.args.store.now c.copy_pages.new.store c.in-Ok.ensures.copied page (c.requires.place.none_past page past);
}

pub commit_pair-requires-clause-may : goal.commit_pair-requires-clause-may
commit_pair-requires-clause-may g c =
    let go = c.copy_pages.ensures.goes_on.between.only in
    let now = (books c.copy_pages.new.store).held in
    let blocks = blocks_held g.D.Disk c.args.from.now.0 c.copy_pages.new.table.0 c.args.store.now c.copy_pages.new.store c.in-Ok.ensures.copied in
    pair_again (books c.args.store.now) (books c.copy_pages.new.store) go.same_logged go.same_place go.same_found c.args.atlas.now c.args.copy.now c.place_pages.new.cell c.requires.atlas.0 c.requires.atlas.1
    (ap (λ (x : Cell). x.clock) c.place_pages.ensures.only_part)
    (spellable_placed c.args.copy.now c.place_pages.new.cell c.copy_pages.new.table.0 c.args.from.now.0 c.requires.place c.place_pages.ensures now blocks c.requires.pair.second.spellable)
    (sound_in c.args.copy.now c.place_pages.new.cell c.copy_pages.new.table.0 c.args.from.now.0 c.requires.place c.place_pages.ensures now blocks)
    c.requires.pair

pub commit_pair-requires-clause-free : goal.commit_pair-requires-clause-free
commit_pair-requires-clause-free g c =
    let now = (books c.copy_pages.new.store).held in
    let blocks = blocks_held g.D.Disk c.args.from.now.0 c.copy_pages.new.table.0 c.args.store.now c.copy_pages.new.store c.in-Ok.ensures.copied in
    let same : blob_need c.place_pages.new.cell.part ≡ blob_need c.args.copy.now.part =
    same_blob c.args.copy.now c.place_pages.new.cell c.copy_pages.new.table.0 c.args.from.now.0 c.requires.place c.place_pages.ensures now blocks c.requires.pair.second.spellable.formed in
    left (blocks_in c.args.from.now.0) (blob_need c.args.atlas.now.part) (blob_need c.args.copy.now.part) (blob_need c.place_pages.new.cell.part) (free_in (books c.args.store.now)) (free_in (books c.copy_pages.new.store))
    c.requires.free c.in-Ok.ensures.copied.taken.free_is same
  where
    left : (pages a n m free now : ℕ) → pages + (a + n) ≤ free → now + pages ≡ free → m ≡ n → a + m ≤ now
    left pages a n m free now room is same = omega arith

pub returns-clause-any_moment : goal.returns-clause-any_moment
returns-clause-any_moment g c = λ t s name fresh v tables may.
    by_pair g.D.Disk s name fresh v c.args.from.now.0 c.args.store.now c.copy_pages.new.store tables c.args.atlas.now c.args.copy.now t (c.requires.true_books t) c.requires.working may c.copy_pages.ensures.goes_on.between
    c.copy_pages.new.table.0 c.in-Ok.ensures.copied c.requires.in_use c.held_law.ensures c.place_pages.new.cell c.requires.place c.place_pages.ensures c.requires.atlas.0 c.requires.atlas.1
    c.commit_pair.new.store (λ w ts are. c.commit_pair.ensures.any_moment t s name fresh v w ts are)

pub returns-clause-done : goal.returns-clause-done
returns-clause-done g c = λ t. map_ok c.commit_pair.result (c.commit_pair.ensures.done t) (λ done. λ s name fresh v tables may.
    behind_pair g.D.Disk s name fresh v c.args.from.now.0 c.args.store.now c.copy_pages.new.store tables c.args.atlas.now c.args.copy.now t (c.requires.true_books t) c.requires.working may c.copy_pages.ensures.goes_on.between
    c.copy_pages.new.table.0 c.in-Ok.ensures.copied c.requires.in_use c.held_law.ensures c.place_pages.new.cell c.requires.place c.place_pages.ensures c.requires.atlas.0 c.requires.atlas.1
    c.commit_pair.new.store (λ w ts are. done s name fresh v w ts are))
