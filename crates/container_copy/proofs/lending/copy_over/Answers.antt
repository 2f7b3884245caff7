use Rattle.std.proofs.Common.{◌≡◌, ◌≢◌, ◌+◌, ◌≤◌, ◌∙◌, ℕ, true, List, refl, sym, ap, subst, arith}
use Rattle.std.specs.Prelude.{Err, IsErrOf, slice_index}
use Rattle.cell_copies.specs.Copying.{MayPlace}
use Rattle.store_snapshots.specs.Paging.{GoesByPages-stay}
use Rattle.copy_commits.specs.Putting.{MayPutCopy}
use Rattle.copy_commits.specs.store_facts.State.{books}
use Rattle.copy_commits.proofs.Coming.{any_ok, map_ok}
use Rattle.copy_commits.proofs.Stages.{by_pages}
use Rattle.container_copy.proofs.Facing.{cells_need, directory_then, formed_atlas, formed_copy, from_is, in_use, may_pair, may_place, may_put}
use Rattle.page_placing.specs.Copying.{blocks_in}
use Rattle.kernel_record_facts.specs.cell_blobs.Blobs.{blob_need}
use Rattle.copy_commits.specs.kernel_records.store_books.Books.{free_in}
use Rattle.edge_disk.specs.declared.disk.NoBlocks.{NoBlocks}
use Rattle.store_snapshots.specs.declared.faults.StoreFault.TheVariants as fault
use Rattle.container_copy.specs.Needs.{CellsNeed, IsShort}
use Rattle.container_copy.proofs.lending.copy_over.Goals as goal

same_short : (a b : NoBlocks) → IsErrOf {T = Unit {0}} (Err (fault.NoBlocks a)) (fault.NoBlocks b) → a ≡ b
same_short a b e = cc e

pub copy_cells-requires-clause-may : goal.copy_cells-requires-clause-may
copy_cells-requires-clause-may g c = (let f = c.requires.faces in (f.directory, f.head, f.from, f.is_atlas, f.may))

pub need_of-need-requires : goal.need_of-need-requires
need_of-need-requires g c =
    let e = c.copy_cells.ensures in record {
      formed = (
        formed_atlas (books c.args.store.now) c.args.fresh.now c.args.atlas.now c.args.source.now c.args.newborn.now c.copy_cells.new.atlas c.copy_cells.new.newborn c.requires.faces e.copied e.entities.0 e.entities.1 e.blank,
        formed_copy (books c.args.store.now) c.args.fresh.now c.args.atlas.now c.args.source.now c.args.newborn.now c.copy_cells.new.atlas c.copy_cells.new.newborn c.requires.faces e.copied e.entities.0 e.entities.1 e.blank,
      );
    }

pub put_copy-requires-clause-pair : goal.put_copy-requires-clause-pair
put_copy-requires-clause-pair g c =
    let e = c.copy_cells.ensures in
    may_pair (books c.args.store.now) c.args.fresh.now c.args.atlas.now c.args.source.now c.args.newborn.now c.copy_cells.new.atlas c.copy_cells.new.newborn c.requires.faces e.copied e.entities.0 e.entities.1 e.blank

pub put_copy-requires-clause-atlas : goal.put_copy-requires-clause-atlas
put_copy-requires-clause-atlas g c =
    let e = c.copy_cells.ensures in
    directory_then (books c.args.store.now) c.args.fresh.now c.args.atlas.now c.args.source.now c.args.newborn.now c.copy_cells.new.atlas c.copy_cells.new.newborn c.requires.faces e.copied e.entities.0 e.entities.1 e.blank

pub put_copy-requires-clause-place : goal.put_copy-requires-clause-place
put_copy-requires-clause-place g c =
    let e = c.copy_cells.ensures in
    let is = c.table_of-from.ensures ∙ from_is (books c.args.store.now) c.args.fresh.now c.args.atlas.now c.args.source.now c.args.newborn.now c.copy_cells.new.atlas c.copy_cells.new.newborn c.requires.faces e.copied e.entities.0 e.entities.1 e.blank in
    subst (MayPlace c.copy_cells.new.newborn.part) (sym is)
    (may_place (books c.args.store.now) c.args.fresh.now c.args.atlas.now c.args.source.now c.args.newborn.now c.copy_cells.new.atlas c.copy_cells.new.newborn c.requires.faces e.copied e.entities.0 e.entities.1 e.blank)

pub put_copy-requires-clause-in_use : goal.put_copy-requires-clause-in_use
put_copy-requires-clause-in_use g c =
    let e = c.copy_cells.ensures in
    let is = c.table_of-from.ensures ∙ from_is (books c.args.store.now) c.args.fresh.now c.args.atlas.now c.args.source.now c.args.newborn.now c.copy_cells.new.atlas c.copy_cells.new.newborn c.requires.faces e.copied e.entities.0 e.entities.1 e.blank in
    subst (λ (t : List ℕ). (p : ℕ) → slice_index t p ≢ 0 → (books c.args.store.now).held (slice_index t p) ≡ true) (sym is)
    (in_use (books c.args.store.now) c.args.fresh.now c.args.atlas.now c.args.source.now c.args.newborn.now c.copy_cells.new.atlas c.copy_cells.new.newborn c.requires.faces e.copied e.entities.0 e.entities.1 e.blank)

pub returns-then-free-need-clause-any_moment : goal.returns-then-free-need-clause-any_moment
returns-then-free-need-clause-any_moment g c = λ t s name v tables named st.
    let e = c.copy_cells.ensures in
    by_pages g.D.Disk s name c.args.fresh.now v c.requires.faces.from c.args.store.now c.args.store.now tables c.copy_cells.new.atlas c.copy_cells.new.newborn t (c.requires.true_books t) c.requires.working
    (may_put (books c.args.store.now) c.args.fresh.now c.args.atlas.now c.args.source.now c.args.newborn.now c.copy_cells.new.atlas c.copy_cells.new.newborn c.requires.faces e.copied e.entities.0 e.entities.1 e.blank
    s name v (g.D.Disk.reading c.args.store.now.disk) tables named st)
    (GoesByPages-stay g.D.Disk c.args.store.now (λ image told left. g.met.D.Disk.only_now c.args.store.now.disk image told left))

pub returns-clause-any_moment : goal.returns-clause-any_moment
returns-clause-any_moment g c = λ t s name v tables named st.
    let e = c.copy_cells.ensures in
    let is = c.table_of-from.ensures ∙ from_is (books c.args.store.now) c.args.fresh.now c.args.atlas.now c.args.source.now c.args.newborn.now c.copy_cells.new.atlas c.copy_cells.new.newborn c.requires.faces e.copied e.entities.0 e.entities.1 e.blank in
    c.put_copy.ensures.any_moment t s name c.args.fresh.now v tables
    (subst (λ (from : List ℕ). MayPutCopy s name c.args.fresh.now v (g.D.Disk.reading c.args.store.now.disk) (books c.args.store.now) tables from c.copy_cells.new.atlas c.copy_cells.new.newborn) (sym is)
    (may_put (books c.args.store.now) c.args.fresh.now c.args.atlas.now c.args.source.now c.args.newborn.now c.copy_cells.new.atlas c.copy_cells.new.newborn c.requires.faces e.copied e.entities.0 e.entities.1 e.blank
    s name v (g.D.Disk.reading c.args.store.now.disk) tables named st))

pub returns-clause-done : goal.returns-clause-done
returns-clause-done g c = λ t. map_ok c.put_copy.result (c.put_copy.ensures.done t) (λ done. λ s name v tables named st.
    let e = c.copy_cells.ensures in
    let is = c.table_of-from.ensures ∙ from_is (books c.args.store.now) c.args.fresh.now c.args.atlas.now c.args.source.now c.args.newborn.now c.copy_cells.new.atlas c.copy_cells.new.newborn c.requires.faces e.copied e.entities.0 e.entities.1 e.blank in
    done s name c.args.fresh.now v tables
    (subst (λ (from : List ℕ). MayPutCopy s name c.args.fresh.now v (g.D.Disk.reading c.args.store.now.disk) (books c.args.store.now) tables from c.copy_cells.new.atlas c.copy_cells.new.newborn) (sym is)
    (may_put (books c.args.store.now) c.args.fresh.now c.args.atlas.now c.args.source.now c.args.newborn.now c.copy_cells.new.atlas c.copy_cells.new.newborn c.requires.faces e.copied e.entities.0 e.entities.1 e.blank
    s name v (g.D.Disk.reading c.args.store.now.disk) tables named st)))

pub returns-then-free-need-clause-no_blocks : goal.returns-then-free-need-clause-no_blocks
returns-then-free-need-clause-no_blocks g c = λ m is.
    let e = c.copy_cells.ensures in
    let k = c.need_of-need.ensures in
    let short : NoBlocks = record { need = c.need_of-need.result; free = c.free-free.result } in
    let same : short ≡ m = same_short short m is in
    let need = k.need ∙ ap (λ (t : List ℕ). blocks_in t + (blob_need c.copy_cells.new.atlas.part + blob_need c.copy_cells.new.newborn.part)) c.table_of-from.ensures in (
      refl,
      subst (IsShort (books c.args.store.now)) same (record { fewer = c.if-free-need.true; most = k.most; free_is = c.free-free.ensures }),
      subst (λ (b : NoBlocks). CellsNeed c.args.fresh.now c.args.atlas.now c.args.source.now c.args.newborn.now b.need) same
          (cells_need (books c.args.store.now) c.args.fresh.now c.args.atlas.now c.args.source.now c.args.newborn.now c.copy_cells.new.atlas c.copy_cells.new.newborn c.requires.faces e.copied e.entities.0 e.entities.1 e.blank c.need_of-need.result need),
    )

pub returns-clause-room : goal.returns-clause-room
returns-clause-room g c =
    let e = c.copy_cells.ensures in
    let k = c.need_of-need.ensures in
    let need = k.need ∙ ap (λ (t : List ℕ). blocks_in t + (blob_need c.copy_cells.new.atlas.part + blob_need c.copy_cells.new.newborn.part)) c.table_of-from.ensures in
    let enough : c.need_of-need.result ≤ free_in (books c.args.store.now) = (let is = c.free-free.ensures in let le = c.if-free-need.false in omega (arith, is, le)) in
    any_ok c.put_copy.result
    (c.need_of-need.result, enough, cells_need (books c.args.store.now) c.args.fresh.now c.args.atlas.now c.args.source.now c.args.newborn.now c.copy_cells.new.atlas c.copy_cells.new.newborn c.requires.faces e.copied e.entities.0 e.entities.1 e.blank c.need_of-need.result need)
