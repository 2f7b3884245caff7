use Rattle.std.proofs.Common.{◌⊎◌, inr, List, sym, subst, ap, ◌∙◌}
use Rattle.edge_disk.specs.Image.{Image}
use Rattle.edge_disk.specs.Moments.{LeavesOnly}
use Rattle.open_facts.specs.store_facts.State.{State, books}
use Rattle.open_facts.specs.cell_states.declared.cells.Cell.{Cell}
use Rattle.open_facts.specs.store_books.Books.{logged_recs}
use Rattle.open_facts.specs.Images.{HasBegun, IsOpened, MeansSame, MeansSince}
use Rattle.open_facts.proofs.Newest.{newest_in_books}
use Rattle.open_facts.proofs.Starting.{starts}
use Rattle.open_image.proofs.opening.open_parts.Goals as goal

pub returns-in-Ok-cells_of-clause-table : goal.returns-in-Ok-cells_of-clause-table
returns-in-Ok-cells_of-clause-table g c =
    let st : State g.row.D.Denot = c.in-Ok.kept.0 in
    let o : IsOpened st c.in-Ok.kept.1 = c.in-Ok.ensures.opened in
    record {
      parts = c.in-Ok.kept.1;
      opened = o;
      orderly = c.in-Ok-cells_of.ensures.orderly o.log.blocks o.log (books st).held o.known o.parts_are o.held;
      newest = newest_in_books c.args.frames c.args.steps st c.in-Ok.kept.1 c.in-Ok-cells_of.cells.items o c.in-Ok-cells_of.ensures.chosen;
      frames_are = c.in-Ok-cells_of.ensures.frames;
      wishes = c.in-Ok-cells_of.ensures.wishes;
      clean = c.in-Ok-cells_of.ensures.clean;
    }

pub returns-in-Ok-cells_of-clause-means : goal.returns-in-Ok-cells_of-clause-means
returns-in-Ok-cells_of-clause-means g c t =
    let o : IsOpened c.in-Ok.kept.0 c.in-Ok.kept.1 = c.in-Ok.ensures.opened in
    let h = c.in-Ok.ensures.holds t in
    record {
      accepted = h.accepted.whole;
      count = h.count;
      recs = ap logged_recs (sym o.all_kept) ∙ h.keeps.recs;
      means = λ s. c.in-Ok-cells_of.ensures.state h.log (g.D.Disk.reading c.args.disk) s h.parts_are h.accepted;
    }

pub returns-in-Ok-cells_of-clause-starts : goal.returns-in-Ok-cells_of-clause-starts
returns-in-Ok-cells_of-clause-starts g c t =
    let st : State g.row.D.Denot = c.in-Ok.kept.0 in
    let parts = c.in-Ok.kept.1 in
    let cs : List Cell = c.in-Ok-cells_of.cells.items in
    let o : IsOpened st parts = c.in-Ok.ensures.opened in
    starts g.D.Disk t c.args.disk st parts c.args.steps cs o (c.in-Ok.ensures.holds t)
    (c.in-Ok-cells_of.ensures.orderly o.log.blocks o.log (books st).held o.known o.parts_are o.held) c.in-Ok-cells_of.ensures.tables c.in-Ok-cells_of.ensures.wishes c.in-Ok-cells_of.ensures.state
    (c.in-Ok.ensures.since t) c.in-Ok.ensures.begins

pub returns-in-Err-cells_of-clause-since : goal.returns-in-Err-cells_of-clause-since
returns-in-Err-cells_of-clause-since g c t room =
    inr (subst (λ (d : g.row.D.Denot). MeansSince g.D.Disk c.args.disk d) (sym c.into_disk.ensures) (c.in-Ok.ensures.since t room))

pub returns-in-Err-cells_of-clause-any_moment : goal.returns-in-Err-cells_of-clause-any_moment
returns-in-Err-cells_of-clause-any_moment g c t room =
    let old = c.args.disk in
    subst (λ (d : g.row.D.Denot). LeavesOnly g.D.Disk old d (λ (i : Image). g.D.Disk.may_leave old i ⊎ MeansSame (g.D.Disk.reading old) i)) (sym c.into_disk.ensures) (c.in-Ok.ensures.any_moment t room)

pub returns-in-Err-cells_of-clause-begins : goal.returns-in-Err-cells_of-clause-begins
returns-in-Err-cells_of-clause-begins g c =
    subst (λ (d : g.row.D.Denot). HasBegun g.D.Disk 138 0 c.args.disk d) (sym c.into_disk.ensures) ((books c.in-Ok.kept.0).begun, c.in-Ok.ensures.begins)
