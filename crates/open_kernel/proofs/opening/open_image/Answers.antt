use Rattle.std.proofs.Common.{◌≡◌, ◌⊎◌, inr, List}
use Rattle.edge_tally.specs.Counts.{Begins, shown}
use Rattle.edge_disk.specs.Image.{Image}
use Rattle.edge_disk.specs.Moments.{LeavesOnly}
use Rattle.open_image.specs.image_blocks.Checks.{Bad as BadPlace}
use Rattle.open_image.specs.open_facts.Images.{HasBegun, MeansSame, MeansSince, StopsShort, WasRefused}
use Rattle.kernel_core.specs.cell_states.declared.cells.Cell.{Cell}
use Rattle.edge_tally.proofs.Counting.{first_ended}
use Rattle.open_kernel.proofs.Begun.{came, clean_begun, failed, lives_begun, opens_begun}
use Rattle.open_kernel.proofs.Starting.{may_begin}
use Rattle.open_image.specs.store_facts.State.{State, books}
use Rattle.open_image.specs.store_snapshots.declared.opening.OpenWhy.{OpenWhy}
use Rattle.open_image.specs.store_snapshots.declared.opening.OpenWhy.TheVariants as why
use Rattle.open_kernel.proofs.opening.open_image.Goals as goal

pub begin-requires : goal.begin-requires
begin-requires g c = record {
  may = may_begin g.D.Disk c.args.frames c.args.steps c.in-Ok.opened.0 c.in-Ok.opened.1.items c.in-Ok.ensures.table (λ t. c.in-Ok.ensures.true_books t) c.requires.steps_few;
}

pub returns-clause-lives : goal.returns-clause-lives
returns-clause-lives g c t =
    lives_begun c.in-Ok.opened.0 c.in-Ok.opened.1.items c.begin.result g.D.Disk c.args.frames c.args.steps c.args.disk c.begin.ensures.parts c.begin.ensures.nothing c.in-Ok.ensures.table (c.in-Ok.ensures.starts t)

pub returns-clause-not_foreign : goal.returns-clause-not_foreign
returns-clause-not_foreign g c t accepted =
    failed c.in-Ok.opened.0 c.in-Ok.opened.1.items (λ f. f.why) (λ f. f.disk) c.begin.result (λ w d. (bad : BadPlace) → w ≡ why.Foreign bad → ⊥) c.begin.ensures.memory (λ bad is. absurd (cc is))

pub returns-clause-since : goal.returns-clause-since
returns-clause-since g c t room =
    let old = c.args.disk in
    let since = c.in-Ok.ensures.since t room in
    came c.in-Ok.opened.0 c.in-Ok.opened.1.items (λ f. f.why) (λ f. f.disk) c.begin.result
    (λ s cs. MeansSince g.D.Disk old s.disk)
    (λ w d. StopsShort g.D.Disk w old d ⊎ MeansSince g.D.Disk old d)
    c.begin.ensures.parts c.begin.ensures.memory since (inr since)

pub returns-clause-any_moment : goal.returns-clause-any_moment
returns-clause-any_moment g c t room =
    let old = c.args.disk in
    let leaves = c.in-Ok.ensures.any_moment t room in
    came c.in-Ok.opened.0 c.in-Ok.opened.1.items (λ f. f.why) (λ f. f.disk) c.begin.result
    (λ s cs. LeavesOnly g.D.Disk old s.disk (λ (i : Image). g.D.Disk.may_leave old i ⊎ MeansSame (g.D.Disk.reading old) i))
    (λ w d. LeavesOnly g.D.Disk old d (λ (i : Image). g.D.Disk.may_leave old i ⊎ MeansSame (g.D.Disk.reading old) i))
    c.begin.ensures.parts c.begin.ensures.memory leaves leaves

pub returns-clause-opened : goal.returns-clause-opened
returns-clause-opened g c t =
    let st : State g.row.D.Denot = c.in-Ok.opened.0 in
    opens_begun c.in-Ok.opened.0 c.in-Ok.opened.1.items c.begin.result g.D.Disk c.args.frames c.args.steps c.args.disk c.begin.ensures.parts c.begin.ensures.nothing c.in-Ok.ensures.table c.requires.steps_few
    (c.in-Ok.ensures.means t) (c.in-Ok.ensures.starts t)
    (λ first. first_ended 138 (g.D.Disk.block_count c.args.disk) (g.D.Disk.block_count st.disk) (g.D.Disk.faults c.args.disk) (g.D.Disk.faults st.disk) (g.D.Disk.clock c.args.disk) (g.D.Disk.clock st.disk) (books st).begun first
    c.in-Ok.ensures.begins c.in-Ok.ensures.table.opened.synced)

pub returns-clause-clean : goal.returns-clause-clean
returns-clause-clean g c s =
    clean_begun c.in-Ok.opened.0 c.in-Ok.opened.1.items c.begin.result g.D.Disk s c.begin.ensures.parts (c.in-Ok.ensures.table.clean s)

pub returns-clause-refused : goal.returns-clause-refused
returns-clause-refused g c =
    failed c.in-Ok.opened.0 c.in-Ok.opened.1.items (λ f. f.why) (λ f. f.disk) c.begin.result
    (λ w d. (bad : BadPlace) → w ≡ why.Foreign bad → WasRefused g.D.Disk c.args.disk d)
    c.begin.ensures.memory (λ bad is. absurd (cc is))

pub returns-clause-begins : goal.returns-clause-begins
returns-clause-begins g c =
    let old = c.args.disk in
    let st : State g.row.D.Denot = c.in-Ok.opened.0 in
    let begins = c.in-Ok.ensures.begins in
    came st c.in-Ok.opened.1.items (λ f. f.why) (λ f. f.disk) c.begin.result
    (λ s cs. Begins 138 (shown g.D.Disk old 0) (shown g.D.Disk s.disk (books s).begun))
    (λ w d. HasBegun g.D.Disk 138 0 old d)
    c.begin.ensures.parts c.begin.ensures.memory begins ((books st).begun, begins)
