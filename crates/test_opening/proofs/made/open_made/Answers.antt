use Rattle.std.proofs.Common.{refl, arith}
use Rattle.test_opening.proofs.Nothing.{low_numbers, next_moment}
use Rattle.test_opening.proofs.made.open_made.Goals as goal

pub returns-in-Ok-open_image : goal.returns-in-Ok-open_image
returns-in-Ok-open_image g c t =
    let disk = g.met.D.Disk in
    let made = c.in-Ok.made in
    let opened = c.in-Ok-open_image.ensures.opened t in
    let next = next_moment (g.D.Disk.clock made) in (
      g.D.Disk.clock made,
      λ s p. opened.run _ next.0 c.requires.some refl (c.in-Ok.ensures.means t s (g.D.Disk.reading made) (disk.reads_now made t))
          (low_numbers c.args.blocks (g.D.Disk.reading made) (c.in-Ok.ensures.made t).formatted) refl next.1 (opened.synced next.0 next.1) (omega arith),
    )
