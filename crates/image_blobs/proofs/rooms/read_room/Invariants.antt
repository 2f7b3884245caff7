use Rattle.std.proofs.Common.{◌≡◌, ◌≤◌, ◌*◌, length, map, take}
use Rattle.std.specs.List.{concat}
use Rattle.edge_disk.specs.Image.{block_at}
use Rattle.log_reading.specs.log_facts.Reads.{ReadsOnly}
use Rattle.image_blobs.proofs.rooms.read_room.Given as goal

abbrev pub invariant-loop-at : goal.invariant-loop-at
invariant-loop-at g l =
    let disk = g.D.Disk in
    record {
      long : length l.room ≡ 1024 * l.at-index;
      later : disk.faults l.fn.disk ≤ disk.faults l.disk;
      bytes : disk.tells → l.room ≡ concat (map (block_at (disk.reading l.fn.disk)) (take l.at-index l.blocks));
      same : ReadsOnly disk l.fn.disk l.disk;
    }
