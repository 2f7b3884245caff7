use Rattle.std.proofs.Common.{◌≡◌, ◌≤◌, ◌*◌, length, map, take}
use Rattle.std.specs.List.{concat}
use Rattle.edge_disk.specs.Image.{block_at}
use Rattle.store_facts.specs.log_facts.Reads.{ReadsOnly}
use Rattle.store_facts.specs.Rests.{IsRest}
use Rattle.store_snapshots.proofs.blob_reading.read_blocks.Given as goal

abbrev pub invariant-loop-i : goal.invariant-loop-i
invariant-loop-i g l =
    let disk = g.D.Disk in
    record {
      few : (length l.out ≤ 1024 * l.i) × (length l.out ≤ l.most);
      later : disk.faults l.fn.disk ≤ disk.faults l.disk;
      rest : disk.tells → IsRest (concat (map (block_at (disk.reading l.fn.disk)) (take l.i l.blocks))) l.most l.rest;
      bytes : disk.tells → l.out ≡ take l.most (concat (map (block_at (disk.reading l.fn.disk)) (take l.i l.blocks)));
      same : ReadsOnly disk l.fn.disk l.disk;
    }
