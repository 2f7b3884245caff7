-- What a disk over a file counts.
use Rattle.std.specs.Prelude.{ℕ}
use Rattle.edge_streams.specs.declared.files.FileDisk.{FileDisk}

-- how many writes and syncs were begun
abbrev pub begun_on : FileDisk → ℕ
begun_on disk = disk.begun

-- how many calls have failed
abbrev pub faults_of_disk : FileDisk → ℕ
faults_of_disk disk = disk.faults
