-- The laws of a disk that tells nothing of its content.
use Rattle.std.proofs.Common.{ℕ, ◌<◌, ◌^◌, arith}

-- the numbers of a file's blocks have 32 bits
pub file_countable : 65536 < 2 ^ 32
file_countable = omega arith
