use Rattle.std.proofs.Common.{refl}
use Rattle.store_commit.proofs.Chunks.{filled_from}
use Rattle.store_commit.proofs.spelled.filled_up.Goals as goal

pub returns : goal.returns
returns c = filled_from c.args.bytes.now c.copy_from_slice.new.self _ c.copy_from_slice.ensures.after refl
