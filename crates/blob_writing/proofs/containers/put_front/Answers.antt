use Rattle.std.proofs.Common.{append_assoc}
use Rattle.blob_writing.proofs.containers.put_front.Goals as goal

pub returns-clause-front : goal.returns-clause-front
returns-clause-front c = rw (c.push-2.ensures, c.put_u32.ensures, c.put_u64.ensures, c.put_u16.ensures, c.push.ensures, c.entry_byte.ensures) (simp append_assoc)
