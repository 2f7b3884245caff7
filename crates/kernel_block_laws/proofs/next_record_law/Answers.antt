use Rattle.kernel_block_laws.proofs.Next.{all_newer, grown, kept_room}
use Rattle.kernel_block_laws.proofs.next_record_law.Goals as goal

pub returns-clause-room : goal.returns-clause-room
returns-clause-room c b es cs later bk right legal is a thin = kept_room cs bk thin a b es later right legal is

pub returns-clause-newer : goal.returns-clause-newer
returns-clause-newer c b es cs later m bk legal is a thin = all_newer cs bk thin a b es later m legal is

pub returns-clause-grows : goal.returns-clause-grows
returns-clause-grows c cs l bk new a thin log thin_new = grown cs bk thin a l new log thin_new
