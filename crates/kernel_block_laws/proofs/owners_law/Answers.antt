use Rattle.kernel_block_laws.proofs.Owned.{kept_before, owned_more}
use Rattle.kernel_block_laws.proofs.owners_law.Goals as goal

pub returns-clause-kept : goal.returns-clause-kept
returns-clause-kept c count old new l m fit more log within = kept_before count old new l log fit more m within

pub returns-clause-owned : goal.returns-clause-owned
returns-clause-owned c count old new tables l o fit more p = owned_more count old new tables l o fit more p
