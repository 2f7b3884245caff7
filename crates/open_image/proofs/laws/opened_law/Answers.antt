use Rattle.open_facts.proofs.Owned.{rows_owned}
use Rattle.open_facts.proofs.Stored.{rows_chosen, rows_placed, rows_spelt}
use Rattle.open_image.proofs.laws.opened_law.Goals as goal

pub returns-clause-placed : goal.returns-clause-placed
returns-clause-placed g c log parts tables st is = rows_placed log parts tables st is

pub returns-clause-spelt : goal.returns-clause-spelt
returns-clause-spelt g c log parts tables st image is w = rows_spelt log parts tables st is image w

pub returns-clause-kept : goal.returns-clause-kept
returns-clause-kept g c log parts tables st new image is kept w = rows_chosen log parts tables st is image w new kept

pub returns-clause-owned : goal.returns-clause-owned
returns-clause-owned g c log parts tables st new working is kept free have = rows_owned log parts tables st new working is kept free have
