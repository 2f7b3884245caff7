use Rattle.store_books.proofs.Owners.{owned_once}
use Rattle.store_books.proofs.owned_law.Goals as goal

pub returns : goal.returns
returns c = owned_once
