use Rattle.store_books.specs.Between.{stores_left}
use Rattle.store_books.proofs.stored_law.Goals as goal

pub returns : goal.returns
returns g c = λ b disk. stores_left g.D.Disk disk b
