use Rattle.store_books.specs.Between.{Between-join, Between-stay}
use Rattle.store_books.proofs.pages_only_law.Goals as goal

pub returns-clause-stay : goal.returns-clause-stay
returns-clause-stay g c = λ a books n. Between-stay g.D.Disk a books n (λ c told left. g.met.D.Disk.only_now a c told left)

pub returns-clause-join : goal.returns-clause-join
returns-clause-join g c = Between-join g.D.Disk
