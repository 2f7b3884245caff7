use Rattle.std.proofs.Common.{List, ap}
use Rattle.store_facts.specs.store_books.Books.{Logged, kept_in}
use Rattle.store_snapshots.proofs.laws.same_kept_law.Goals as goal

pub returns : goal.returns
returns g c a b old new m n p = ap (λ (ls : List Logged). kept_in (record old { logged = ls })) p.same_logged
