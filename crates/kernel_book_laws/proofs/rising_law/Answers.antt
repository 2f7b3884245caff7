use Rattle.kernel_book_laws.proofs.Keeping.{rises}
use Rattle.kernel_book_laws.proofs.rising_law.Goals as goal

pub returns-clause-rises : goal.returns-clause-rises
returns-clause-rises g c = rises

pub returns-clause-pages : goal.returns-clause-pages
returns-clause-pages g c a b old new m n p = record { same_logged = p.same_logged; same_found = p.same_found }
