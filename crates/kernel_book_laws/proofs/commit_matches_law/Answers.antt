use Rattle.kernel_book_laws.proofs.Keeping.{again, unmade}
use Rattle.kernel_book_laws.proofs.commit_matches_law.Goals as goal

pub returns-clause-made : goal.returns-clause-made
returns-clause-made g c most more cs cs' a d old new m lends changed room h =
    again g.D.Disk most cs cs' a d old new m lends more changed room h

pub returns-clause-unmade : goal.returns-clause-unmade
returns-clause-unmade g c most cs cs' a d old new m lends h =
    unmade g.D.Disk most cs cs' a d old new m lends h
