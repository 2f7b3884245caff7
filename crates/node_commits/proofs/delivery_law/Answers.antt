use Rattle.node_commits.proofs.Delivering.{delivered, delivered_moments}
use Rattle.node_commits.proofs.Standing.{delivered_books}
use Rattle.node_commits.proofs.delivery_law.Goals as goal

pub returns-clause-image : goal.returns-clause-image
returns-clause-image g c b es cs one image at bk entity version stamp blob table k s st = delivered b es cs one image bk entity version stamp blob table k s at st

pub returns-clause-moments : goal.returns-clause-moments
returns-clause-moments g c = delivered_moments g.D.Disk

pub returns-clause-books : goal.returns-clause-books
returns-clause-books g c = delivered_books
