use Rattle.kernel_views.proofs.Following.{cells_follow, follows}
use Rattle.kernel_views.proofs.follows_law.Goals as goal

pub returns-clause-follows : goal.returns-clause-follows
returns-clause-follows c b es image cs bk marks stop begins legal num f = follows b es image cs num legal f bk marks stop

pub returns-clause-cells : goal.returns-clause-cells
returns-clause-cells c b es image cs bk marks stop num fol = cells_follow b es image cs num bk marks stop fol
