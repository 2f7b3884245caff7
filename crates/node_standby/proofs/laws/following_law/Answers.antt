use Rattle.node_standby.proofs.Following.{follows_more}
use Rattle.node_standby.proofs.Taking.{may_take}
use Rattle.node_standby.proofs.laws.following_law.Goals as goal

pub returns-clause-may : goal.returns-clause-may
returns-clause-may g c b es st s f at working = may_take g.D.Disk b es st.count s st.store f at working

pub returns-clause-more : goal.returns-clause-more
returns-clause-more g c b es fs st legal f = follows_more g.D.Disk b es fs st legal f
