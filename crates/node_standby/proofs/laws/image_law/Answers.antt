use Rattle.node_standby.proofs.Taking.{image_between}
use Rattle.node_standby.specs.Following.{most_in}
use Rattle.node_standby.proofs.laws.image_law.Goals as goal

pub returns : goal.returns
returns g c b es st image t f may = image_between b es st.count (most_in st) image (f.left t image may)
