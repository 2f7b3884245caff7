use Rattle.std.proofs.Common.{ap, ◌∙◌, get_or}
use Rattle.data_stamps.specs.Stamps.{component}
use Rattle.trace_state.specs.Clocks.{no_stamp}
use Rattle.trace_state.proofs.Joining.{nothing_told}
use Rattle.trace_state.proofs.clocks.Clocks.new.Goals as goal

pub returns : goal.returns
returns c = λ x y. ap (λ xs. component (get_or xs x no_stamp) y) c.in_ok-stamps.ensures.items ∙ nothing_told c.new-stamp.result x y (c.new-stamp.ensures y)
