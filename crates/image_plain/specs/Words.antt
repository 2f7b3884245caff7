-- The words of a container, of which some are kept by their addresses.
use Rattle.std.specs.Prelude.{ℕ, ◌/◌, ◌%◌, unwrap_or}
use Rattle.std.specs.BTreeMap.{BTreeMap, get}
use Rattle.std.specs.Ordering.{nat_cmp}
use Rattle.plain_states.specs.model_kernel.State.{Supply}

-- those that are kept, and the supplier's at other addresses
abbrev pub words_with : Supply → ℕ → BTreeMap ℕ ℕ → ℕ → ℕ
words_with s tag words address = unwrap_or (get nat_cmp words address) (s tag (address / 128) (address % 128))
