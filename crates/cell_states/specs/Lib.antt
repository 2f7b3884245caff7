pub mod Cells
pub mod Steps
pub mod Wishes
pub use Rattle.act_calls.specs.act_alone
pub use Rattle.act_calls.specs as act_calls
pub use Rattle.base_types.specs as base_types
pub use Rattle.cell_clocks.specs as cell_clocks
pub use Rattle.cell_clocks.specs.data_stamps
pub use Rattle.act_calls.specs.model_act_facts
pub use Rattle.act_calls.specs.model_acts
pub use Rattle.cell_clocks.specs.model_kernel
pub use Rattle.page_memory.specs as page_memory
