pub mod Looking
pub use Rattle.act_look.specs.act_alone
pub use Rattle.act_look.specs as act_look
pub use Rattle.cell_states.specs.cell_clocks
pub use Rattle.cell_states.specs as cell_states
pub use Rattle.act_look.specs.data_frames
pub use Rattle.act_look.specs.edge_disk
pub use Rattle.cell_states.specs.data_stamps
pub use Rattle.act_look.specs.page_memory
