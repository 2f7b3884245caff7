pub mod Versions
pub mod StepEntries
pub use Rattle.model_cut_laws.specs as model_cut_laws
pub use Rattle.model_cut_laws.specs.model_kernel
