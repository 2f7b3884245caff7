pub mod Growth
pub mod Circles
pub mod RegionLists
pub mod MadeNames
pub mod Lists
pub mod LocusEdits
pub mod Cells
pub mod OwnActs
pub mod ContainerActs
pub mod Leaving
pub mod Mappings
pub mod Newborns
pub mod Steps
pub use Rattle.model_circles.proofs as model_circles_lemmas
pub use Rattle.model_kernel.proofs as model_kernel_lemmas
