pub mod Parts
pub use Rattle.image_chosen_facts.specs.act_alone
pub use Rattle.image_chosen_facts.specs.blob_reading
pub use Rattle.image_blocks.specs as image_blocks
pub use Rattle.image_chosen_facts.specs as image_chosen_facts
pub use Rattle.image_blocks.specs.image_facts
pub use Rattle.image_chosen_facts.specs.image_fits
pub use Rattle.image_chosen_facts.specs.log_facts
pub use Rattle.image_chosen_facts.specs.log_reading
