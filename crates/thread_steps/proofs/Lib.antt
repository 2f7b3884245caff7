pub mod Numbers
pub mod Facing
pub mod OnePlan
pub mod FromTable
pub mod Arms
