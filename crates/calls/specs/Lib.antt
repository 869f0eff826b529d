-- What a reader must believe: the run list, the region list, following, and what their answers mean.
pub mod RunFile
pub mod RegionFile
pub mod Follow
pub mod Making
pub mod Text
pub mod Program
pub mod Meaning
