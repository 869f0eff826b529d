-- What the passes over a list give.
pub mod RegionList
