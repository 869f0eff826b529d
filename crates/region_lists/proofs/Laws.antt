-- The laws of the region-list check, as the code goes.
-- region lists
pub mod ListRecords
pub mod ListOrder
pub mod RegionCheck
-- the calls together
pub mod RegionCall
