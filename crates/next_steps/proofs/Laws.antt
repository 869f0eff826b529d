-- The laws of the steps by which next rows come.
pub mod Steps
pub mod Asking
pub mod Sources
pub mod Following
pub mod Walking
