-- The laws of the steps by which next rows come.
pub mod Laws
