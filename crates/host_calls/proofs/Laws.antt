-- The laws of the host's calls.
pub mod HostCalls
