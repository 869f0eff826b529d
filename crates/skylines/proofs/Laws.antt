-- The laws of skylines.
pub mod NoFurther
pub mod NoNext
pub mod Reach
pub mod Covered
pub mod Sides
pub mod SideTests
pub mod Alike
