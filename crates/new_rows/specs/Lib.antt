-- What is found of a row's next rows.
pub mod New
