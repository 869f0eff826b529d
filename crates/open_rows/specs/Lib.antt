-- What a list lacks, and what is known of its rows.
pub mod Leading
