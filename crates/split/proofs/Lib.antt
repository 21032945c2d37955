pub mod Letters
pub mod Made
pub mod Next
pub mod Tables
