pub mod Draws
pub mod Lines
pub mod Shares
pub mod Texts
pub mod Totals
pub mod Deletes
