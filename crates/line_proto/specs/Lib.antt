pub mod Forms
pub mod Grammar
pub mod Requests
pub mod Services
pub mod Texts
