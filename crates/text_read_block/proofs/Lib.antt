pub mod Forms
pub mod PortLines
pub mod ProvisionLines
pub mod BlockLines
