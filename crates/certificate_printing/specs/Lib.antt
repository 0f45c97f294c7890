pub mod Certificates
pub mod Findings
