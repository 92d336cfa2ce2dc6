pub mod Certificates
pub mod Numbers
pub mod Texts
