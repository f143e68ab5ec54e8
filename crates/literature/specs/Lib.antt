pub mod Agreement
pub mod Priorities
pub mod Systems
