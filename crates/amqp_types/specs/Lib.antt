pub mod Rows
pub mod Arrays
pub mod Texts
pub mod OrderedMaps
pub mod Drains
pub mod Descriptors
pub mod Printed
