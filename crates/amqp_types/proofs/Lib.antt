pub mod OrderedMapsAlike
pub mod MapOrder
