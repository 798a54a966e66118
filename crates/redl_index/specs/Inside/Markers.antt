-- How markers and ends are found, and which positions are free of markers.
pub mod Free
pub mod Trails
pub mod Finding
