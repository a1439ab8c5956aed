-- The definitions of the page environment: page sizes and orientations, margins, settings, and the places of dots.
pub mod Environment
pub mod Margins
pub mod PageSetup
pub mod Numbers
pub mod Place
pub mod Settings
