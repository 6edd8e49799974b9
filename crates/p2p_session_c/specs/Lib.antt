pub mod Keys33_64
pub mod Keys48_96
pub mod Keys96_48
