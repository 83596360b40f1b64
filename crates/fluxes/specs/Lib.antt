pub mod Advections
pub mod Feeds
