pub mod Every
pub mod Terms
pub mod Sections
pub mod EachSection
pub mod Paths
pub mod Words
pub mod ExtendsNodes
pub mod KindNumbers
