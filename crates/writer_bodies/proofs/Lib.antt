pub mod Drafted
pub mod NewTexts
pub mod Named
pub mod NewTerms
pub mod NewContexts
pub mod NewLists
pub mod AppendedTerm
pub mod Made
