mod Explaining
mod Shapes
mod Walks
mod Axioms
