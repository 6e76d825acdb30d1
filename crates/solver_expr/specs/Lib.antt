pub mod SolverExpr
pub mod Lowering
pub mod Operators
pub mod Print
pub mod Values
pub mod SymbolsHold
