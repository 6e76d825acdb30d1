mod OperatorCalls
mod OperatorTable
mod PrintCalls
