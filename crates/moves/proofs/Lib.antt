mod Known
mod MoveCall
mod AskCall
