mod LayoutText
mod RowText
