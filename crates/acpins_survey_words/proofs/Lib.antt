mod Ids
mod WidthText
