pub mod JsonPutting
pub mod ZippedLines
pub mod JsonPlaces
pub mod JsonReasons
pub mod JsonLines
pub mod JsonLabels
pub mod JsonFraming
