pub mod JsonPuts
