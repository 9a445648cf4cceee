pub mod ClaimOrder
