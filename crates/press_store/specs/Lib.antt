-- Things under their IDs, each temporary or permanent.
pub mod Things
