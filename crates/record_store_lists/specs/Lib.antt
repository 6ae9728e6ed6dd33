-- The stores of a change and of a repair. Assumes nothing.
pub mod ChangeStores
pub mod Lists
