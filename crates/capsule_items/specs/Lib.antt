-- What is handed out for an item. Assumes nothing.
pub mod Items
