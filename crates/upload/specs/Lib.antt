-- The pages that accepted bytes end.
pub mod Pages
