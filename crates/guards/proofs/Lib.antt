-- Laws of guard lists: reading them (Laws), which are accepted, and that line order has no meaning (Listed), the guard of each variable, and
-- where a list is refused (Named).
pub mod Laws
pub mod Listed
pub mod Named
