-- Laws of the rules for one operation.
mod Laws
