-- Laws: marks and replies told by their lines.
pub mod Laws
