pub mod ChecksByLinks
