pub mod FoundByName
