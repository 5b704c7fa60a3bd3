pub mod Made
pub mod PairFiles
