pub mod MakingLaws
pub mod Results
pub mod ResultLaws
pub mod Making
