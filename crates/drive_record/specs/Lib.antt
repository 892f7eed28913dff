pub mod Drive
pub mod ProgressLaws
pub mod WindowLaws
pub mod Example
