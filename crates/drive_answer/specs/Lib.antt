pub mod Driver
pub mod Drove
pub mod DriveLaws
