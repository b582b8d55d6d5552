pub mod QuestionLimits
pub mod Fits
