-- Step holds the one step between an index and a message.
pub mod Step
pub mod StepLaws
