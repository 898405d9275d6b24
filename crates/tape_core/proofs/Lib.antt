pub mod LabelLaws
pub mod Behind
pub mod BlockLaws
pub mod StateLaws
pub mod Ranges
pub mod Lists
pub mod Files
pub mod Aim
pub mod Fronts
pub mod AwaitedSection
pub mod HeaderSteps
pub mod DataSteps
pub mod BlockSteps
pub mod TrailerSteps
pub mod StraySteps
pub mod BadSteps
pub mod GoodSteps
pub mod PositionSteps
pub mod Steps
pub mod IdleSteps
pub mod ForeignLaws
pub mod PartPoints
pub mod OneFile
pub mod Delivering
pub mod Standing
pub mod Weights
pub mod WideSteps
pub mod WideBehind
mod WideLawful
pub mod WideReading
pub mod WideCopies
pub mod Laid
pub mod Crashes
pub mod Overlap
pub mod Labels
pub mod NormalForm
mod Cases
mod Examples
mod Mistakes
