mod Sessions
mod Unmade
mod LinesOfVolumes
mod ListedNames
pub mod Sizing
mod Mistakes
mod MistakesOfNames
mod Examples
mod ExamplesOfShowing
mod StageFaults
mod ExamplesOfWriting
mod ExamplesOfWords
