pub mod Blocks
pub mod Places
pub mod Notes
pub mod Finals
pub mod ByTable
pub mod Images
pub mod Mounts
pub mod Reels
pub mod Ended
pub mod Lead
pub mod Headline
pub mod Sessions
pub mod Answered
pub mod Begin
pub mod Back
pub mod Crashes
pub mod Growing
pub mod Made
mod RunSoFar
pub mod CrashRuns
pub mod PlainSets
pub mod PlainShape
pub mod PlainSteps
pub mod ReadableSteps
pub mod ReadableMounts
pub mod ReadableRuns
pub mod SectionsMet
pub mod Shown
pub mod ShownSections
pub mod Inserting
pub mod KeepingPlaces
pub mod NotedSoFar
pub mod Noting
pub mod GoesBehind
pub mod GoesBehindReels
pub mod BehindReads
pub mod LocatedReaders
pub mod LocatedParts
pub mod Located
pub mod SectionRuns
pub mod StayingGood
pub mod NothingLacks
pub mod WholeVolumes
pub mod WholeSets
pub mod WholeCopies
pub mod Lacking
pub mod Lasting
pub mod Walked
pub mod Causes
pub mod Left
pub mod Listing
pub mod Fronts
pub mod Completes
pub mod SameBytes
pub mod Comparing
pub mod ComparedBlocks
pub mod ComparedItems
pub mod ComparedSinks
pub mod WorkedReels
pub mod WorkedHistory
mod WorkedDays
pub mod Fitting
mod ListLines
mod ListedSoFar
mod ListExamples
mod PlacedExamples
mod WithoutOffsets
mod Reporting
pub mod ContainerSteps
pub mod SurveyDigest
pub mod SurveyCompared
pub mod SurveyCopies
pub mod SurveyShown
pub mod SurveyAgreed
mod SurveyConflicts
mod SurveyListed
pub mod SurveySound
pub mod SurveyDisputes
mod SurveyDiffers
mod SurveyAhead
mod SurveyLooks
mod SurveyRead
mod SurveyOrder
mod SurveyStands
mod SurveyVolumes
mod ExamplesOfUnpacking
mod ExamplesOfSalvage
mod UnpackedFiles
mod ReadingOrder
mod Origins
mod UnpackedFits
mod UnpackedNames
pub mod Patterns
mod WholeReports
pub mod RecordTexts
pub mod Translations
mod MenderLaws
mod RecordWrites
mod PartWrites
pub mod Streams
mod QuotedNames
pub mod RecordFronts
mod Turns
mod StoppedThere
mod Settled
mod TurnSteps
mod Rounds
mod Opening
mod Extracted
mod OutSinks
mod OneEntry
mod SalvagePieces
mod SalvagedSoFar
mod SalvageOpened
mod SalvageSteps
mod SalvageSections
mod SalvageFound
mod SalvageSeen
mod SalvageVolumes
mod SalvageWhole
mod SalvageGrows
mod SalvageChoice
mod SalvageImages
mod SalvageOne
mod SalvageTaking
mod SalvageBegun
mod SalvageShelf
mod SalvageRest
mod SalvageClosings
mod SalvageGaps
mod SalvageFresh
mod SalvageData
mod SalvageConflicts
mod SalvageLater
mod SalvageComing
mod SalvageClosed
mod SalvagePlaces
mod SalvagePlain
mod SalvageDamaged
mod SalvageUnnamedComing
mod SalvageUnnamed
mod SalvageFile
mod SalvageSetGaps
mod SalvageReadings
mod SalvageRanks
mod SalvageGood
mod SalvageAgain
mod SalvageSetBlocks
mod SalvageSets
mod SalvageSame
mod SalvageMost
mod SalvageDamagedSets
mod SalvageFoundSets
mod SalvagedSets
mod SalvageJoined
mod Examples
mod ExamplesOfReels
mod ExamplesOfCatalogues
mod ExamplesOfExtracts
mod ExamplesOfSaves
mod ExamplesOfSeen
mod ExamplesOfRounds
mod ExamplesOfLaws
mod Mistakes
mod MistakesOfCatalogues
mod MistakesOfEngines
mod MistakesOfListing
mod MistakesOfMerging
mod MistakesOfPlaces
mod MistakesOfRuns
mod MistakesOfReadings
mod MistakesOfSalvage
mod MistakesOfSaves
mod MistakesOfCauses
mod MergeReadings
mod MergePlaces
mod MergeTaken
mod MergeVerdicts
mod MergeFirsts
mod MergeAsking
mod MergeDiffers
mod MergeNext
mod MergeRounds
mod MergeRefusals
mod MergeCounts
mod MergeLoops
mod MergeMounted
mod MergeJoins
mod MergeBest
mod MergeGiven
mod MergeBytes
mod MergeOpening
mod MergeNow
mod MergeTooLong
mod MergeRows
mod MergeReports
mod MergedCopies
mod MergedOrders
mod MergedFar
pub mod WideSections
pub mod WideSoFar
pub mod OnwardSoFar
pub mod OnwardFinds
mod CopyTold
mod CopyAlong
mod CopySuspects
mod CopyAgrees
mod CopyHad
mod CopyOverlaps
mod CopyDiffers
mod CopyTurns
mod SectionOpens
mod SectionSteps
mod SectionStands
mod HeldBlocks
mod SectionsHeld
mod CopyComing
mod CopySteps
mod CopyFindings
mod CopySurveys
