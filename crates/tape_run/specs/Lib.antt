-- Definitions to believe, with those that they import from the crates below; read them in this
-- order.
pub mod SessionState
pub mod Seen
pub mod Mount
pub mod History
pub mod Given
pub mod Lead
pub mod Headline
pub mod Back
pub mod Fault
-- Preserved step by step; to be believed by readers of a single call's contract.
pub mod Reels
pub mod ByTable
pub mod GoesBehind
pub mod SectionEnds
pub mod Steps
pub mod Runs
pub mod Crash
pub mod CrashRuns
pub mod ReadableRuns
-- Of private functions only.
pub mod Made
pub mod Puts
pub mod Taking
-- The catalogue: definitions to trust, in reading order.
pub mod Shown
pub mod Noted
pub mod Added
pub mod Lacks
pub mod NextLack
pub mod WholeSet
-- Preserved item by item, and the terms in which laws describe those above.
pub mod Passing
-- Truncated readings, and one history that satisfies every premise.
pub mod Fronts
pub mod WorkedHistory
pub mod WorkedDays
-- Writers, and identifiers as they are printed, for the reports below.
pub mod Identifier
pub mod Quoting
pub mod QuotingLaws
-- Listings of images: definitions to trust, in reading order.
pub mod ListLine
pub mod Listing
pub mod Listed
pub mod ListExamples
pub mod Placed
pub mod PlacedExamples
-- Reports on reels: definitions to trust, in reading order.
pub mod CheckLine
pub mod Checked
pub mod WholeReels
pub mod OneEntry
pub mod CheckExamples
-- Surveys of images: definitions to trust, in reading order.
pub mod ContainerFrames
pub mod ContainerMarks
pub mod ContainerRecords
pub mod Container
pub mod ContainerText
pub mod SurveyGaps
pub mod SurveyGlance
pub mod SurveyFiles
pub mod SurveyPadding
pub mod SurveyFits
pub mod SurveyDigest
pub mod SurveyCopies
pub mod SurveyWhole
pub mod SurveyRead
pub mod SurveyLine
pub mod SurveyLocations
pub mod Dates
pub mod SurveyProblems
pub mod SurveyChain
pub mod SurveySets
pub mod SurveyCompared
pub mod SurveyRows
pub mod SurveyConflicts
pub mod SurveySound
pub mod Survey
pub mod SurveyLaws
pub mod CopyLaws
pub mod CopySurveys
-- Files unpacked: definitions to trust, in reading order.
pub mod Unpacking
pub mod ReadingOrder
pub mod Origins
pub mod UnpackLine
pub mod UnpackChoice
pub mod UnpackTally
pub mod UnpackLaws
-- Recovered files, and reports of that: definitions to trust, in reading order.
pub mod ReelLine
pub mod RecordText
pub mod Translating
pub mod OutSinks
pub mod Causes
pub mod Comparing
pub mod Reeling
pub mod Stopping
pub mod Rounds
pub mod Extracting
pub mod ExtractingLocated
pub mod ExtractExamples
-- Readings of one tape, merged: the definitions to trust, in reading order.
pub mod Merging
pub mod MergeSteps
pub mod MergeCalls
pub mod MergedImages
pub mod MergeLines
pub mod MergeLog
pub mod MergeNow
-- Laws of those.
pub mod MergeLaws
pub mod MergedCopies
-- Recovering a file that no image has completely: definitions to trust, in reading order.
pub mod SalvageWalk
pub mod SalvageCopies
pub mod SalvageRecords
pub mod SalvageLine
pub mod SalvageBlocks
pub mod SalvageImage
pub mod SalvageEnds
pub mod SalvageChoice
pub mod SalvageTaking
pub mod SalvageTrailers
pub mod SalvageLabels
pub mod SalvageConflicts
pub mod SalvageGaps
pub mod SalvageClosed
pub mod Salvaging
pub mod SalvageJoined
pub mod SalvagedSets
pub mod SalvageWhole
pub mod SalvageSections
pub mod SalvageFile
pub mod SalvageReadings
pub mod SalvageSets
pub mod SalvageDamaged
pub mod SalvageUnnamed
pub mod SalvageDamagedSets
-- Examples, which show that the definitions are not too weak.
pub mod Cases
pub mod CasesOfRuns
pub mod CasesOfReels
pub mod CasesOfCatalogues
pub mod CasesOfSections
pub mod CasesOfExtracts
pub mod CasesOfCauses
pub mod CasesOfSuspects
pub mod CasesOfSaves
pub mod CasesOfSeen
pub mod CasesOfRounds
pub mod CasesOfLaws
pub mod CasesOfSurveys
pub mod CasesOfUnpacking
pub mod CasesOfSalvage
pub mod WidePassing
pub mod Onward
pub mod WideShown
-- Labels that are changed on request.
pub mod Relabel
