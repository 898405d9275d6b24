-- Reading a reel with every section skipped, past items that break the order of a volume: a survey
-- looks for sections behind them too.
use Rattle.std.specs.Prelude.{◌≡◌, ℕ, Bool, true, false, List, [], ◌∷◌, ◌++◌, Option, Some, None}
use Rattle.std.specs.Prelude.{codes, option_map, Result, Ok, Err}
use Rattle.tape_image.specs.Tape.{TapeItem, block, bad, mark}
use Rattle.tape_label.specs.declared.label.LabelFault.{LabelFault}
use Rattle.tape_label.specs.declared.values.{Head1.Head1, Trail1.Trail1}
use Rattle.tape_label.specs.Reading.{head1_at, trail1_at}
use Rattle.tape_run.specs.declared.{met.Met.Met, passing.Phase.Phase}
use Rattle.tape_run.specs.declared.passing.Phase.TheVariants.{Volume, Labels, Second, Headers, Data}
use Rattle.tape_run.specs.declared.passing.Phase.TheVariants.{Trailer, Trailers, Next, Over}
use Rattle.tape_run.specs.Passing.{Told, in_list, under_way, cut, met_by}
use Rattle.tape_run.specs.WidePassing as Wide

-- the identifier of a volume that does not begin with a volume label. No label has it, since it is
-- not of a-characters
abbrev pub no_volume : List ℕ
no_volume = codes "(none)"

-- the identifier of the volume, if its label was read
abbrev pub volume_in : Phase → List ℕ
volume_in (Labels v) = v
volume_in (Second met) = met.volume
volume_in (Headers met) = met.volume
volume_in (Data met) = met.volume
volume_in (Trailer met) = met.volume
volume_in (Trailers v) = v
volume_in (Next v) = v
volume_in _ = no_volume

-- an item among the section's labels is unreadable, or not reliable
abbrev pub spoilt : Met → Met
spoilt met = record met { bad = true }

-- after an unreadable item that breaks the order: a section goes on if its HDR1 was read
abbrev pub past_bad : Phase → Phase
past_bad (Second met) = Headers (spoilt met)
past_bad (Headers met) = Headers (spoilt met)
past_bad Over = Over
past_bad p = Labels (volume_in p)

-- after a mark that breaks the order: a second mark in sequence ends the volume
abbrev pub past_mark : Phase → Phase
past_mark (Next v) = Over
past_mark Over = Over
past_mark p = Next (volume_in p)

-- after a block that breaks the order: a section begins there if it is a header label; one in place
-- of HDR2 is not reliable
abbrev pub past_block : Phase → Result Head1 LabelFault → Phase
past_block Over read = Over
past_block (Second met) (Ok head) = Second (spoilt (met_by met.volume head))
past_block p (Ok head) = Second (met_by (volume_in p) head)
past_block p (Err _) = Labels (volume_in p)

-- the phase after an item that breaks the order
abbrev pub past : Phase → TapeItem → Phase
past p (block b) = past_block p (head1_at b)
past p bad = past_bad p
past p mark = past_mark p

-- the trailer label of a section whose header label was not read, if the block is one
abbrev pub stray_by : Result Trail1 LabelFault → Option Head1
stray_by (Ok trail) = Some trail.head
stray_by (Err _) = None

-- the section of a trailer label without a header label: none of its blocks is counted
abbrev pub stray_in : List ℕ → Result Trail1 LabelFault → Option Told
stray_in v read = option_map (λ head. cut (met_by v head)) (stray_by read)

-- the section that an item that breaks the order truncates, or whose trailer label it is
abbrev pub told_past : Phase → TapeItem → Option Told
told_past (Trailer met) x = Some (cut met)
told_past (Second met) (block b) = Some (cut met)
told_past (Labels v) (block b) = stray_in v (trail1_at b)
told_past (Next v) (block b) = stray_in v (trail1_at b)
told_past _ _ = None

-- after an item, with what follows in the order of a volume; nothing follows an item that breaks it
abbrev pub goes_on : Phase → TapeItem → Phase × Option Told → Phase × Option Told
goes_on p x (Over, told) = (past p x, told_past p x)
goes_on p x after = after

-- the phase after an item, and the section that it completes or truncates, if any
abbrev pub step : Phase → TapeItem → Phase × Option Told
step p x = goes_on p x (Wide.step p x)

-- the phase after these items
abbrev pub phase_after : Phase → List TapeItem → Phase
phase_after p [] = p
phase_after p (x ∷ xs) = phase_after (step p x).0 xs

-- the sections that these items contain, in order
abbrev pub told_from : Phase → List TapeItem → List Told
told_from p [] = []
told_from p (x ∷ xs) = in_list (step p x).1 ++ told_from (step p x).0 xs

-- the sections that the items of an image contain, in the order in which they were found
abbrev pub met_in : List TapeItem → List Told
met_in items = told_from Volume items ++ in_list (under_way (phase_after Volume items))
