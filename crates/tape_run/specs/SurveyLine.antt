-- The description of an image in a survey. The text is for people, and may change.
use Rattle.std.specs.Prelude.{◌||◌, Bool, true, false, length, take, ◌-◌, ℕ, ◌==◌, nat_lt, map}
use Rattle.std.specs.Prelude.{if◌then◌else◌, List, [], ◌++◌, codes, decimal, Option, Some, None}
use Rattle.std.specs.List.{flat_map, suffix_len}
use Rattle.tape_image.specs.{declared.item.ImageFault.ImageFault, Fault.number_of}
use Rattle.tape_label.specs.declared.values.Head1.{Head1}
use Rattle.tape_run.specs.declared.section.{ImageStop.ImageStop, SectionKey.SectionKey}
use Rattle.tape_run.specs.declared.section.{SectionLine.SectionLine, SectionState.SectionState}
use Rattle.tape_run.specs.declared.survey.glance.{First.First, ImageSummary.ImageSummary}
use Rattle.tape_run.specs.declared.survey.course.{ExpectedItem.ExpectedItem, LabelOrder.LabelOrder}
use Rattle.tape_run.specs.declared.survey.view.ImageSurvey.{ImageSurvey}
use Rattle.tape_run.specs.declared.section.SectionState.TheVariants.{Good, Bad, Count, Cut}
use Rattle.tape_run.specs.declared.section.ImageStop.TheVariants.{Marked, Physical, Fault}
use Rattle.tape_run.specs.declared.survey.course.LabelOrder.TheVariants.{Follows, Blank, Ended}
use Rattle.tape_run.specs.declared.survey.course.LabelOrder.TheVariants.{Leaves}
use Rattle.tape_run.specs.Identifier.{printed}
use Rattle.tape_run.specs.declared.container.Container.{Container}
use Rattle.tape_run.specs.{ContainerText.container_text, SurveyWhole.is_named}
use Rattle.tape_run.specs.SurveyWhole.{is_no_image}
use Rattle.tape_run.specs.declared.survey.glance.First.TheVariants as firsts
use Rattle.tape_run.specs.declared.survey.course.ExpectedItem.TheVariants as wanted

-- a space
abbrev pub is_space : ℕ → Bool
is_space byte = byte == 32

-- the length of bytes without trailing spaces
abbrev pub trimmed_len : List ℕ → ℕ
trimmed_len bytes = length bytes - suffix_len is_space bytes

-- an identifier without trailing spaces
abbrev pub trimmed_text : List ℕ → List ℕ
trimmed_text bytes = map printed (take (trimmed_len bytes) bytes)

-- an image without items
abbrev pub none_text : ImageStop → List ℕ
none_text Marked = codes "no items before the end-of-medium marker"
none_text (Fault fault) = codes "no items"
none_text Physical = codes "no items"

-- the beginning of an image
abbrev pub first_text : First → ImageStop → List ℕ
first_text firsts.Nothing stop = none_text stop
first_text (firsts.Volume label) stop = codes "volume " ++ trimmed_text label.volume
first_text firsts.Ebcdic stop = codes "labels in EBCDIC"
first_text (firsts.Block n) stop =
    codes "no labels; its first block has " ++ (decimal n ++ codes " bytes")
first_text firsts.Bad stop = codes "does not begin with a label"
first_text firsts.Mark stop = codes "begins with a tape mark"

-- the system that wrote it, if a header label names one
abbrev pub system_text : Option Head1 → List ℕ
system_text None = []
system_text (Some head) =
    if nat_lt 0 (trimmed_len head.implementation)
    then codes ", written by " ++ trimmed_text head.implementation else []

-- the text of the number of sections
abbrev pub files_text : ℕ → List ℕ
files_text n =
    if n == 0 then [] else if n == 1 then codes ", 1 section"
    else codes ", " ++ (decimal n ++ codes " sections")

-- Each further fact is preceded by the text between two facts.

-- the text of the number of unreadable blocks
abbrev pub bad_text : List ℕ → ℕ → List ℕ
bad_text between n =
    if n == 0 then [] else if n == 1 then between ++ codes "1 unreadable block"
    else between ++ (decimal n ++ codes " unreadable blocks")

-- if a volume label follows another item
abbrev pub late_text : List ℕ → Option ℕ → List ℕ
late_text between None = []
late_text between (Some n) = between ++ (codes "a VOL1 at item " ++ decimal n)

-- a file whose records cannot be read, if any
abbrev pub unread_text : List ℕ → Option ℕ → List ℕ
unread_text between None = []
unread_text between (Some file) =
    between ++ (codes "file " ++ (decimal file ++ codes " has an unsupported record format"))

-- the fault of a section in this state
abbrev pub damage_text : SectionState → List ℕ
damage_text Good = codes "is good"
damage_text Bad = codes "has unreadable blocks"
damage_text Count = codes "has a wrong block count"
damage_text Cut = codes "is truncated"

-- a damaged section
abbrev pub damaged_text : List ℕ → SectionLine → List ℕ
damaged_text between s =
    between ++ (codes "section " ++ (decimal s.sect ++ (codes " of file " ++ (decimal s.file
    ++ (codes " " ++ (damage_text s.state ++ (codes ", blocks found: " ++ decimal s.blocks)))))))

-- the damaged sections
abbrev pub damages_text : List ℕ → List SectionLine → List ℕ
damages_text between damaged = flat_map (damaged_text between) damaged

-- the text of the contents of an image that ends so
abbrev pub glance_text : List ℕ → ImageSummary → ImageStop → List ℕ
glance_text between g stop =
    first_text g.first stop ++ (system_text g.head ++ (files_text g.files
    ++ (bad_text between g.bad ++ (late_text between g.late ++ unread_text between g.unread))))

-- the text for the item that was expected where another item breaks the label order
abbrev pub wanted_text : ExpectedItem → List ℕ
wanted_text wanted.Volume = codes "is not VOL1"
wanted_text wanted.Section = codes "is not HDR1"
wanted_text wanted.Second = codes "is not HDR2"
wanted_text wanted.Mark = codes "is neither a label nor a tape mark"
wanted_text wanted.Trailer = codes "is not EOF1 or EOV1 of its section"
wanted_text wanted.Next = codes "is neither HDR1 nor a tape mark"
wanted_text wanted.SecondMark = codes "is not a second tape mark"
wanted_text wanted.End = codes "follows the end of the volume"

-- A missing volume label at the start is reported already.
abbrev pub is_told : ExpectedItem → Bool
is_told wanted.Volume = false
is_told _ = true

-- the text for what follows that item: sections are found there too, unless the volume has ended
abbrev pub rest_text : ExpectedItem → List ℕ
rest_text wanted.End = codes "the rest is ignored"
rest_text _ = codes "counting continues"

-- the text about the item that breaks the label order
abbrev pub left_text : List ℕ → ℕ → ExpectedItem → List ℕ
left_text between n w =
    if is_told w
    then between ++ (codes "item " ++ (decimal n ++ (codes " " ++ (wanted_text w
    ++ (codes ": " ++ rest_text w)))))
    else []

-- the items end before the volume does
abbrev pub early_text : List ℕ → ImageStop → List ℕ
early_text between (Fault fault) = []
early_text between Marked = between ++ codes "ends before the end of the volume"
early_text between Physical = between ++ codes "ends before the end of the volume"

-- the text that says how far the items are in the order of a volume
abbrev pub course_text : List ℕ → LabelOrder → ImageStop → List ℕ
course_text between Ended stop = []
course_text between (Leaves n w) stop = left_text between n w
course_text between Follows stop = early_text between stop
course_text between Blank stop = early_text between stop

-- the label order that is described: an image without items has none
abbrev pub course_shown : First → LabelOrder → LabelOrder
course_shown firsts.Nothing course = Ended
course_shown _ course = course

-- the kind of an image that cannot be read further: if it is another kind than a SIMH image, or if
-- it stops before its first item
abbrev pub kind_text : Container → ImageFault → List ℕ
kind_text kind fault =
    if is_named kind || is_no_image fault then codes ": " ++ container_text kind else []

-- a fault of the image, and the kind of the image
abbrev pub fault_text : Container → ImageFault → List ℕ
fault_text kind fault = codes "image fault " ++ (decimal (number_of fault.cause)
    ++ (codes " at byte " ++ (decimal fault.place ++ kind_text kind fault)))

-- the number and offset of the fault with which an image of this kind ends
abbrev pub stop_text : List ℕ → Container → ImageStop → List ℕ
stop_text between kind (Fault fault) = between ++ fault_text kind fault
stop_text between kind Marked = []
stop_text between kind Physical = []

-- a section on the image whose good copies differ, if any
abbrev pub dispute_text : List ℕ → Option SectionKey → List ℕ
dispute_text between None = []
dispute_text between (Some key) = between ++ (codes "section " ++ (decimal key.sect
    ++ (codes " of file " ++ (decimal key.file ++ codes ": good copies differ"))))

-- the description of an image with such a section, if any
abbrev pub seen_text : List ℕ → ImageSurvey → Option SectionKey → List ℕ
seen_text between s key = glance_text between s.glance s.stop
    ++ (course_text between (course_shown s.glance.first s.glance.course) s.stop
    ++ (stop_text between s.kind s.stop
    ++ (damages_text between s.damaged ++ dispute_text between key)))
