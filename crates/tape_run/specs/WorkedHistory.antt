-- A worked history: one small file on two volumes, twelve steps over reels whose bytes are written
-- out, and the consequences of the headline for them.
use Rattle.std.specs.Prelude.{◌≡◌, ℕ, Bool, true, false, List, [], ◌∷◌, ◌++◌, None, codes}
use Rattle.std.specs.Prelude.{replicate, Option}
use Rattle.tape_blocks.specs.declared.parts.Span.TheVariants.{First, Middle, Last}
use Rattle.tape_blocks.specs.{Block.Portion, Spans.join}
use Rattle.tape_set.specs.declared.position.{Position.Position, Position.TheVariants.Finished}
use Rattle.tape_set.specs.Position.{start, awaiting, want_at}
use Rattle.tape_set.specs.Layout.{FileSet, Section, Volume}
use Rattle.tape_set.specs.{Lawful.IsLawful, Before.before, Reading.Reading}
use Rattle.tape_run.specs.{declared.script.Step.Step, Headline.begins, Headline.IsRead, Seen.Seen}
use Rattle.tape_run.specs.declared.script.Step.TheVariants.{Reel, Save, Restart}
use Rattle.tape_run.specs.Mount.{MountEvent, reads, foreign_reel, saves, restarts}
use Rattle.tape_run.specs.{History.Course, History.course, History.IsHistory, Given.AreGivenBy}

-- ---- the set: a record of 30 letters A in segments of 13, 13 and 4

abbrev pub vol1 : List ℕ
vol1 = codes "VOL1ABC001                                                                     4"

abbrev pub hdr1 : List ℕ
hdr1 = codes "HDR1PAYROLL          ABC00100010001000100 00000 00000 000000                    "

abbrev pub hdr1_of_2 : List ℕ
hdr1_of_2 = codes "HDR1PAYROLL          ABC00100020001000100 00000 00000 000000                    "

abbrev pub hdr2 : List ℕ
hdr2 = codes "HDR2S0001800000                                   00                            "

abbrev pub eov1 : List ℕ
eov1 = codes "EOV1PAYROLL          ABC00100010001000100 00000 00000 000002                    "

abbrev pub eov2 : List ℕ
eov2 = codes "EOV2S0001800000                                   00                            "

abbrev pub eof1 : List ℕ
eof1 = codes "EOF1PAYROLL          ABC00100020001000100 00000 00000 000001                    "

abbrev pub eof2 : List ℕ
eof2 = codes "EOF2S0001800000                                   00                            "

abbrev pub block_0 : List ℕ
block_0 = codes "10018AAAAAAAAAAAAA"

abbrev pub block_1 : List ℕ
block_1 = codes "20018AAAAAAAAAAAAA"

abbrev pub block_2 : List ℕ
block_2 = codes "30009AAAA^^^^^^^^^"

abbrev pub first : Portion
first = record { span = First; bytes = codes "AAAAAAAAAAAAA" }

abbrev pub middle : Portion
middle = record { span = Middle; bytes = codes "AAAAAAAAAAAAA" }

abbrev pub last : Portion
last = record { span = Last; bytes = codes "AAAA" }

abbrev pub section_1 : Section
section_1 = record {
  volume = 1;
  hdr1 = hdr1;
  hdr2 = hdr2;
  headers = [];
  blocks = record { bytes = block_0; parts = first ∷ [] }
      ∷ record { bytes = block_1; parts = middle ∷ [] } ∷ [];
  trailer = eov1;
  trailers = eov2 ∷ [];
}

abbrev pub section_2 : Section
section_2 = record {
  volume = 2;
  hdr1 = hdr1_of_2;
  hdr2 = hdr2;
  headers = [];
  blocks = record { bytes = block_2; parts = last ∷ [] } ∷ [];
  trailer = eof1;
  trailers = eof2 ∷ [];
}

abbrev pub volume : Volume
volume = record { vol1 = vol1; labels = [] }

abbrev pub worked_set : FileSet
worked_set = record {
  set_id = codes "ABC001";
  volumes = volume ∷ volume ∷ [];
  files = (section_1 ∷ section_2 ∷ []) ∷ [];
}

-- ---- the bytes of the reels

abbrev pub a_mark : List ℕ
a_mark = 0 ∷ 0 ∷ 0 ∷ 0 ∷ []

abbrev pub an_end : List ℕ
an_end = 255 ∷ 255 ∷ 255 ∷ 255 ∷ []

-- a label of 80 characters, between its words
abbrev pub label : List ℕ → List ℕ
label text = (80 ∷ 0 ∷ 0 ∷ 0 ∷ []) ++ (text ++ (80 ∷ 0 ∷ 0 ∷ 0 ∷ []))

-- a data block of 18 characters, and one that was recorded with an error
abbrev pub data_block : List ℕ → List ℕ
data_block text = (18 ∷ 0 ∷ 0 ∷ 0 ∷ []) ++ (text ++ (18 ∷ 0 ∷ 0 ∷ 0 ∷ []))

abbrev pub bad_data : List ℕ
bad_data = (18 ∷ 0 ∷ 0 ∷ 128 ∷ []) ++ (codes "##################" ++ (18 ∷ 0 ∷ 0 ∷ 128 ∷ []))

abbrev pub headers_1 : List ℕ
headers_1 = label vol1 ++ (label hdr1 ++ (label hdr2 ++ a_mark))

abbrev pub trailers_1 : List ℕ
trailers_1 = a_mark ++ (label eov1 ++ (label eov2 ++ (a_mark ++ (a_mark ++ an_end))))

abbrev pub headers_2 : List ℕ
headers_2 = label vol1 ++ (label hdr1_of_2 ++ (label hdr2 ++ a_mark))

abbrev pub trailers_2 : List ℕ
trailers_2 = a_mark ++ (label eof1 ++ (label eof2 ++ (a_mark ++ (a_mark ++ an_end))))

abbrev pub reel_1 : List ℕ
reel_1 = headers_1 ++ (data_block block_0 ++ (data_block block_1 ++ trailers_1))

abbrev pub reel_2 : List ℕ
reel_2 = headers_2 ++ (data_block block_2 ++ trailers_2)

-- images of volume 1: truncated inside its second data block, with its first data block bad, and
-- with its second data block bad
abbrev pub cut_reel : List ℕ
cut_reel = headers_1 ++ (data_block block_0 ++ (18 ∷ 0 ∷ 0 ∷ 0 ∷ codes "20018AA"))

abbrev pub bad_0_reel : List ℕ
bad_0_reel = headers_1 ++ (bad_data ++ (data_block block_1 ++ trailers_1))

abbrev pub bad_1_reel : List ℕ
bad_1_reel = headers_1 ++ (data_block block_0 ++ (bad_data ++ trailers_1))

-- volume 2 up to the mark after its data, where the bytes end
abbrev pub short_reel : List ℕ
short_reel = headers_2 ++ (data_block block_2 ++ a_mark)

-- a blank volume, and one of another set
abbrev pub blank_reel : List ℕ
blank_reel = label vol1 ++ (a_mark ++ (a_mark ++ an_end))

abbrev pub other_reel : List ℕ
other_reel =
    label vol1
    ++ label
    (codes "HDR1PAYROLL          XYZ00100010001000100 00000 00000 000000                    ")

-- ---- the script, its events, and where these lead

abbrev pub worked_steps : List Step
worked_steps = Reel ∷ Reel ∷ Reel ∷ Reel ∷ Save ∷ Reel ∷ Restart 0 ∷ Reel ∷ Reel ∷ Reel ∷ Reel ∷
    Reel ∷ []

abbrev pub worked_reels : List (List ℕ)
worked_reels = reel_2 ∷ other_reel ∷ blank_reel ∷ cut_reel ∷ bad_0_reel ∷ bad_1_reel ∷ reel_1
    ∷ short_reel ∷ reel_2 ∷ reel_1 ∷ []

abbrev pub reading : ℕ → List Bool → Reading
reading k good = record { volume = k; good = good }

abbrev pub worked_history : List MountEvent
worked_history =
    reads (reading 2 (replicate 10 true))
    ∷ foreign_reel
    ∷ foreign_reel
    ∷ reads (reading 1 (replicate 5 true))
    ∷ saves
    ∷ reads (reading 1 (replicate 4 true ++ false ∷ replicate 6 true))
    ∷ restarts 0
    ∷ reads (reading 1 (replicate 5 true ++ false ∷ replicate 5 true))
    ∷ reads (reading 1 (replicate 11 true))
    ∷ reads (reading 2 (replicate 6 true))
    ∷ reads (reading 2 (replicate 10 true))
    ∷ reads (reading 1 (replicate 11 true)) ∷ []

-- the position after each of the twelve steps, and the checkpoint
abbrev pub positions_after : Course → List MountEvent → List Position
positions_after c [] = []
positions_after c (h ∷ hs) =
    (course worked_set 1 c (h ∷ [])).at ∷ positions_after (course worked_set 1 c (h ∷ [])) hs

-- The consequences of the headline for this history.
pub record HistoryIsWorked : Type 0 where
  pub lawful : IsLawful worked_set
  pub history : IsHistory worked_set 0 worked_steps worked_reels worked_history
  pub given : AreGivenBy (replicate 10 false) worked_reels (replicate 10 None) worked_reels
  pub positions : positions_after begins worked_history
      ≡ start ∷ start ∷ start
      ∷ awaiting 1 1 ∷ awaiting 1 1 ∷ awaiting 2 0 ∷ awaiting 1 1 ∷ awaiting 1 1
      ∷ awaiting 2 0 ∷ awaiting 2 1 ∷ Finished ∷ Finished ∷ []
  pub notes : (course worked_set 1 begins worked_history).notes ≡ awaiting 1 1 ∷ []
  pub none_before : before worked_set 1 start ≡ []
  pub one_before : before worked_set 1 (awaiting 1 1) ≡ first ∷ []
  pub all_before : before worked_set 1 Finished ≡ first ∷ middle ∷ last ∷ []
  pub one_record : join (before worked_set 1 Finished)
      ≡ record { records = codes "AAAAAAAAAAAAAAAAAAAAAAAAAAAAAA" ∷ []; rest = None }
  -- A session that made these steps over these readers, if no reader failed, contains the three
  -- parts and needs nothing more.
  pub read : (s : Seen) (left : List (Option (List ℕ)))
      → IsRead (codes "ABC001") 1 worked_steps worked_reels left s → s.failures ≡ 0
      → (s.parts ≡ first ∷ middle ∷ last ∷ []) × (want_at 1 s.place.position ≡ None)
