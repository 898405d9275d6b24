-- Examples for the definitions of a catalogue, and of reports on reels. They are the contract of
-- the call `laws::cases`.
use Rattle.std.specs.Prelude.{◌≡◌, ◌<◌, ◌≤◌, ◌+◌, ℕ, zero, suc, Bool, true, false, List, [], ◌∷◌}
use Rattle.std.specs.Prelude.{◌++◌, length, map, Option, Some, None, codes}
use Rattle.std.specs.{List.AllByRecursion, List.flat_map, Io.KnownBytes.Appends}
use Rattle.tape_image.specs.{declared.item.Ending.Ending, declared.item.ImageFault.ImageFault}
use Rattle.tape_image.specs.{Step.TakesEnd, Step.TakesFault, Tape.TapeItem, Tape.block, Tape.mark}
use Rattle.tape_image.specs.{Begins.Begins, Begins.ends, Reader.IfKnown}
use Rattle.tape_image.specs.declared.item.ImageCause.TheVariants.{Truncated, Device}
use Rattle.tape_image.specs.declared.item.Ending.TheVariants as endings
use Rattle.tape_label.specs.declared.values.Kind.TheVariants as kinds
use Rattle.tape_label.specs.{Kinds.HasKind, Head1.IsHead1, Trail1.IsTrail1, Vol1.IsVol1}
use Rattle.tape_set.specs.Layout.{FileSet, Volume, Section, Placed, items, sections}
use Rattle.tape_run.specs.Checked.{Reel, IsReel, AddsImage, AddsImages, IsReport, ReportsInPart}
use Rattle.tape_run.specs.Lacks.{IsFirstLack, IsFoundWhole, IsGoodAt, found_all, key_at, good_end}
use Rattle.tape_run.specs.declared.fault.EngineFault.TheVariants.{Run, WriteFailed}
use Rattle.tape_run.specs.declared.fault.RunFault.TheVariants.{NoSuchPoint, OutOfMemory}
use Rattle.tape_run.specs.{declared.section.Entry.Entry, declared.section.ImageLine.ImageLine}
use Rattle.tape_run.specs.{declared.section.SectionKey.SectionKey, Added.Adds, Added.StopsBehind}
use Rattle.tape_run.specs.{declared.section.SectionState.SectionState, Cases.on_one_volume}
use Rattle.tape_run.specs.declared.section.ImageStop.TheVariants.{Marked, Physical, Fault}
use Rattle.tape_run.specs.{declared.section.SectionState.TheVariants.Good, Lacks.entry_at}
use Rattle.tape_run.specs.{Passing.Told, Passing.met_in, Reeling.Took, Reeling.AreMounted}
use Rattle.tape_run.specs.CheckLine.{image_line, image_lines, section_line, found_line}
use Rattle.tape_run.specs.Checked.{IsCheckFault, summary, summary_behind, TellsImage, Reports}
use Rattle.tape_run.specs.Noted.{noted_all, KeepsPlaces, GoodIsShown}
use Rattle.tape_run.specs.Shown.{Shown, BeginsVolume, HeadsSection, EndsSection}
use Rattle.tape_run.specs.WholeReels.{AreWholeCopies, IsToldWhole, IsShownOn, IsListedGood}
use Rattle.tape_run.specs.WholeSet.{HasEach, IsWholeCopy, IsNoDevice, key_in}

-- ---- the catalogue

-- this section of the set ABC001, in this state
abbrev pub met : ℕ → ℕ → Bool → SectionState → Told
met file sect eof state = (
  key_at (codes "ABC001") file sect,
  record { volume = codes "ABC001"; blocks = 3; eof = eof; state = state },
)

-- sections that are added to a catalogue, and sections missing from it
pub record CasesOfCatalogues : Type 0 where
  pub key : (set : FileSet) (x : Placed) → ((key_in set x).set_id ≡ set.set_id)
      × ((key_in set x).file ≡ x.file) × ((key_in set x).sect ≡ x.sect)
  -- if no section of a file is known, its first section is missing
  pub nothing_known : (id : List ℕ) (file sect : ℕ) → IsFirstLack [] id file sect → sect ≡ 1
  pub nothing_found : (id : List ℕ) (file : ℕ) → IsFoundWhole [] id file → ⊥
  -- the sections before the missing one are good and continue, and it is not good
  pub lacks_itself : (c : List Told) (id : List ℕ) (file : ℕ) → IsFirstLack c id file 1
      → good_end (entry_at c (key_at id file 1)) ≡ None
  pub first_goes_on : (c : List Told) (id : List ℕ) (file : ℕ) (f : IsFoundWhole c id file)
      → 1 < f.sect → good_end (entry_at c (key_at id file 1)) ≡ Some false
  pub no_good : (key : SectionKey) → IsGoodAt [] key → ⊥
  -- sections keep their places
  pub sections_stay : (t : Told) → KeepsPlaces (t ∷ []) [] → ⊥
  pub not_moved : KeepsPlaces (met 1 1 true Good ∷ []) (met 1 2 true Good ∷ met 1 1 true Good ∷ [])
      → ⊥
  pub first_good : (t : Told) → t.1.state ≡ Good → GoodIsShown [] [] (t ∷ []) → Shown [] t.0 t.1

-- the sections that an image adds, and those that its items show
pub record CasesOfImages : Type 0 where
  pub ends_at : (place : ℕ) (xs ys : List ℕ) → TakesEnd 0 [] endings.Physical place xs ys
      → StopsBehind [] Physical xs ys
  pub ends_by : (xs ys : List ℕ) (s : StopsBehind [] Marked xs ys)
      → TakesEnd 0 [] endings.Marked s.0 xs ys
  pub breaks_off : (fault : ImageFault) (xs ys : List ℕ) → StopsBehind [] (Fault fault) xs ys
      → TakesFault 0 [] fault xs ys
  pub added : (before after : Option (List ℕ)) (old new : List Told) (line : ImageLine)
      (a : Adds before after old line new) → (line.items ≡ length a.items)
      × IfKnown before after (StopsBehind a.items line.stop)
      × (new ≡ noted_all old (met_in a.items)) × KeepsPlaces old new × GoodIsShown a.items old new
  pub nothing_shows : (key : SectionKey) (entry : Entry) → Shown [] key entry → ⊥
  pub shown : (xs : List TapeItem) (key : SectionKey) (entry : Entry) (s : Shown xs key entry)
      → (entry.blocks ≡ length s.content)
      × (xs ≡ s.before ++ block s.hdr1 ∷ block s.hdr2 ∷ map block s.headers
      ++ mark ∷ map block s.content ++ mark ∷ block s.trailer ∷ s.after)
  pub shown_labels : (xs : List TapeItem) (key : SectionKey) (entry : Entry)
      (s : Shown xs key entry) → BeginsVolume xs entry.volume × HeadsSection s.hdr1 key
      × HasKind s.hdr2 kinds.Hdr2 × EndsSection s.trailer key (length s.content) entry
  pub headed : (bytes : List ℕ) (key : SectionKey) (h : HeadsSection bytes key)
      → IsHead1 bytes h.label × (h.label.set_id ≡ key.set_id) × (h.label.sequence ≡ key.file)
      × (h.label.sect ≡ key.sect)
  pub ended : (bytes : List ℕ) (key : SectionKey) (entry : Entry)
      (e : EndsSection bytes key 3 entry) → IsTrail1 bytes e.label
      × (e.label.head.sequence ≡ key.file)
      × (e.label.head.sect ≡ key.sect) × (e.label.blocks ≡ 3) × (e.label.eof ≡ entry.eof)
  pub named : (xs : List TapeItem) (volume : List ℕ) (b : BeginsVolume xs volume)
      → (xs ≡ block b.bytes ∷ b.more) × IsVol1 b.bytes b.label × (b.label.volume ≡ volume)

-- of whole copies
pub record CasesOfCopies : Type 0 where
  -- each volume of a set with one volume is among these, even twice, and is not in an empty list
  pub each_volume : (id : List ℕ) (v : Volume) (files : List (List Section))
      → HasEach (on_one_volume id v files) (1 ∷ 1 ∷ [])
  pub one_lacks : (id : List ℕ) (v : Volume) (files : List (List Section))
      → HasEach (on_one_volume id v files) (2 ∷ []) → ⊥
  -- a complete copy may end in both ways, and only a fault of the device is a failure
  pub whole_copy : (set : FileSet) (k end : ℕ) (ending : Ending) (xs : List ℕ)
      → Begins 0 xs (items set k) end (ends ending) → IsWholeCopy set k xs
  pub ends_are_none : IsNoDevice Physical × IsNoDevice Marked
  pub cut_is_none : IsNoDevice (Fault (record { place = 9; cause = Truncated }))
  pub device_is_one : IsNoDevice (Fault (record { place = 9; cause = Device })) → ⊥
  pub copies : (set : FileSet) (k n : ℕ) (bytes : List ℕ) → IsWholeCopy set k bytes
      → AreWholeCopies set (Some (Some bytes) ∷ [])
      (Some (record { items = n; stop = Marked }) ∷ []) (k ∷ [])
  pub unopened : (set : FileSet) (line : Option ImageLine) (k : ℕ)
      → AreWholeCopies set (None ∷ []) (line ∷ []) (k ∷ []) → ⊥
  -- the report of a complete set: all was found, nothing is missing, and each section has a line
  -- GOOD
  pub told_whole : (set : FileSet) (lines : List (Option ImageLine)) (text : List ℕ) (found : Bool)
      (w : IsToldWhole set lines text found) → (found ≡ true)
      × (text ≡ image_lines 1 lines ++ (flat_map section_line w.listed ++ found_line))
      × AllByRecursion (λ x. IsListedGood w.listed (key_in set x)) (sections set)
  -- a section that is shown is on one of the images, in the items that its bytes begin with
  pub shown_on : (reels : List Reel) (told : Told) (s : IsShownOn reels told)
      → (reels ≡ s.front ++ Some s.before ∷ s.rest) × Shown s.items told.0 told.1
      × IfKnown s.before s.after (StopsBehind s.items s.stop)

-- ---- reports

-- of reports of images
pub record CasesOfReports : Type 0 where
  -- the report lists the sections that were read, and its result follows from these
  pub report : (reels : List Reel) (text : List ℕ) (found : Bool) (r : IsReport reels text found)
      → AddsImages reels r.lines [] r.sections
      × (text ≡ image_lines 1 r.lines ++ summary r.sections) × (found ≡ found_all r.sections)
  -- each image has a line, and one that was not opened has a different line from one that was
  pub a_line_each : (reel : Reel) (c d : List Told) → AddsImages (reel ∷ []) [] c d → ⊥
  pub no_more_lines : (line : Option ImageLine) (c d : List Told)
      → AddsImages [] (line ∷ []) c d → ⊥
  pub not_opened : (line : ImageLine) (c d : List Told) → AddsImage None (Some line) c d → ⊥
  pub opened : (before : Option (List ℕ)) (c d : List Told) → AddsImage (Some before) None c d → ⊥
  pub unopened_adds_none : (c d : List Told) → AddsImage None None c d → d ≡ c
  pub tells : (reel : Reel) (c d : List Told) (old new : Option (List ℕ))
      (t : TellsImage reel 2 c d old new)
      → AddsImage reel t.0 c d × Appends old new (image_line 2 t.0)
  -- readers in a list are the images, in this order
  pub all_mounted : (a b : Option (Option (List ℕ))) (left : List (Option (Option (List ℕ))))
      (old new : Option (List ℕ)) (found : Bool)
      (r : Reports length Took (λ x. x) (a ∷ b ∷ []) left old new found)
      → (r.reels ≡ a ∷ b ∷ []) × IsReport r.reels r.text found × Appends old new r.text
  -- a prefix of a report ends with a summary only if no image is left
  pub no_summary_before : (left : ℕ) (d : List Told) → summary_behind (suc left) d ≡ []
  pub summary_last : (d : List Told) → summary_behind zero d ≡ summary d
  -- and at most one image was opened without being read
  pub in_part : (a b : Option (Option (List ℕ))) (left : List (Option (Option (List ℕ))))
      (old new : Option (List ℕ))
      (r : ReportsInPart length Took (λ x. x) (a ∷ b ∷ []) left old new)
      → (length r.first + r.unread ≡ 2) × (length r.more ≤ 1) × (length r.more ≤ r.unread)
      × AddsImages r.first r.lines [] r.sections
  pub first_mounted : (a b : Option (Option (List ℕ))) (left : List (Option (Option (List ℕ))))
      → AreMounted Took (IsReel (λ x. x)) (a ∷ b ∷ []) 0 (a ∷ []) left → left ≡ None ∷ b ∷ []
  -- the only faults are a failed write and lack of memory
  pub other_fault : IsCheckFault (Run NoSuchPoint) → ⊥
  pub faults : IsCheckFault WriteFailed × IsCheckFault (Run OutOfMemory)
