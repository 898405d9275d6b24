-- What `unpack` leaves for a complete file, if an image is read once for all of its files.
use Rattle.std.specs.Prelude.{◌≡◌, ◌≢◌, ◌⊎◌, ℕ, ◌<◌, Bool, true, false, List, [], ◌∷◌, ◌++◌, Option}
use Rattle.std.specs.Prelude.{Some, None, IsSome, is_some, ⊤}
use Rattle.std.specs.Map.{lookup}
use Rattle.tape_blocks.specs.{Block.Portion, declared.parts.Form.Form}
use Rattle.tape_image.specs.{Begins.Stop, Begins.Begins, Begins.Walks, Reader.IfKnown}
use Rattle.tape_image.specs.Tape.{TapeItem}
use Rattle.tape_set.specs.{Layout.FileSet, Lawful.IsLawful}
use Rattle.tape_set.specs.declared.position.Position.TheVariants.{Awaits, Finished}
use Rattle.tape_core.specs.{Behind.behind_of, Known.is_finished, Place.IsPlaced, State.State}
use Rattle.tape_core.specs.Table.{mount_of}
use Rattle.tape_core.specs.{declared.event.Phase.TheVariants.Broken, declared.sink.PartSink.Ghosts}
use Rattle.tape_run.specs.{ByTable.IsLed, Given.IsGiven, Lacks.key_at}
use Rattle.tape_run.specs.{Crash.IsWalked, ByTable.PassedOver, Noted.same_key, Reeling.Mounting}
use Rattle.tape_run.specs.{Extracting.IsPut, Mount.MountEvent, Mount.IsMount, Steps.ReadBy}
use Rattle.tape_run.specs.declared.extract.located.Mounted.{Mounted}
use Rattle.tape_run.specs.{Seen.Seen, Seen.IfSeen, Seen.IsSeen, SurveyLocations.Located}
use Rattle.tape_run.specs.{SessionState.SessionState, declared.survey.files.FileKey.FileKey}

-- ---- an image that stays open

-- The session of every later file of the set skips these items, in that reading.
abbrev pub ArePassed : Bool → FileKey → List TapeItem → Type 0
ArePassed wide key front = (core : State) → core.set_id ≡ key.set_id → key.file < core.file
    → is_finished core.position ≡ false → core.phase ≢ Broken
    → PassedOver wide core front (behind_of core)

-- The bytes of an image begin with items that the session of every later file skips, and these
-- bytes are left.
pub record PassesTo (wide : Bool) (key : FileKey) (bytes left : List ℕ) : Type 0 where
  pub front : List TapeItem
  pub at : ℕ
  pub walks : Walks 0 bytes front at left
  pub passed : ArePassed wide key front

-- The open image, if any, has these bytes, and later files' sessions continue where its reader is.
abbrev pub IsHeld : {R : Type 0} → Bool → (R → Option (List ℕ)) → Option (Mounted R) → Option
    (List ℕ)
    → Type 0
IsHeld wide remaining None whole = ⊤
IsHeld wide remaining (Some m) whole = IfKnown whole (remaining m.device) (PassesTo wide m.file)

-- ---- what a session reads

-- One reading of an image by a session: the bytes of the image, the items before those that it
-- read, the bytes that the reader then had and those that it has left, and whether it failed.
pub record Stretch : Type 0 where
  pub whole : Option (List ℕ)
  pub front : List TapeItem
  pub had : Option (List ℕ)
  pub left : Option (List ℕ)
  pub failed : Bool

-- The image begins with the items before the reading, and the reader had the rest.
abbrev pub IsPartOf : Stretch → Type 0
IsPartOf s = IfKnown s.whole s.had (λ bytes rest. (at : ℕ) × Walks 0 bytes s.front at rest)

-- The session went where the table leads over the whole image: over the items before the reading,
-- and those of the bytes that the reader returned (all the bytes that it had or, if it failed,
-- those that it no longer has). For every valid set, if these items are a mount, it is where that
-- mount leads, with exactly the parts before that position.
pub record ReadsOn (s : Stretch) (old new : Seen) : Type 0 where
  pub given : List ℕ
  pub is_given : IfKnown s.whole s.had (λ bytes had. IsGiven s.failed had s.left given)
  pub same_file : IsSome s.whole → new.place.file ≡ old.place.file
  pub same_wide : IsSome s.whole → new.wide ≡ old.wide
  pub reads : IsSome s.whole → (set : FileSet) (h : MountEvent) (xs : List TapeItem) (end : ℕ)
      (stop : Stop) → IsLawful set → Begins 0 given xs end stop → IsMount set (s.front ++ xs) h
      → IsPlaced set old.place old.parts
      → ReadBy set old.place.file old.place.position h new.place new.parts
  pub table : IsSome s.whole → (xs : List TapeItem) (end : ℕ) (stop : Stop)
      → Begins 0 given xs end stop
      → IsLed old.wide (s.front ++ xs) (mount_of old.place) new.place old.parts new.parts

-- The stretches, one after another, took the session from one state to another.
abbrev pub FollowsOn : Seen → List Stretch → Seen → Type 0
FollowsOn old [] new = new ≡ old
FollowsOn old (s ∷ ss) new = (mid : Seen) × ReadsOn s old mid × FollowsOn mid ss new

-- ---- which images

-- A section of the session's file begins on the image with this number.
abbrev pub BeginsOn : List Located → State → ℕ → Type 0
BeginsOn locations core image = (sect : ℕ)
    × (lookup (same_key (key_at core.set_id core.file sect)) locations ≡ Some image)

-- Each stretch was read from the open image with these bytes, if there is one, or from an image
-- that the source yielded; a section begins on that image, and then it is open.
abbrev pub AreFrom : {L R : Type 0} → (ℕ → Type 0) → Mounting L R → (R → Option (List ℕ)) → Bool
    → Option (List ℕ) → L → List Stretch → L → Type 0
AreFrom on gives remaining opened whole shelf [] last = last ≡ shelf
AreFrom on gives remaining opened whole shelf (s ∷ ss) last = IsPartOf s
    × (((opened ≡ true) × (s.whole ≡ whole) × AreFrom on gives remaining true s.whole shelf ss last)
    ⊎ ((image : ℕ) × on image × (device : _) × (next : _) × gives shelf image (Some device) next
    × (s.whole ≡ remaining device) × AreFrom on gives remaining true s.whole next ss last))

-- the bytes of the image that is open after these stretches
abbrev pub held_behind : Option (List ℕ) → List Stretch → Option (List ℕ)
held_behind whole [] = whole
held_behind whole (s ∷ ss) = held_behind s.whole ss

-- ---- calls

-- A stretch of the image with these bytes was read; if a section was completed the image stays
-- open.
pub record ReadsPart {S R : Type 0} (g : Ghosts S) (remaining : R → Option (List ℕ))
    (whole : Option (List ℕ)) (old new : SessionState S) (after : Option (Mounted R)) : Type 0 where
  pub stretch : Stretch
  pub of_image : stretch.whole ≡ whole
  pub is_part : IsPartOf stretch
  pub reads : IfSeen g old (λ was. IsSeen g new (λ is. ReadsOn stretch was is))
  pub held : IsHeld new.wide remaining after whole

-- A stretch was read from the open image, or from the image with this number, which the source
-- yielded. Or that image cannot be opened, and nothing changed.
abbrev pub ReadsLocated : {S L R : Type 0} → Ghosts S → Mounting L R → (R → Option (List ℕ)) → ℕ
    → SessionState S → SessionState S → L → L → Bool → Option (List ℕ) → Option (Mounted R) → Type 0
ReadsLocated g gives remaining image old new shelf left opened whole after =
    ((opened ≡ true) × (left ≡ shelf) × ReadsPart g remaining whole old new after)
    ⊎ (((device : _) × gives shelf image (Some device) left
    × ReadsPart g remaining (remaining device) old new after)
    ⊎ (gives shelf image None left × (new ≡ old) × (after ≡ None)))

-- This is the image on which the missing section begins, if one is known.
abbrev pub NextBeginsOn : List Located → State → Option ℕ → Type 0
NextBeginsOn locations core image = (sect block part : ℕ) → core.position ≡ Awaits sect block part
    → lookup (same_key (key_at core.set_id core.file sect)) locations ≡ image

-- The file is complete. Or it is incomplete, and no image is known for the missing section, or
-- something was read, or the image of the missing section could not be opened.
abbrev pub EndsReading : {L R : Type 0} → Mounting L R → List Located → List Stretch → State → L → L
    → Bool → Type 0
EndsReading gives locations stretches core mid left true = (core.position ≡ Finished) × (left ≡ mid)
EndsReading gives locations stretches core mid left false = (core.position ≢ Finished)
    × (((left ≡ mid) × (NextBeginsOn locations core None ⊎ (stretches ≢ [])))
    ⊎ ((image : ℕ) × NextBeginsOn locations core (Some image) × gives mid image None left))

-- Stretches of images were read, one after another, and this image is open then.
pub record ReadsSections {S L R : Type 0} (g : Ghosts S) (gives : Mounting L R)
    (remaining : R → Option (List ℕ)) (locations : List Located) (complete : Bool)
    (old new : SessionState S) (shelf left : L) (opened : Bool) (whole : Option (List ℕ))
    (after : Option (Mounted R)) : Type 0 where
  pub stretches : List Stretch
  pub mid : L
  pub are_from : AreFrom (BeginsOn locations old.core) gives remaining opened whole shelf stretches
      mid
  pub held : IsHeld new.wide remaining after (held_behind whole stretches)
  pub follows : IfSeen g old (λ was. IsSeen g new (λ is. FollowsOn was stretches is))
  pub ends : EndsReading gives locations stretches new.core mid left complete

-- A file was read in this way, and the session is where that led. If the file is complete, exactly
-- its records have the output's name.
pub record ExtractsLocated {S L R : Type 0} (g : Ghosts S) (gives : Mounting L R)
    (remaining : R → Option (List ℕ)) (locations : List Located) (session new : SessionState S)
    (shelf left : L) (opened : Bool) (whole : Option (List ℕ)) (after : Option (Mounted R))
    (form : Form) (tells : Type 0) (stands : Option (List ℕ)) (records : Option ℕ) : Type 0 where
  pub last : SessionState S
  pub reads : ReadsSections g gives remaining locations (is_some records) session last shelf left
      opened whole after
  pub same : IsWalked g last new
  pub complete : (n : ℕ) → records ≡ Some n → (parts : List Portion) → g.holds last.sink parts
      → IsPut form tells stands None n parts
