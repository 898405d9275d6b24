-- A run in the wider reading is where its history leads, over each set that this reading recovers.
use Rattle.std.proofs.Common.{◌≡◌, ℕ, zero, suc, ◌+◌, List, [], ◌∷◌, ◌++◌, Bool, true, Option, Some}
use Rattle.std.proofs.Common.{None, refl, sym, ap, ◌∙◌, subst, map, take, slice_get, IsSome}
use Rattle.std.specs.Prelude.{⊤}
use Rattle.tape_image.specs.{Tape.TapeItem, Begins.Stop, Begins.Begins}
use Rattle.tape_image.proofs.Uniqueness.{Begins-one}
use Rattle.tape_blocks.specs.Block.{Portion}
use Rattle.tape_set.specs.declared.position.Position.{Position}
use Rattle.tape_set.specs.{Before.before, Layout.FileSet, Layout.Section, Layout.file_of}
use Rattle.tape_set.proofs.AllVolumes.{has_start}
use Rattle.tape_set.specs.Readable.{IsReadable}
use Rattle.tape_core.specs.{State.State, Point.Point, Place.rest_of, Table.mount_of}
use Rattle.tape_run.specs.declared.script.Step.{Step}
use Rattle.tape_run.specs.declared.script.Step.TheVariants.{Reel, Save, Restart}
use Rattle.tape_run.specs.{Reels.behind_items, ByTable.delivered_parts}
use Rattle.tape_run.specs.Mount.{MountEvent, reads, foreign_reel, saves, restarts, IsMount}
use Rattle.tape_run.specs.Mount.{IsMountOf, after_mount}
use Rattle.tape_run.specs.History.{Course, course, course_of, after, at_note, IsHistory}
use Rattle.tape_run.specs.Lead.{Noted, Lead, lead, at_start, over_reel, over_save, back_to}
use Rattle.tape_run.specs.Lead.{AreItems, AreNoted, StandsThere}
use Rattle.tape_run.specs.{Headline.HasRun, Headline.begins, Seen.Seen, ReadableRuns.WideRunsRead}
use Rattle.tape_run.proofs.Lead.{items_are_there}
use Rattle.tape_run.proofs.PlainSets.{plain_set, plain_section, plain_lawful}
use Rattle.tape_run.proofs.PlainShape.{nth_map}
use Rattle.tape_run.proofs.ReadableMounts.{Rests, after_reel, Mounted, mounted_by}

-- ---- where a history leads

-- the checkpoint is at this position of the file, with the parts before it
record NoteIs (set : FileSet) (file : ℕ) (n : Noted) (p : Position) : Type 0 where
  rests : Rests set n.place
  its_file : n.place.file ≡ file
  at : n.place.position ≡ p
  parts : n.parts ≡ before set file p

abbrev NotesAre : FileSet → ℕ → List Noted → List Position → Type 0
NotesAre set file [] [] = ⊤
NotesAre set file [] (p ∷ ps) = ⊥
NotesAre set file (n ∷ ns) [] = ⊥
NotesAre set file (n ∷ ns) (p ∷ ps) = NoteIs set file n p × NotesAre set file ns ps

-- the table leads to the position and the checkpoints of the history, with the parts before it
record IsThere (set : FileSet) (file : ℕ) (t : Lead) (c : Course) : Type 0 where
  wide : t.wide ≡ true
  its_file : t.place.file ≡ file
  rests : Rests set t.place
  at : t.place.position ≡ c.at
  parts : t.parts ≡ before set file t.place.position
  notes : NotesAre set file t.notes c.notes

notes_push : (set : FileSet) (file : ℕ) (ns : List Noted) (ps : List Position) (n : Noted)
    (p : Position) → NotesAre set file ns ps → NoteIs set file n p
    → NotesAre set file (ns ++ n ∷ []) (ps ++ p ∷ [])
notes_push set file [] [] n p h i = (i, tt)
notes_push set file [] (q ∷ ps) n p h i = absurd h
notes_push set file (m ∷ ns) [] n p h i = absurd h
notes_push set file (m ∷ ns) (q ∷ ps) n p h i = (h.0, notes_push set file ns ps n p h.1 i)

notes_front : (set : FileSet) (file : ℕ) (k : ℕ) (ns : List Noted) (ps : List Position)
    → NotesAre set file ns ps → NotesAre set file (take k ns) (take k ps)
notes_front set file zero [] [] h = tt
notes_front set file zero [] (p ∷ ps) h = absurd h
notes_front set file zero (n ∷ ns) [] h = absurd h
notes_front set file zero (n ∷ ns) (p ∷ ps) h = tt
notes_front set file (suc k) [] [] h = tt
notes_front set file (suc k) [] (p ∷ ps) h = absurd h
notes_front set file (suc k) (n ∷ ns) [] h = absurd h
notes_front set file (suc k) (n ∷ ns) (p ∷ ps) h = (h.0, notes_front set file k ns ps h.1)

-- the checkpoints with a number, if there is one
abbrev NoteAt : FileSet → ℕ → Option Noted → Option Position → Type 0
NoteAt set file None None = ⊤
NoteAt set file None (Some p) = ⊥
NoteAt set file (Some n) None = ⊥
NoteAt set file (Some n) (Some p) = NoteIs set file n p

note_at : (set : FileSet) (file : ℕ) (i : ℕ) (ns : List Noted) (ps : List Position)
    → NotesAre set file ns ps → NoteAt set file (slice_get ns i) (slice_get ps i)
note_at set file i [] [] h = tt
note_at set file i [] (p ∷ ps) h = absurd h
note_at set file i (n ∷ ns) [] h = absurd h
note_at set file zero (n ∷ ns) (p ∷ ps) h = h.0
note_at set file (suc i) (n ∷ ns) (p ∷ ps) h = note_at set file i ns ps h.1

-- ---- steps

over_wide : (t : Lead) (xs : List TapeItem) → t.wide ≡ true → over_reel t xs ≡ record {
  place = after_reel t.place xs;
  parts = t.parts ++ delivered_parts true (mount_of t.place) xs;
  notes = t.notes;
  wide = true;
}
over_wide t xs e = ap (λ (w : Bool). record {
  place = rest_of (behind_items w (mount_of t.place) xs);
  parts = t.parts ++ delivered_parts w (mount_of t.place) xs;
  notes = t.notes;
  wide = w;
}) e

reel_there : (set : FileSet) → IsReadable set → (file : ℕ) (t : Lead) (c : Course)
    (xs : List TapeItem) (h : MountEvent) → IsThere set file t c → IsMount set xs h
    → IsThere set file (over_reel t xs) (after set file c h)
reel_there set is file t c xs h g m =
    subst (λ (z : Lead). IsThere set file z (after set file c h)) (sym (over_wide t xs g.wide))
    (go h m (mounted_by set is t.place g.rests xs h m))
  where
    more : (h : MountEvent) → Mounted set t.place xs h
        → t.parts ++ delivered_parts true (mount_of t.place) xs
        ≡ before set file (after_reel t.place xs).position
    more h d =
        ap (λ z. z ++ delivered_parts true (mount_of t.place) xs) g.parts
        ∙ sym (subst (λ (n : ℕ). before set n (after_reel t.place xs).position
        ≡ before set n t.place.position ++ delivered_parts true (mount_of t.place) xs) g.its_file
        d.parts)

    go : (h : MountEvent) → IsMount set xs h → Mounted set t.place xs h
        → IsThere set file (record {
          place = after_reel t.place xs;
          parts = t.parts ++ delivered_parts true (mount_of t.place) xs;
          notes = t.notes;
          wide = true;
        }) (after set file c h)
    go (reads r) m d = record {
      wide = refl;
      its_file = d.same_file ∙ g.its_file;
      rests = d.rests;
      at = d.position ∙ (ap (λ (n : ℕ). after_mount set n t.place.position (reads r)) g.its_file
          ∙ ap (λ (p : Position). after_mount set file p (reads r)) g.at);
      parts = more (reads r) d;
      notes = g.notes;
    }
    go foreign_reel m d = record {
      wide = refl;
      its_file = d.same_file ∙ g.its_file;
      rests = d.rests;
      at = d.position ∙ g.at;
      parts = more foreign_reel d;
      notes = g.notes;
    }
    go saves m d = absurd m
    go (restarts n) m d = absurd m

save_there : (set : FileSet) (file : ℕ) (t : Lead) (c : Course) → IsThere set file t c
    → IsThere set file (over_save t) (after set file c saves)
save_there set file t c g = record {
  wide = g.wide;
  its_file = g.its_file;
  rests = g.rests;
  at = g.at;
  parts = g.parts;
  notes = notes_push set file t.notes c.notes (record { place = t.place; parts = t.parts }) c.at
      g.notes (record {
        rests = g.rests;
        its_file = g.its_file;
        at = g.at;
        parts = g.parts ∙ ap (before set file) g.at;
      });
}

restart_there : (set : FileSet) (file : ℕ) (t : Lead) (c : Course) (n : ℕ) → IsThere set file t c
    → IsThere set file (back_to t n (slice_get t.notes n)) (after set file c (restarts n))
restart_there set file t c n g =
    go (slice_get t.notes n) (slice_get c.notes n) (note_at set file n t.notes c.notes g.notes)
  where
    go : (a : Option Noted) (b : Option Position) → NoteAt set file a b
        → IsThere set file (back_to t n a) (at_note c n b)
    go None None h = g
    go None (Some p) h = absurd h
    go (Some m) None h = absurd h
    go (Some m) (Some p) h = record {
      wide = g.wide;
      its_file = h.its_file;
      rests = record {
        at = record { of_set = h.rests.at.of_set; sound = refl; stands = h.rests.at.stands };
        fine = record {
          known = h.rests.fine.known;
          told = tt;
          begun = h.rests.fine.begun;
          first = h.rests.fine.first;
        };
      };
      at = h.at;
      parts = h.parts ∙ ap (before set file) (sym h.at);
      notes = notes_front set file (n + 1) t.notes c.notes g.notes;
    }

-- ---- a run

leads_there : (set : FileSet) → IsReadable set → (file : ℕ) (notes : ℕ) (steps : List Step)
    (given : List (List ℕ)) (reels : List (List TapeItem)) (hs : List MountEvent) (t : Lead)
    (c : Course) → IsHistory set notes steps given hs → AreItems given reels
    → IsThere set file t c → IsThere set file (lead t steps reels) (course set file c hs)
leads_there set is file notes [] given reels [] t c h a g = g
leads_there set is file notes [] given reels (x ∷ hs) t c h a g = absurd h
leads_there set is file notes (Reel ∷ steps) given reels [] t c h a g = absurd h
leads_there set is file notes (Save ∷ steps) given reels [] t c h a g = absurd h
leads_there set is file notes (Restart n ∷ steps) given reels [] t c h a g = absurd h
leads_there set is file notes (Reel ∷ steps) [] reels (x ∷ hs) t c h a g = absurd h
leads_there set is file notes (Reel ∷ steps) (bytes ∷ given) [] (x ∷ hs) t c h a g = absurd a
leads_there set is file notes (Reel ∷ steps) (bytes ∷ given) (xs ∷ reels) (x ∷ hs) t c h a g =
    let (ys, end, stop, begins_it, mount) = h.0 in
    let (far, other, there) = a.0 in
    let same : ys ≡ xs = (Begins-one 0 bytes ys xs end far stop other begins_it there).0 in
    leads_there set is file notes steps given reels hs (over_reel t xs) (after set file c x) h.1
    a.1 (reel_there set is file t c xs x g (subst (λ z. IsMount set z x) same mount))
leads_there set is file notes (Save ∷ steps) given reels (x ∷ hs) t c h a g =
    leads_there set is file (notes + 1) steps given reels hs (over_save t) (after set file c x)
    h.1 a (subst (λ (z : MountEvent). IsThere set file (over_save t) (after set file c z))
    (sym h.0) (save_there set file t c g))
leads_there set is file notes (Restart n ∷ steps) given reels (x ∷ hs) t c h a g =
    leads_there set is file (n + 1) steps given reels hs (back_to t n (slice_get t.notes n))
    (after set file c x) h.2 a
    (subst (λ (z : MountEvent). IsThere set file (back_to t n (slice_get t.notes n))
    (after set file c z)) (sym h.0) (restart_there set file t c n g))

-- ---- the start of a file

plain_has : (set : FileSet) (file : ℕ) → IsSome (file_of set file)
    → IsSome (file_of (plain_set set) file)
plain_has set file has = go (file_of set file) refl has
  where
    go : (o : Option (List Section)) → file_of set file ≡ o → IsSome o
        → IsSome (file_of (plain_set set) file)
    go None e s = absurd (cc)
    go (Some f) e s = subst (λ (z : Option (List Section)). IsSome z)
        (sym (nth_map (map plain_section) set.files file f e)) refl

starts_there : (set : FileSet) → IsReadable set → (file : ℕ) → IsSome (file_of set file)
    → IsThere set file (at_start true set.set_id file) begins
starts_there set is file has = record {
  wide = refl;
  its_file = refl;
  rests = record {
    at = record {
      of_set = refl;
      sound = refl;
      stands = record {
        inside = has_start (plain_set set) (plain_lawful set is) file (plain_has set file has);
        span = refl;
        tells = refl;
      };
    };
    fine = record { known = tt; told = tt; begun = refl; first = refl };
  };
  at = refl;
  parts = refl;
  notes = tt;
}

-- ---- the session

note_positions : (set : FileSet) (file : ℕ) (front : List Portion) (ns : List Noted)
    (cs : List Point) (parts : List Portion) (ps : List Position) → AreNoted front ns cs parts
    → NotesAre set file ns ps → map (λ (z : Point). z.position) cs ≡ ps
note_positions set file front [] [] parts [] a h = refl
note_positions set file front [] [] parts (p ∷ ps) a h = absurd h
note_positions set file front [] (d ∷ cs) parts ps a h = absurd a
note_positions set file front (n ∷ ns) [] parts ps a h = absurd a
note_positions set file front (n ∷ ns) (d ∷ cs) parts [] a h = absurd h
note_positions set file front (n ∷ ns) (d ∷ cs) parts (p ∷ ps) a h =
    ap (λ (z : Position). z ∷ map (λ (y : Point). y.position) cs)
    (ap (λ (z : Point). z.position) a.1 ∙ h.0.at)
    ∙ ap (λ (z : List Position). p ∷ z) (note_positions set file n.parts ns cs parts ps a.2 h.1)

session_there : (set : FileSet) (file : ℕ) (t : Lead) (c : Course) (s : Seen)
    → IsThere set file t c → StandsThere t s
    → (course_of s ≡ c) × (s.parts ≡ before set file c.at)
session_there set file t c s g st =
    let at : s.place.position ≡ c.at = ap (λ (z : State). z.position) st.place ∙ g.at in
    let notes = note_positions set file [] t.notes s.notes s.parts c.notes st.notes g.notes in (
      ap (λ (p : Position). record { at = p; notes = map (λ (z : Point). z.position) s.notes }) at
          ∙ ap (λ (l : List Position). record { at = c.at; notes = l }) notes,
      st.parts ∙ (g.parts ∙ ap (before set file) g.at),
    )

pub wide_runs_read : WideRunsRead
wide_runs_read set_id file old new steps bytes left st run set hs is id has history =
    let (reels, items, one) = items_are_there run.given in
    let t = at_start true set_id file in
    let there : StandsThere (lead t steps reels) new = run.led t reels items st in
    let begun : IsThere set file t begins =
    subst (λ (z : List ℕ). IsThere set file (at_start true z file) begins) (sym id)
    (starts_there set is file has) in
    session_there set file (lead t steps reels) (course set file begins hs) new
    (leads_there set is file 0 steps run.given reels hs t begins history items begun) there
