-- The calls of a session, as steps of a run.
use Rattle.std.proofs.Common.{◌≡◌, ℕ, zero, suc, ◌+◌, Bool, true, false, List, [], ◌∷◌, ◌++◌, take}
use Rattle.std.proofs.Common.{Option, Some, None, IfSome, refl, sym, ap, subst, ◌∙◌, arith, is_some}
use Rattle.std.proofs.Common.{not, slice_get}
use Rattle.tape_blocks.specs.Block.{Portion}
use Rattle.tape_set.specs.{Position.want_at, declared.position.Position.Position}
use Rattle.tape_set.specs.declared.position.Position.TheVariants.{Awaits, Finished}
use Rattle.tape_image.specs.Tape.{TapeItem}
use Rattle.tape_core.specs.{Point.Point, State.State, Place.place_of, Place.rest_of, Weight.IsFront}
use Rattle.tape_core.specs.{Table.saved, Stands.weight_of}
use Rattle.tape_core.specs.declared.sink.PartSink.{Ghosts}
use Rattle.tape_run.specs.{ByTable.IsLed, Taking.ReadsImage, Taking.CutsTable}
use Rattle.tape_run.specs.{Given.counted, Given.IsGiven, SessionState.SessionState}
use Rattle.tape_run.specs.Seen.{Seen, IsNote, KeepsNotes, IsKept, IfSeen, IsSeen, seen}
use Rattle.tape_run.specs.Steps.{ReeledFrom, CutShort, Saved, WentBack}
use Rattle.tape_run.proofs.ByTable.{resting_twice}
use Rattle.tape_run.proofs.GoesBehind.{leads_over_all, cuts_over_all}
use Rattle.tape_run.proofs.{BehindReads.led_reads, BehindReads.cut_reads, Shown.some_map}
use Rattle.tape_run.proofs.Notes.{front_self, front_trans, same_front}

-- ---- notes

pub kept_grow : (place : State) (front : List Portion) (notes : List Point)
    (parts more : List Portion)
    → IsFront parts more → KeepsNotes place front notes parts → KeepsNotes place front notes more
kept_grow place front [] parts more f h = front_trans front parts more h f
kept_grow place front (c ∷ cs) parts more f (ps, a, s, rest) =
    (ps, a, s, kept_grow place ps cs parts more f rest)

pub kept_place : (p q : State) (front : List Portion) (notes : List Point) (parts : List Portion)
    → q.set_id ≡ p.set_id → q.file ≡ p.file → KeepsNotes p front notes parts
    → KeepsNotes q front notes parts
kept_place p q front [] parts a b h = h
kept_place p q front (c ∷ cs) parts a b (ps, f, s, rest) = (
  ps,
  f,
  record { of_set = s.of_set ∙ sym a; of_file = s.of_file ∙ sym b; staged = s.staged },
  kept_place p q ps cs parts a b rest,
)

kept_front : (place : State) (front : List Portion) (notes : List Point) (parts : List Portion)
    → KeepsNotes place front notes parts → IsFront front parts
kept_front place front [] parts h = h
kept_front place front (c ∷ cs) parts (ps, a, s, rest) =
    front_trans front ps parts a (kept_front place ps cs parts rest)

pub kept_push : (place : State) (front : List Portion) (notes : List Point)
    (c : Point) (parts : List Portion)
    → IsNote place c parts → KeepsNotes place front notes parts
    → KeepsNotes place front (notes ++ c ∷ []) parts
kept_push place front [] c parts s h = (parts, h, s, front_self parts)
kept_push place front (d ∷ ds) c parts s (ps, a, t, rest) =
    (ps, a, t, kept_push place ps ds c parts s rest)

pub record KeptAt (place : State) (front : List Portion) (notes : List Point)
    (n : ℕ) (c : Point) (parts : List Portion) : Type 0 where
  pub ps : List Portion
  pub is_front : IsFront ps parts
  pub note : IsNote place c ps
  pub left : KeepsNotes place front (take (n + 1) notes) ps

pub kept_at : (place : State) (front : List Portion) (notes : List Point)
    (n : ℕ) (c : Point) (parts : List Portion)
    → slice_get notes n ≡ Some c → KeepsNotes place front notes parts
    → KeptAt place front notes n c parts
kept_at place front [] n c parts e h = absurd (cc)
kept_at place front (d ∷ ds) zero c parts e (ps, a, s, rest) = grind (arith, kept_front, front_self)
kept_at place front (d ∷ ds) (suc n) c parts e (ps, a, s, rest) =
    let next = kept_at place ps ds n c parts e rest in
    let more : suc n + 1 ≡ suc (n + 1) = omega arith in
    record {
      ps = next.ps;
      is_front = next.is_front;
      note = next.note;
      left = rw more ((ps, a, s, next.left));
    }

pub kept_save : (old new : Seen) → Saved old new → IsKept old → IsKept new
kept_save old new v k =
    let note : IsNote old.place (saved old.place (weight_of old.parts)) old.parts =
    record { of_set = refl; of_file = refl; staged = refl } in
    rw (v.place, v.parts, v.notes) (kept_push old.place [] old.notes _ old.parts note k)

-- ---- a reel

-- a session in this state, with its numbers of failed readers and of refusals
abbrev pub session_of : State → List Portion → List Point → ℕ → ℕ → Bool → Seen
session_of place parts notes failures refusals wide = record {
  place = place;
  parts = parts;
  notes = notes;
  failures = failures;
  refusals = refusals;
  wide = wide;
}

rest_again : (core : State) → rest_of core ≡ rest_of (rest_of core)
rest_again core = ap (λ f. record core { phase = f }) (sym (resting_twice core.phase))

-- the bytes of a reel whose parts were put as the table says
pub reeled : (wide later failed : Bool) → later ≡ wide → (core mounted start new : State)
    (held now : List Portion)
    (bytes : List ℕ) (unread left : Option (List ℕ)) (notes : List Point) (f1 f2 r1 r2 : ℕ)
    → left ≡ unread → new.set_id ≡ core.set_id → new.file ≡ core.file → r2 ≡ r1 → IsFront held now
    → f2 ≡ counted failed f1 → mounted ≡ start
    → ReadsImage wide failed mounted new held now unread bytes
    → ReeledFrom start bytes left failed (session_of (rest_of core) held notes f1 r1 wide)
    (session_of (rest_of new) now notes f2 r2 later)
reeled wide later failed same_wide core mounted start new held now bytes unread left notes f1 f2 r1
    r2 same_left set_id
    file calm grows count mount reads =
    let r = subst (λ (z : State). ReadsImage wide failed z new held now unread bytes) mount reads in
    record {
      given = r.given;
      is_given = subst (λ l. IsGiven failed bytes l r.given) (sym same_left) r.is_given;
      count = count;
      notes = refl;
      same_set = set_id;
      same_file = file;
      calm = calm;
      same_wide = same_wide;
      grows = grows;
      reads = λ set front xs end stop h l over b m at. led_reads wide set h (front ++ xs)
          (rest_of core)
          (rest_of new) held now l m (rest_again core) at (leads_over_all wide (rest_of core) start
          (rest_of new) front xs held now over (r.table xs end stop b));
      table = r.table;
    }

pub cut_short : (wide later : Bool) → later ≡ wide → (core mounted start new : State)
    (held now : List Portion) (bytes : List ℕ)
    (notes : List Point) (f r1 r2 : ℕ) → new.set_id ≡ core.set_id → new.file ≡ core.file
    → IsFront held now → mounted ≡ start → CutsTable wide mounted (rest_of new) held now bytes
    → CutShort start bytes (session_of (rest_of core) held notes f r1 wide)
    (session_of (rest_of new) now notes f r2 later)
cut_short wide later same_wide core mounted start new held now bytes notes f r1 r2 set_id file
    grows mount cut =
    let cuts = subst (λ (z : State). CutsTable wide z (rest_of new) held now bytes) mount cut in
    record {
      count = refl;
      notes = refl;
      same_set = set_id;
      same_file = file;
      same_wide = same_wide;
      grows = grows;
      stops = λ set front xs end stop h l over b m at. cut_reads wide set h (front ++ xs)
          (rest_of core)
          (rest_of new) held now l m (rest_again core) at (cuts_over_all wide (rest_of core) start
          (rest_of new) front xs held now over (cuts xs end stop b));
      table = cuts;
    }

-- nothing is read of a file that is complete
pub not_read : (start core : State) (bytes : List ℕ) (left : Option (List ℕ)) (s : Seen)
    (failed : Bool) → failed ≡ false → s.place ≡ rest_of core
    → ((xs : List TapeItem) → IsLed s.wide xs start s.place s.parts s.parts)
    → ReeledFrom start bytes left failed s s
not_read start core bytes left s failed f place table =
    let resting : s.place ≡ rest_of s.place =
    place ∙ (rest_again core ∙ ap rest_of (sym place)) in
    subst (λ (b : Bool). ReeledFrom start bytes left b s s) (sym f) (record {
      given = bytes;
      is_given = refl;
      count = refl;
      notes = refl;
      same_set = refl;
      same_file = refl;
      calm = refl;
      same_wide = refl;
      grows = front_self s.parts;
      reads = λ set front xs end stop h l over b m at. led_reads s.wide set h
          (front ++ xs) s.place s.place
          s.parts s.parts l m resting at
          (leads_over_all s.wide s.place start s.place front xs s.parts
          s.parts over (table xs));
      table = λ xs end stop b. table xs;
    })

-- ---- the sessions of a call

pub some_at : (o q : Option (List ℕ)) (P Q : List ℕ → Type 0) → q ≡ o
    → ((xs : List ℕ) → P xs → Q xs) → IfSome q P → IfSome o Q
some_at o q P Q e f h = subst (λ (z : Option (List ℕ)). IfSome z Q) e (some_map q P Q f h)

some_all : (o : Option (List ℕ)) (Q : List ℕ → Type 0) → ((xs : List ℕ) → Q xs) → IfSome o Q
some_all None Q f = tt
some_all (Some xs) Q f = f xs

-- a reel was read, to its end or up to a part that the sink refused
pub reel_seen : {S : Type 0} (g : Ghosts S) (view old new : SessionState S)
    (device : Option (List ℕ)) (so : List ℕ → Seen → Seen → Type 0) → old ≡ view
    → new.notes ≡ old.notes → new.core.set_id ≡ old.core.set_id → new.core.file ≡ old.core.file
    → ((held : List Portion) → g.holds old.sink held → (now : List Portion)
    × g.holds new.sink now × IsFront held now
    × IfSome device (λ bytes. so bytes (seen g old held) (seen g new now)))
    → IfSeen g view (λ was. IsSeen g new (λ is. IsFront was.parts is.parts
    × (IsKept was → IsKept is) × IfSome device (λ bytes. so bytes was is)))
reel_seen g view old new device so same notes set_id file reads =
    subst (λ z. IfSeen g z (λ was. IsSeen g new (λ is. IsFront was.parts is.parts
    × (IsKept was → IsKept is) × IfSome device (λ bytes. so bytes was is)))) same (λ held was.
    let (now, has, front, there) = reads held was in (
      now,
      has,
      (
        front,
        (λ k. kept_place (rest_of old.core) (rest_of new.core) [] new.notes now set_id file
            (subst (λ l. KeepsNotes (rest_of old.core) [] l now) (sym notes)
            (kept_grow (rest_of old.core) [] old.notes held now front k))),
        there,
      ),
    ))

-- no reel was needed
pub still_seen : {S : Type 0} (g : Ghosts S) (view old : SessionState S)
    (device : Option (List ℕ)) (so : List ℕ → Seen → Seen → Type 0) → old ≡ view
    → ((held : List Portion) (bytes : List ℕ) → so bytes (seen g old held) (seen g old held))
    → IfSeen g view (λ was. IsSeen g view (λ is. IsFront was.parts is.parts
    × (IsKept was → IsKept is) × IfSome device (λ bytes. so bytes was is)))
still_seen g view old device so same reads =
    subst (λ z. IfSeen g z (λ was. IsSeen g z (λ is. IsFront was.parts is.parts
    × (IsKept was → IsKept is) × IfSome device (λ bytes. so bytes was is)))) same (λ held was.
    (held, was, (front_self held, (λ k. k), some_all _ _ (reads held))))

-- of a complete file nothing is missing
pub want_none : (file : ℕ) (p : Position) (b : Bool) → is_some (want_at file p) ≡ not b → b ≡ true
    → p ≡ Finished
want_none file Finished b e f = refl
want_none file (Awaits sect block part) b e f = absurd (let g : not b ≡ false = ap not f in cc)

pub kept_restart : (old new : Seen) (n : ℕ) → WentBack n old new → IsKept old → IsKept new
kept_restart old new n w k =
    let at = kept_at old.place [] old.notes n w.point old.parts w.noted k in
    let same : new.parts ≡ at.ps =
    same_front new.parts at.ps old.parts w.front at.is_front (w.weighs ∙ at.note.staged) in
    kept_place old.place new.place [] new.notes new.parts (ap (λ (p : State). p.set_id) w.place
    ∙ at.note.of_set) (ap (λ (p : State). p.file) w.place ∙ at.note.of_file)
    (rw (w.notes, same) at.left)

-- The session is at its checkpoint with this number, with the first parts up to its weight.
pub record GoesBack (n : ℕ) (point : Point) (old : Seen) (new : List Portion → Seen) : Type 0 where
  pub parts : List Portion
  pub front : IsFront parts old.parts
  pub weighs : weight_of parts ≡ point.staged
  pub went : WentBack n old (new parts)
  pub kept : IsKept (new parts)

-- a core moved there, and the later checkpoints were dropped
pub goes_back : (n : ℕ) (point : Point) (from place : State) (held : List Portion)
    (notes left : List Point) (failures before refusals : ℕ) (wide : Bool)
    → slice_get notes n ≡ Some point → KeepsNotes from [] notes held
    → place ≡ place_of point
    → left ≡ take (n + 1) notes → refusals ≡ before
    → GoesBack n point (session_of from held notes failures before wide)
    (λ parts. session_of place parts left failures refusals wide)
goes_back n point from place held notes left failures before refusals wide noted kept there forgets
    calm =
    let at = kept_at from [] notes n point held noted kept in
    let old = session_of from held notes failures before wide in
    let new = session_of place at.ps left failures refusals wide in
    let went : WentBack n old new = record {
      point = point;
      noted = noted;
      place = there;
      front = at.is_front;
      weighs = sym at.note.staged;
      notes = forgets;
      count = refl;
      calm = calm;
      same_wide = refl;
    } in
    record {
      parts = at.ps;
      front = at.is_front;
      weighs = sym at.note.staged;
      went = went;
      kept = kept_restart old new n went kept;
    }
