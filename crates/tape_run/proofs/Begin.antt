-- Sessions that begin.
use Rattle.std.proofs.Common.{◌≡◌, ℕ, Bool, List, [], Option, refl, sym, ap, subst, ◌∙◌, length}
use Rattle.tape_blocks.specs.Block.{Portion}
use Rattle.tape_set.specs.{Position.start, Layout.FileSet, Before.before, Before.IsIn}
use Rattle.tape_set.proofs.AllVolumes.{has_start}
use Rattle.tape_core.specs.{Point.Point, State.State, Table.reader_of, Stands.Stands, Follows.IsAt}
use Rattle.tape_core.specs.Place.{rest_of, place_of, IsPlaced}
use Rattle.tape_core.proofs.Standing.{rests, stood}
use Rattle.tape_run.specs.{declared.script.Step.Step, Seen.Seen, Seen.IsSession, Seen.IsKept}
use Rattle.tape_run.specs.History.{Course, course, course_of, IsHistory}
use Rattle.tape_run.specs.Headline.{HasRun, begins, IsNew, IsStart, IsRead}
use Rattle.tape_run.specs.{Given.counted_up, Given.failed_of, Lead.at_start}

pub is_new : (set : FileSet) (set_id : List ℕ)
    (file : ℕ) (core place : State) (failures refusals : ℕ) (wide : Bool) (notes : List Point)
    → core ≡ reader_of set_id file → place ≡ rest_of core → notes ≡ [] → IsAt set core
    → IsNew set file (record {
      place = place;
      parts = [];
      notes = notes;
      failures = failures;
      refusals = refusals;
      wide = wide;
    })
is_new set set_id file core place failures refusals wide notes e f g at =
    let placed : IsPlaced set (rest_of core) [] =
    record { at = rests set core at; all = rw e refl } in
    let here : IsPlaced set place [] = subst (λ z. IsPlaced set z []) (sym f) placed in
    record {
      session = record { at = here; notes = rw g (([], refl)) };
      its_file = rw (f, e) refl;
      course = rw (f, e, g) refl;
    }

pub is_resumed : (set : FileSet) (point : Point) (place : State) (failures refusals : ℕ)
    (wide : Bool) (notes : List Point) (held : List Portion)
    → place ≡ place_of point → notes ≡ [] → Stands set point.file point held
    → IsSession set (record {
      place = place;
      parts = held;
      notes = notes;
      failures = failures;
      refusals = refusals;
      wide = wide;
    })
is_resumed set point place failures refusals wide notes held e g s = record {
  at = rw e (stood set point.file point held s);
  notes = rw g ((held, refl));
}

pub is_start : (set_id : List ℕ)
    (file : ℕ) (core place : State) (failures refusals : ℕ) (wide : Bool) (notes : List Point)
    → core ≡ reader_of set_id file → place ≡ rest_of core → notes ≡ [] → failures ≡ 0
    → ((set : FileSet) → set_id ≡ set.set_id → IsIn set file start → IsAt set core)
    → IsStart set_id file (record {
      place = place;
      parts = [];
      notes = notes;
      failures = failures;
      refusals = refusals;
      wide = wide;
    })
is_start set_id file core place failures refusals wide notes e f g h at = record {
  no_notes = g;
  no_failures = h;
  no_parts = refl;
  place = f ∙ ap rest_of e;
  each = λ set l id has. is_new set set_id file core place failures refusals wide notes e f g
      (at set id (has_start set l file has));
}

pub kept_new : (set_id : List ℕ) (file : ℕ) (s : Seen) → IsStart set_id file s → IsKept s
kept_new set_id file s st = rw (st.no_notes) ((s.parts, refl))

pub is_read : (set_id : List ℕ) (file : ℕ) (steps : List Step) (bytes : List (List ℕ))
    (left : List (Option (List ℕ)))
    (old new : Seen) → IsStart set_id file old → (h : HasRun old steps bytes left new)
    → new.wide ≡ old.wide → (read : IsRead set_id file steps bytes left new) ×
    (read.which ≡ h.which)
is_read set_id file steps bytes left old new st h same = (
  record {
    given = h.given;
    which = h.which;
    are_given = h.are_given;
    count = h.count ∙ ap (counted_up (failed_of h.which)) st.no_failures;
    reads = λ set hs l id has hist.
        let n = st.each set l id has in
        let none : length old.notes ≡ 0 = ap length st.no_notes in
        let r =
        h.ran set hs l (subst (λ k. IsHistory set k steps h.given hs) (sym none) hist) n.session in
        let there : course set file begins hs ≡ course_of new =
        sym (ap (λ z. course set z (course_of old) hs) n.its_file
        ∙ ap (λ z. course set file z hs) n.course) ∙ r.reached in (
          sym there,
          r.session.at.all ∙ (ap (λ z. before set z new.place.position) (r.same_file ∙ n.its_file)
              ∙ ap (λ (z : Course). before set file z.at) (sym there)),
        );
    led = λ reels a. h.led (at_start new.wide set_id file) reels a (record {
      place = st.place;
      parts = st.no_parts;
      notes = rw st.no_notes ((old.parts, refl));
      wide = sym same;
    });
  },
  refl,
)
