-- The parts of images that were read, stretch after stretch.
use Rattle.std.proofs.Common.{◌≡◌, ℕ, ◌<◌, Bool, false, List, [], ◌∷◌, ◌++◌, Option, Some, None}
use Rattle.std.proofs.Common.{IfSome, refl, sym, ap, subst}
use Rattle.tape_blocks.specs.Block.{Portion}
use Rattle.tape_image.specs.{Begins.Walks, Begins.Begins, Begins.Stop, Reader.IfKnown}
use Rattle.tape_image.specs.Tape.{TapeItem}
use Rattle.tape_image.proofs.Walks.{Walks-nil}
use Rattle.tape_core.specs.{Known.is_finished, declared.sink.PartSink.Ghosts}
use Rattle.tape_core.specs.{Behind.behind_of, Place.rest_of, Table.in_phase, Table.mount_of}
use Rattle.tape_run.specs.{ByTable.IsLed, SessionState.SessionState}
use Rattle.tape_run.specs.Steps.{Reeled, ReeledFrom}
use Rattle.tape_run.specs.ExtractingLocated.{PassesTo, IsHeld, Stretch, ReadsOn, FollowsOn}
use Rattle.tape_run.specs.ExtractingLocated.{ReadsPart}
use Rattle.tape_run.specs.Seen.{Seen, seen, IfSeen, IsSeen}
use Rattle.tape_run.specs.declared.{extract.located.Mounted.Mounted, survey.files.FileKey.FileKey}
use Rattle.tape_run.proofs.{BehindReads.led_reads, ByTable.resting_twice, Headline.none_over}
use Rattle.tape_run.proofs.LocatedReaders.{leads_on, front_of}

-- ---- what was read

pub part_front : {S R : Type 0} (g : Ghosts S) (remaining : R → Option (List ℕ))
    (had left : Option (List ℕ)) (failed : Bool) (old new : SessionState S)
    (after : Option (Mounted R))
    → IfSeen g old (λ was. IsSeen g new (λ is. IfSome had (λ b. Reeled b left failed was is)))
    → IsHeld new.wide remaining after had → ReadsPart g remaining had old new after
part_front {S} {R} g remaining had left failed old new after reads held = record {
  stretch = record { whole = had; front = []; had = had; left = left; failed = failed };
  of_image = refl;
  is_part = at_front had;
  reads = λ parts was. let (now, has, r) = reads parts was in (now, has, on_front had r);
  held = held;
}
  where
    at_front : (h : Option (List ℕ))
        → IfKnown h h (λ bytes rest. (at : ℕ) × Walks 0 bytes [] at rest)
    at_front None = tt
    at_front (Some bytes) = (0, Walks-nil 0 bytes)

    on_front : {was is : Seen} (h : Option (List ℕ)) → IfSome h (λ b. Reeled b left failed was is)
        → ReadsOn (record { whole = h; front = []; had = h; left = left; failed = failed }) was is
    on_front None r = record {
      given = [];
      is_given = tt;
      same_file = λ some. absurd (cc);
      same_wide = λ some. absurd (cc);
      reads = λ some. absurd (cc);
      table = λ some. absurd (cc);
    }
    on_front (Some b) r = record {
      given = r.given;
      is_given = r.is_given;
      same_file = λ some. r.same_file;
      same_wide = λ some. r.same_wide;
      reads = λ some set h xs end stop lawful begins mount placed.
          r.reads set [] xs end stop h lawful none_over begins mount placed;
      table = λ some xs end stop begins. r.table xs end stop begins;
    }

pub part_on : {S R : Type 0} (g : Ghosts S) (remaining : R → Option (List ℕ))
    (whole had left : Option (List ℕ)) (failed : Bool) (before : FileKey) (old new : SessionState S)
    (after : Option (Mounted R)) → is_finished old.core.position ≡ false
    → before.set_id ≡ old.core.set_id → before.file < old.core.file
    → (p : IfKnown whole had (PassesTo old.wide before)) → IfSeen g old (λ was. IsSeen g new (λ is.
    IfSome had (λ b. ReeledFrom (behind_of was.place) b left failed was is)))
    → IsHeld new.wide remaining after whole → ReadsPart g remaining whole old new after
part_on {S} {R} g remaining whole had left failed before old new after waits same less p reads held
    = record {
      stretch = record {
        whole = whole;
        front = front_of old.wide whole had before p;
        had = had;
        left = left;
        failed = failed;
      };
      of_image = refl;
      is_part = at_front whole had p;
      reads = λ parts was.
          let (now, has, r) = reads parts was in
          (now, has, on_behind whole had p r);
      held = held;
    }
  where
    at_front : (w h : Option (List ℕ)) (q : IfKnown w h (PassesTo old.wide before))
        → IfKnown w h (λ bytes rest. (at : ℕ) × Walks 0 bytes
        (front_of old.wide w h before q) at rest)
    at_front None h q = tt
    at_front (Some bytes) None q = q
    at_front (Some bytes) (Some rest) q = (q.at, q.walks)

    on_behind : {parts now : List Portion} (w h : Option (List ℕ))
        (q : IfKnown w h (PassesTo old.wide before))
        → IfSome h (λ b. ReeledFrom (behind_of (rest_of old.core)) b left failed
        (seen g old parts) (seen g new now))
        → ReadsOn (record {
          whole = w;
          front = front_of old.wide w h before q;
          had = h;
          left = left;
          failed = failed;
        }) (seen g old parts) (seen g new now)
    on_behind None h q r = record {
      given = [];
      is_given = tt;
      same_file = λ some. absurd (cc);
      same_wide = λ some. absurd (cc);
      reads = λ some. absurd (cc);
      table = λ some. absurd (cc);
    }
    on_behind (Some bytes) None q r = absurd q
    on_behind {parts} {now} (Some bytes) (Some rest) q r =
        let table : (xs : List TapeItem) (end : ℕ) (stop : Stop) → Begins 0 r.given xs end stop
        → IsLed old.wide (q.front ++ xs) (mount_of (rest_of old.core))
        (rest_of new.core) parts now =
        λ xs end stop begins. leads_on old.wide (rest_of old.core)
        (rest_of new.core) q.front xs parts now
        waits (λ sound. q.passed (rest_of old.core) (sym same) less waits sound)
        (r.table xs end stop begins) in
        record {
          given = r.given;
          is_given = r.is_given;
          same_file = λ some. r.same_file;
          same_wide = λ some. r.same_wide;
          reads = λ some set h xs end stop lawful begins mount placed. led_reads old.wide set h
              (q.front ++ xs) (rest_of old.core) (rest_of new.core) parts now lawful mount
              (ap (λ p. in_phase old.core p) (sym (resting_twice old.core.phase))) placed
              (table xs end stop begins);
          table = λ some. table;
        }

-- ---- stretch after stretch

pub follows_more : (old : Seen) (ss : List Stretch) (mid new : Seen) (s : Stretch)
    → FollowsOn old ss mid → ReadsOn s mid new → FollowsOn old (ss ++ s ∷ []) new
follows_more old [] mid new s same r = (new, subst (λ z. ReadsOn s z new) same r, refl)
follows_more old (t ∷ ss) mid new s (next, first, f) r =
    (next, first, follows_more next ss mid new s f r)
