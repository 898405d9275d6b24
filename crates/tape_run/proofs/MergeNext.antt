-- The meaning of a call of `ImageReader::next` for a reading that is asked for an item.
use Rattle.std.proofs.Common.{◌≡◌, ◌≢◌, Option, Some, None, Result, Ok, refl, ap, subst}
use Rattle.tape_image.specs.declared.item.{Item.Item, ImageFault.ImageFault}
use Rattle.tape_image.specs.Tape.{TapeItem, block, bad, mark}
use Rattle.tape_image.specs.Reader.{Reader, Status, going, ended, failed, seen, tape_item}
use Rattle.tape_image.specs.{Step.GivesItem, Step.Meets, Step.Answers, Next.HasMoved}
use Rattle.tape_run.specs.declared.merge.reading.Reading.{Reading}
use Rattle.tape_run.specs.MergeSteps.{agrees, Compares, CountsItem, Asked, gives}

status_gives : (s : Status) (old new : Reader) (r : Result (Option TapeItem) ImageFault)
    (x : TapeItem) → Answers s old r new → r ≡ Ok (Some x) → (s ≡ going) × GivesItem old x new
status_gives going old new r x a e =
    (refl, subst (λ (q : Result (Option TapeItem) ImageFault). Meets old q new) e a)
status_gives (ended ending) old new r x a e = absurd (cc (a.0, e))
status_gives (failed fault) old new r x a e = absurd (cc (a.0, e))

-- the reading returned an item
pub asked_item : {R : Type 0} (old new : Reading R) (result : Result (Option Item) ImageFault)
    (item : Item) (best now other beside : Option TapeItem)
    → HasMoved old.image result new.image → result ≡ Ok (Some item)
    → Compares new.verdict (tape_item item) best now other beside
    → CountsItem old new (tape_item item) → Asked old new best now other beside
asked_item old new result item best now other beside h e compares counts =
    let (on, given) = status_gives _ _ _ _ (tape_item item) h.answers (ap seen e) in
    gives (tape_item item) on given compares counts

-- an item that does not agree is not a bad one
pub disagrees_good : (best : Option TapeItem) (x : TapeItem) → (agrees best x → ⊥) → x ≢ bad
disagrees_good None x never = λ _. never tt
disagrees_good (Some (block b)) (block c) never = λ e. cc e
disagrees_good (Some (block b)) mark never = λ e. cc e
disagrees_good (Some mark) (block c) never = λ e. cc e
disagrees_good _ _ never = λ _. never tt
