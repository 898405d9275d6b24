-- If the table leads over a mount of a valid set, that mount was read.
use Rattle.std.proofs.Common.{◌≡◌, ◌≢◌, ◌⊎◌, inl, inr, Bool, ℕ, ◌+◌, ◌<◌, List, [], ◌∷◌, ◌++◌}
use Rattle.std.proofs.Common.{length}
use Rattle.std.proofs.Common.{drop, take, Some, refl, sym, ap, subst, ◌∙◌, arith, append-nil}
use Rattle.std.proofs.Common.{append_assoc, length-append, length-drop, slice_get}
use Rattle.tape_blocks.specs.{Block.Portion, Judged.begun_behind}
use Rattle.tape_image.specs.Tape.{TapeItem, block}
use Rattle.tape_set.specs.{declared.position.Position.Position, Layout.FileSet, Lawful.IsLawful}
use Rattle.tape_set.specs.{Before.before, Position.part_of, Position.at_part, Position.next_block}
use Rattle.tape_core.specs.{declared.event.Answer.Answer, State.State}
use Rattle.tape_core.specs.declared.event.Answer.TheVariants.{Passed, Deliver}
use Rattle.tape_core.specs.Place.{IsPlaced, rest_of, place_of}
use Rattle.tape_core.specs.Table.{mount_of, saved}
use Rattle.tape_core.specs.Wide.{step_by}
use Rattle.tape_core.proofs.WideReading.{by_one_file}
use Rattle.tape_run.specs.Mount.{MountEvent, IsMount, cut, after_mount}
use Rattle.tape_run.specs.{Reels.behind_items, Puts.refused_point}
use Rattle.tape_run.specs.ByTable.{parts_at, delivered_parts, IsLed, IsCutAt}
use Rattle.tape_run.specs.Steps.{ReadBy, StoppedBy}
use Rattle.tape_run.proofs.ByTable.{puts_delivered, puts_none, drop_take, resting_mounted}
use Rattle.tape_run.proofs.Places.{gives_block, gives_none, refused_place}
use Rattle.tape_run.proofs.Mounts.{Both, both, reached, cut_whole, begins, is_under}

deliver_or : (a : Answer) → (a ≡ Deliver) ⊎ (a ≢ Deliver)
deliver_or Deliver = inl refl
deliver_or Passed = inr (λ e. cc)
deliver_or _ = inr (λ e. cc)

block_is : (x : TapeItem) (bytes : List ℕ) → Some x ≡ Some (block bytes) → x ≡ block bytes
block_is x bytes e = cc

-- an item among others
item_here : (taken rest : List TapeItem) (item : TapeItem)
    → (length taken < length (taken ++ item ∷ rest))
    × (Some item ≡ slice_get (taken ++ item ∷ rest) (length taken))
item_here [] rest item = (omega arith, refl)
item_here (x ∷ taken) rest item =
    let (lt, is) = item_here taken rest item in (omega (arith, lt), is)

item_at : (xs taken rest : List TapeItem) (item : TapeItem) → xs ≡ taken ++ item ∷ rest
    → (length taken < length xs) × (Some item ≡ slice_get xs (length taken))
item_at xs taken rest item e =
    subst (λ (z : List TapeItem). (length taken < length z)
    × (Some item ≡ slice_get z (length taken))) (sym e) (item_here taken rest item)

-- an item of a mount under way was processed: the position agrees with the parts delivered
placed_behind : (wide : Bool) (core : State) (x : TapeItem) (set : FileSet) (held : List Portion)
    (p : Position)
    (xs : List TapeItem) (i : ℕ) (h : MountEvent) → IsPlaced set (rest_of core) held
    → Both wide set p xs i h (Some x) core (step_by wide core (Some x))
    → IsPlaced set (rest_of (step_by wide core (Some x)).1) (held ++ parts_at wide core x)
placed_behind wide core x set held p xs i h at b =
    let (y, came, gives) = b.took.gives in
    let new = (step_by wide core (Some x)).1 in
    record {
      at = b.took.at;
      all = elim (deliver_or (step_by wide core (Some x)).0) [
        | inl is ↦
            let d = gives_block set y (step_by wide core (Some x)).0 (rest_of core) (rest_of new) is
            gives in
            let it : Some x ≡ Some (block d.filled.bytes) = came ∙ ap Some d.is_block in
            let parts : drop d.part d.filled.parts ≡ parts_at wide core x =
            puts_delivered wide core new (step_by wide core (Some x)).0 (Some x) x d.filled.bytes
            d.form d.filled.parts d.part refl is refl
            (b.plain is x refl ∙ block_is x d.filled.bytes it) d.is_known d.holds
            (sym (ap part_of d.awaited)) in
            ap (λ (l : List Portion). l ++ parts_at wide core x) at.all
            ∙ (ap (λ (l : List Portion). before set core.file core.position ++ l) (sym parts)
            ∙ sym d.next)
        | inr not_it ↦
            sym (puts_none wide core new (step_by wide core (Some x)).0 (Some x) held refl not_it)
            ∙ (at.all ∙ sym (gives_none set y (step_by wide core (Some x)).0 (rest_of core)
            (rest_of new)
            not_it gives))
      ];
    }

-- Items of a mount under way were processed.
record Upto (set : FileSet) (p : Position) (h : MountEvent) (whole : List TapeItem) (i file : ℕ)
    (core : State) (now : List Portion) : Type 0 where
  at : IsPlaced set (rest_of core) now
  under : is_under core set p whole i h
  same : core.file ≡ file

-- the table leads over more items of a mount under way
led_on : (wide : Bool) (set : FileSet) (p : Position) (h : MountEvent)
    (taken items rest whole : List TapeItem)
    (core : State) (held : List Portion) → IsLawful set → whole ≡ taken ++ (items ++ rest)
    → IsMount set whole h → Upto set p h whole (length taken) core.file core held
    → Upto set p h whole (length (taken ++ items)) core.file (behind_items wide core items)
    (held ++ delivered_parts wide core items)
led_on wide set p h taken [] rest whole core held l is m up =
    rw (append-nil taken, append-nil held) up
led_on wide set p h taken (x ∷ items) rest whole core held l is m up =
    let (less, here) = item_at whole taken (items ++ rest) x is in
    let b = both wide _
    (step_by wide core (Some x)) _ refl _ _ _ _ _ _ l m up.at up.under less here in
    let new = (step_by wide core (Some x)).1 in
    let file : new.file ≡ core.file = (by_one_file wide core (Some x)).file in
    let one = append_assoc taken (x ∷ []) items in
    let count : length taken + 1 ≡ length (taken ++ x ∷ []) =
    sym (length-append taken (x ∷ [])) in
    let then = led_on wide set p h (taken ++ x ∷ []) items rest whole new
    (held ++ parts_at wide core x) l
    (is ∙ sym (append_assoc taken (x ∷ []) (items ++ rest))) m (record {
      at = placed_behind wide _ _ _ _ _ _ _ _ up.at b;
      under = subst (λ n. is_under new set p whole n h) count b.under;
      same = refl;
    }) in
    record {
      at = subst (λ (q : List Portion). IsPlaced set (rest_of (behind_items wide new items)) q)
          (append_assoc held (parts_at wide core x) (delivered_parts wide new items)) then.at;
      under = subst (λ (z : List TapeItem). is_under (behind_items wide new items) set p whole
          (length z)
          h) one then.under;
      same = then.same ∙ file;
    }

-- the first items of a mount
led_front : (wide : Bool) (set : FileSet) (h : MountEvent) (items rest xs : List TapeItem)
    (place : State)
    (held : List Portion) → IsLawful set → xs ≡ items ++ rest → IsMount set xs h
    → place ≡ rest_of place → IsPlaced set place held
    → Upto set place.position h xs (length items) place.file
    (behind_items wide (mount_of place) items)
    (held ++ delivered_parts wide (mount_of place) items)
led_front wide set h items rest xs place held l is m resting at =
    let same : rest_of (mount_of place) ≡ rest_of place = ap (λ f. record place { phase = f })
    (resting_mounted place.phase place.position) in
    let there : place ≡ rest_of (mount_of place) = resting ∙ sym same in
    led_on wide set place.position h [] items rest xs (mount_of place) held l is m (record {
      at = subst (λ (z : State). IsPlaced set z held) there at;
      under = begins place (mount_of place) refl same set held xs h l m
          (subst (λ (z : State). IsPlaced set z held) resting at);
      same = refl;
    })

-- a mount that the table leads over was read
pub led_reads : (wide : Bool) (set : FileSet) (h : MountEvent) (xs : List TapeItem)
    (place new : State)
    (held now : List Portion) → IsLawful set → IsMount set xs h → place ≡ rest_of place
    → IsPlaced set place held → IsLed wide xs (mount_of place) new held now
    → ReadBy set place.file place.position h new now
led_reads wide set h xs place new held now l m resting at led =
    let up = led_front wide set h xs [] xs place held l (sym (append-nil xs)) m resting at in
    let there = reached _ set place.position xs (length xs) h l m up.under in
    rw (led.place, led.parts) (record {
      at = up.at;
      position = there ∙ (ap (λ f. after_mount set f place.position (cut (length xs) h)) up.same
          ∙ ap (after_mount set place.file place.position) (cut_whole set xs h m));
    })

-- and one that it leads over up to a refused part was read up to that part
pub cut_reads : (wide : Bool) (set : FileSet) (h : MountEvent) (xs : List TapeItem)
    (place new : State)
    (held now : List Portion) → IsLawful set → IsMount set xs h → place ≡ rest_of place
    → IsPlaced set place held → IsCutAt wide xs (mount_of place) new held now
    → StoppedBy set place.file place.position xs h new now
cut_reads wide set h xs place new held now l m resting at c =
    let p = place.position in
    let i = length c.before in
    let up = led_front wide set h c.before (c.item ∷ c.behind) xs place held l c.all m resting at in
    let core = behind_items wide (mount_of place) c.before in
    let out = step_by wide core (Some c.item) in
    let s = c.stops in
    let n = part_of core.position + s.more in
    let (less, here) = item_at xs c.before c.behind c.item c.all in
    let b = both wide core out (Some c.item) refl set _ p xs i h l m up.at up.under less here in
    let (x, came, gives) = b.took.gives in
    let d = gives_block set x out.0 (rest_of core) (rest_of out.1) s.delivers gives in
    let same : out.1.file ≡ core.file = (by_one_file wide core (Some c.item)).file in
    let is : Some c.item ≡ Some (block d.filled.bytes) = came ∙ ap Some d.is_block in
    let part : d.part ≡ part_of core.position = sym (ap part_of d.awaited) in
    let all : drop d.part d.filled.parts ≡ parts_at wide core c.item =
    puts_delivered wide core out.1 out.0 (Some c.item) c.item d.filled.bytes d.form d.filled.parts
    d.part refl s.delivers refl
    (b.plain s.delivers c.item refl ∙ block_is c.item d.filled.bytes is) d.is_known d.holds part in
    let put : drop d.part (take n d.filled.parts) ≡ take s.more (parts_at wide core c.item) =
    ap (λ k. drop k (take n d.filled.parts)) part
    ∙ (drop_take (part_of core.position) s.more d.filled.parts
    ∙ ap (take s.more) (ap (λ k. drop k d.filled.parts) (sym part) ∙ all)) in
    let upto : core.position ≡ after_mount set place.file p (cut i h) =
    reached core set p xs i h l m up.under
    ∙ ap (λ f. after_mount set f p (cut i h)) up.same in
    let behind : out.1.position ≡ after_mount set place.file p (cut (i + 1) h) =
    reached out.1 set p xs (i + 1) h l m b.under
    ∙ ap (λ f. after_mount set f p (cut (i + 1) h)) (same ∙ up.same) in
    record {
      at = rw (s.place, s.parts) (subst (λ (q : List Portion). IsPlaced set (place_of (refused_point
          (saved core 0) (saved out.1 0) n (begun_behind core.begun q)))
          ((held ++ delivered_parts wide (mount_of place) c.before) ++ q)) put
          (refused_place set x (rest_of core) (rest_of out.1)
          (held ++ delivered_parts wide (mount_of place) c.before) n d up.at b.took.at same
          (omega (arith, part))
          (omega (arith, part, s.within, length-drop d.part d.filled.parts, ap length all))));
      n = i;
      content = d.filled.bytes;
      refused = sym here ∙ is;
      awaited = sym behind ∙ d.behind ∙ ap next_block (sym d.awaited ∙ upto);
      part = n;
      position = s.position ∙ ap (at_part n) upto;
    }
