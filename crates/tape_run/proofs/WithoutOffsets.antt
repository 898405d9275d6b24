-- The outcomes of a listing without offsets are those that `list` promises.
use Rattle.std.proofs.Common.{◌≡◌, ◌≤◌, ℕ, ◌+◌, List, [], ◌∷◌, ◌++◌, length, Option, Some, None}
use Rattle.std.proofs.Common.{IfSome, IfErr, OnOk, OnErr, Result, Ok, Err, refl, sym, ap, subst}
use Rattle.std.proofs.Common.{◌∙◌, append_assoc, append-nil, arith}
use Rattle.std.proofs.lemmas.List.{map-append, length-map}
use Rattle.std.specs.{Prelude.false, Io.KnownBytes.Appends, Io.KnownBytes.Keeps}
use Rattle.tape_image.specs.{declared.item.ImageCause.ImageCause, Tape.TapeItem, Reader.IfKnown}
use Rattle.tape_image.specs.{declared.item.ImageCause.TheVariants.OutOfMemory, Written.AppendsFront}
use Rattle.tape_image.specs.declared.item.ImageFault.{ImageFault}
use Rattle.tape_image.specs.Begins.{image_limit, ends, faults, Walks}
use Rattle.tape_image.proofs.Walks.{Walks-begins, TakesEnd-behind, TakesFault-begins, IfKnown-map}
use Rattle.tape_image.proofs.{Existence.Begins-some, Walks.known_all}
use Rattle.tape_run.specs.Listed.{ListsToEnd, ListsToFault, ListsInPart, StopsWriting, AppendsInto}
use Rattle.tape_run.specs.Placed.{PlacedItem, Places, placed_lines, PlacesToEnd, PlacesToFault}
use Rattle.tape_run.specs.{declared.fault.ListFault.ListFault, ListLine.line_of}
use Rattle.tape_run.specs.declared.fault.ListFault.TheVariants.{Image, WriteFailed}
use Rattle.tape_run.specs.Listing.{lines_from, end_line, last_line, listing_of}
use Rattle.tape_run.specs.{Listed.FitsCause, Listed.FitsFault, PlacedExamples.items_of}
use Rattle.tape_run.specs.Placed.{StopsPlacing, at_item, at_end, at_fault, FitsPlaces}
use Rattle.tape_run.specs.Listed as listed
use Rattle.tape_run.proofs.{Fitting.no_front, ListLines.lines_from-append, ListExamples.into_front}
use Rattle.tape_run.proofs.ListedSoFar.{one_line}
use Rattle.tape_run.proofs.PlacedExamples.{placed_first, ended, faulted}

plain_lines : (n : ℕ) (items : List PlacedItem)
    → placed_lines false n items ≡ lines_from n (items_of items)
plain_lines n [] = refl
plain_lines n (x ∷ more) = ap (λ l. line_of n x.item ++ l) (plain_lines (n + 1) more)

to_end : (old new : Option (List ℕ)) (bytes left : List ℕ) → PlacesToEnd false old new bytes left
    → ListsToEnd old new bytes left
to_end old new bytes left l =
    let items = items_of l.items in
    let takes = (ended false old new bytes left l).0 in
    record {
      items = items;
      ending = l.ending;
      place = l.place;
      takes = takes;
      listed = record {
        items = items;
        end = takes.end;
        stop = ends l.ending;
        begins = takes.begins;
        listed = refl;
      };
      wrote = subst (λ t. Appends old new (t ++ end_line l.ending)) (plain_lines 1 l.items) l.wrote;
    }

to_fault : (fault : ImageFault) (old new : Option (List ℕ)) (bytes left : List ℕ)
    → PlacesToFault false fault old new bytes left → ListsToFault fault old new bytes left
to_fault fault old new bytes left l =
    let items = items_of l.items in
    let takes = (faulted false fault old new bytes left l).0 in
    record {
      items = items;
      takes = takes;
      listed = λ other. record {
        items = items;
        end = fault.place;
        stop = faults fault.cause;
        begins = TakesFault-begins 0 items fault bytes left takes other;
        listed = sym (append-nil (lines_from 1 items));
      };
      wrote = subst (Appends old new) (plain_lines 1 l.items) l.wrote;
    }

stops : (old new : Option (List ℕ)) (bytes left : List ℕ)
    → StopsPlacing false old new bytes left → StopsWriting old new bytes left
stops old new bytes left (at_item done x at stand near wrote) =
    let name : PlacedItem → TapeItem = λ y. y.item in
    let into : List ℕ → ℕ → Type 0 = λ t n. AppendsInto old new t (line_of (n + 1) x.item) in
    listed.at_item (items_of done) x.item at
    (subst (λ l. Walks 0 bytes l at left) (map-append name done (x ∷ []))
    (placed_first (done ++ x ∷ []) 0 at bytes left stand))
    (subst (λ n. into (lines_from 1 (items_of done)) n) (sym (length-map done name))
    (subst (λ t. into t (length done)) (plain_lines 1 done) wrote))
stops old new bytes left (at_end items at rest ending place stand takes wrote) =
    listed.at_end (items_of items) ending place
    (TakesEnd-behind 0 at place bytes rest left (items_of items) ending
    (placed_first items 0 at bytes rest stand) takes)
    (subst (λ t. AppendsInto old new t (end_line ending)) (plain_lines 1 items) wrote)
stops old new bytes left (at_fault fault l) =
    let f = to_fault fault old new bytes left l in listed.at_fault f.items fault f.takes f.wrote

fits_cause : (cause : ImageCause) (fault : ImageFault) (before after old new : Option (List ℕ))
    → FitsCause (PlacesToFault false) cause fault before after old new
    → FitsCause ListsToFault cause fault before after old new
fits_cause OutOfMemory fault before after old new h = h
fits_cause cause fault before after old new h =
    IfKnown-map before after (PlacesToFault false fault old new) (ListsToFault fault old new)
    (to_fault fault old new) h

-- the listing of the bytes begins with the lines of the items read
in_part : (old new : Option (List ℕ)) (bytes ys : List ℕ) (items : List PlacedItem) (place : ℕ)
    → Places 0 items place bytes ys → place ≤ image_limit
    → AppendsFront old new (placed_lines false 1 items) → ListsInPart old new bytes
in_part old new bytes ys items place stand near (front, rest, wrote, part) =
    let names = items_of items in
    let (more, end, stop, begins) = Begins-some place ys near in
    let tail = lines_from (1 + length names) more ++ last_line stop in
    let whole : listing_of (names ++ more) stop ≡ lines_from 1 names ++ tail =
    ap (λ l. l ++ last_line stop) (lines_from-append 1 names more)
    ∙ append_assoc (lines_from 1 names) (lines_from (1 + length names) more) (last_line stop) in (
      listing_of (names ++ more) stop,
      record {
        items = names ++ more;
        end = end;
        stop = stop;
        begins = Walks-begins 0 place end bytes ys names more stop
            (placed_first items 0 place bytes ys stand) begins;
        listed = refl;
      },
      (
        front,
        rest ++ tail,
        wrote,
        whole ∙ ap (λ l. l ++ tail) (sym (plain_lines 1 items) ∙ part)
            ∙ append_assoc front rest tail,
      ),
    )

fault_front : (fault : ImageFault) (old new : Option (List ℕ)) (bytes left : List ℕ)
    → PlacesToFault false fault old new bytes left → ListsInPart old new bytes
fault_front fault old new bytes left l =
    let lines = placed_lines false 1 l.items in
    in_part old new bytes l.rest l.items l.at l.stand l.within
    (lines, [], l.wrote, sym (append-nil lines))

stop_front : (old new : Option (List ℕ)) (bytes left : List ℕ)
    → StopsPlacing false old new bytes left → ListsInPart old new bytes
stop_front old new bytes left (at_item done x at stand near wrote) =
    in_part old new bytes left (done ++ x ∷ []) at stand near
    (subst (AppendsFront old new) (sym (one_line false done x (length done) refl))
    (into_front old new (placed_lines false 1 done) (line_of (length done + 1) x.item) wrote))
stop_front old new bytes left (at_end items at rest ending place stand takes wrote) =
    let takes = TakesEnd-behind 0 at place bytes rest left (items_of items) ending
    (placed_first items 0 at bytes rest stand) takes in (
      listing_of (items_of items) (ends ending),
      record {
        items = items_of items;
        end = takes.end;
        stop = ends ending;
        begins = takes.begins;
        listed = refl;
      },
      subst (λ t. AppendsFront old new (t ++ end_line ending)) (plain_lines 1 items)
          (into_front old new (placed_lines false 1 items) (end_line ending) wrote),
    )
stop_front old new bytes left (at_fault fault l) = fault_front fault old new bytes left l

-- nothing was written
pub none_front : (before old new : Option (List ℕ)) → Keeps old new
    → IfSome before (ListsInPart old new)
none_front None old new keeps = tt
none_front (Some xs) old new keeps =
    in_part old new xs xs [] 0 (refl, refl) (omega arith) (no_front old new keeps)

cause_front : (cause : ImageCause) (fault : ImageFault) (before after old new : Option (List ℕ))
    → FitsCause (PlacesToFault false) cause fault before after old new
    → IfSome before (ListsInPart old new)
cause_front OutOfMemory fault before after old new h = none_front before old new h.2
cause_front cause fault before after old new h =
    known_all before after (PlacesToFault false fault old new) (ListsInPart old new)
    (fault_front fault old new) h

-- at the end of the medium the whole listing was written
pub ok : {T E : Type 0} (r : Result T E) (before after old new : Option (List ℕ))
    → OnOk r (IfKnown before after (PlacesToEnd false old new))
    → OnOk r (IfKnown before after (ListsToEnd old new))
ok (Ok x) before after old new h =
    IfKnown-map before after (PlacesToEnd false old new) (ListsToEnd old new) (to_end old new) h
ok (Err e) before after old new h = tt

pub fault : {T : Type 0} (r : Result T ListFault) (before after old new : Option (List ℕ))
    → IfErr r (FitsPlaces false before after old new) → IfErr r (FitsFault before after old new)
fault (Ok x) before after old new h = tt
fault (Err (Image e)) before after old new h = fits_cause e.cause e before after old new h
fault (Err WriteFailed) before after old new h =
    IfKnown-map before after (StopsPlacing false old new) (StopsWriting old new) (stops old new) h

-- at any fault a prefix of it was written
pub front : {T : Type 0} (r : Result T ListFault) (before after old new : Option (List ℕ))
    → IfErr r (FitsPlaces false before after old new)
    → OnErr r (IfSome before (ListsInPart old new))
front (Ok x) before after old new h = tt
front (Err (Image e)) before after old new h = cause_front e.cause e before after old new h
front (Err WriteFailed) before after old new h =
    known_all before after (StopsPlacing false old new) (ListsInPart old new)
    (stop_front old new) h
