-- Listings in a buffer, from the results of `list_to`.
use Rattle.std.proofs.Common.{◌≡◌, ◌≢◌, ℕ, List, [], ◌++◌, Option, Some, refl, sym, ap, ◌∙◌}
use Rattle.std.proofs.{Common.append-nil, Common.subst}
use Rattle.tape_image.specs.{Begins.ends, Begins.faults, Reader.IfKnown, Fault.number_of}
use Rattle.tape_image.specs.declared.item.ImageCause.TheVariants.{Truncated, LengthsDiffer}
use Rattle.tape_image.specs.declared.item.ImageCause.TheVariants.{Reserved, TooLong, Device}
use Rattle.tape_image.specs.declared.item.ImageCause.TheVariants.{OutOfMemory}
use Rattle.tape_image.specs.declared.item.{ImageCause.ImageCause, ImageFault.ImageFault}
use Rattle.tape_image.proofs.Walks.{IfKnown-at, TakesFault-begins}
use Rattle.tape_run.specs.Listed.{ListsToEnd, ListsToFault, FitsCause}
use Rattle.tape_run.specs.Listing.{lines_from, listing_of, IsListing}
use Rattle.tape_c.specs.{declared.end.End.End, Ends.Gives, Lists.Lists, Lists.given}
use Rattle.tape_c.specs.Lists.{place_of, state_of}

-- the buffer has the text that was written, which is the listing
gives_listing : (image text shown old new : List ℕ) (end : End) → shown ≡ text
    → (l : IsListing image text)
    → Gives shown (place_of l.stop l.end) (state_of l.stop) old new end → Lists image old new end
gives_listing image text shown old new end same l g =
    given text l
    (subst (λ (t : List ℕ). Gives t (place_of l.stop l.end) (state_of l.stop) old new end) same g)

-- the medium ended
pub lists_all : (image before text shown old new : List ℕ) (left : Option (List ℕ)) (end : End)
    → before ≡ [] → shown ≡ text
    → IfKnown (Some image) left (ListsToEnd (Some before) (Some text))
    → Gives shown 0 0 old new end → Lists image old new end
lists_all image before text shown old new left end none same h g =
    let (ys, there, l) =
    IfKnown-at (Some image) left (ListsToEnd (Some before) (Some text)) image refl h in
    let listing = listing_of l.items (ends l.ending) in
    gives_listing image text shown old new end same (record {
      items = l.items;
      end = l.takes.end;
      stop = ends l.ending;
      begins = l.takes.begins;
      listed = l.wrote ∙ ap (λ (r : List ℕ). r ++ listing) none;
    }) g

to_fault : (image before text shown old new : List ℕ) (left : Option (List ℕ)) (met : ImageFault)
    (cause : ImageCause) (end : End) → before ≡ [] → shown ≡ text → met.cause ≡ cause
    → cause ≢ Device → IfKnown (Some image) left (ListsToFault met (Some before) (Some text))
    → Gives shown met.place (number_of met.cause) old new end → Lists image old new end
to_fault image before text shown old new left met cause end none same is other h g =
    let (ys, there, l) =
    IfKnown-at (Some image) left (ListsToFault met (Some before) (Some text)) image refl h in
    let lines = lines_from 1 l.items in
    gives_listing image text shown old new end same (record {
      items = l.items;
      end = met.place;
      stop = faults met.cause;
      begins = TakesFault-begins 0 l.items met image ys l.takes (λ e. other (sym is ∙ e));
      listed =
          l.wrote ∙ ap (λ (r : List ℕ). r ++ lines) none ∙ sym (append-nil lines);
    }) g

-- the image has a fault
pub lists_fault : (image before text shown old new : List ℕ) (left : Option (List ℕ))
    (met : ImageFault) (cause : ImageCause) (end : End) → before ≡ [] → shown ≡ text
    → met.cause ≡ cause → cause ≢ Device → cause ≢ OutOfMemory
    → FitsCause ListsToFault cause met (Some image) left (Some before) (Some text)
    → Gives shown met.place (number_of met.cause) old new end → Lists image old new end
lists_fault image before text shown old new left met Device end none same is other memory h g =
    absurd (other refl)
lists_fault image before text shown old new left met OutOfMemory end none same is other memory h
    g =
    absurd (memory refl)
lists_fault image before text shown old new left met Truncated end none same is other memory h g =
    to_fault image before text shown old new left met Truncated end none same is other h g
lists_fault image before text shown old new left met LengthsDiffer end none same is other memory h
    g =
    to_fault image before text shown old new left met LengthsDiffer end none same is other h g
lists_fault image before text shown old new left met (Reserved w) end none same is other memory h
    g =
    to_fault image before text shown old new left met (Reserved w) end none same is other h g
lists_fault image before text shown old new left met TooLong end none same is other memory h g =
    to_fault image before text shown old new left met TooLong end none same is other h g
