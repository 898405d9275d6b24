use Rattle.std.proofs.Common.{◌≡◌, List, refl, ap, ◌∙◌, arith}
use Rattle.tape_image.specs.{Begins.Stop, Tape.TapeItem}
use Rattle.tape_image.proofs.{Existence.Begins-some, Uniqueness.Begins-one}
use Rattle.tape_run.specs.Listing.{listing_of}
use Rattle.tape_run.proofs.laws.each_image_has_one_listing.Goals as goal

same_listing : (items others : List TapeItem) (stop other : Stop) → items ≡ others → stop ≡ other
    → listing_of items stop ≡ listing_of others other
same_listing items others stop other a b =
    ap (λ l. listing_of l stop) a ∙ ap (λ s. listing_of others s) b

pub returns : goal.returns
returns c = λ bytes.
    let (items, end, stop, begins) = Begins-some 0 bytes (omega arith) in (
      listing_of items stop,
      record { items = items; end = end; stop = stop; begins = begins; listed = refl },
      λ other is.
          let same = Begins-one 0 bytes is.items items is.end end is.stop stop is.begins begins in
          is.listed ∙ same_listing is.items items is.stop stop same.0 same.2,
    )
