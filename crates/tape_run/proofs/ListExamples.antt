-- The meaning of the outcomes of `list`.
use Rattle.std.proofs.Common.{ℕ, ◌+◌, List, [], ◌++◌, length, Option, sym, ap, ◌∙◌, append_assoc}
use Rattle.std.proofs.Common.{flat_map}
use Rattle.tape_image.specs.Written.{AppendsFront}
use Rattle.tape_run.specs.{ListLine.line_of, ListExamples.StopSays}
use Rattle.tape_run.specs.Listing.{lines_from, end_line}
use Rattle.tape_run.specs.Listed.{AppendsInto, at_item, at_end, at_fault}

pub into_front : (old new : Option (List ℕ)) (all part : List ℕ) → AppendsInto old new all part
    → AppendsFront old new (all ++ part)
into_front old new all part a =
    (all ++ a.0, a.1, a.2, ap (λ l. all ++ l) a.3 ∙ sym (append_assoc all a.0 a.1))

-- if a write failed, a prefix of the bytes was read, and a prefix of the text for it was written
pub stopped : (old new : Option (List ℕ)) (bytes left : List ℕ) → StopSays old new bytes left
stopped old new bytes left (at_item done item place walks wrote) = (
  (flat_map (λ s. s.bytes) walks.leads.spellings, walks.leads.whole),
  (
    lines_from 1 done ++ line_of (length done + 1) item,
    into_front old new (lines_from 1 done) (line_of (length done + 1) item) wrote,
  ),
)
stopped old new bytes left (at_end items ending place takes wrote) = (
  (takes.taken, takes.whole),
  (
    lines_from 1 items ++ end_line ending,
    into_front old new (lines_from 1 items) (end_line ending) wrote,
  ),
)
stopped old new bytes left (at_fault items fault takes wrote) = (
  (takes.given, takes.whole),
  (
    lines_from 1 items,
    (lines_from 1 items, [], wrote, sym (Rattle.std.proofs.Common.append-nil (lines_from 1 items))),
  ),
)
