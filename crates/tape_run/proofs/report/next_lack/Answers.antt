use Rattle.std.proofs.Common.{◌+◌, ◌++◌, Option, sym, ap, ◌∙◌, arith, ℕ}
use Rattle.tape_run.specs.{Lacks.one_lack, NextLack.lacks_from}
use Rattle.tape_run.proofs.Listing.{set_done, file_done}
use Rattle.tape_run.proofs.report.next_lack.Goals as goal

pub search-preserved-then-file-greatest : goal.search-preserved-then-file-greatest
search-preserved-then-file-greatest c =
    c.search.invariant
    ∙ set_done c.args.sections.now.entries c.args.sets.now.entries c.search.place c.search.file
    (c.in-Some.set_id.now, c.in-Some.greatest.now) c.in-Some.ensures.entry
    (omega (arith, c.if-file-greatest.true))

pub returns-in-Some-lack_of : goal.returns-in-Some-lack_of
returns-in-Some-lack_of c =
    let sections = c.args.sections.now.entries in
    let sets = c.args.sets.now.entries in
    c.search.invariant
    ∙ file_done sections sets c.search.place c.search.file
    (c.in-Some.set_id.now, c.in-Some.greatest.now) c.in-Some.ensures.entry
    (omega (arith, c.if-file-greatest.false))
    ∙ ap (λ (l : Option ℕ). one_lack c.in-Some.set_id.now (c.search.file + 1) l
    ++ lacks_from sections sets c.search.place (c.search.file + 1))
    (sym c.lack_of.ensures ∙ c.in-Some-lack_of.is)

pub search-preserved : goal.search-preserved
search-preserved c =
    let sections = c.args.sections.now.entries in
    let sets = c.args.sets.now.entries in
    c.search.invariant
    ∙ file_done sections sets c.search.place c.search.file
    (c.in-Some.set_id.now, c.in-Some.greatest.now) c.in-Some.ensures.entry
    (omega (arith, c.if-file-greatest.false))
    ∙ ap (λ (l : Option ℕ). one_lack c.in-Some.set_id.now (c.search.file + 1) l
    ++ lacks_from sections sets c.search.place (c.search.file + 1))
    (sym c.lack_of.ensures ∙ c.in_default-lack_of.is)
