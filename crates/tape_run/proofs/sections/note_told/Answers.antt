use Rattle.std.proofs.Common.{◌∙◌, ap}
use Rattle.indexmap.specs.IndexMap.{insert_entry}
use Rattle.tape_run.specs.{Noted.same_key, declared.section.Entry.Entry}
use Rattle.tape_run.proofs.Inserting.{inserted}
use Rattle.tape_run.proofs.sections.note_told.Goals as goal

pub returns-clause-ok : goal.returns-clause-ok
returns-clause-ok c = rw c.in-Some.is (c.in_ok-insert.ensures.entries
    ∙ ap (λ (e : Entry). insert_entry same_key c.args.sections.now.entries c.in-Some.key e)
    c.kept_of-kept.ensures ∙ inserted c.args.sections.now.entries c.in-Some.key c.in-Some.entry)
