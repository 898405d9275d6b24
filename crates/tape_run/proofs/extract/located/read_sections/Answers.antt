use Rattle.std.proofs.Common.{◌≡◌, ℕ, inl, inr, refl, sym, ap, ◌∙◌, arith, rules, not}
use Rattle.std.proofs.Common.{is_some, true, false, List, Option, Some, None}
use Rattle.std.specs.Map.{lookup}
use Rattle.tape_set.specs.{Position.want_at, declared.position.Want.Want}
use Rattle.tape_core.specs.State.{State}
use Rattle.tape_run.specs.{Lacks.key_at, Noted.same_key, SurveyLocations.Located}
use Rattle.tape_run.specs.ExtractingLocated.{BeginsOn, NextBeginsOn, held_behind}
use Rattle.tape_run.specs.declared.survey.files.FileKey.{FileKey}
use Rattle.tape_run.proofs.Located.{nothing_read, section_read, read_some, section_failed}
use Rattle.tape_run.proofs.Located.{nothing_open, read_open, located_open, sections_read, not_none}
use Rattle.tape_run.proofs.Causes.{calm_same, calm_then}
use Rattle.tape_run.proofs.StoppedThere.{reads_nothing, reads_then}
use Rattle.tape_run.proofs.Located.{is_none_then, wanted_sect}
use Rattle.tape_run.proofs.extract.located.read_sections.Goals as goal

-- the image found for the expected section is that of the missing section, if any
next_on : (entries : List Located) (core : State) (key : FileKey) (want : Want) (image : Option ℕ)
    → key.set_id ≡ core.set_id → key.file ≡ core.file → Some want ≡ want_at core.file core.position
    → lookup (same_key (key_at key.set_id key.file want.sect)) entries ≡ image
    → NextBeginsOn entries core image
next_on entries core key want image set file wants found = λ sect block part at.
    let is : want.sect ≡ sect = ap wanted_sect (wants ∙ ap (want_at core.file) at) in
    rw (set, file, is) at found

-- on that image a section of the file begins
begins_on : (entries : List Located) (core first : State) (key : FileKey) (sect image : ℕ)
    → key.set_id ≡ core.set_id → key.file ≡ core.file → core.set_id ≡ first.set_id
    → core.file ≡ first.file
    → lookup (same_key (key_at key.set_id key.file sect)) entries ≡ Some image
    → BeginsOn entries first image
begins_on entries core first key sect image set file same_set same_file found =
    (sect, rw (set ∙ same_set, file ∙ same_file) at found)

pub sections-init : goal.sections-init
sections-init g c = record {
  set_id = refl;
  file = refl;
  wide = refl;
  calm = calm_same g.S.PartSink c.args.session.now;
  only = reads_nothing g.S.PartSink c.args.session.now;
  reads = λ whole held. (
    nothing_read g.S.PartSink _ g.L.ImageSource.gives g.R.Read.remaining c.args.session.now
        c.args.images.now (is_some c.args.mounted.now) whole c.args.mounted.now held,
    nothing_open g.S.PartSink _ g.L.ImageSource.gives g.R.Read.remaining c.args.session.now
        c.args.images.now (is_some c.args.mounted.now) whole c.args.mounted.now held,
    λ some. absurd (omega arith),
  );
}

pub sections-preserved : goal.sections-preserved
sections-preserved g c =
    let inv = c.sections.invariant in
    let on = begins_on c.args.locations.now.entries c.sections.session.core c.args.session.now.core
    c.file_key-set_id.result c.in-Some.want.sect c.in-Some-get.field-0.now
    c.file_key-set_id.ensures.set_id c.file_key-set_id.ensures.file inv.set_id inv.file
    (search rules) in
    let some = not_none _ (c.is_none.ensures ∙ ap not c.if-is_none.false) in
    record {
      set_id = c.in_ok-mounted.ensures.file.0 ∙ inv.set_id;
      file = c.in_ok-mounted.ensures.file.1 ∙ inv.file;
      wide = c.read_section.ensures.wide ∙ inv.wide;
      calm = calm_then g.S.PartSink c.args.session.now c.sections.session
          c.read_section.new.session inv.calm c.in_ok-mounted.ensures.calm;
      only = reads_then g.S.PartSink c.args.session.now c.sections.session
          c.read_section.new.session inv.only c.read_section.ensures.reads;
      reads = λ whole held.
          let (s, is_open, more) = inv.reads whole held in
          let reads = located_open g.S.PartSink g.L.ImageSource.gives g.R.Read.remaining
          c.in-Some-get.field-0.now c.sections.session c.read_section.new.session c.sections.images
          c.read_section.new.images _ _ (held_behind whole s.stretches) _
          (ap is_some c.take-held.ensures.value ∙ is_open)
          (c.in_ok-mounted.ensures.ok (held_behind whole s.stretches)
          (rw c.take-held.ensures.value s.held)) in (
            section_read g.S.PartSink _ g.L.ImageSource.gives g.R.Read.remaining
                c.args.session.now c.sections.session c.read_section.new.session
                c.args.images.now c.sections.images c.read_section.new.images
                (is_some c.args.mounted.now) whole
                c.sections.mounted _ s c.in-Some-get.field-0.now on reads some,
            c.is_none.ensures ∙ ap not c.if-is_none.false
                ∙ sym (read_open g.S.PartSink _ g.L.ImageSource.gives g.R.Read.remaining
                c.args.session.now c.sections.session c.read_section.new.session
                c.args.images.now c.sections.images c.read_section.new.images
                (is_some c.args.mounted.now) whole
                c.sections.mounted _ s c.in-Some-get.field-0.now on reads some),
            λ _. read_some g.S.PartSink _ g.L.ImageSource.gives g.R.Read.remaining
                c.args.session.now c.sections.session c.read_section.new.session
                c.args.images.now c.sections.images c.read_section.new.images
                (is_some c.args.mounted.now) whole
                c.sections.mounted _ s c.in-Some-get.field-0.now on reads some,
          );
    }

pub returns-then-is_none-clause-ok : goal.returns-then-is_none-clause-ok
returns-then-is_none-clause-ok g c whole held =
    let inv = c.sections.invariant in
    let (s, is_open, more) = inv.reads whole held in
    let key = c.file_key-set_id.ensures in
    let none = is_none_then _ (c.is_none.ensures ∙ ap not c.if-is_none.true) in
    section_failed g.S.PartSink g.L.ImageSource.gives g.R.Read.remaining
    c.args.locations.now.entries c.args.session.now
    c.sections.session c.read_section.new.session c.args.images.now c.sections.images
    c.read_section.new.images (is_some c.args.mounted.now) whole c.sections.mounted _ s
    c.in-Some-get.field-0.now
    (begins_on c.args.locations.now.entries c.sections.session.core c.args.session.now.core
    c.file_key-set_id.result c.in-Some.want.sect c.in-Some-get.field-0.now key.set_id key.file
    inv.set_id inv.file (search rules))
    (next_on c.args.locations.now.entries c.sections.session.core c.file_key-set_id.result
    c.in-Some.want (Some c.in-Some-get.field-0.now) key.set_id key.file
    (sym c.in-Some.is ∙ c.want.ensures) (search rules))
    (located_open g.S.PartSink g.L.ImageSource.gives g.R.Read.remaining
    c.in-Some-get.field-0.now c.sections.session c.read_section.new.session c.sections.images
    c.read_section.new.images _ _ (held_behind whole s.stretches) _
    (ap is_some c.take-held.ensures.value ∙ is_open)
    (c.in_ok-mounted.ensures.ok (held_behind whole s.stretches)
    (rw c.take-held.ensures.value s.held)))
    none (c.in_ok-mounted.ensures.unfinished none)

pub returns-then-from-next-clause-ok : goal.returns-then-from-next-clause-ok
returns-then-from-next-clause-ok g c whole held =
    let (s, is_open, some) = c.sections.invariant.reads whole held in
    sections_read _ _ _ _ false _ _ _ _ _ _ whole _ _ s s.held
    (search rules, inl (refl, inr (some (omega arith))))

pub returns-in_default-get-clause-ok : goal.returns-in_default-get-clause-ok
returns-in_default-get-clause-ok g c whole held =
    let s = (c.sections.invariant.reads whole held).0 in
    sections_read _ _ _ _ false _ _ _ _ _ _ whole _ _ s s.held (
      search rules,
      inl (
        refl,
        inl (next_on c.args.locations.now.entries c.sections.session.core c.file_key-set_id.result
            c.in-Some.want None c.file_key-set_id.ensures.set_id c.file_key-set_id.ensures.file
            (sym c.in-Some.is ∙ c.want.ensures) (search rules)),
      ),
    )

pub returns-clause-ok : goal.returns-clause-ok
returns-clause-ok g c whole held =
    let s = (c.sections.invariant.reads whole held).0 in
    sections_read _ _ _ _ true _ _ _ _ _ _ whole _ _ s s.held (search rules, refl)
