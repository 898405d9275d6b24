use Rattle.std.proofs.Common.{◌≡◌, ◌⊎◌, ℕ, ◌<◌, ◌≤◌, List, true, false, sym, ap, ◌∙◌, subst, arith}
use Rattle.std.proofs.Common.{get_or, length, length-take, length-drop}
use Rattle.std.proofs.lemmas.Bool.{OnFalse_from, OnTrue_from}
use Rattle.tape_core.specs.{State.State, Table.saved}
use Rattle.tape_stage.specs.{Body.FitBody, Staged.new_slots}
use Rattle.tape_tool.specs.Staging.{IsUnmade, first_point}
use Rattle.tape_tool.proofs.Unmade.{unmade_read, whole_read}
use Rattle.tape_tool.proofs.staging.is_unmade.Goals as goal

-- each byte is zero or due
abbrev AreDue : List ℕ → List ℕ → Type 0
AreDue bytes due = (i : ℕ) → i < length bytes
    → (get_or bytes i 0 ≡ 0) ⊎ (get_or bytes i 0 ≡ get_or due i 0)

pub returns-clause-unmade : goal.returns-clause-unmade
returns-clause-unmade g c honest =
    let old : List ℕ = g.D.Disk.seen c.args.disk.now in
    let size = c.in-Ok-len.ensures.value in
    let long = g.met.D.Disk.long_as_seen c.args.disk.now honest in
    let few : length (g.D.Disk.seen c.args.disk.now) ≤ 256 =
    omega (arith, size, long, c.if-len-le256.true) in
    let read : c.read.new.buf ≡ g.D.Disk.seen c.args.disk.now =
    whole_read _ c.read.new.buf (g.D.Disk.seen c.len.new.self) (g.D.Disk.seen c.args.disk.now)
    (c.in-Ok-read.ensures.bytes (c.len.ensures.honest.onward honest)) (c.len.ensures.same honest)
    (omega (arith, size, long, length-take {A = ℕ}, length-drop {A = ℕ})) in
    let point : c.save.result ≡ first_point c.args.set_id c.args.file =
    c.save.ensures.value ∙ ap (λ (core : State). saved core 0) c.in-Ok.ensures.value in
    let slots : c.new_slots.result ≡ new_slots (first_point c.args.set_id c.args.file) =
    c.new_slots.ensures.text ∙ ap new_slots point in
    OnTrue_from c.is_begun.result (IsUnmade c.args.set_id c.args.file old) (λ yes.
    unmade_read c.args.set_id c.args.file old
    (subst (AreDue old) slots (subst (λ (l : List ℕ). AreDue l c.new_slots.result) read
    (c.is_begun.ensures.0 yes))) few
    (subst (FitBody 1) point c.new_slots.ensures.fit))

-- each byte of the disk was read, and is not zero or due
pub returns-clause-made : goal.returns-clause-made
returns-clause-made g c honest valid =
    let old : List ℕ = g.D.Disk.seen c.args.disk.now in
    let size = c.in-Ok-len.ensures.value in
    let long = g.met.D.Disk.long_as_seen c.args.disk.now honest in
    let read : c.read.new.buf ≡ g.D.Disk.seen c.args.disk.now =
    whole_read _ c.read.new.buf (g.D.Disk.seen c.len.new.self) (g.D.Disk.seen c.args.disk.now)
    (c.in-Ok-read.ensures.bytes (c.len.ensures.honest.onward honest)) (c.len.ensures.same honest)
    (omega (arith, size, long, length-take {A = ℕ}, length-drop {A = ℕ})) in
    let point : c.save.result ≡ first_point c.args.set_id c.args.file =
    c.save.ensures.value ∙ ap (λ (core : State). saved core 0) c.in-Ok.ensures.value in
    let slots : c.new_slots.result ≡ new_slots (first_point c.args.set_id c.args.file) =
    c.new_slots.ensures.text ∙ ap new_slots point in
    OnFalse_from c.is_begun.result (IsUnmade c.args.set_id c.args.file old → ⊥) (λ no made.
    differ (sym no ∙ c.is_begun.ensures.1
    (subst (λ (l : List ℕ). AreDue l c.new_slots.result) (sym read)
    (subst (AreDue old) (sym slots) (λ i inside. made.each i)))))
  where
    differ : false ≡ true → ⊥
    differ e = cc
