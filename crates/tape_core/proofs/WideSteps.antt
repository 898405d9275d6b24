-- A step of the wider reading, and that of the table.
use Rattle.std.proofs.Common.{◌≡◌, ◌≢◌, ℕ, List, Bool, true, false, Option, Some, None, Result, Ok}
use Rattle.std.proofs.Common.{Err, ◌≤◌, refl, sym, ap, subst, ◌∙◌}
use Rattle.std.specs.Prelude.{nat_lt}
use Rattle.tape_image.specs.Tape.{TapeItem, block, bad, mark}
use Rattle.tape_label.specs.declared.values.{Kind.Kind, Head2.Head2}
use Rattle.tape_label.specs.declared.values.Kind.TheVariants as kinds
use Rattle.tape_label.specs.declared.label.LabelFault.{LabelFault}
use Rattle.tape_label.specs.declared.label.LabelFault.TheVariants as faults
use Rattle.tape_label.specs.{Kinds.kind_at, Labels.no_kind, Reading.head2_at}
use Rattle.tape_label.specs.Reading.{wide_head2_at}
use Rattle.tape_label.proofs.Wide.{wide_as_strict}
use Rattle.tape_label.specs.declared.values.Format.TheVariants.{Fixed}
use Rattle.tape_blocks.specs.declared.check.BlockFault.{BlockFault}
use Rattle.tape_blocks.specs.{Judged.judged, Content.content_in}
use Rattle.tape_blocks.proofs.Wide.{content_kept}
use Rattle.tape_set.specs.Lawful.{FileForm, most_blocks}
use Rattle.tape_set.specs.Position.{block_of, part_of}
use Rattle.tape_core.specs.declared.event.Reason.TheVariants.{BadBlock}
use Rattle.tape_core.specs.declared.event.Phase.TheVariants.{DataWanted}
use Rattle.tape_core.specs.Table.{at_data, at_block}
use Rattle.tape_core.specs.Parts.{begun_before}
use Rattle.tape_set.specs.declared.position.Position.{Position}
use Rattle.tape_set.specs.declared.position.Position.TheVariants.{Awaits, Finished}
use Rattle.tape_core.specs.declared.event.{Heading.Heading, Phase.Phase}
use Rattle.tape_core.specs.declared.event.Answer.TheVariants.{Useless}
use Rattle.tape_core.specs.declared.event.Reason.TheVariants.{BadLabel}
use Rattle.tape_core.specs.declared.event.Phase.TheVariants.{Header2}
use Rattle.tape_core.specs.{State.State, Table.Outcome, Table.at_head2}
use Rattle.tape_core.specs.Table.{unless_complete}
use Rattle.tape_core.specs.Table as Table
use Rattle.tape_core.specs.Wide as Wide

-- the answer is not that a label cannot be read
abbrev pub ReadsLabels : Outcome → Type 0
ReadsLabels out = (f : LabelFault) → out.0 ≢ Useless (BadLabel f)

-- a second label that the strict reading accepts
heads_agree : (core : State) (heading : Heading) (bytes : List ℕ) (r : Result Head2 LabelFault)
    → head2_at bytes ≡ r → ReadsLabels (at_head2 core heading (head2_at bytes))
    → at_head2 core heading (wide_head2_at bytes) ≡ at_head2 core heading (head2_at bytes)
heads_agree core heading bytes (Ok h) e reads =
    ap (at_head2 core heading) (wide_as_strict bytes h e ∙ sym e)
heads_agree core heading bytes (Err f) e reads =
    absurd (reads f (ap (λ (z : Result Head2 LabelFault). (at_head2 core heading z).0) e))

labels_agree : (core : State) (heading : Heading) (wanted : Bool) (bytes : List ℕ)
    (k : Option Kind) → ReadsLabels (Table.second_label core heading wanted bytes k)
    → Wide.second_label core heading wanted bytes k
    ≡ Table.second_label core heading wanted bytes k
labels_agree core heading false bytes (Some kinds.Hdr2) reads = refl
labels_agree core heading true bytes (Some kinds.Hdr2) reads =
    heads_agree core heading bytes (head2_at bytes) refl reads
labels_agree core heading true bytes _ reads = absurd (reads (no_kind bytes) refl)
labels_agree core heading false bytes _ reads = absurd (reads (no_kind bytes) refl)

second_agrees : (core : State) (heading : Heading) (wanted : Bool) (arrived : Option TapeItem)
    (sect b part : ℕ) → core.phase ≡ Header2 heading wanted → core.position ≡ Awaits sect b part
    → ReadsLabels (Table.step_of core arrived)
    → Wide.at_second core heading wanted arrived ≡ Table.step_of core arrived
second_agrees core heading wanted (Some (block bytes)) sect b part e f reads =
    let is : Table.step_of core (Some (block bytes))
    ≡ Table.second_label core heading wanted bytes (kind_at bytes) =
    rw (f, e) refl in
    labels_agree core heading wanted bytes (kind_at bytes)
    (subst (λ (z : Outcome). ReadsLabels z) is reads) ∙ sym is
second_agrees core heading wanted (Some mark) sect b part e f reads =
    let is : (Table.step_of core (Some mark)).0 ≡ Useless (BadLabel faults.Identifier) =
    rw (f, e) refl in
    absurd (reads faults.Identifier is)
second_agrees core heading wanted (Some bad) sect b part e f reads = refl
second_agrees core heading wanted None sect b part e f reads = refl

by_phase_agrees : (core : State) (phase : Phase) (p : Position) (arrived : Option TapeItem)
    → core.phase ≡ phase → core.position ≡ p → ReadsLabels (Table.step_of core arrived)
    → Wide.by_phase core phase p arrived ≡ Table.step_of core arrived
by_phase_agrees core (Header2 heading wanted) (Awaits sect b part) arrived e f reads =
    second_agrees core heading wanted arrived sect b part e f reads
by_phase_agrees core _ _ arrived e f reads = refl

-- What the table does not refuse for a label has the same outcome in the wider reading.
pub step_agrees : (core : State) (arrived : Option TapeItem)
    → ReadsLabels (Table.step_of core arrived)
    → Wide.step_of core arrived ≡ Table.step_of core arrived
step_agrees core arrived reads =
    by_phase_agrees core core.phase core.position arrived refl refl reads

-- ---- padding

-- the block is not refused for its contents
abbrev pub ReadsBlocks : Outcome → Type 0
ReadsBlocks out = (f : BlockFault) → out.0 ≢ Useless (BadBlock f)

-- at a block of the section needed, by the result of its check
data_agrees : (core : State) (heading : Heading) (form : FileForm) (seen : ℕ) (bytes : List ℕ)
    (below more : Bool) (r : Result Bool BlockFault)
    → (form.format ≡ Fixed → 1 ≤ form.rec_len)
    → nat_lt seen (block_of core.position) ≡ below
    → nat_lt (block_of core.position) most_blocks ≡ more
    → judged form.format form.rec_len form.offset
    (begun_before form (part_of core.position) core.begun bytes) bytes ≡ r
    → ReadsBlocks (at_data core heading form seen bytes)
    → at_data core heading form seen (content_in form.format form.rec_len form.offset bytes)
    ≡ at_data core heading form seen bytes
data_agrees core heading form seen bytes true more r some b m e reads = rw b refl
data_agrees core heading form seen bytes false false r some b m e reads = rw (b, m) refl
data_agrees core heading form seen bytes false true (Ok end) some b m e reads =
    ap (at_data core heading form seen) (content_kept form.format form.rec_len form.offset _ end
    bytes some e)
data_agrees core heading form seen bytes false true (Err f) some b m e reads =
    let is : (at_data core heading form seen bytes).0 ≡ Useless (BadBlock f) = rw (b, m, e) refl in
    absurd (reads f is)

-- the record length of the form in the phase is in range
abbrev pub TellsRange : Phase → Type 0
TellsRange (DataWanted heading form seen) = form.format ≡ Fixed → 1 ≤ form.rec_len
TellsRange _ = Unit {0}

complete_agrees : (core : State) (p : Position) (a b : Outcome) → core.position ≡ p
    → ((s k q : ℕ) → p ≡ Awaits s k q → a ≡ b)
    → unless_complete core p a ≡ unless_complete core p b
complete_agrees core Finished a b e h = refl
complete_agrees core (Awaits s k q) a b e h = h s k q refl

content_by_phase : (core : State) (phase : Phase) (bytes : List ℕ) → core.phase ≡ phase
    → TellsRange phase → ReadsBlocks (Table.step_of core (Some (block bytes)))
    → (p : Position) → core.position ≡ p
    → unless_complete core p (at_block core phase (Wide.content_by phase bytes))
    ≡ unless_complete core p (at_block core phase bytes)
content_by_phase core (DataWanted heading form seen) bytes e some reads p q =
    complete_agrees core p _ _ q (λ s k m a.
    let is : Table.step_of core (Some (block bytes)) ≡ at_data core heading form seen bytes =
    rw (q ∙ a, e) refl in
    data_agrees core heading form seen bytes _ _ _ some refl refl refl
    (subst (λ (z : Outcome). ReadsBlocks z) is reads))
content_by_phase core _ bytes e some reads p q = refl

-- A block that the table does not refuse for its records has the same outcome as its content.
pub content_agrees : (core : State) (bytes : List ℕ) → TellsRange core.phase
    → ReadsBlocks (Table.step_of core (Some (block bytes)))
    → Table.step_of core (Some (block (Wide.content_of core bytes)))
    ≡ Table.step_of core (Some (block bytes))
content_agrees core bytes some reads =
    content_by_phase core core.phase bytes refl some reads core.position refl
