-- On any reel, what a reading does with the data of the section needed, and with its trailer label.
use Rattle.std.proofs.Common.{◌≡◌, ◌≢◌, ◌<◌, ◌≤◌, inl, inr, ℕ, ◌+◌, ◌==◌, Bool, true, false, List}
use Rattle.std.proofs.Common.{Some, Result, Ok, Err, refl, sym}
use Rattle.std.proofs.Common.{ap, subst, ◌∙◌, arith, nat_lt}
use Rattle.std.proofs.Common.{if◌then◌else◌, not}
use Rattle.std.proofs.lemmas.Bool.Decides.{nat_tests}
use Rattle.tape_image.specs.Tape.{TapeItem, block, bad, mark}
use Rattle.tape_label.specs.{declared.values.Trail1.Trail1, declared.label.LabelFault.LabelFault}
use Rattle.tape_label.specs.Reading.{trail1_at}
use Rattle.tape_blocks.specs.{declared.check.BlockFault.BlockFault}
use Rattle.tape_set.specs.declared.position.Position.{Position}
use Rattle.tape_set.specs.declared.position.Position.TheVariants.{Awaits, Finished}
use Rattle.tape_set.specs.Position.{block_of, part_of, next_block}
use Rattle.tape_set.specs.Lawful.{FileForm, label_count, most_blocks}
use Rattle.tape_core.specs.declared.event.{Reason.Reason, Heading.Heading}
use Rattle.tape_core.specs.declared.event.{Answer.TheVariants.Deliver}
use Rattle.tape_core.specs.declared.event.Answer.TheVariants.{Passed, Useless}
use Rattle.tape_core.specs.declared.event.Phase.TheVariants.{DataWanted}
use Rattle.tape_core.specs.declared.event.Phase.TheVariants.{TrailerWanted}
use Rattle.tape_core.specs.Table.{Outcome, passed, useless, broken, at_judged, at_item}
use Rattle.tape_core.specs.Table.{at_wanted_trailer, at_end, other_numbers, unless_complete}
use Rattle.tape_core.specs.{Parts.other_front, State.State}
use Rattle.tape_core.specs.{Overlap.EndsSection}
use Rattle.tape_core.specs.Table as Table
use Rattle.tape_core.specs.Wide as Wide
use Rattle.tape_core.specs.Wide.{step_by}
use Rattle.tape_run.specs.Reels.{GoesOn}
use Rattle.tape_run.proofs.CopyTold.{IsInSection, by_within}

-- ---- a data item

-- The reading skips the item, delivers it, or passes the mark after the data.
pub data Goes (core : State) (heading : Heading) (form : FileForm) (seen : ℕ) (x : TapeItem)
    (out : Outcome) : Type 0 where
  skips : seen < block_of core.position → x ≢ mark → out.0 ≡ Passed
      → out.1.phase ≡ DataWanted heading form (seen + 1) → out.1.position ≡ core.position
      → Goes core heading form seen x out
  delivers : (bytes : List ℕ) → x ≡ block bytes → block_of core.position ≤ seen → out.0 ≡ Deliver
      → out.1.phase ≡ DataWanted heading form (block_of core.position + 1)
      → out.1.position ≡ next_block core.position → Goes core heading form seen x out
  closes : x ≡ mark → block_of core.position ≤ seen → out.0 ≡ Passed
      → out.1.phase ≡ TrailerWanted heading form → out.1.position ≡ core.position
      → Goes core heading form seen x out

pub record Steps (core : State) (heading : Heading) (form : FileForm) (seen : ℕ) (x : TapeItem)
    (out : Outcome) : Type 0 where
  pub goes : GoesOn out.0 → Goes core heading form seen x out
  pub ends : EndsSection out.0 → ⊥

module _ (core : State) (heading : Heading) (form : FileForm) (seen : ℕ) (x : TapeItem) where
  stops : {why : Reason} → Steps core heading form seen x (useless core why)
  stops = record {
    goes = λ g. absurd (elim g [ inl e ↦ cc e | inr e ↦ cc e ]);
    ends = λ g. elim g [ inl e ↦ cc e | inr e ↦ cc e ];
  }

  pick : (c : Bool) (why : Reason) (out : Outcome) → Steps core heading form seen x out
      → Steps core heading form seen x (if c then useless core why else out)
  pick true why out s = stops
  pick false why out s = s

  judged_steps : (bytes : List ℕ) → x ≡ block bytes → block_of core.position ≤ seen
      → (content : List ℕ) (r : Result Bool BlockFault)
      → Steps core heading form seen x (at_judged core heading form content r)
  judged_steps bytes is le content (Err fault) = stops
  judged_steps bytes is le content (Ok end) =
      pick (other_front form (part_of core.position) core.begun content) _ _ (record {
        goes = λ g. delivers bytes is le refl refl refl;
        ends = λ g. elim g [ inl e ↦ cc e | inr e ↦ cc e ];
      })

  -- a block, as the reading takes it
  block_steps : (bytes content : List ℕ) → x ≡ block bytes → (c : Bool)
      → nat_lt seen (block_of core.position) ≡ c → Steps core heading form seen x
      (if c then passed core (DataWanted heading form (seen + 1))
      else Table.at_awaited core heading form content)
  block_steps bytes content is true e = record {
    goes = λ g. skips (grind (arith, nat_tests)) (λ m. let z = sym is ∙ m in cc z) refl refl refl;
    ends = λ g. elim g [ inl e ↦ cc e | inr e ↦ cc e ];
  }
  block_steps bytes content is false e =
      pick (not (nat_lt (block_of core.position) most_blocks)) _ _
      (judged_steps bytes is (grind (arith, nat_tests)) content _)

  mark_steps : x ≡ mark → (c : Bool) (why : Reason) → nat_lt seen (block_of core.position) ≡ c
      → Steps core heading form seen x
      (if c then useless core why else passed core (TrailerWanted heading form))
  mark_steps is true why e = stops
  mark_steps is false why e = record {
    goes = λ g. closes is (grind (arith, nat_tests)) refl refl refl;
    ends = λ g. elim g [ inl e ↦ cc e | inr e ↦ cc e ];
  }

  bad_steps : x ≡ bad → (c : Bool) (why : Reason) → nat_lt seen (block_of core.position) ≡ c
      → Steps core heading form seen x
      (if c then passed core (DataWanted heading form (seen + 1)) else useless core why)
  bad_steps is true why e = record {
    goes = λ g. skips (grind (arith, nat_tests)) (λ m. let z = sym is ∙ m in cc z) refl refl refl;
    ends = λ g. elim g [ inl e ↦ cc e | inr e ↦ cc e ];
  }
  bad_steps is false why e = stops

  unless_steps : (p : Position) (out : Outcome) → p ≢ Finished
      → Steps core heading form seen x out
      → Steps core heading form seen x (unless_complete core p out)
  unless_steps Finished out waits s = absurd (waits refl)
  unless_steps (Awaits sect b part) out waits s = s

-- the item as a reading takes it
data_item : (core : State) (heading : Heading) (form : FileForm) (seen : ℕ) (x : TapeItem)
    → Steps core heading form seen x (at_item core (DataWanted heading form seen)
    (Wide.item_by (DataWanted heading form seen) x))
data_item core heading form seen (block bytes) = block_steps core heading form seen (block bytes)
    bytes (Wide.content_by (DataWanted heading form seen) bytes) refl _ refl
data_item core heading form seen mark = mark_steps core heading form seen mark refl _ _ refl
data_item core heading form seen bad = bad_steps core heading form seen bad refl _ _ refl

strict_item : (core : State) (heading : Heading) (form : FileForm) (seen : ℕ) (x : TapeItem)
    → Steps core heading form seen x (at_item core (DataWanted heading form seen) x)
strict_item core heading form seen (block bytes) = block_steps core heading form seen (block bytes)
    bytes bytes refl _ refl
strict_item core heading form seen mark = mark_steps core heading form seen mark refl _ _ refl
strict_item core heading form seen bad = bad_steps core heading form seen bad refl _ _ refl

pub data_steps : (wide : Bool) (core : State) (heading : Heading) (form : FileForm) (seen : ℕ)
    (x : TapeItem) → core.position ≢ Finished → core.phase ≡ DataWanted heading form seen
    → Steps core heading form seen x (step_by wide core (Some x))
data_steps false core heading form seen x waits e =
    unless_steps core heading form seen x core.position _ waits
    (subst (λ z. Steps core heading form seen x (at_item core z x)) (sym e)
    (strict_item core heading form seen x))
data_steps true core heading form seen x waits e =
    subst (Steps core heading form seen x) (sym (by_within core core.phase core.position
    (Wide.content_item core x) refl (subst IsInSection (sym e) tt)))
    (unless_steps core heading form seen x core.position _ waits
    (subst (λ z. Steps core heading form seen x (at_item core z (Wide.item_by z x))) (sym e)
    (data_item core heading form seen x)))

-- ---- the trailer label

pub record Trailed (core : State) (x : TapeItem) : Type 0 where
  pub trailer : List ℕ
  pub label : Trail1
  pub is : x ≡ block trailer
  pub reads : trail1_at trailer ≡ Ok label
  pub count : label.blocks ≡ label_count (block_of core.position)

trailed : (core : State) (heading : Heading) (form : FileForm) (x : TapeItem)
    → EndsSection (at_item core (TrailerWanted heading form) x).0 → Trailed core x
trailed core heading form (block bytes) g = by (trail1_at bytes) refl g
  where
    no : {why : Reason} → EndsSection (Useless why) → ⊥
    no (inl e) = cc e
    no (inr e) = cc e

    counted : (t : Trail1) (why other : Reason) → trail1_at bytes ≡ Ok t → (n c : Bool)
        → (t.blocks == label_count (block_of core.position)) ≡ c
        → EndsSection (if n then useless core why else if not c then broken core other
        else at_end core form t.eof).0 → Trailed core (block bytes)
    counted t why other is true c e g = absurd (no g)
    counted t why other is false false e g = absurd (no g)
    counted t why other is false true e g = record {
      trailer = bytes;
      label = t;
      is = refl;
      reads = is;
      count = grind (arith, nat_tests, e);
    }

    by : (r : Result Trail1 LabelFault) → trail1_at bytes ≡ r
        → EndsSection (at_wanted_trailer core heading form r).0 → Trailed core (block bytes)
    by (Err fault) is g = absurd (no g)
    by (Ok t) is g = counted t _ _ is (other_numbers heading t) _ refl g
trailed core heading form mark g = absurd (elim g [ inl e ↦ cc e | inr e ↦ cc e ])
trailed core heading form bad g = absurd (elim g [ inl e ↦ cc e | inr e ↦ cc e ])

trailer_item : (heading : Heading) (form : FileForm) (x : TapeItem)
    → Wide.item_by (TrailerWanted heading form) x ≡ x
trailer_item heading form (block bytes) = refl
trailer_item heading form mark = refl
trailer_item heading form bad = refl

pub by_table : (wide : Bool) (core : State) (heading : Heading) (form : FileForm) (x : TapeItem)
    → core.phase ≡ TrailerWanted heading form
    → step_by wide core (Some x) ≡ Table.step_of core (Some x)
by_table false core heading form x e = refl
by_table true core heading form x e =
    by_within core core.phase core.position (Wide.content_item core x) refl
    (subst IsInSection (sym e) tt)
    ∙ ap (λ y. Table.step_of core (Some y))
    (ap (λ z. Wide.item_by z x) e ∙ trailer_item heading form x)

unless_ends : (core : State) (p : Position) (out : Outcome) → p ≢ Finished
    → EndsSection (unless_complete core p out).0 → EndsSection out.0
unless_ends core Finished out waits g = absurd (waits refl)
unless_ends core (Awaits sect b part) out waits g = g

pub unless_goes : (core : State) (p : Position) (out : Outcome) → p ≢ Finished
    → GoesOn (unless_complete core p out).0 → GoesOn out.0
unless_goes core Finished out waits g = absurd (waits refl)
unless_goes core (Awaits sect b part) out waits g = g

pub ends_trailed : (wide : Bool) (core : State) (heading : Heading) (form : FileForm) (x : TapeItem)
    → core.position ≢ Finished → core.phase ≡ TrailerWanted heading form
    → EndsSection (step_by wide core (Some x)).0 → Trailed core x
ends_trailed wide core heading form x waits e g = trailed core heading form x
    (subst (λ z. EndsSection (at_item core z x).0) e
    (unless_ends core core.position (at_item core core.phase x) waits
    (subst (λ (o : Outcome). EndsSection o.0) (by_table wide core heading form x e) g)))
