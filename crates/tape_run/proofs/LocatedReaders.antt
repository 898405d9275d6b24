-- Readers that stay open, and continue with the next file.
use Rattle.std.proofs.Common.{◌≡◌, ◌≢◌, ◌⊎◌, inl, inr, Bool, ℕ, ◌+◌, ◌<◌, false, List, [], ◌∷◌}
use Rattle.std.proofs.Common.{◌++◌}
use Rattle.std.proofs.Common.{Option, Some, None, refl, sym, ap, subst, ◌∙◌, arith, append_assoc}
use Rattle.tape_blocks.specs.Block.{Portion}
use Rattle.tape_image.specs.{Begins.Walks, Reader.IfKnown}
use Rattle.tape_image.specs.Tape.{TapeItem, block, bad, mark}
use Rattle.tape_image.proofs.Walks.{Walks-trans}
use Rattle.tape_set.specs.declared.position.Position.{Position}
use Rattle.tape_set.specs.declared.position.Position.TheVariants.{Awaits, Finished}
use Rattle.tape_core.specs.Table.{Outcome, at_item, in_phase, unless_complete, mount_of}
use Rattle.tape_core.specs.{Behind.AreInOrder, Behind.behind_of, Behind.mounted_behind, State.State}
use Rattle.tape_core.specs.{Known.is_finished, Place.rest_of, Table.mounted}
use Rattle.tape_core.specs.{declared.event.Answer.Answer, declared.event.Answer.TheVariants.Useless}
use Rattle.tape_core.specs.{declared.event.Phase.Phase, declared.event.Phase.TheVariants.Broken}
use Rattle.tape_core.specs.declared.event.Phase.TheVariants as phases
use Rattle.tape_core.specs.declared.event.Reason.TheVariants as reasons
use Rattle.tape_core.specs.Wide.{step_by, read_as}
use Rattle.tape_run.specs.ByTable.{parts_by, delivered_parts, IsLed, PassedOver}
use Rattle.tape_run.specs.ExtractingLocated.{PassesTo}
use Rattle.tape_run.specs.GoesBehind.{EndsSection}
use Rattle.tape_run.specs.Reels.{behind_items, Reads, ReadsReel}
use Rattle.tape_run.specs.declared.{reel_reader.ReelAnswer.ReelAnswer, survey.files.FileKey.FileKey}
use Rattle.tape_run.proofs.GoesBehindReels.{ended_well, leaves_behind}
use Rattle.tape_run.proofs.GoesBehind.{leads_over_all, passes_files}
use Rattle.tape_run.proofs.Finals.{IsIdle, idle_same}

-- ---- a reader that is broken

broken_or : (p : Phase) → (p ≡ Broken) ⊎ (p ≢ Broken)
broken_or Broken = inl refl
broken_or phases.Over = inr (λ e. cc)
broken_or _ = inr (λ e. cc)

broken_item : (core : State) (x : TapeItem) → core.phase ≡ Broken
    → at_item core Broken x ≡ (Useless reasons.Broken, core)
broken_item core (block b) e = ap (λ p. (Useless reasons.Broken, in_phase core p)) (sym e)
broken_item core mark e = ap (λ p. (Useless reasons.Broken, in_phase core p)) (sym e)
broken_item core bad e = ap (λ p. (Useless reasons.Broken, in_phase core p)) (sym e)

broken_step : (wide : Bool) (core : State) (x : TapeItem) (q : Position) → q ≡ core.position
    → is_finished q ≡ false → core.phase ≡ Broken
    → step_by wide core (Some x) ≡ (Useless reasons.Broken, core)
broken_step wide core x Finished is waits e = absurd (cc)
broken_step wide core x (Awaits sect b part) is waits e =
    idle_same wide core x (subst (λ p. IsIdle p core.phase) is
    (subst (λ p. IsIdle (Awaits sect b part) p) (sym e) tt))
    ∙ (ap (λ q. unless_complete core q (at_item core core.phase x)) (sym is)
    ∙ ap (λ p. at_item core p x) e ∙ broken_item core x e)

-- no item changes a broken reader, and none delivers a part
broken_items : (wide : Bool) (core : State) (xs : List TapeItem) → is_finished core.position ≡ false
    → core.phase ≡ Broken → (behind_items wide core xs ≡ core) × (delivered_parts wide core xs ≡ [])
broken_items wide core [] waits e = (refl, refl)
broken_items wide core (x ∷ xs) waits e =
    let one = broken_step wide core x core.position refl waits e in
    let same : (step_by wide core (Some x)).1 ≡ core = ap (λ (z : Outcome). z.1) one in
    let (behind, none) = broken_items wide core xs waits e in (
      ap (λ (z : State). behind_items wide z xs) same ∙ behind,
      ap (λ (a : Answer). parts_by a (read_as wide core x) core.position
          (step_by wide core (Some x)).1.known
          ++ delivered_parts wide (step_by wide core (Some x)).1 xs) (ap (λ (z : Outcome). z.0) one)
          ∙ ap (λ (z : State). delivered_parts wide z xs) same ∙ none,
    )

never_useless : (a : Answer) → a ≡ Useless reasons.Broken → EndsSection a → ⊥
never_useless a e (inl is) = absurd (let c = sym e ∙ is in cc)
never_useless a e (inr is) = absurd (let c = sym e ∙ is in cc)

-- so no section ends
never_ends : (wide : Bool) (core : State) (xs : List TapeItem) (x : TapeItem)
    → is_finished core.position ≡ false
    → core.phase ≡ Broken → EndsSection (step_by wide (behind_items wide core xs) (Some x)).0 → ⊥
never_ends wide core xs x waits e ends =
    let (behind, none) = broken_items wide core xs waits e in
    never_useless (step_by wide core (Some x)).0
    (ap (λ (z : Outcome). z.0) (broken_step wide core x core.position refl waits e))
    (subst (λ (z : State). EndsSection (step_by wide z (Some x)).0) behind ends)

mounted_broken : (p : Phase) (q : Position) → p ≡ Broken
    → (mounted p q ≡ Broken) × (mounted_behind p q ≡ Broken)
mounted_broken p q e = (ap (λ r. mounted r q) e ∙ refl, ap (λ r. mounted_behind r q) e ∙ refl)

-- The whole image leads where the continued reading leads: its first items are skipped, or the
-- reader is broken.
pub leads_on : (wide : Bool) (core new : State) (front more : List TapeItem)
    (held now : List Portion)
    → is_finished core.position ≡ false
    → (core.phase ≢ Broken → PassedOver wide core front (behind_of core))
    → IsLed wide more (behind_of core) new held now → IsLed wide (front ++ more)
    (mount_of core) new held now
leads_on wide core new front more held now waits over led = elim (broken_or core.phase) [
  | inl broken ↦
      let (first, behind) = mounted_broken core.phase core.position broken in
      let all = broken_items wide (mount_of core) (front ++ more) waits first in
      let rest = broken_items wide (behind_of core) more waits behind in
      let same : behind_of core ≡ mount_of core =
      ap (λ p. in_phase core p) (behind ∙ sym first) in
      record {
        place = led.place ∙ ap rest_of (rest.0 ∙ same ∙ sym all.0);
        parts = led.parts ∙ ap (λ (l : List Portion). held ++ l) (rest.1 ∙ sym all.1);
      }
  | inr sound ↦ leads_over_all wide core (behind_of core) new front more held now
      (over sound) led
]

-- ---- what stays mounted

in_order : (core later : State) (key : FileKey) → is_finished core.position ≡ false
    → key.set_id ≡ core.set_id → key.file ≡ core.file → later.set_id ≡ key.set_id
    → key.file < later.file → is_finished later.position ≡ false → AreInOrder core later
in_order core later key waits set file same less later_waits = grind (arith)

pub passes_front : (wide : Bool) (core new : State) (bytes left : List ℕ) (answer : ReelAnswer)
    (key : FileKey)
    → is_finished core.position ≡ false → key.set_id ≡ core.set_id → key.file ≡ core.file
    → EndsSection answer.answer → ReadsReel wide (mount_of core) bytes left answer new
    → PassesTo wide key bytes left
passes_front wide core new bytes left answer key waits set file ends r = elim
    (broken_or core.phase) [
      | inl broken ↦
          let e = ended_well wide _ _ _ _ _ waits r ends in
          absurd (never_ends wide _ e.items e.item waits
          (mounted_broken _ core.position broken).0 e.ended)
      | inr sound ↦
          let (items, item, at, s, walks) = leaves_behind wide core
          (mount_of core) new [] bytes left answer
          waits sound (record { answers = tt; behind = refl; nothing = refl }) r ends in
          record {
            front = items ++ item ∷ [];
            at = at;
            walks = walks;
            passed = λ later same less later_waits whole. passes_files wide core later items item
                (in_order _ _ _ waits set file same less later_waits) whole s;
          }
    ]

pub passes_on : (wide : Bool) (core new : State) (front : List TapeItem) (place : ℕ)
    (whole bytes left : List ℕ)
    (answer : ReelAnswer) (key : FileKey) → is_finished core.position ≡ false
    → key.set_id ≡ core.set_id → key.file ≡ core.file → EndsSection answer.answer
    → (core.phase ≢ Broken → PassedOver wide core front (behind_of core))
    → Walks 0 whole front place bytes
    → ReadsReel wide (behind_of core) bytes left answer new → PassesTo wide key whole left
passes_on wide core new front place whole bytes left answer key waits set file ends over before r =
    elim (broken_or core.phase) [
      | inl broken ↦
          let e = ended_well wide _ _ _ _ _ waits r ends in
          absurd (never_ends wide _ e.items e.item waits (mounted_broken _ core.position broken).1
          e.ended)
      | inr sound ↦
          let (items, item, at, s, walks) = leaves_behind wide core (behind_of core) new front bytes
          left answer waits sound (over sound) r ends in
          let moved : Walks place bytes (items ++ item ∷ []) (place + at) left =
          record { leads = walks.leads; moves = omega (arith, walks.moves) } in
          record {
            front = (front ++ items) ++ item ∷ [];
            at = place + at;
            walks = subst (λ xs. Walks 0 whole xs (place + at) left)
                (sym (append_assoc front items (item ∷ []))) (Walks-trans _ _ _ _ _ _ _ _ before
                moved);
            passed = λ later same less later_waits sound. passes_files wide core later
                (front ++ items)
                item (in_order _ _ _ waits set file same less later_waits) sound s;
          }
    ]

pub not_finished : (p : Position) → p ≢ Finished → is_finished p ≡ false
not_finished (Awaits sect b part) waits = refl
not_finished Finished waits = absurd (waits refl)

pub reads_waits : (wide : Bool) (p : Position) (core mounted new : State) (bytes left : List ℕ)
    (answer : ReelAnswer) → is_finished p ≡ false → Reads wide p core mounted bytes left answer new
    → ReadsReel wide mounted bytes left answer new
reads_waits wide (Awaits sect b part) core mounted new bytes left answer waits r = r
reads_waits wide Finished core mounted new bytes left answer waits r = absurd (cc)

pub held_front : (wide : Bool) (had left : Option (List ℕ)) (core new : State) (answer : ReelAnswer)
    (key : FileKey)
    → is_finished core.position ≡ false → key.set_id ≡ core.set_id → key.file ≡ core.file
    → EndsSection answer.answer
    → IfKnown had left (λ bytes rest. Reads wide core.position core
    (mount_of core) bytes rest answer
    new)
    → IfKnown had left (PassesTo wide key)
held_front wide None left core new answer key waits set file ends r = tt
held_front wide (Some bytes) None core new answer key waits set file ends r = r
held_front wide (Some bytes) (Some left) core new answer key waits set file ends r =
    passes_front wide _ _ _ _ _ _ waits set file ends (reads_waits wide _ _ _ _ _ _ _ waits r)

-- the reading of a session does not change
pub held_by : (wide later : Bool) (whole left : Option (List ℕ)) (key : FileKey) → later ≡ wide
    → IfKnown whole left (PassesTo wide key) → IfKnown whole left (PassesTo later key)
held_by wide later whole left key same p =
    subst (λ (w : Bool). IfKnown whole left (PassesTo w key)) (sym same) p

-- what the image that was mounted left: its front, where its bytes are known
abbrev pub front_of : (wide : Bool) (whole had : Option (List ℕ)) (key : FileKey)
    → IfKnown whole had (PassesTo wide key) → List TapeItem
front_of wide None had key p = []
front_of wide (Some bytes) None key p = absurd p
front_of wide (Some bytes) (Some left) key p = p.front

pub held_on : (wide : Bool) (whole had left : Option (List ℕ)) (core new : State)
    (answer : ReelAnswer)
    (before key : FileKey) → is_finished core.position ≡ false → before.set_id ≡ core.set_id
    → before.file < core.file → key.set_id ≡ core.set_id → key.file ≡ core.file
    → EndsSection answer.answer → IfKnown whole had (PassesTo wide before)
    → IfKnown had left (λ bytes rest. Reads wide core.position core
    (behind_of core) bytes rest answer
    new)
    → IfKnown whole left (PassesTo wide key)
held_on wide None had left core new answer before key waits same less set file ends p r = tt
held_on wide (Some whole) None left core new answer before key waits same less set file ends p r =
    absurd p
held_on wide (Some whole)
    (Some had) None core new answer before key waits same less set file ends p r =
    r
held_on wide (Some whole) (Some had) (Some left) core new answer before key waits same less set file
    ends p r
    = passes_on wide core new p.front p.at whole had left answer key waits set file ends
    (λ sound. p.passed core (sym same) less waits sound) p.walks
    (reads_waits wide core.position core (behind_of core) new had left answer waits r)
