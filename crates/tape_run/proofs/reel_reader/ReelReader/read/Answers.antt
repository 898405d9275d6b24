use Rattle.std.proofs.Common.{◌≡◌, ◌≢◌, ◌++◌, [], ◌∷◌, ℕ, List, Option, Some, None, take, drop, ◌∙◌}
use Rattle.std.proofs.Common.{sym, ap, subst, refl, inl, inr, arith, IfNone, rules}
use Rattle.tape_image.specs.Tape.{TapeItem, block}
use Rattle.tape_image.proofs.{Callers.from_going, Steps.least_four, Pieces.on_err}
use Rattle.tape_set.specs.Position.{part_of}
use Rattle.tape_core.specs.declared.event.Answer.TheVariants.{Passed, Deliver, SectionDone}
use Rattle.tape_core.specs.{declared.event.Answer.Answer, State.State}
use Rattle.tape_core.specs.declared.event.Answer.TheVariants.{Complete, Useless}
use Rattle.tape_core.specs.{declared.event.Awaited.Awaited, Arrive.arrival, Follows.IsFinal}
use Rattle.tape_core.specs.Table.{Outcome, after_block, saved}
use Rattle.tape_core.specs.Wide.{step_by, read_as}
use Rattle.tape_core.proofs.Crashes.{only_same}
use Rattle.std.proofs.Common.{Result, Ok, Err}
use Rattle.tape_image.specs.Reader.{seen}
use Rattle.tape_image.specs.declared.item.{Item.Item, ImageFault.ImageFault}
use Rattle.tape_image.specs.declared.item.Item.TheVariants as items
use Rattle.tape_run.specs.Taking.{came_of}
use Rattle.tape_run.specs.Reels.{StopsAt, delivered_by}
use Rattle.tape_run.proofs.Reels.{IsDelivery, item_came, item_given, block_given, none_read}
use Rattle.tape_run.proofs.Reels.{read_on}
use Rattle.tape_run.proofs.ByTable.{puts_delivered, puts_none, puts_front, read_block}
use Rattle.tape_run.proofs.ByTable.{awaited_step, delivers_content}
use Rattle.tape_run.proofs.{Completes.Tells, Completes.step_tells, Causes.refused_then}
use Rattle.tape_run.proofs.{Growing.grows_then, Growing.adds_on, Ended.told_err}
use Rattle.tape_run.proofs.Notes.{front_more, front_self, front_trans}
use Rattle.tape_run.proofs.Images.{IsTaken, none_taken, taken_on, reads_image, refuses_image}
use Rattle.tape_run.proofs.{Reels.reads_reel, Reels.reads_to_block, Places.checked_parts}
use Rattle.tape_run.proofs.reel_reader.ReelReader.read.Goals.{in-Ok-Some-Block+in_default-awaited}
use Rattle.tape_run.proofs.reel_reader.ReelReader.read.Goals.{in-Ok+in-Some+in-Bad-1, in-Err-1}
use Rattle.tape_run.proofs.reel_reader.ReelReader.read.Goals.{in-Ok+in-None-1}
use Rattle.tape_run.proofs.reel_reader.ReelReader.read.Goals as goal

-- an answer ends the reading if it is neither of the two after which the reading continues
ends : (answer : Answer) → answer ≢ Passed → answer ≢ Deliver → IsFinal answer
ends Passed p d = absurd (p refl)
ends Deliver p d = absurd (d refl)
ends SectionDone p d = tt
ends Complete p d = tt
ends (Useless why) p d = tt

-- only a block is delivered
not_block : (told : Result (Option Item) ImageFault) (bytes : List ℕ)
    → ((b : _) → told ≡ Ok (Some (items.Block b)) → ⊥)
    → came_of (seen told) ≡ Some (block bytes) → ⊥
not_block (Ok (Some (items.Block b))) bytes n e = n b refl
not_block (Ok (Some items.Bad)) bytes n e = cc
not_block (Ok (Some items.Mark)) bytes n e = cc
not_block (Ok None) bytes n e = cc
not_block (Err fault) bytes n e = cc

unawaited : (found : Option Awaited) (X : Type 0) → ((a : Awaited) → found ≡ Some a → ⊥)
    → IfNone found X → X
unawaited None X n h = h
unawaited (Some a) X n h = absurd (n a refl)

pub items-init : goal.items-init
items-init g c =
    let wide = c.args.self.now.wide in
    record {
      on = c.requires.going;
      limit = omega (arith, c.requires.first);
      few = omega arith;
      same_device = refl;
      file = refl;
      wide = refl;
      set_id = refl;
      calm = refl;
      answers = none_read wide _ _ _ c.requires.first;
      crash = λ held was. only_same _ _;
      so_far = λ held was. (
        held,
        was,
        front_self held,
        none_taken wide _ held _ _ c.requires.first,
      );
    }

pub items-preserved : goal.items-preserved
items-preserved g c =
    let wide = c.args.self.now.wide in
    let inv = c.items.invariant in
    let core = c.items.self.core in
    let mid = c.step_by.new.self in
    let step = c.step_by.ensures in
    let came = arrival c.event_of-fault.result.0 in
    let passes = c.in-Passed.is in
    let other : c.step_by.result ≢ Deliver = λ e. absurd (cc (sym passes ∙ e)) in
    let none : delivered_by (c.step_by.result ∷ []) ≡ 0 =
    ap (λ (a : Answer). delivered_by (a ∷ [])) passes in
    let (item, is) = item_came _ _ _ _ step.left (inl passes) in
    let gives = item_given _ _ _ item (sym c.event_of-fault.ensures.comes ∙ is)
    (from_going _ _ _ c.next-told.follows.holds-at-none inv.on) in
    record {
      on = gives.goes_on;
      limit = gives.within;
      few = omega (arith, gives.extent, inv.few, least_four item);
      same_device = c.next-told.follows.holds-at-none.same_device ∙ inv.same_device;
      file = step.file ∙ inv.file;
      wide = inv.wide;
      set_id = step.set_id ∙ inv.set_id;
      calm = inv.calm;
      answers = read_on wide _ _ _ _ inv.answers gives (step.table ∙ ap (step_by wide core) is)
          (inl passes)
          (omega (arith, none));
      crash = inv.crash;
      so_far = grows_then inv.so_far (λ held was. (
        held,
        was,
        front_self held,
        record {
          step = step.table;
          left = step.left;
          puts = puts_none wide core mid c.step_by.result came held step.table other;
        },
      )) (λ held now then known t. taken_on wide _ held _ known gives is t);
    }

pub returns-in_err-put_block-clause-taken : goal.returns-in_err-put_block-clause-taken
returns-in_err-put_block-clause-taken g c =
    let core = c.items.self.core in
    let awaited = c.in-Some.ensures.some in
    let told = c.next-told.result in
    let wide = c.args.self.now.wide in
    let bytes = c.in-Ok-Some-Block.block.now in
    let is : came_of (seen told) ≡ Some (block bytes) = search rules in
    let step : (Deliver, after_block core c.in-Some.awaited.end) ≡ step_by wide core
    (came_of (seen told)) = awaited_step wide core _ _ bytes _ is c.as_read-content.ensures.value
    awaited.step in
    let delivery : IsDelivery wide core (came_of (seen told)) c.put_block.new.self.core = (
      c.in-Ok-Some-Block.block.now,
      is,
      sym (ap (λ (z : Outcome). z.0) step),
      subst (λ (z : Outcome). StopsAt (saved core 0) (saved z.1 0) c.put_block.new.self.core) step
          c.in_err-put_block.ensures.stops,
    ) in
    let (content, came, gives, delivers, stops) = block_given wide _ _ _ _ _ _ refl delivery
    (from_going
    _ _ _
    c.next-told.follows.holds-at-none c.items.invariant.on) in
    on_err _ _ (reads_to_block wide _ _ _ _ _ c.items.invariant.answers gives delivers stops)

pub returns-in_err-put_block-clause-err : goal.returns-in_err-put_block-clause-err
returns-in_err-put_block-clause-err g c = on_err c.from_residual.result _ (λ held was.
    let wide = c.args.self.now.wide in
    let core = c.items.self.core in
    let awaited = c.in-Some.ensures.some in
    let mid = after_block core c.in-Some.awaited.end in
    let bytes = c.in-Ok-Some-Block.block.now in
    let content = c.as_read-content.result.now in
    let taken : read_as wide core (block bytes) ≡ block content =
    read_block wide core bytes ∙ ap block (sym c.as_read-content.ensures.value) in
    let step : (Deliver, mid) ≡ step_by wide core (Some (block bytes)) =
    awaited_step wide core mid _ bytes content refl c.as_read-content.ensures.value awaited.step in
    let checked = awaited.checked in
    let is : came_of (seen c.next-told.result) ≡ Some (block bytes) = search rules in
    let gives = item_given _ _ _ (block bytes) is
    (from_going _ _ _ c.next-told.follows.holds-at-none c.items.invariant.on) in
    let holds = checked_parts core mid content checked in
    let (now, has, front, known) = c.items.invariant.so_far held was in
    let up = c.in_err-put_block.ensures.err now checked.parts checked.form checked.is_known holds
    has in
    let first = part_of core.position in
    let then = now ++ drop first (take up.n checked.parts) in
    let cuts = refuses_image wide c.args.self.now.core _ held c.args.image.now.left known gives
    (puts_front wide core mid (block bytes) content checked.form checked.parts now first up.n _ step
    taken checked.is_known holds refl up.from up.within up.back) in
    (then, up.held_now, front_trans held now then front (front_more now _), cuts))

pub returns-in_err-put_block-clause-cause : goal.returns-in_err-put_block-clause-cause
returns-in_err-put_block-clause-cause g c =
    told_err _ _ _ c.from_residual.ensures.1 (refused_then _ _ _ _ _ _ c.items.invariant.calm
    c.in_err-put_block.ensures.cause)

pub items-preserved-in-Some : goal.items-preserved-in-Some
items-preserved-in-Some g c =
    let wide = c.args.self.now.wide in
    let inv = c.items.invariant in
    let core = c.items.self.core in
    let awaited = c.in-Some.ensures.some in
    let mid = after_block core c.in-Some.awaited.end in
    let put = c.in_ok-put_block.ensures in
    let came = came_of (seen c.next-told.result) in
    let bytes = c.in-Ok-Some-Block.block.now in
    let is : came ≡ Some (block bytes) = search rules in
    let content = c.as_read-content.result.now in
    let read : read_as wide core (block bytes) ≡ block content =
    read_block wide core bytes ∙ ap block (sym c.as_read-content.ensures.value) in
    let step : (Deliver, mid) ≡ step_by wide core came =
    awaited_step wide core mid came bytes content is c.as_read-content.ensures.value
    awaited.step in
    let gives = item_given _ _ _ (block bytes) is
    (from_going _ _ _ c.next-told.follows.holds-at-none inv.on) in
    let table : (Deliver, c.put_block.new.self.core) ≡ step_by wide core came =
    ap (λ (z : State). (Deliver, z)) put.moved ∙ step in
    record {
      on = gives.goes_on;
      limit = gives.within;
      few = omega (arith, gives.extent, inv.few, least_four (block bytes));
      same_device = c.next-told.follows.holds-at-none.same_device ∙ inv.same_device;
      file = c.put_block.ensures.file ∙ inv.file;
      wide = c.put_block.ensures.wide ∙ inv.wide;
      set_id = c.put_block.ensures.set_id ∙ inv.set_id;
      calm = put.calm ∙ inv.calm;
      answers = read_on wide _ _ _ _ {answer = Deliver} inv.answers gives
          (table ∙ ap (step_by wide core) is) (inr refl) refl;
      crash = adds_on inv.so_far inv.crash c.put_block.ensures.crash;
      so_far = grows_then inv.so_far (λ held was.
          let checked = awaited.checked in
          let holds = checked_parts core mid content checked in
          let first = part_of core.position in
          let now = held ++ drop first checked.parts in
          let taken : IsTaken wide came Deliver core c.put_block.new.self.core held now = record {
            step = table;
            left = λ none. absurd (cc (sym is ∙ none));
            puts = ap (λ l. held ++ l) (puts_delivered wide core mid Deliver came (block bytes)
                content checked.form checked.parts first step refl is read checked.is_known holds
                refl);
          } in (
            now,
            put.ok held checked.parts checked.form checked.is_known holds was,
            front_more held _,
            taken,
          )) (λ held now then known t. taken_on wide _ held _ {answer = Deliver} known gives is t);
    }

pub returns-in_default-step_by : goal.returns-in_default-step_by
returns-in_default-step_by g c =
    let wide = c.args.self.now.wide in
    let inv = c.items.invariant in
    let core = c.items.self.core in
    let mid = c.step_by.new.self in
    let step = c.step_by.ensures in
    let came = arrival c.event_of-fault.result.0 in
    let comes = c.event_of-fault.ensures.comes in
    let other : c.step_by.result ≢ Deliver = elim c.match-told.branch [
      | in-Ok-Some-Block+in_default-awaited w ↦ λ e.
          let told : came_of (seen c.next-told.result) ≡ Some (block w.in-Ok-Some-Block.block.now)
          = search rules in
          unawaited _ _ w.in_default-awaited.not-Some
          w.awaited.ensures.none (delivers_content wide core w.in-Ok-Some-Block.block.now _
          w.as_read-content.ensures.value
          (ap (λ (z : Option TapeItem). (step_by wide core z).0) (sym (comes ∙ told))
          ∙ (sym (ap (λ (z : Outcome). z.0) step.table) ∙ e)))
      | in-Ok+in-Some+in-Bad-1 w ↦ λ e. not_block _ _ (search rules) (sym comes
          ∙ (step.checked e).1)
      | in-Ok+in-None-1 w ↦ λ e. not_block _ _ (search rules) (sym comes ∙ (step.checked e).1)
      | in-Err-1 w ↦ λ e. not_block _ _ (search rules) (sym comes ∙ (step.checked e).1)
    ] in
    let final = ends c.step_by.result c.in_default-step_by.not-Passed other in
    let met = from_going _ _ _ c.next-told.follows.holds-at-none inv.on in
    let fault = c.new.ensures.fault ∙ c.event_of-fault.ensures.fault in
    let answer : c.new.result.answer ≡ c.step_by.result = c.new.ensures.answer in
    record {
      same_device = c.next-told.follows.holds-at-none.same_device ∙ inv.same_device;
      file = step.file ∙ inv.file;
      set_id = step.set_id ∙ inv.set_id;
      wide = inv.wide;
      answer = reads_reel wide _ _ _ _ _ c.next-told.follows.lender-at-none _ inv.answers met
          (step.table ∙ ap (step_by wide core) comes) final answer fault c.new.ensures.blocks;
      complete = λ e. step.complete (sym answer ∙ e);
      finished = λ e. answer ∙ (subst Tells (sym step.table)
          (step_tells wide core came)).told e;
      taken = tt;
      ok = grows_then inv.so_far (λ held was. (
        held,
        was,
        front_self held,
        record {
          step = step.table;
          left = step.left;
          puts = puts_none wide core mid c.step_by.result came held step.table other;
        },
      )) (λ held now then known t. reads_image wide _ held _ _ c.next-told.follows.lender-at-none _
          known
          met (subst (λ z. IsTaken wide z c.step_by.result core mid now then) comes t)
          final fault);
      err = tt;
      cause = tt;
      calm = inv.calm;
      crash = inv.crash;
    }
