use Rattle.std.proofs.Common.{◌≡◌, ◌+◌, ◌++◌, Ok, ap, ◌∙◌, arith, refl, Option}
use Rattle.tape_image.specs.Reader.{tape_item, ending_of}
use Rattle.tape_image.proofs.Callers.{gave, met_end, met_fault, same_some}
use Rattle.tape_image.proofs.Steps.{least_four}
use Rattle.tape_label.specs.declared.values.Head1.{Head1}
use Rattle.tape_run.specs.{declared.passing.Phase.Phase, Added.stop_at, SurveyGlance.damages_in}
use Rattle.tape_run.specs.declared.survey.glance.ImageSummary.{ImageSummary}
use Rattle.tape_run.specs.Passing.{Told, blocks_of, in_list}
use Rattle.tape_run.specs.{Noted.noted_all, Onward.goes_on}
use Rattle.tape_run.specs.SurveyLocations.{with_location}
use Rattle.tape_run.proofs.SurveyLooks.{looks_start, looks_more, labels_noted, viewed_end}
use Rattle.tape_run.proofs.{OnwardSoFar.one_block, SurveyLooks.viewed_fault}
use Rattle.tape_run.proofs.survey.view.view_items.Goals as goal
use Rattle.tape_run.proofs.survey.view.view_items.Goals.{in-Ok-None+in-Some, in-Err}

pub items-init : goal.items-init
items-init g c =
    let e = c.blank_glance-glance.ensures in
    record {
      on = c.requires.going;
      limit = omega (arith, c.requires.first);
      few = omega (arith, ap (λ (h : ImageSummary). h.items) e);
      files = omega (arith, ap (λ (h : ImageSummary). h.files) e);
      bad = omega (arith, ap (λ (h : ImageSummary). h.bad) e);
      blocks = omega arith;
      same_device = refl;
      looked = looks_start _ _ _ _ _ _ _ _ _ _ c.requires.first refl e c.new-damaged.ensures.items;
    }

pub items-preserved : goal.items-preserved
items-preserved g c =
    let next = c.next.follows.lender-at-none in
    let item = tape_item c.in-Ok-Some.item in
    let step = gave c.items.image _ next c.in-Ok-Some.item c.next.follows.holds-at-none
    c.items.invariant.on (c.in-Ok-Some.is ∙ ap Ok c.in-Ok-Some.field-0-is) in
    let steps = c.goes_on.ensures ∙ ap (goes_on c.items.phase item) c.wide_step-ordered.ensures in
    let phase = ap (λ (r : Phase × Option Told). r.0) steps in
    let told = ap (λ (r : Phase × Option Told). r.1) steps in
    let looks = c.look-glance.ensures.exact in
    let count : c.look-glance.result.items ≡ c.items.glance.items + 1 =
    ap (λ (h : ImageSummary). h.items) looks in
    record {
      on = step.goes_on;
      limit = step.within;
      few = omega (arith, count, step.extent, c.items.invariant.few, least_four item);
      files = c.look-glance.ensures.files;
      bad = c.look-glance.ensures.bad;
      blocks = omega (
        arith,
        count,
        ap blocks_of phase,
        one_block c.items.phase item,
        c.items.invariant.blocks,
      );
      same_device = c.next.follows.holds-at-none.same_device ∙ c.items.invariant.same_device;
      looked = looks_more _ c.items.image.left next.left c.items.image.place next.place _ item _ _ _
          _ c.items.phase _ _ c.items.glance _ c.items.digest _ _ _ _ _ _ _ c.items.copies _ _ _ _
          c.items.invariant.looked step.takes
          (ap (λ (r : Phase × Option Told). r.0) c.wide_step-ordered.ensures) phase
          (c.in_ok-note_told-in-Ok-Some.ensures.ok ∙ ap (λ (o : Option Told).
          noted_all c.items.sections.entries (in_list o)) told)
          (labels_noted _ _ _ _ _ c.items.phase item _ _ _ c.in_ok-note_met-in-Ok-Some.ensures.ok
          c.label_in.ensures c.in_ok-note_form-in-Ok-Some.ensures.ok c.form_in.ensures
          c.in_ok-note_fit-in-Ok-Some.ensures.ok told)
          (c.in_ok-note_location-in-Ok-Some.ensures.ok
          ∙ ap (λ (h : Option Head1). with_location c.items.sections.entries
          c.items.locations.entries c.args.number h) c.head_in.ensures)
          told
          c.in_ok-note-in-Ok-Some.ensures.ok c.in_ok-note_damage-in-Ok-Some.ensures.ok
          c.digest_in-digest.ensures looks;
    }

pub returns-in-items-clause-ok : goal.returns-in-items-clause-ok
returns-in-items-clause-ok g c =
    let next = c.next.follows.lender-at-none in
    let lists = c.of_vec-damaged.ensures ∙ c.in_ok-note_damage.ensures.ok
    ∙ ap (λ (o : Option Told). c.items.damaged.items ++ damages_in (in_list o)) c.under_way.ensures
    in
    elim c.match-next.branch [
      | in-Ok-None+in-Some w ↦
          let met = met_end c.items.image _ next c.next.follows.holds-at-none c.items.invariant.on
          (w.in-Ok-None.is ∙ ap Ok w.in-Ok-None.field-0-is) in
          let ending = same_some w.in-Some.ending met.ending w.ending.result w.in-Some.is
          (w.ending.ensures ∙ ap ending_of met.ended) in
          viewed_end _ c.items.image.left c.match-next.image.left c.items.image.place next.place _
          met.ending _ _ _ _ c.items.phase _ _ _ _ _ _ _ _ c.items.invariant.looked
          (rw w.image-is met.takes) c.in_ok-close.ensures.ok
          (w.stop-is ∙ (w.stop_at-stop.ensures ∙ ap stop_at ending)) lists
      | in-Err w ↦
          let met = met_fault c.items.image _ next w.in-Err.fault c.next.follows.holds-at-none
          c.items.invariant.on w.in-Err.is in
          viewed_fault _ c.items.image.left c.match-next.image.left c.items.image.place _
          w.in-Err.fault _ _ _ _ c.items.phase _ _ _ _ _ _ _ _ c.items.invariant.looked
          (rw w.image-is met.takes) c.in_ok-close.ensures.ok w.stop-is lists
    ]
