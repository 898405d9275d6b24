-- The items of an image that have been examined so far.
use Rattle.std.proofs.Common.{◌≡◌, ℕ, ◌+◌, List, [], ◌∷◌, ◌++◌, Option, refl, sym, ap, subst, ◌∙◌}
use Rattle.std.proofs.{Common.append-nil, lemmas.Grind.flat_map-append}
use Rattle.tape_image.specs.{declared.item.Ending.Ending, declared.item.ImageFault.ImageFault}
use Rattle.tape_image.specs.{Tape.TapeItem, Reader.IfKnown}
use Rattle.tape_image.specs.Step.{TakesItem, TakesEnd, TakesFault}
use Rattle.tape_image.proofs.Walks.{known_end, known_fault, IfKnown-map}
use Rattle.tape_label.specs.{declared.values.Head1.Head1}
use Rattle.tape_run.specs.SurveyFiles.{Labelled, with_met, with_form, form_in, with_label, with_all}
use Rattle.tape_run.specs.SurveyFiles.{with_fit}
use Rattle.tape_run.specs.declared.survey.forms.FormNote.{FormNote}
use Rattle.tape_run.specs.SurveyGlance.{label_in, blank_glance, head_in, look_to, look_all}
use Rattle.tape_run.specs.SurveyGlance.{glance_of}
use Rattle.tape_run.specs.{declared.passing.Phase.Phase}
use Rattle.tape_run.specs.{declared.survey.glance.ImageSummary.ImageSummary, Noted.noted_all}
use Rattle.tape_run.specs.{declared.survey.view.ImageSurvey.ImageSurvey, SurveyRead.ViewsItems}
use Rattle.tape_run.specs.{declared.passing.Phase.TheVariants.Volume, SurveyFiles.filed_in}
use Rattle.tape_run.specs.{declared.section.ImageStop.ImageStop, Added.StopsBehind, Added.stop_at}
use Rattle.tape_run.specs.declared.section.SectionLine.{SectionLine}
use Rattle.tape_run.specs.declared.section.ImageStop.TheVariants.{Fault}
use Rattle.tape_run.specs.Passing.{Told, in_list, under_way}
use Rattle.tape_run.specs.Onward.{step, phase_after, told_from, met_in}
use Rattle.tape_run.specs.WidePassing as Wide
use Rattle.tape_run.specs.SurveyCopies.{Copied, with_told, digest_in}
use Rattle.tape_run.specs.SurveyGlance.{damage_in, damages_in}
use Rattle.tape_run.specs.SurveyLocations.{Located, with_location, locate_all, located_in}
use Rattle.tape_run.proofs.OnwardSoFar.{SoFar, starts, one_more, all_noted}
use Rattle.tape_run.proofs.{KeepingPlaces.noted_all-append, OnwardSoFar.told_from-append}
use Rattle.tape_run.proofs.NotedSoFar.{by_ending}
use Rattle.tape_run.proofs.SurveyCopies.{CopiedSoFar, copied_none, copied_more}

-- one more item was examined
pub look_all-append : (g : ImageSummary) (p : Phase) (xs : List TapeItem) (x : TapeItem)
    → look_all g p (xs ++ x ∷ [])
    ≡ look_to (look_all g p xs) (phase_after p xs) x (Wide.step (phase_after p xs) x).0
look_all-append g p [] x = refl
look_all-append g p (y ∷ ys) x =
    look_all-append (look_to g p y (Wide.step p y).0) (step p y).0 ys x

-- and the header label that it is was recorded
pub with_all-append : (image : ℕ) (files : Labelled) (p : Phase) (xs : List TapeItem) (x : TapeItem)
    → with_all image files p (xs ++ x ∷ [])
    ≡ with_label image (with_all image files p xs) (phase_after p xs) x
with_all-append image files p [] x = refl
with_all-append image files p (y ∷ ys) x =
    with_all-append image (with_label image files p y) (step p y).0 ys x

-- and the image of its section was recorded
pub locate_all-append : (image : ℕ) (sections : List Told) (located : List Located) (p : Phase)
    (xs : List TapeItem) (x : TapeItem)
    → locate_all image sections located p (xs ++ x ∷ [])
    ≡ with_location (noted_all sections (told_from p xs))
    (locate_all image sections located p xs) image (head_in (phase_after p xs) x)
locate_all-append image sections located p [] x = refl
locate_all-append image sections located p (y ∷ ys) x =
    let first = in_list (step p y).1 in
    let then = told_from (step p y).0 ys in
    let here = with_location sections located image (head_in p y) in
    locate_all-append image (noted_all sections first) here (step p y).0 ys x
    ∙ ap (λ (r : List Told). with_location r
    (locate_all image (noted_all sections first) here (step p y).0 ys) image
    (head_in (phase_after (step p y).0 ys) x)) (sym (noted_all-append sections first then))

-- and the section that it completes was added to the damaged ones, if it is damaged
damages_in-append : (items : List TapeItem) (x : TapeItem)
    → damages_in (told_from Volume (items ++ x ∷ []))
    ≡ damages_in (told_from Volume items) ++ damages_in
    (in_list (step (phase_after Volume items) x).1)
damages_in-append items x =
    let last = in_list (step (phase_after Volume items) x).1 in
    ap damages_in (told_from-append Volume items (x ∷ [])
    ∙ ap (λ (r : List Told). told_from Volume items ++ r) (append-nil last))
    ∙ flat_map-append damage_in (told_from Volume items) last

-- Of the bytes `all` the items up to an offset were examined, and the results were recorded.
pub record LookedSoFar (all left : Option (List ℕ)) (place image : ℕ) (sections : List Told)
    (files : Labelled) (located : List Located) (known : Copied) (phase : Phase)
    (g : ImageSummary)
    (digest : ℕ) (told : List Told) (filed : Labelled) (locations : List Located)
    (copies : Copied)
    (damaged : List SectionLine) : Type 0 where
  pub count : ℕ
  pub so_far : SoFar all left place count sections phase told
  pub counted : g.items ≡ count
  pub glance : g ≡ glance_of so_far.items
  pub named : filed ≡ filed_in image files so_far.items
  pub places : locations ≡ located_in image sections located so_far.items
  pub copied : CopiedSoFar so_far.items image known digest copies
  pub damages : damaged ≡ damages_in (told_from Volume so_far.items)

pub looks_start : (all left : Option (List ℕ)) (place image : ℕ) (sections : List Told)
    (files : Labelled) (located : List Located) (known : Copied) (g : ImageSummary)
    (listed : List SectionLine) → place ≡ 0 → left ≡ all → g ≡ blank_glance → listed ≡ []
    → LookedSoFar all left place image sections files located known Volume g 0 sections files
    located
    known listed
looks_start all left place image sections files located known g listed first same none empty =
    record {
      count = 0;
      so_far = starts all left place sections first same;
      counted = ap (λ (h : ImageSummary). h.items) none;
      glance = none;
      named = refl;
      places = refl;
      copied = copied_none image known;
      damages = empty;
    }

-- one more item was read for the labels of files
pub labels_noted : (image : ℕ) (old mid then new : Labelled) (p : Phase) (x : TapeItem)
    (head : Option Head1) (form : Option FormNote) (told : Option Told)
    → mid ≡ with_met old image head
    → head ≡ label_in p x → then ≡ with_form mid image form → form ≡ form_in p x
    → new ≡ with_fit then p x told → told ≡ (step p x).1 → new ≡ with_label image old p x
labels_noted image old mid then new p x head form told noted is formed found fits ends =
    rw (fits, ends, formed, found, noted, is)

pub looks_more : (all left next : Option (List ℕ)) (p q image : ℕ) (item : TapeItem)
    (sections : List Told) (files : Labelled) (located : List Located) (known : Copied)
    (phase ordered after : Phase) (g h : ImageSummary) (digest then : ℕ) (mid told : List Told)
    (named filed : Labelled) (there locations : List Located) (found copies : Copied)
    (here : Option Told) (listed damaged : List SectionLine)
    → LookedSoFar all left p image sections files located known phase g digest mid named there found
    listed
    → IfKnown left next (TakesItem p item q) → ordered ≡ (Wide.step phase item).0
    → after ≡ (step phase item).0
    → told ≡ noted_all mid (in_list (step phase item).1) → filed ≡ with_label image named phase item
    → locations ≡ with_location mid there image (head_in phase item)
    → here ≡ (step phase item).1 → copies ≡ with_told found image here digest
    → damaged ≡ listed ++ damages_in (in_list here)
    → then ≡ digest_in digest phase item → h ≡ look_to g phase item ordered
    → LookedSoFar all next q image sections files located known after h then told filed locations
    copies damaged
looks_more all left next p q image item sections files located known phase ordered after g h digest
    then mid told named filed there locations found copies here listed damaged s takes in_order goes
    notes names
    places
    is adds lists digests looks =
    let items = s.so_far.items in
    let stands : phase ≡ phase_after Volume items = s.so_far.stands in
    record {
      count = s.count + 1;
      so_far = one_more all left next p q s.count item sections phase after mid told s.so_far takes
          goes notes;
      counted = rw (looks, s.counted);
      glance =
          rw (looks, in_order, stands, s.glance, look_all-append blank_glance Volume items item);
      named = rw (names, stands, s.named, with_all-append image files Volume items item);
      places = rw (
        places,
        stands,
        s.so_far.noted,
        s.places,
        locate_all-append image sections located Volume items item,
      );
      copied = copied_more items image known digest found phase item here then copies s.copied
          stands
          is adds digests;
      damages = rw (lists, is, stands, s.damages, damages_in-append items item);
    }

-- all damaged sections of the image are listed
all_damages : (items : List TapeItem) (phase : Phase) (listed damaged : List SectionLine)
    → phase ≡ phase_after Volume items → listed ≡ damages_in (told_from Volume items)
    → damaged ≡ listed ++ damages_in (in_list (under_way phase)) → damaged
    ≡ damages_in (met_in items)
all_damages items phase listed damaged stands so_far lists =
    let last = in_list (under_way (phase_after Volume items)) in
    lists ∙ ap (λ (r : Phase). listed ++ damages_in (in_list (under_way r))) stands
    ∙ ap (λ (r : List SectionLine). r ++ damages_in last) so_far
    ∙ sym (flat_map-append damage_in (told_from Volume items) last)

pub viewed_end : (all left next : Option (List ℕ)) (p q image : ℕ) (ending : Ending)
    (sections : List Told) (files : Labelled) (located : List Located) (known : Copied)
    (phase : Phase) (sight : ImageSurvey) (digest : ℕ) (mid told : List Told) (filed : Labelled)
    (locations : List Located) (copies : Copied) (listed : List SectionLine)
    → LookedSoFar all left p image sections files located known phase sight.glance digest mid filed
    locations copies listed
    → IfKnown left next (TakesEnd p [] ending q)
    → told ≡ noted_all mid (in_list (under_way phase)) → sight.stop ≡ stop_at ending
    → sight.damaged ≡ listed ++ damages_in (in_list (under_way phase))
    → ViewsItems all next image sections files located known sight told filed locations copies
viewed_end all left next p q image ending sections files located known phase sight digest mid told
    filed locations copies listed s takes notes stop lists =
    let items = s.so_far.items in
    record {
      items = items;
      stop = subst (λ (r : ImageStop). IfKnown all next (StopsBehind items r)) (sym stop)
          (IfKnown-map all next (TakesEnd 0 items ending q) (StopsBehind items (stop_at ending))
          (by_ending items ending q)
          (known_end all left next 0 p q items ending s.so_far.known takes));
      glance = s.glance;
      noted = all_noted all left p s.count sections phase mid told s.so_far notes;
      named = s.named;
      places = s.places;
      copied = s.copied.copied;
      damaged = all_damages items phase listed sight.damaged s.so_far.stands s.damages lists;
    }

pub viewed_fault : (all left next : Option (List ℕ)) (p image : ℕ) (fault : ImageFault)
    (sections : List Told) (files : Labelled) (located : List Located) (known : Copied)
    (phase : Phase) (sight : ImageSurvey) (digest : ℕ) (mid told : List Told) (filed : Labelled)
    (locations : List Located) (copies : Copied) (listed : List SectionLine)
    → LookedSoFar all left p image sections files located known phase sight.glance digest mid filed
    locations copies listed
    → IfKnown left next (TakesFault p [] fault)
    → told ≡ noted_all mid (in_list (under_way phase)) → sight.stop ≡ Fault fault
    → sight.damaged ≡ listed ++ damages_in (in_list (under_way phase))
    → ViewsItems all next image sections files located known sight told filed locations copies
viewed_fault all left next p image fault sections files located known phase sight digest mid told
    filed locations copies listed s takes notes stop lists =
    let items = s.so_far.items in
    record {
      items = items;
      stop = subst (λ (r : ImageStop). IfKnown all next (StopsBehind items r)) (sym stop)
          (known_fault all left next 0 p items fault s.so_far.known takes);
      glance = s.glance;
      noted = all_noted all left p s.count sections phase mid told s.so_far notes;
      named = s.named;
      places = s.places;
      copied = s.copied.copied;
      damaged = all_damages items phase listed sight.damaged s.so_far.stands s.damages lists;
    }
