-- The records recovered after some items of an image.
use Rattle.std.proofs.Common.{◌≡◌, ℕ, List, [], ◌∷◌, ◌++◌, Option, Some, None, true, false, refl}
use Rattle.std.proofs.Common.{sym, ap, subst, ◌∙◌, append-nil, append_assoc, arith, ◌+◌, ◌&&◌, Bool}
use Rattle.std.proofs.{KnownBytes.Appends-nil, KnownBytes.Appends-trans, lemmas.Bool.and_parts}
use Rattle.std.specs.{Prelude.IfSome, Prelude.if◌then◌else◌, Prelude.◌≤◌, Io.KnownBytes.Appends}
use Rattle.tape_image.specs.{Tape.TapeItem, Tape.block, Tape.bad, Tape.mark, Reader.IfKnown}
use Rattle.tape_image.specs.{Begins.Walks, Begins.image_limit, declared.item.Ending.Ending}
use Rattle.tape_image.specs.{Step.TakesItem, Step.TakesEnd, Step.TakesFault, Written.AppendsFront}
use Rattle.tape_image.specs.declared.item.ImageFault.{ImageFault}
use Rattle.tape_image.proofs.Walks.{known_start, known_item, known_end, known_fault, IfKnown-map}
use Rattle.tape_image.proofs.Pieces.{front_behind}
use Rattle.tape_run.specs.SalvageBlocks.{Salvaged, HasSalvaged, Recovers, salvaged_at, text_at}
use Rattle.tape_run.specs.SalvageImage.{is_in, read_in, number_in, salvaged_from, text_from}
use Rattle.tape_run.specs.{declared.section.ImageStop.TheVariants.Fault, SalvageBlocks.ReportsFront}
use Rattle.tape_run.specs.{Added.StopsBehind, Added.stop_at, declared.section.SectionKey.SectionKey}
use Rattle.tape_run.specs.declared.salvage.recovery.Recovery.{Recovery}
use Rattle.tape_run.specs.declared.salvage.walk.Expected.{Expected}
use Rattle.tape_run.specs.declared.salvage.walk.Expected.TheVariants.{Data}
use Rattle.tape_run.specs.SalvageWalk.{step, expected_after}
use Rattle.tape_run.specs.SalvageImage.{RecoversSection, BeginsWith, is_mark, closings}
use Rattle.tape_run.proofs.NotedSoFar.{by_ending}
use Rattle.tape_set.specs.Lawful.{FileForm}

-- Of the bytes `all` the items up to an offset were read, and `left` is left; the blocks of the
-- section among these items were processed.
pub record SoFar {W : Type 0} (contents : W → Option (List ℕ)) (all left : Option (List ℕ))
    (place : ℕ) (origin : Expected) (key : SectionKey) (most : ℕ) (form : Option FileForm)
    (expected : Expected) (old new : Recovery W) (said says : Option (List ℕ)) : Type 0 where
  pub items : List TapeItem
  pub known : IfKnown all left (λ xs ys. Walks 0 xs items place ys)
  pub expects : expected ≡ expected_after origin items
  pub recovers : Recovers contents old new said says
      (λ g. salvaged_from key most form origin g items)
      (λ g. text_from key most form origin g items)

abbrev pub starts : {W : Type 0} (contents : W → Option (List ℕ)) (all left : Option (List ℕ))
    (place : ℕ) (origin : Expected) (key : SectionKey) (most : ℕ) (form : Option FileForm)
    (recovery : Recovery W) (said : Option (List ℕ)) → place ≡ 0 → left ≡ all
    → SoFar contents all left place origin key most form origin recovery recovery said said
starts contents all left place origin key most form recovery said first same =
    let P : ℕ → Type 0 = λ p. IfKnown all left (λ xs ys. Walks 0 xs [] p ys) in
    record {
      items = [];
      known = subst P (sym first) (known_start all left 0 same);
      expects = refl;
      recovers = λ start g h. (h, Appends-nil said);
    }

pub expected_after-append : (s : Expected) (xs ys : List TapeItem)
    → expected_after s (xs ++ ys) ≡ expected_after (expected_after s xs) ys
expected_after-append s [] ys = refl
expected_after-append s (x ∷ xs) ys = expected_after-append (step s x).0 xs ys

pub salvaged_from-append : (key : SectionKey) (most : ℕ) (form : Option FileForm) (s : Expected)
    (g : Salvaged) (xs ys : List TapeItem)
    → salvaged_from key most form s g (xs ++ ys)
    ≡ salvaged_from key most form (expected_after s xs) (salvaged_from key most form s g xs) ys
salvaged_from-append key most form s g [] ys = refl
salvaged_from-append key most form s g (x ∷ xs) ys =
    salvaged_from-append key most form (step s x).0 (salvaged_at form g (number_in key most s) x) xs
    ys

pub text_from-append : (key : SectionKey) (most : ℕ) (form : Option FileForm) (s : Expected)
    (g : Salvaged) (xs ys : List TapeItem)
    → text_from key most form s g (xs ++ ys)
    ≡ text_from key most form s g xs
    ++ text_from key most form (expected_after s xs) (salvaged_from key most form s g xs) ys
text_from-append key most form s g [] ys = refl
text_from-append key most form s g (x ∷ xs) ys =
    let n = number_in key most s in
    let t = text_at key.sect form g n x in
    ap (λ (l : List ℕ). t ++ l)
    (text_from-append key most form (step s x).0 (salvaged_at form g n x) xs ys)
    ∙ sym (append_assoc t (text_from key most form (step s x).0 (salvaged_at form g n x) xs)
    (text_from key most form (expected_after (step s x).0 xs)
    (salvaged_from key most form (step s x).0 (salvaged_at form g n x) xs) ys))

-- one more item was processed
pub salvaged_more : {W : Type 0} (contents : W → Option (List ℕ)) (origin : Expected)
    (key : SectionKey) (most : ℕ) (form : Option FileForm) (expected : Expected)
    (items : List TapeItem) (item : TapeItem)
    (old mid new : Recovery W) (said says now : Option (List ℕ))
    → expected ≡ expected_after origin items
    → Recovers contents old mid said says (λ g. salvaged_from key most form origin g items)
    (λ g. text_from key most form origin g items)
    → Recovers contents mid new says now
    (λ g. salvaged_at form g (number_in key most expected) item)
    (λ g. text_at key.sect form g (number_in key most expected) item)
    → Recovers contents old new said now
    (λ g. salvaged_from key most form origin g (items ++ item ∷ []))
    (λ g. text_from key most form origin g (items ++ item ∷ []))
salvaged_more contents origin key most form expected items item old mid new said says now at first
    next start g h =
    let one = first start g h in
    let g' = salvaged_from key most form origin g items in
    let two = next start g' one.0 in
    let t = text_at key.sect form g' (number_in key most expected) item in (
      subst (HasSalvaged contents start new)
          (ap (λ s. salvaged_at form g' (number_in key most s) item) at
          ∙ sym (salvaged_from-append key most form origin g items (item ∷ []))) two.0,
      subst (Appends said now)
          (ap (λ (l : List ℕ). text_from key most form origin g items ++ l)
          (sym (append-nil t)
          ∙ ap (λ s. text_at key.sect form g' (number_in key most s) item ++ []) at)
          ∙ sym (text_from-append key most form origin g items (item ∷ [])))
          (Appends-trans said says now _ _ one.1 two.1),
    )

abbrev pub one_more : {W : Type 0} (contents : W → Option (List ℕ))
    (all left next : Option (List ℕ)) (p q : ℕ) (origin : Expected) (key : SectionKey) (most : ℕ)
    (form : Option FileForm) (expected after : Expected)
    (item : TapeItem) (old mid new : Recovery W) (said says now : Option (List ℕ))
    → SoFar contents all left p origin key most form expected old mid said says
    → IfKnown left next (TakesItem p item q) → after ≡ (step expected item).0
    → Recovers contents mid new says now
    (λ g. salvaged_at form g (number_in key most expected) item)
    (λ g. text_at key.sect form g (number_in key most expected) item)
    → SoFar contents all next q origin key most form after old new said now
one_more contents all left next p q origin key most form expected after item old mid new said says
    now s takes e taken =
    record {
      items = s.items ++ item ∷ [];
      known = known_item all left next 0 p q s.items item s.known takes;
      expects = e ∙ (ap (λ z. (step z item).0) s.expects
          ∙ sym (expected_after-append origin s.items (item ∷ [])));
      recovers = salvaged_more contents origin key most form expected s.items item old mid new
          said says now s.expects s.recovers taken;
    }

-- the data of the section have not ended yet
pub closings-append : (key : SectionKey) (s : Expected) (xs ys : List TapeItem)
    → closings key s (xs ++ ys) ≡ closings key s xs + closings key (expected_after s xs) ys
closings-append key s [] ys = omega arith
closings-append key s (x ∷ xs) ys =
    let r = closings-append key (step s x).0 xs ys in omega (arith, r)

turned : (a b : Bool) → (b && a) ≡ false → (a && b) ≡ false
turned true true e = e
turned true false e = refl
turned false b e = refl

no_more : (n : ℕ) (b : Bool) → n ≡ 0 → b ≡ false → n + ((if b then 1 else 0) + 0) ≡ 0
no_more n true none off = absurd (cc off)
no_more n false none off = omega (arith, none)

pub still_open : (key : SectionKey) (origin expected : Expected) (items : List TapeItem)
    (item : TapeItem) (b : Bool) → expected ≡ expected_after origin items
    → closings key origin items ≡ 0 → b ≡ (is_mark item && is_in key expected) → b ≡ false
    → closings key origin (items ++ item ∷ []) ≡ 0
still_open key origin expected items item b at none is off =
    closings-append key origin items (item ∷ [])
    ∙ no_more (closings key origin items)
    (is_in key (expected_after origin items) && is_mark item) none
    (ap (λ s. is_in key s && is_mark item) (sym at)
    ∙ turned (is_in key expected) (is_mark item) (sym is ∙ off))

mark_is : (x : TapeItem) → is_mark x ≡ true → x ≡ mark
mark_is mark e = refl
mark_is (block b) e = absurd (cc e)
mark_is bad e = absurd (cc e)

-- the item that ends the data
pub ends_at : (key : SectionKey) (s : Expected) (x : TapeItem) (b : Bool)
    → b ≡ (is_mark x && is_in key s) → b ≡ true → (is_in key s ≡ true) × (x ≡ mark)
ends_at key s x b is on =
    let r = and_parts (is_mark x) (is_in key s) (sym is ∙ on) in (r.1, mark_is x r.0)

-- the items were read
placed : (all left : Option (List ℕ)) (q : ℕ) (items : List TapeItem)
    → q ≤ image_limit → IfKnown all left (λ xs ys. Walks 0 xs items q ys)
    → IfSome all (λ xs. (place : ℕ) × (ys : List ℕ) × (place ≤ image_limit)
    × Walks 0 xs items place ys)
placed None left q items near h = tt
placed (Some xs) None q items near h = absurd h
placed (Some xs) (Some ys) q items near h = (q, ys, near, h)

-- the mark that ends the section's data is not a data item
pub read_at_mark : (key : SectionKey) (s : Expected) → is_in key s ≡ true
    → read_in key s ≡ read_in key (step s mark).0
read_at_mark key (Data u) is = refl
read_at_mark key _ is = absurd (cc)

-- the section's data ended
pub ends_data : {W : Type 0} (contents : W → Option (List ℕ)) (all left next : Option (List ℕ))
    (p q : ℕ) (origin : Expected) (key : SectionKey) (most : ℕ) (form : Option FileForm)
    (expected : Expected) (item : TapeItem) (old mid new : Recovery W)
    (said says now : Option (List ℕ))
    → (s : SoFar contents all left p origin key most form expected old mid said says)
    → IfKnown left next (TakesItem p item q) → q ≤ image_limit → is_in key expected ≡ true
    → item ≡ mark
    → (n : ℕ) → n ≡ read_in key expected → closings key origin s.items ≡ 0
    → Recovers contents mid new says now
    (λ g. salvaged_at form g (number_in key most expected) item)
    (λ g. text_at key.sect form g (number_in key most expected) item)
    → RecoversSection contents all next origin key most form old new said now n
ends_data contents all left next p q origin key most form expected item old mid new said says now s
    takes near is e n count none taken =
    let more = one_more contents all left next p q origin key most form expected
    (step expected item).0 item old mid new said says now s takes refl taken in
    record {
      items = more.items;
      is_ended = true;
      reads = record {
        walked = placed all next q more.items near more.known;
        at_mark = λ _. (
          s.items,
          ap (λ x. s.items ++ x ∷ []) e,
          ap (is_in key) (sym s.expects) ∙ is,
        );
        all = λ f. absurd (cc);
        once = ap (λ x. closings key origin (s.items ++ x ∷ [])) e
            ∙ closings-append key origin s.items (mark ∷ [])
            ∙ ap (λ t. closings key origin s.items + ((if is_in key t && true then 1 else 0) + 0))
            (sym s.expects)
            ∙ ap (λ b. closings key origin s.items + ((if b && true then 1 else 0) + 0)) is
            ∙ ap (λ m. m + 1) none;
      };
      count = count ∙ read_at_mark key expected is
          ∙ ap (λ x. read_in key (step expected x).0) (sym e) ∙ ap (read_in key) more.expects;
      recovers = more.recovers;
    }

-- all items were read
pub at_end : {W : Type 0} (contents : W → Option (List ℕ)) (all left next : Option (List ℕ))
    (p q : ℕ) (ending : Ending) (origin : Expected) (key : SectionKey) (most : ℕ)
    (form : Option FileForm) (expected : Expected) (old new : Recovery W)
    (said says : Option (List ℕ))
    → (s : SoFar contents all left p origin key most form expected old new said says)
    → IfKnown left next (TakesEnd p [] ending q) → p ≤ image_limit → (n : ℕ)
    → n ≡ read_in key expected
    → closings key origin s.items ≡ 0
    → RecoversSection contents all next origin key most form old new said says n
at_end contents all left next p q ending origin key most form expected old new said says s takes
    near n count unended = record {
      items = s.items;
      is_ended = false;
      reads = record {
        walked = placed all left p s.items near s.known;
        at_mark = λ f. absurd (cc);
        all = λ _. (
          stop_at ending,
          IfKnown-map all next (TakesEnd 0 s.items ending q) (StopsBehind s.items (stop_at ending))
              (by_ending s.items ending q)
              (known_end all left next 0 p q s.items ending s.known takes),
        );
        once = unended;
      };
      count = count ∙ ap (read_in key) s.expects;
      recovers = s.recovers;
    }

pub at_fault : {W : Type 0} (contents : W → Option (List ℕ)) (all left next : Option (List ℕ))
    (p : ℕ) (fault : ImageFault) (origin : Expected) (key : SectionKey) (most : ℕ)
    (form : Option FileForm) (expected : Expected) (old new : Recovery W)
    (said says : Option (List ℕ))
    → (s : SoFar contents all left p origin key most form expected old new said says)
    → IfKnown left next (TakesFault p [] fault) → p ≤ image_limit → (n : ℕ)
    → n ≡ read_in key expected
    → closings key origin s.items ≡ 0
    → RecoversSection contents all next origin key most form old new said says n
at_fault contents all left next p fault origin key most form expected old new said says s takes near
    n count unended = record {
      items = s.items;
      is_ended = false;
      reads = record {
        walked = placed all left p s.items near s.known;
        at_mark = λ f. absurd (cc);
        all = λ _. (Fault fault, known_fault all left next 0 p s.items fault s.known takes);
        once = unended;
      };
      count = count ∙ ap (read_in key) s.expects;
      recovers = s.recovers;
    }

-- an item was processed under its number
pub numbered : {W : Type 0} (contents : W → Option (List ℕ)) (key : SectionKey) (most : ℕ)
    (form : Option FileForm) (expected : Expected) (n : Option ℕ) (item : TapeItem)
    (mid new : Recovery W) (says now : Option (List ℕ)) → n ≡ number_in key most expected
    → Recovers contents mid new says now (λ g. salvaged_at form g n item)
    (λ g. text_at key.sect form g n item)
    → Recovers contents mid new says now
    (λ g. salvaged_at form g (number_in key most expected) item)
    (λ g. text_at key.sect form g (number_in key most expected) item)
numbered contents key most form expected n item mid new says now e taken =
    subst (λ (m : Option ℕ). Recovers contents mid new says now (λ g. salvaged_at form g m item)
    (λ g. text_at key.sect form g m item)) e taken

-- the lines of an item were not written completely
pub stops_at : {W : Type 0} (contents : W → Option (List ℕ)) (all left next : Option (List ℕ))
    (p q : ℕ) (origin : Expected) (key : SectionKey) (most : ℕ) (form : Option FileForm)
    (expected : Expected) (n : Option ℕ) (item : TapeItem) (old mid : Recovery W)
    (said says now : Option (List ℕ))
    → SoFar contents all left p origin key most form expected old mid said says
    → IfKnown left next (TakesItem p item q) → q ≤ image_limit → n ≡ number_in key most expected
    → ReportsFront contents mid says now (λ g. text_at key.sect form g n item)
    → (items : List TapeItem) × BeginsWith all items
    × ReportsFront contents old said now (λ g. text_from key most form origin g items)
stops_at contents all left next p q origin key most form expected n item old mid said says now s
    takes near number part = (
      s.items ++ item ∷ [],
      placed all next q (s.items ++ item ∷ []) near
          (known_item all left next 0 p q s.items item s.known takes),
      λ start g h.
          let one = s.recovers start g h in
          let z = salvaged_from key most form origin g s.items in
          let t : Option ℕ → List ℕ = λ m. text_at key.sect form z m item in
          subst (AppendsFront said now)
          (ap (λ (l : List ℕ). text_from key most form origin g s.items ++ l)
          (sym (append-nil (t n))
          ∙ ap (λ m. t m ++ []) (number ∙ ap (number_in key most) s.expects))
          ∙ sym (text_from-append key most form origin g s.items (item ∷ [])))
          (front_behind said says now _ _ one.1 (part start z one.0)),
    )
