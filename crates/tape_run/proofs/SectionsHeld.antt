-- On any reel, the blocks that were compared with the parts of a session stand in the section that
-- a reading ends.
use Rattle.std.proofs.Common.{◌≡◌, ◌≢◌, ◌≤◌, ◌⊎◌, inl, inr, ℕ, ◌+◌, Bool, List}
use Rattle.std.proofs.Common.{[], ◌∷◌, ◌++◌, length, map, take, Some, refl, sym}
use Rattle.std.proofs.Common.{ap, subst, ◌∙◌, arith, append_assoc, append-nil, length-append}
use Rattle.std.specs.{List.AllByRecursion}
use Rattle.tape_image.specs.Tape.{TapeItem, block, bad, mark}
use Rattle.tape_image.specs.{Begins.image_limit, Begins.Walks}
use Rattle.tape_image.proofs.{Callers.front_of_image, Existence.Begins-some}
use Rattle.tape_blocks.specs.Block.{Portion}
use Rattle.tape_set.specs.declared.position.Position.{Position}
use Rattle.tape_set.specs.declared.position.Position.TheVariants.{Awaits, Finished}
use Rattle.tape_set.specs.Position.{block_of}
use Rattle.tape_set.specs.Lawful.{FileForm, label_count}
use Rattle.tape_core.specs.declared.event.{Heading.Heading}
use Rattle.tape_core.specs.declared.event.{Phase.Phase, Answer.TheVariants.Deliver}
use Rattle.tape_core.specs.declared.event.Answer.TheVariants.{Passed}
use Rattle.tape_core.specs.declared.event.Phase.TheVariants.{Broken, DataWanted}
use Rattle.tape_core.specs.declared.event.Phase.TheVariants.{TrailerWanted, Over}
use Rattle.tape_core.specs.Table.{Outcome, at_item, mounted}
use Rattle.tape_core.specs.Table.{mount_of, in_phase}
use Rattle.tape_core.specs.{State.State, Overlap.EndsSection, Overlap.FitAll}
use Rattle.tape_core.specs.Wide.{step_by}
use Rattle.tape_core.proofs.Overlap.{certifies}
use Rattle.tape_run.specs.declared.session.compared.overlap.Overlap.{Overlap}
use Rattle.tape_run.specs.declared.session.compared.overlap.Found.TheVariants.{Same}
use Rattle.tape_run.specs.Reels.{GoesOn, behind_items, answers_to, delivered_by}
use Rattle.tape_run.specs.SectionEnds.{HeldOnReel, data_of}
use Rattle.tape_run.specs.Comparing.{MeetAll, MeetsFront, IsBehind, FindsAll}
use Rattle.tape_run.specs.Comparing.{core_before}
use Rattle.tape_run.proofs.{CopyTold.ends_there, ByTable.behind_app, SectionStands.starts_out}
use Rattle.tape_run.proofs.SectionSteps.{Goes, skips, delivers, closes, data_steps, by_table}
use Rattle.tape_run.proofs.SectionSteps.{unless_goes, ends_trailed}
use Rattle.tape_run.proofs.SectionStands.{map_push, push, next_number}
use Rattle.tape_run.proofs.HeldBlocks.{Held, outside, all_met}

-- ---- the items after them

module _ (wide : Bool) (front skipped : List TapeItem) where
  record Filling (xs : List TapeItem) (n : ℕ) (core : State) (seen : ℕ) : Type 0 where
    blocks : List (List ℕ)
    all : xs ≡ front ++ (mark ∷ (skipped ++ map block blocks))
    count : n ≡ length blocks
    sum : length skipped + length blocks ≡ seen
    at : block_of core.position ≡ seen

  record Closed (xs : List TapeItem) (n : ℕ) (core : State) : Type 0 where
    blocks : List (List ℕ)
    all : xs ≡ front ++ (mark ∷ (skipped ++ (map block blocks ++ (mark ∷ []))))
    count : n ≡ length blocks
    sum : block_of core.position ≡ length skipped + length blocks

  abbrev Rest : List TapeItem → ℕ → State → Phase → Type 0
  Rest xs n core (DataWanted heading form seen) = Filling xs n core seen
  Rest xs n core (TrailerWanted heading form) = Closed xs n core
  Rest xs n core _ = ⊥

  -- one more item was read
  record Next (xs : List TapeItem) (n : ℕ) (x : TapeItem) (out : Outcome) : Type 0 where
    passes : out.0 ≡ Passed → Rest (xs ++ x ∷ []) n out.1 out.1.phase
    delivers : out.0 ≡ Deliver → Rest (xs ++ x ∷ []) (n + 1) out.1 out.1.phase
    waits : out.1.position ≢ Finished

  module _ (core : State) (xs : List TapeItem) (n : ℕ) (x : TapeItem)
      (waits : core.position ≢ Finished) where
    abbrev out : Outcome
    out = step_by wide core (Some x)

    next_goes : (heading : Heading) (form : FileForm) (seen : ℕ) → Filling xs n core seen
        → Goes core heading form seen x out → Next xs n x out
    next_goes heading form seen h (skips lt off is there same) =
        let at = h.at in absurd (omega (arith, lt, at))
    next_goes heading form seen h (delivers bytes is le told there moved) =
        let (number, still) = next_number core.position waits in
        record {
          passes = λ e. absurd (let z = sym told ∙ e in cc z);
          delivers = λ e. subst (Rest (xs ++ x ∷ []) (n + 1) out.1) (sym there) (record {
            blocks = h.blocks ++ bytes ∷ [];
            all = ap (λ z. z ++ (x ∷ [])) h.all ∙ push front skipped (map block h.blocks) x
                ∙ ap (λ z. front ++ (mark ∷ (skipped ++ (map block h.blocks ++ (z ∷ []))))) is
                ∙ ap (λ z. front ++ (mark ∷ (skipped ++ z))) (map_push h.blocks bytes);
            count = let l = length-append h.blocks (bytes ∷ []) in
                let c = h.count in omega (arith, l, c);
            sum = let l = length-append h.blocks (bytes ∷ []) in
                let sum = h.sum in let at = h.at in omega (arith, l, sum, at);
            at = ap block_of moved ∙ number;
          });
          waits = λ f. still (sym moved ∙ f);
        }
    next_goes heading form seen h (closes is le told there same) = record {
      passes = λ e. subst (Rest (xs ++ x ∷ []) n out.1) (sym there) (record {
        blocks = h.blocks;
        all = ap (λ z. z ++ (x ∷ [])) h.all ∙ push front skipped (map block h.blocks) x
            ∙ ap (λ z. front ++ (mark ∷ (skipped ++ (map block h.blocks ++ (z ∷ []))))) is;
        count = h.count;
        sum = ap block_of same ∙ h.at ∙ sym h.sum;
      });
      delivers = λ e. absurd (let z = sym told ∙ e in cc z);
      waits = λ f. waits (sym same ∙ f);
    }

    next_item : (phase : Phase) → core.phase ≡ phase → Rest xs n core phase → GoesOn out.0
        → Next xs n x out
    next_item (DataWanted heading form seen) e h g =
        next_goes heading form seen h ((data_steps wide core heading form seen x waits e).goes g)
    next_item (TrailerWanted heading form) e h g =
        absurd (ends_there core heading form x (subst (λ z. GoesOn (at_item core z x).0) e
        (unless_goes core core.position (at_item core core.phase x) waits
        (subst (λ (o : Outcome). GoesOn o.0) (by_table wide core heading form x e) g))))
    next_item _ e h g = absurd h

  read_rest : (its : List TapeItem) (core : State) (xs : List TapeItem) (n : ℕ)
      → core.position ≢ Finished → Rest xs n core core.phase
      → AllByRecursion GoesOn (answers_to wide core its)
      → Rest (xs ++ its) (n + delivered_by (answers_to wide core its)) (behind_items wide core its)
      (behind_items wide core its).phase × ((behind_items wide core its).position ≢ Finished)
  read_rest [] core xs n waits h on = (
    subst (λ z. Rest z (n + 0) core core.phase) (sym (append-nil xs))
        (subst (λ z. Rest xs z core core.phase) (omega arith) h),
    waits,
  )
  read_rest (x ∷ its) core xs n waits h (g, on) =
      let new = step_by wide core (Some x) in
      let t = next_item core xs n x waits core.phase refl h g in
      let joined = append_assoc xs (x ∷ []) its in
      elim g [
        | inl e ↦
            let r = read_rest its new.1 (xs ++ x ∷ []) n t.waits (t.passes e) on in (
              subst (λ z. Rest z (n + delivered_by (new.0 ∷ answers_to wide new.1 its))
                  (behind_items wide new.1 its) (behind_items wide new.1 its).phase) joined
                  (subst (λ z. Rest ((xs ++ x ∷ []) ++ its)
                  (n + delivered_by (z ∷ answers_to wide new.1 its)) (behind_items wide new.1 its)
                  (behind_items wide new.1 its).phase) (sym e) r.0),
              r.1,
            )
        | inr e ↦
            let r = read_rest its new.1 (xs ++ x ∷ []) (n + 1) t.waits (t.delivers e) on in
            let k : n + 1 + delivered_by (answers_to wide new.1 its)
            ≡ n + (1 + delivered_by (answers_to wide new.1 its)) = omega arith in (
              subst (λ z. Rest z (n + delivered_by (new.0 ∷ answers_to wide new.1 its))
                  (behind_items wide new.1 its) (behind_items wide new.1 its).phase) joined
                  (subst (λ z. Rest ((xs ++ x ∷ []) ++ its)
                  (n + delivered_by (z ∷ answers_to wide new.1 its)) (behind_items wide new.1 its)
                  (behind_items wide new.1 its).phase) (sym e)
                  (subst (λ z. Rest ((xs ++ x ∷ []) ++ its) z (behind_items wide new.1 its)
                  (behind_items wide new.1 its).phase) k r.0)),
              r.1,
            )
      ]

-- ---- the items compared come first

split : (a b : List TapeItem) (x : TapeItem) (m n : List TapeItem) → a ++ m ≡ b ++ (x ∷ n)
    → ((more : List TapeItem) × (b ≡ a ++ more)) ⊎ ((more : List TapeItem) × (a ≡ b ++ (x ∷ more)))
split [] b x m n e = inl (b, refl)
split (y ∷ a) [] x m n e = let same : y ≡ x = cc e in inr (a, ap (λ z. z ∷ a) same)
split (y ∷ a) (z ∷ b) x m n e =
    let same : y ≡ z = cc e in
    let rest : a ++ m ≡ b ++ (x ∷ n) = cc e in
    elim (split a b x m n rest) [
      | inl (more, is) ↦ inl (more, ap (λ w. z ∷ w) is ∙ ap (λ w. w ∷ (a ++ more)) (sym same))
      | inr (more, is) ↦
          inr (more, ap (λ w. y ∷ w) is ∙ ap (λ w. w ∷ (b ++ (x ∷ more))) same)
    ]

-- each item compared is passed
passed_there : (wide : Bool) (from : ℕ) (core : State) (a : List TapeItem) (x : TapeItem)
    (more : List TapeItem) (ahead left : List Portion)
    → MeetAll wide from core (a ++ (x ∷ more)) ahead left
    → (step_by wide (behind_items wide core a) (Some x)).0 ≡ Passed
passed_there wide from core [] x more ahead left (passed, mid, meets, all) = passed
passed_there wide from core (y ∷ a) x more ahead left (passed, mid, meets, all) =
    passed_there wide from (step_by wide core (Some y)).1 a x more mid left all

none_first : (wide : Bool) (from : ℕ) (core : State) (its more : List TapeItem)
    (ahead left : List Portion) → MeetAll wide from core its ahead left
    → AllByRecursion GoesOn (answers_to wide core (its ++ more))
    → (delivered_by (answers_to wide core (its ++ more))
    ≡ delivered_by (answers_to wide (behind_items wide core its) more))
    × AllByRecursion GoesOn (answers_to wide (behind_items wide core its) more)
none_first wide from core [] more ahead left same on = (refl, on)
none_first wide from core (x ∷ its) more ahead left (passed, mid, meets, all) (g, on) =
    let new = step_by wide core (Some x) in
    let (same, rest) = none_first wide from new.1 its more mid left all on in (
      ap (λ z. delivered_by (z ∷ answers_to wide new.1 (its ++ more))) passed ∙ same,
      rest,
    )

front_none : (part : ℕ) (phase : Phase) (y : TapeItem) (mid : List Portion) → part ≡ 0
    → MeetsFront part phase y mid [] → mid ≡ []
front_none part (DataWanted heading form seen) (block content) mid none (parts, c, le, q) =
    q ∙ ap (λ z. take z parts ++ []) none
front_none part (DataWanted heading form seen) bad mid none f = absurd f
front_none part (DataWanted heading form seen) mark mid none f = absurd f
front_none part _ y mid none f = absurd f

same_start : (phase : Phase) (p : Position) → phase ≢ Broken
    → mounted phase p ≡ mounted Over p
same_start Broken p sound = absurd (sound refl)
same_start _ Finished sound = refl
same_start _ (Awaits sect b part) sound = refl

module _ (wide : Bool) (core : State) (from : ℕ) (held : List Portion) (items : List TapeItem)
    (item : TapeItem) (waits : core.position ≢ Finished)
    (ends : EndsSection (step_by wide (behind_items wide (mount_of core) items) (Some item)).0) where
  abbrev last : State
  last = behind_items wide (mount_of core) items

  finish : (front passed : List TapeItem) (form : FileForm) (texts : List (List ℕ))
      → AllByRecursion (λ x. x ≢ mark) passed → length passed ≡ from
      → length passed + length texts ≡ block_of core.position
      → FitAll form held (map (data_of wide form) texts) [] → last.position ≢ Finished
      → (phase : Phase) → last.phase ≡ phase
      → Rest wide front (passed ++ map block texts) items
      (delivered_by (answers_to wide (mount_of core) items)) last phase
      → HeldOnReel wide core from held items item
  finish front passed form texts off first before fits still (DataWanted heading f seen) e h =
      absurd ((data_steps wide last heading f seen item still e).ends ends)
  finish front passed form texts off first before fits still (TrailerWanted heading f) e h =
      let t = ends_trailed wide last heading f item still e ends in
      record {
        front = front;
        passed = passed;
        form = form;
        texts = texts;
        blocks = h.blocks;
        trailer = t.trailer;
        label = t.label;
        all = h.all;
        no_mark = off;
        first = first;
        before = before;
        had = certifies form held [] (map (data_of wide form) texts) fits;
        delivered = h.count;
        is = t.is;
        reads = t.reads;
        count = t.count ∙ ap label_count (h.sum ∙ ap (λ z. z + length h.blocks)
            (length-append passed (map block texts)
            ∙ ap (λ z. length passed + z) (length_map texts)));
      }
    where
      length_map : (bs : List (List ℕ)) → length (map block bs) ≡ length bs
      length_map [] = refl
      length_map (b ∷ bs) = let h = length_map bs in omega (arith, h)
  finish front passed form texts off first before fits still _ e h = absurd h

  behind : (its more : List TapeItem) → items ≡ its ++ more → (mid : List Portion) → mid ≡ []
      → MeetAll wide from (mount_of core) its held mid
      → AllByRecursion GoesOn (answers_to wide (mount_of core) items)
      → from ≤ block_of core.position
      → (phase : Phase) → (behind_items wide (mount_of core) its).phase ≡ phase
      → IsBehind (block_of core.position) phase
      → Held wide from held core.position waits its (behind_items wide (mount_of core) its) phase mid
      → HeldOnReel wide core from held items item
  behind its more is mid none met on early (DataWanted heading form seen) e le h =
      let most = h.most in
      let n : seen ≡ block_of core.position = omega (arith, most, le) in
      let few = h.few in
      let sum = h.sum in
      let first : length h.passed ≡ from = elim h.full [
        | inl all ↦ all
        | inr nothing ↦
            let zero' : length h.texts ≡ 0 = ap length nothing in
            omega (arith, zero', sum, n, early, few)
      ] in
      let (count, rest) = none_first wide from (mount_of core) its more held mid met
      (subst (λ z. AllByRecursion GoesOn (answers_to wide (mount_of core) z)) is on) in
      let start : Rest wide h.front (h.passed ++ map block h.texts) its 0
      (behind_items wide (mount_of core) its) (behind_items wide (mount_of core) its).phase =
      subst (λ z. Rest wide h.front (h.passed ++ map block h.texts) its 0
      (behind_items wide (mount_of core) its) z) (sym e) (record {
        blocks = [];
        all = h.all
            ∙ ap (λ z. h.front ++ (mark ∷ z)) (sym (append-nil (h.passed ++ map block h.texts)));
        count = refl;
        sum = let l = length-append h.passed (map block h.texts) in
            let k = length_map h.texts in omega (arith, l, k, sum);
        at = ap block_of h.at ∙ sym n;
      }) in
      let (end, still) = read_rest wide h.front (h.passed ++ map block h.texts) more
      (behind_items wide (mount_of core) its) its 0 (λ f. waits (sym h.at ∙ f)) start rest in
      let there : behind_items wide (behind_items wide (mount_of core) its) more ≡ last =
      sym (ap (λ z. behind_items wide (mount_of core) z) is
      ∙ behind_app wide (mount_of core) its more) in
      let none_before : 0 + delivered_by (answers_to wide (behind_items wide (mount_of core) its) more)
      ≡ delivered_by (answers_to wide (behind_items wide (mount_of core) its) more) = omega arith in
      let all : 0 + delivered_by (answers_to wide (behind_items wide (mount_of core) its) more)
      ≡ delivered_by (answers_to wide (mount_of core) items) = none_before
      ∙ sym (ap (λ z. delivered_by (answers_to wide (mount_of core) z)) is ∙ count) in
      finish h.front h.passed form h.texts h.no_mark first (sum ∙ n)
      (subst (λ z. FitAll form held (map (data_of wide form) h.texts) z) none h.fits)
      (subst (λ (z : State). z.position ≢ Finished) there still) last.phase refl
      (subst (λ z. Rest wide h.front (h.passed ++ map block h.texts) z
      (delivered_by (answers_to wide (mount_of core) items)) last last.phase) (sym is)
      (subst (λ (z : State). Rest wide h.front (h.passed ++ map block h.texts) (its ++ more)
      (delivered_by (answers_to wide (mount_of core) items)) z z.phase) there
      (subst (λ z. Rest wide h.front (h.passed ++ map block h.texts) (its ++ more) z
      (behind_items wide (behind_items wide (mount_of core) its) more)
      (behind_items wide (behind_items wide (mount_of core) its) more).phase) all end)))
    where
      length_map : (bs : List (List ℕ)) → length (map block bs) ≡ length bs
      length_map [] = refl
      length_map (b ∷ bs) = let h = length_map bs in omega (arith, h)
  behind its more is mid none met on early _ e le h = absurd le

pub compared_sections_stand : (wide : Bool) (core : State) (sect : ℕ) (o : Overlap)
    (bytes left : List ℕ) (held : List Portion) (items : List TapeItem) (item : TapeItem) (at : ℕ)
    → core.phase ≢ Broken → core.position ≡ Awaits sect o.block 0 → o.part ≡ 0 → o.from ≤ o.block
    → length bytes ≤ image_limit → FindsAll wide o (core_before core) bytes Same held
    → Walks 0 bytes (items ++ item ∷ []) at left
    → AllByRecursion GoesOn (answers_to wide (mount_of core) items)
    → EndsSection (step_by wide (behind_items wide (mount_of core) items) (Some item)).0
    → HeldOnReel wide core o.from held items item
compared_sections_stand wide core sect o bytes left held items item at sound here none early short s
    walked on ends =
    let waits : core.position ≢ Finished = λ f. let z = sym here ∙ f in cc z in
    let n : block_of core.position ≡ o.block = ap block_of here in
    let same : core_before core ≡ mount_of core =
    ap (λ z. in_phase core z) (sym (same_start core.phase core.position sound)) in
    let (xs, end, stop, b) = Begins-some 0 bytes (omega arith) in
    let moved = s.taken.moves in
    let moved' = walked.moves in
    let (m, is) = front_of_image bytes s.rest s.items xs s.at end stop s.taken
    (omega (arith, moved, short)) b in
    let (k, is') = front_of_image bytes left (items ++ item ∷ []) xs at end stop walked
    (omega (arith, moved', short)) b in
    let met : MeetAll wide o.from (mount_of core) s.items held s.mid =
    subst (λ z. MeetAll wide o.from z s.items held s.mid) same s.met in
    let done : s.mid ≡ [] = elim s.ends [
      | inl (zero', e) ↦ sym e
      | inr (y, to, more, w, front) ↦ front_none o.part _ _ s.mid none front
    ] in
    elim (split s.items items item m k (sym is ∙ (is' ∙ append_assoc items (item ∷ []) k))) [
      | inl (more, e) ↦
          behind wide core o.from held items item waits ends s.items more e s.mid done met on
          (omega (arith, n, early)) (behind_items wide (mount_of core) s.items).phase refl
          (subst (λ z. IsBehind z (behind_items wide (mount_of core) s.items).phase) (sym n)
          (subst (λ z. IsBehind o.block (behind_items wide z s.items).phase) same s.there))
          (all_met wide o.from held core.position waits s.items (mount_of core) [] held s.mid
          (outside wide o.from held core.position waits [] (mount_of core) (mount_of core).phase held
          (starts_out core.phase core.position waits) refl refl) met)
      | inr (more, e) ↦
          let p = passed_there wide o.from (mount_of core) items item more held s.mid
          (subst (λ z. MeetAll wide o.from (mount_of core) z held s.mid) e met) in
          absurd (elim ends [
            | inl g ↦ let z = sym p ∙ g in cc z
            | inr g ↦ let z = sym p ∙ g in cc z
          ])
    ]
