-- On any reel, a section that a reading ends stands between two tape marks, before a trailer label
-- that counts its blocks.
use Rattle.std.proofs.Common.{◌≡◌, ◌≢◌, ◌≤◌, ◌⊎◌, inl, inr, ℕ, ◌+◌, Bool, List}
use Rattle.std.proofs.Common.{[], ◌∷◌, ◌++◌, length, map, Some, refl, sym}
use Rattle.std.proofs.Common.{ap, subst, ◌∙◌, arith, append_assoc, append-nil, length-append}
use Rattle.std.specs.{List.AllByRecursion}
use Rattle.tape_image.specs.Tape.{TapeItem, block, mark}
use Rattle.tape_set.specs.declared.position.Position.{Position}
use Rattle.tape_set.specs.declared.position.Position.TheVariants.{Awaits, Finished}
use Rattle.tape_set.specs.Position.{block_of, next_block}
use Rattle.tape_set.specs.Lawful.{FileForm, label_count}
use Rattle.tape_core.specs.declared.event.{Heading.Heading}
use Rattle.tape_core.specs.declared.event.{Phase.Phase, Answer.TheVariants.Deliver}
use Rattle.tape_core.specs.declared.event.Answer.TheVariants.{Passed}
use Rattle.tape_core.specs.declared.event.Phase.TheVariants.{Broken, DataWanted}
use Rattle.tape_core.specs.declared.event.Phase.TheVariants.{TrailerWanted}
use Rattle.tape_core.specs.Table.{Outcome, at_item, mounted}
use Rattle.tape_core.specs.Table.{mount_of}
use Rattle.tape_core.specs.{State.State}
use Rattle.tape_core.specs.{Overlap.EndsSection}
use Rattle.tape_core.specs.Wide.{step_by}
use Rattle.tape_run.specs.Reels.{GoesOn, behind_items, answers_to, delivered_by}
use Rattle.tape_run.specs.SectionEnds.{StandsOnReel}
use Rattle.tape_run.proofs.SectionOpens.{IsOutside, step_opens}
use Rattle.tape_run.proofs.CopyTold.{ends_there}
use Rattle.tape_run.proofs.SectionSteps.{Goes, skips, delivers, closes, data_steps, by_table}
use Rattle.tape_run.proofs.SectionSteps.{unless_goes, ends_trailed}

-- ---- what was read

-- The last items are a mark and data of the section needed, some skipped, and then some delivered.
record Filling (p : Position) (xs : List TapeItem) (n : ℕ) (core : State) (seen : ℕ) : Type 0 where
  front : List TapeItem
  skipped : List TapeItem
  blocks : List (List ℕ)
  all : xs ≡ front ++ (mark ∷ (skipped ++ map block blocks))
  no_mark : AllByRecursion (λ x. x ≢ mark) skipped
  sum : length skipped + length blocks ≡ seen
  count : n ≡ length blocks
  at : ((blocks ≡ []) × (core.position ≡ p) × (seen ≤ block_of p))
      ⊎ ((length skipped ≡ block_of p) × (block_of core.position ≡ seen))

-- The last items are such data between two marks.
record Closed (p : Position) (xs : List TapeItem) (n : ℕ) (core : State) : Type 0 where
  front : List TapeItem
  skipped : List TapeItem
  blocks : List (List ℕ)
  all : xs ≡ front ++ (mark ∷ (skipped ++ (map block blocks ++ (mark ∷ []))))
  no_mark : AllByRecursion (λ x. x ≢ mark) skipped
  before : length skipped ≡ block_of p
  count : n ≡ length blocks
  sum : block_of core.position ≡ length skipped + length blocks

abbrev Stood : Position → List TapeItem → ℕ → State → Phase → Type 0
Stood p xs n core (DataWanted heading form seen) = Filling p xs n core seen
Stood p xs n core (TrailerWanted heading form) = Closed p xs n core
Stood p xs n core _ = (core.position ≡ p) × (n ≡ 0)

outside : (p : Position) (xs : List TapeItem) (n : ℕ) (core : State) (phase : Phase)
    → IsOutside phase → core.position ≡ p → n ≡ 0 → Stood p xs n core phase
outside p xs n core (DataWanted heading form seen) o at none = absurd o
outside p xs n core (TrailerWanted heading form) o at none = absurd o
outside p xs n core _ o at none = (at, none)

-- one more item was read
record Next (p : Position) (xs : List TapeItem) (n : ℕ) (x : TapeItem) (out : Outcome) : Type 0 where
  passes : out.0 ≡ Passed → Stood p (xs ++ x ∷ []) n out.1 out.1.phase
  delivers : out.0 ≡ Deliver → Stood p (xs ++ x ∷ []) (n + 1) out.1 out.1.phase
  waits : GoesOn out.0 → out.1.position ≢ Finished

pub map_push : (bs : List (List ℕ)) (b : List ℕ) → map block bs ++ (block b ∷ []) ≡ map block (bs ++ b ∷ [])
map_push [] b = refl
map_push (c ∷ bs) b = ap (λ z. block c ∷ z) (map_push bs b)

pub push : (front skipped more : List TapeItem) (x : TapeItem)
    → (front ++ (mark ∷ (skipped ++ more))) ++ (x ∷ [])
    ≡ front ++ (mark ∷ (skipped ++ (more ++ (x ∷ []))))
push front skipped more x = simp append_assoc

pub all_more : (P : TapeItem → Type 0) (xs : List TapeItem) (x : TapeItem) → AllByRecursion P xs → P x
    → AllByRecursion P (xs ++ x ∷ [])
all_more P [] x all h = (h, tt)
all_more P (y ∷ xs) x (here, all) h = (here, all_more P xs x all h)

pub next_number : (p : Position) → p ≢ Finished
    → (block_of (next_block p) ≡ block_of p + 1) × (next_block p ≢ Finished)
next_number Finished waits = absurd (waits refl)
next_number (Awaits sect b part) waits = (refl, λ e. cc e)

module _ (wide : Bool) (p : Position) (core : State) (xs : List TapeItem) (n : ℕ) (x : TapeItem)
    (waits : core.position ≢ Finished) where
  abbrev out : Outcome
  out = step_by wide core (Some x)

  from_outside : IsOutside core.phase → core.position ≡ p → n ≡ 0 → Next p xs n x out
  from_outside o at none =
      let opens = step_opens wide core x waits o in
      record {
        passes = λ e. elim (opens.goes (inl e)).2 [
          | inl still ↦ outside p (xs ++ x ∷ []) n out.1 out.1.phase still
              ((opens.goes (inl e)).1 ∙ at) none
          | inr (is, (heading, form, there)) ↦ subst (Stood p (xs ++ x ∷ []) n out.1) (sym there)
              (record {
                front = xs;
                skipped = [];
                blocks = [];
                all = ap (λ z. xs ++ (z ∷ [])) is;
                no_mark = tt;
                sum = refl;
                count = none;
                at = inl (refl, (opens.goes (inl e)).1 ∙ at, omega arith);
              })
        ];
        delivers = λ e. absurd (let z = sym (opens.goes (inr e)).0 ∙ e in cc z);
        waits = λ g. λ f. waits (sym (opens.goes g).1 ∙ f);
      }

  module _ (heading : Heading) (form : FileForm) (seen : ℕ) (h : Filling p xs n core seen) where
    -- the number of blocks skipped, if no more are skipped
    skipped_all : block_of core.position ≤ seen → (length h.skipped ≡ block_of p)
        × (block_of core.position ≡ seen)
    skipped_all le = elim h.at [
      | inl (none, here, few) ↦
          let zero' : length h.blocks ≡ 0 = ap length none in
          let sum = h.sum in
          let b : block_of core.position ≡ block_of p = ap block_of here in
          (omega (arith, le, few, zero', sum, b), omega (arith, le, few, b))
      | inr both ↦ both
    ]

    by_goes : Goes core heading form seen x out → Next p xs n x out
    by_goes (skips lt off is there same) = elim h.at [
      | inl (none, here, few) ↦ record {
        passes = λ e. subst (Stood p (xs ++ x ∷ []) n out.1) (sym there) (record {
          front = h.front;
          skipped = h.skipped ++ x ∷ [];
          blocks = [];
          all = ap (λ z. z ++ (x ∷ [])) (h.all ∙ ap (λ z. h.front ++ (mark ∷ (h.skipped
              ++ map block z))) none) ∙ push h.front h.skipped [] x
              ∙ ap (λ z. h.front ++ (mark ∷ z)) (sym (append-nil (h.skipped ++ (x ∷ []))));
          no_mark = all_more (λ y. y ≢ mark) h.skipped x h.no_mark off;
          sum = let l = length-append h.skipped (x ∷ []) in
              let zero' : length h.blocks ≡ 0 = ap length none in
              let sum = h.sum in omega (arith, l, zero', sum);
          count = h.count ∙ ap length none;
          at = inl (
            refl,
            same ∙ here,
            let b : block_of core.position ≡ block_of p = ap block_of here in
                omega (arith, lt, b),
          );
        });
        delivers = λ e. absurd (let z = sym is ∙ e in cc z);
        waits = λ g. λ f. waits (sym same ∙ f);
      }
      | inr (all, full) ↦ absurd (omega (arith, lt, full))
    ]
    by_goes (delivers bytes is le told there moved) =
        let (all, full) = skipped_all le in
        let (number, still) = next_number core.position waits in
        record {
          passes = λ e. absurd (let z = sym told ∙ e in cc z);
          delivers = λ e. subst (Stood p (xs ++ x ∷ []) (n + 1) out.1) (sym there) (record {
            front = h.front;
            skipped = h.skipped;
            blocks = h.blocks ++ bytes ∷ [];
            all = ap (λ z. z ++ (x ∷ [])) h.all ∙ push h.front h.skipped (map block h.blocks) x
                ∙ ap (λ z. h.front ++ (mark ∷ (h.skipped ++ (map block h.blocks ++ (z ∷ []))))) is
                ∙ ap (λ z. h.front ++ (mark ∷ (h.skipped ++ z))) (map_push h.blocks bytes);
            no_mark = h.no_mark;
            sum = let l = length-append h.blocks (bytes ∷ []) in
                let sum = h.sum in omega (arith, l, sum, full);
            count = let l = length-append h.blocks (bytes ∷ []) in
                let c = h.count in omega (arith, l, c);
            at = inr (all, ap block_of moved ∙ number);
          });
          waits = λ g. λ f. still (sym moved ∙ f);
        }
    by_goes (closes is le told there same) =
        let (all, full) = skipped_all le in
        record {
          passes = λ e. subst (Stood p (xs ++ x ∷ []) n out.1) (sym there) (record {
            front = h.front;
            skipped = h.skipped;
            blocks = h.blocks;
            all = ap (λ z. z ++ (x ∷ [])) h.all ∙ push h.front h.skipped (map block h.blocks) x
                ∙ ap (λ z. h.front ++ (mark ∷ (h.skipped ++ (map block h.blocks ++ (z ∷ []))))) is;
            no_mark = h.no_mark;
            before = all;
            count = h.count;
            sum = ap block_of same ∙ full ∙ sym h.sum;
          });
          delivers = λ e. absurd (let z = sym told ∙ e in cc z);
          waits = λ g. λ f. waits (sym same ∙ f);
        }

  -- no item in place of the trailer label lets the reading go on
  none_next : (heading : Heading) (form : FileForm) → core.phase ≡ TrailerWanted heading form
      → GoesOn out.0 → ⊥
  none_next heading form e g = ends_there core heading form x
      (subst (λ z. GoesOn (at_item core z x).0) e
      (unless_goes core core.position (at_item core core.phase x) waits
      (subst (λ (o : Outcome). GoesOn o.0) (by_table wide core heading form x e) g)))

  next_item : (phase : Phase) → core.phase ≡ phase → Stood p xs n core phase → GoesOn out.0
      → Next p xs n x out
  next_item (DataWanted heading form seen) e h g =
      by_goes heading form seen h ((data_steps wide core heading form seen x waits e).goes g)
  next_item (TrailerWanted heading form) e h g = absurd (none_next heading form e g)
  next_item _ e h g = from_outside (subst IsOutside (sym e) tt) h.0 h.1

-- all items that were read
read_all : (wide : Bool) (p : Position) (its : List TapeItem) (core : State) (xs : List TapeItem)
    (n : ℕ) → core.position ≢ Finished → Stood p xs n core core.phase
    → AllByRecursion GoesOn (answers_to wide core its)
    → Stood p (xs ++ its) (n + delivered_by (answers_to wide core its)) (behind_items wide core its)
    (behind_items wide core its).phase × ((behind_items wide core its).position ≢ Finished)
read_all wide p [] core xs n waits h on = (
  subst (λ z. Stood p z (n + 0) core core.phase) (sym (append-nil xs))
      (subst (λ z. Stood p xs z core core.phase) (omega arith) h),
  waits,
)
read_all wide p (x ∷ its) core xs n waits h (g, on) =
    let new = step_by wide core (Some x) in
    let t = next_item wide p core xs n x waits core.phase refl h g in
    let joined = append_assoc xs (x ∷ []) its in
    elim g [
      | inl e ↦
          let r = read_all wide p its new.1 (xs ++ x ∷ []) n (t.waits (inl e)) (t.passes e) on in (
            subst (λ z. Stood p z (n + delivered_by (new.0 ∷ answers_to wide new.1 its))
                (behind_items wide new.1 its) (behind_items wide new.1 its).phase) joined
                (subst (λ z. Stood p ((xs ++ x ∷ []) ++ its)
                (n + delivered_by (z ∷ answers_to wide new.1 its)) (behind_items wide new.1 its)
                (behind_items wide new.1 its).phase) (sym e) r.0),
            r.1,
          )
      | inr e ↦
          let r = read_all wide p its new.1 (xs ++ x ∷ []) (n + 1) (t.waits (inr e)) (t.delivers e) on in
          let k : n + 1 + delivered_by (answers_to wide new.1 its)
          ≡ n + (1 + delivered_by (answers_to wide new.1 its)) = omega arith in (
            subst (λ z. Stood p z (n + delivered_by (new.0 ∷ answers_to wide new.1 its))
                (behind_items wide new.1 its) (behind_items wide new.1 its).phase) joined
                (subst (λ z. Stood p ((xs ++ x ∷ []) ++ its)
                (n + delivered_by (z ∷ answers_to wide new.1 its)) (behind_items wide new.1 its)
                (behind_items wide new.1 its).phase) (sym e)
                (subst (λ z. Stood p ((xs ++ x ∷ []) ++ its) z (behind_items wide new.1 its)
                (behind_items wide new.1 its).phase) k r.0)),
            r.1,
          )
    ]

pub starts_out : (phase : Phase) (p : Position) → p ≢ Finished → IsOutside (mounted phase p)
starts_out Broken p waits = tt
starts_out _ Finished waits = absurd (waits refl)
starts_out _ (Awaits sect b part) waits = tt

-- the item that ends the section
finish : (wide : Bool) (core mid : State) (items : List TapeItem) (item : TapeItem)
    → mid.position ≢ Finished → EndsSection (step_by wide mid (Some item)).0 → (phase : Phase)
    → mid.phase ≡ phase
    → Stood core.position items (delivered_by (answers_to wide (mount_of core) items)) mid phase
    → StandsOnReel wide core items item
finish wide core mid items item still ends (DataWanted heading form seen) e h =
    absurd ((data_steps wide mid heading form seen item still e).ends ends)
finish wide core mid items item still ends (TrailerWanted heading form) e h =
    let t = ends_trailed wide mid heading form item still e ends in
    record {
      front = h.front;
      skipped = h.skipped;
      blocks = h.blocks;
      trailer = t.trailer;
      label = t.label;
      all = h.all;
      no_mark = h.no_mark;
      before = h.before;
      delivered = h.count;
      is = t.is;
      reads = t.reads;
      count = t.count ∙ ap label_count h.sum;
    }
finish wide core mid items item still ends _ e h =
    absurd ((step_opens wide mid item still (subst IsOutside (sym e) tt)).ends ends)

pub ended_sections_stand : (wide : Bool) (core : State) (items : List TapeItem) (item : TapeItem)
    → core.position ≢ Finished → AllByRecursion GoesOn (answers_to wide (mount_of core) items)
    → EndsSection (step_by wide (behind_items wide (mount_of core) items) (Some item)).0
    → StandsOnReel wide core items item
ended_sections_stand wide core items item waits on ends =
    let (stood, still) = read_all wide core.position items (mount_of core) [] 0 waits
    (outside core.position [] 0 (mount_of core) (mount_of core).phase
    (starts_out core.phase core.position waits) refl refl) on in
    let none : 0 + delivered_by (answers_to wide (mount_of core) items)
    ≡ delivered_by (answers_to wide (mount_of core) items) = omega arith in
    finish wide core (behind_items wide (mount_of core) items) items item still ends
    (behind_items wide (mount_of core) items).phase refl
    (subst (λ z. Stood core.position items z (behind_items wide (mount_of core) items)
    (behind_items wide (mount_of core) items).phase) none stood)
