-- On a damaged volume of a valid set a section that closes has exactly its blocks.
use Rattle.std.proofs.Common.{◌≡◌, ℕ, ◌==◌, ◌&&◌, Bool, true, false, List, [], ◌∷◌, ◌++◌, length}
use Rattle.std.proofs.Common.{Some, None, Ok, refl, sym, ap, subst, ◌∙◌, arith, append_assoc}
use Rattle.std.specs.List.{AllByRecursion}
use Rattle.tape_image.specs.Tape.{TapeItem, block, mark}
use Rattle.tape_label.specs.declared.values.{Head1.Head1, Trail1.Trail1}
use Rattle.tape_label.specs.{Reading.head1_at, Reading.trail1_at}
use Rattle.tape_label.proofs.First.{head1_again, trail1_again}
use Rattle.tape_set.specs.Lawful.{label_count}
use Rattle.tape_set.proofs.Everywhere.{every, every-append}
use Rattle.tape_run.specs.declared.salvage.walk.{OpenSection.OpenSection, Closing.Closing}
use Rattle.tape_run.specs.declared.section.SectionKey.{SectionKey}
use Rattle.tape_run.specs.SalvageWalk.{FoundAt, section_by, sections_in}
use Rattle.tape_run.specs.SalvageWhole.{Blocks}
use Rattle.tape_run.specs.SalvageSections.{Labels, read_labels, read_blocks, AreNoHeads}
use Rattle.tape_run.specs.SalvageClosed.{IsNoMark, IsClosedIn, IsThere, digest_items}
use Rattle.tape_run.specs.SalvageDamaged.{AnySection, if_read, to_trailer, from_trailer}
use Rattle.tape_run.specs.SalvageDamaged.{any_sections, any_volume, IsPlainSection, AreApart}
use Rattle.tape_run.specs.SalvageDamaged.{key_in, IsExact, IsFoundExactly, ClosedAreExact}
use Rattle.tape_run.proofs.{SalvageClosed.closed_are_there, SalvageVolumes.volume_no_heads}
use Rattle.tape_run.proofs.SalvageOpened.{key_is, long}
use Rattle.tape_run.proofs.SalvagePlaces.{same_place, between}
use Rattle.tape_run.proofs.SalvagePlain.{IsNoHead1, IsNotOwn, IsNone, is_own, plain_labels}
use Rattle.tape_run.proofs.SalvagePlain.{plain_blocks, mark_head, mark_own, not_both}

module _ (set_id : List ℕ) where
  abbrev NoHead : TapeItem → Type 0
  NoHead = IsNoHead1 set_id

  abbrev NotOwn : SectionKey → TapeItem → Type 0
  NotOwn = IsNotOwn set_id

  module _ (volumes : ℕ) where
    -- the items of a section up to its trailer label, other than HDR1
    to_all : (P : TapeItem → Type 0) (key : SectionKey)
        → ((x : TapeItem) → IsNone set_id key x → P x) → ((g : Bool) → P (if_read g mark))
        → (r : AnySection) → IsPlainSection set_id volumes r → AllByRecursion P (to_trailer r)
    to_all P key f m r p = every-append P (read_labels r.headers) _ (every (IsNone set_id key) P f
        (read_labels r.headers) (plain_labels set_id key r.headers p.headers)) (
          m r.first_mark,
          every-append P (read_blocks r.blocks) _ (every (IsNone set_id key) P f
              (read_blocks r.blocks) (plain_blocks set_id key r.blocks p.blocks))
              (m r.second_mark, tt),
        )

    -- the items after its trailer label
    abbrev after_trailer : AnySection → List TapeItem
    after_trailer r = read_labels r.trailers ++ (if_read r.last_mark mark ∷ [])

    after_all : (P : TapeItem → Type 0) (key : SectionKey)
        → ((x : TapeItem) → IsNone set_id key x → P x) → ((g : Bool) → P (if_read g mark))
        → (r : AnySection) → IsPlainSection set_id volumes r → AllByRecursion P (after_trailer r)
    after_all P key f m r p = every-append P (read_labels r.trailers) _
        (every (IsNone set_id key) P f (read_labels r.trailers)
        (plain_labels set_id key r.trailers p.trailers)) (m r.last_mark, tt)

    to_heads : (r : AnySection) → IsPlainSection set_id volumes r
        → AllByRecursion NoHead (to_trailer r)
    to_heads r p = to_all NoHead (key_in set_id r) (λ x h. h.head) (mark_head set_id) r p

    to_own : (key : SectionKey) (r : AnySection) → IsPlainSection set_id volumes r
        → AllByRecursion (NotOwn key) (to_trailer r)
    to_own key r p = to_all (NotOwn key) key (λ x h. h.own) (mark_own set_id key) r p

    after_heads : (r : AnySection) → IsPlainSection set_id volumes r
        → AllByRecursion NoHead (after_trailer r)
    after_heads r p = after_all NoHead (key_in set_id r) (λ x h. h.head) (mark_head set_id) r p

    after_own : (key : SectionKey) (r : AnySection) → IsPlainSection set_id volumes r
        → AllByRecursion (NotOwn key) (after_trailer r)
    after_own key r p = after_all (NotOwn key) key (λ x h. h.own) (mark_own set_id key) r p

    trailer_head : (g : Bool) (r : AnySection) → IsPlainSection set_id volumes r
        → NoHead (if_read g (block r.placed.section.trailer))
    trailer_head false r p = tt
    trailer_head true r p =
        let (t, is) = p.is.trailer in
        λ h e same. not_both set_id r.placed.section.trailer h t e
        (trail1_again r.placed.section.trailer t is.label)

    hdr1_own : (key : SectionKey) (g : Bool) (r : AnySection) → IsPlainSection set_id volumes r
        → NotOwn key (if_read g (block r.placed.section.hdr1))
    hdr1_own key false r p = tt
    hdr1_own key true r p =
        let (h, is) = p.is.header in
        λ t e own. not_both set_id r.placed.section.hdr1 h t
        (head1_again r.placed.section.hdr1 h is.label) e

    -- the trailer label of another section
    trailer_own : (key : SectionKey) (g : Bool) (r : AnySection) → IsPlainSection set_id volumes r
        → ((r.placed.sect == key.sect) && (r.placed.file == key.file)) ≡ false
        → NotOwn key (if_read g (block r.placed.section.trailer))
    trailer_own key false r p other = tt
    trailer_own key true r p other =
        let (t, is) = p.is.trailer in
        λ u e own.
        let same : t ≡ u =
        cc (sym (trail1_again r.placed.section.trailer t is.label) ∙ e) in
        let here : is_own set_id key t ≡ false =
        ap (λ n. (n == key.sect) && (t.head.sequence == key.file)) is.sect
        ∙ ap (λ n. (r.placed.sect == key.sect) && (n == key.file)) is.file ∙ other in
        absurd (cc (sym here ∙ ap (is_own set_id key) same ∙ own))

    -- later sections
    later_own : (key : SectionKey) (rs : List AnySection) (tail : List TapeItem)
        → AllByRecursion (IsPlainSection set_id volumes) rs
        → AllByRecursion (λ q. ((q.placed.sect == key.sect) && (q.placed.file == key.file))
        ≡ false) rs → AllByRecursion (NotOwn key) tail
        → AllByRecursion (NotOwn key) (any_sections rs ++ tail)
    later_own key [] tail all other none = none
    later_own key (r ∷ rs) tail (p, all) (o, other) none =
        let rest = later_own key rs tail all other none in
        let items = to_trailer r ++ (from_trailer r ++ any_sections rs) in (
          hdr1_own key r.hdr1 r p,
          subst (AllByRecursion (NotOwn key))
              (sym (append_assoc (to_trailer r) (from_trailer r ++ any_sections rs) tail
              ∙ ap (λ (l : List TapeItem). to_trailer r ++ l)
              (append_assoc (from_trailer r) (any_sections rs) tail)))
              (every-append (NotOwn key) (to_trailer r) _ (to_own key r p)
              (every-append (NotOwn key) (from_trailer r) _
              (trailer_own key r.trailer r p o, after_own key r p) rest)),
        )

    -- ---- where a section begins

    record After (zs : List TapeItem) (b : List ℕ) (ys : List TapeItem) : Type 0 where
      front : List TapeItem
      is : zs ≡ front ++ (block b ∷ ys)

    -- an HDR1 is not among items that are none
    passed : (ps zs front : List TapeItem) (b : List ℕ) (h : Head1) (ys : List TapeItem)
        → head1_at b ≡ Ok h → h.set_id ≡ set_id → AllByRecursion NoHead ps
        → ps ++ zs ≡ front ++ (block b ∷ ys) → After zs b ys
    passed [] zs front b h ys is own none e = record { front = front; is = e }
    passed (a ∷ ps) zs [] b h ys is own (n, none) e =
        let same : a ≡ block b = cc e in absurd (subst NoHead same n h is own)
    passed (a ∷ ps) zs (x ∷ front) b h ys is own (n, none) e =
        let rest : ps ++ zs ≡ front ++ (block b ∷ ys) = cc e in
        passed ps zs front b h ys is own none rest

    record Begins (rs : List AnySection) (tail : List TapeItem) (b : List ℕ) (ys : List TapeItem)
        : Type 0 where
      before : List AnySection
      section : AnySection
      rest : List AnySection
      is : rs ≡ before ++ section ∷ rest
      same : section.placed.section.hdr1 ≡ b
      items : ys ≡ to_trailer section ++ (from_trailer section ++ (any_sections rest ++ tail))

    hdr1_is : (g : Bool) (a b : List ℕ) → if_read g (block a) ≡ block b → a ≡ b
    hdr1_is true a b e = cc e
    hdr1_is false a b e = absurd (cc e)

    begins : (rs : List AnySection) (tail front : List TapeItem) (b : List ℕ) (h : Head1)
        (ys : List TapeItem) → head1_at b ≡ Ok h → h.set_id ≡ set_id
        → AllByRecursion (IsPlainSection set_id volumes) rs → AllByRecursion NoHead tail
        → any_sections rs ++ tail ≡ front ++ (block b ∷ ys) → Begins rs tail b ys
    begins [] tail front b h ys is own all none e = absurd (no_more tail front none e)
      where
        no_more : (zs front : List TapeItem) → AllByRecursion NoHead zs
            → zs ≡ front ++ (block b ∷ ys) → ⊥
        no_more [] [] none e = absurd (cc e)
        no_more [] (x ∷ front) none e = absurd (cc e)
        no_more (z ∷ zs) [] (n, none) e =
            let same : z ≡ block b = cc e in absurd (subst NoHead same n h is own)
        no_more (z ∷ zs) (x ∷ front) (n, none) e =
            let rest : zs ≡ front ++ (block b ∷ ys) = cc e in no_more zs front none rest
    begins (r ∷ rs) tail [] b h ys is own (p, all) none e =
        let first : if_read r.hdr1 (block r.placed.section.hdr1) ≡ block b = cc e in
        let rest : (to_trailer r ++ (from_trailer r ++ any_sections rs)) ++ tail ≡ ys = cc e in
        record {
          before = [];
          section = r;
          rest = rs;
          is = refl;
          same = hdr1_is r.hdr1 r.placed.section.hdr1 b first;
          items = sym rest
              ∙ append_assoc (to_trailer r) (from_trailer r ++ any_sections rs) tail
              ∙ ap (λ (l : List TapeItem). to_trailer r ++ l)
              (append_assoc (from_trailer r) (any_sections rs) tail);
        }
    begins (r ∷ rs) tail (x ∷ front) b h ys is own (p, all) none e =
        let rest : (to_trailer r ++ (from_trailer r ++ any_sections rs)) ++ tail
        ≡ front ++ (block b ∷ ys) = cc e in
        let one = passed (to_trailer r) (from_trailer r ++ (any_sections rs ++ tail)) front b h ys
        is own (to_heads r p)
        (sym (append_assoc (to_trailer r) (from_trailer r ++ any_sections rs) tail
        ∙ ap (λ (l : List TapeItem). to_trailer r ++ l)
        (append_assoc (from_trailer r) (any_sections rs) tail)) ∙ rest) in
        let two = passed (from_trailer r) (any_sections rs ++ tail) one.front b h ys is own
        (trailer_head r.trailer r p, after_heads r p) one.is in
        let s = begins rs tail two.front b h ys is own all none two.is in
        record {
          before = r ∷ s.before;
          section = s.section;
          rest = s.rest;
          is = ap (λ (l : List AnySection). r ∷ l) s.is;
          same = s.same;
          items = s.items;
        }

    -- ---- the section that was found

    one_of : (rs before rest : List AnySection) (r : AnySection) → rs ≡ before ++ r ∷ rest
        → AllByRecursion (IsPlainSection set_id volumes) rs → AreApart rs
        → IsPlainSection set_id volumes r × (AllByRecursion (IsPlainSection set_id volumes) rest
        × AllByRecursion (λ q. ((q.placed.sect == r.placed.sect)
        && (q.placed.file == r.placed.file)) ≡ false) rest)
    one_of rs before rest r is all apart = at before
        (subst (AllByRecursion (IsPlainSection set_id volumes)) is all) (subst AreApart is apart)
      where
        at : (before : List AnySection)
            → AllByRecursion (IsPlainSection set_id volumes) (before ++ r ∷ rest)
            → AreApart (before ++ r ∷ rest) → IsPlainSection set_id volumes r
            × (AllByRecursion (IsPlainSection set_id volumes) rest
            × AllByRecursion (λ q. ((q.placed.sect == r.placed.sect)
            && (q.placed.file == r.placed.file)) ≡ false) rest)
        at [] (p, all) (other, apart) = (p, (all, other))
        at (q ∷ before) (p, all) (other, apart) = at before all apart

    block_is : (g : Bool) (a b : List ℕ) → block b ≡ if_read g (block a) → b ≡ a
    block_is true a b e = cc e
    block_is false a b e = absurd (cc e)

    blocks_long : (bs : Blocks) → length (read_blocks bs) ≡ length bs
    blocks_long [] = refl
    blocks_long (b ∷ bs) = let r = blocks_long bs in omega (arith, r)

    found_exactly : (ls : Labels) (rs : List AnySection) (last : Bool)
        (items more : List TapeItem) (u : OpenSection) (k : Closing)
        → AllByRecursion NoHead (read_labels ls)
        → AllByRecursion (IsPlainSection set_id volumes) rs → AreApart rs
        → items ++ more ≡ any_volume ls rs last → IsClosedIn items u k → u.key.set_id ≡ set_id
        → IsExact set_id rs items u k
    found_exactly ls rs last items more u k none all apart whole c own =
        let tail = if_read last mark ∷ [] in
        let head_own : c.head.set_id ≡ set_id =
        ap (λ (z : SectionKey). z.set_id) (sym c.key) ∙ own in
        let end = block c.trailer ∷ c.rest in
        let ys = c.labels ++ (mark ∷ (c.data_items ++ (mark ∷ end))) in
        let there : any_volume ls rs last ≡ c.front ++ (block c.hdr1 ∷ (ys ++ more)) =
        sym whole ∙ ap (λ (l : List TapeItem). l ++ more) c.is
        ∙ append_assoc c.front (block c.hdr1 ∷ ys) more in
        let one = passed (read_labels ls) (any_sections rs ++ tail) c.front c.hdr1 c.head
        (ys ++ more) c.begins head_own none there in
        let s = begins rs tail one.front c.hdr1 c.head (ys ++ more) c.begins head_own all
        (mark_head set_id last, tt) one.is in
        let r = s.section in
        let key = key_in set_id r in
        let (p, (later, others)) = one_of rs s.before s.rest r s.is all apart in
        let (h, header) = p.is.header in
        let (t, label) = p.is.trailer in
        let heads : h ≡ c.head = cc (sym (head1_again r.placed.section.hdr1 h header.label)
        ∙ ap head1_at s.same ∙ c.begins) in
        let whose : u.key ≡ key = c.key ∙ ap (λ (z : Head1). (section_by z).key) (sym heads)
        ∙ key_is h set_id r.placed.file r.placed.sect header.set_id header.file header.sect in
        let mine : is_own set_id key c.trail ≡ true =
        ap (λ (z : SectionKey). is_own set_id z c.trail) (sym whose)
        ∙ c.same in
        let after = after_trailer r ++ (any_sections s.rest ++ tail) in
        let prefix = c.labels ++ (mark ∷ (c.data_items ++ (mark ∷ []))) in
        let split : ys ++ more ≡ prefix ++ (block c.trailer ∷ (c.rest ++ more)) =
        append_assoc c.labels (mark ∷ (c.data_items ++ (mark ∷ end))) more
        ∙ ap (λ (l : List TapeItem). c.labels ++ (mark ∷ l))
        (append_assoc c.data_items (mark ∷ end) more
        ∙ sym (append_assoc c.data_items (mark ∷ []) (end ++ more)))
        ∙ sym (append_assoc c.labels (mark ∷ (c.data_items ++ (mark ∷ []))) (end ++ more)) in
        let place = same_place (NotOwn key) prefix (block c.trailer) (c.rest ++ more) (to_trailer r)
        (if_read r.trailer (block r.placed.section.trailer)) after
        (λ off. off c.trail c.ends mine) (to_own key r p)
        (every-append (NotOwn key) (after_trailer r) _ (after_own key r p)
        (later_own key s.rest tail later others (mark_own set_id key last, tt)))
        (sym split ∙ s.items) in
        let exact = between c.labels c.data_items (read_labels r.headers) (read_blocks r.blocks)
        (if_read r.first_mark mark) (if_read r.second_mark mark) c.no_labels c.no_data
        (every (IsNone set_id key) IsNoMark (λ x h. h.off) (read_labels r.headers)
        (plain_labels set_id key r.headers p.headers))
        (every (IsNone set_id key) IsNoMark (λ x h. h.off) (read_blocks r.blocks)
        (plain_blocks set_id key r.blocks p.blocks)) place.before in
        let trail_is = block_is r.trailer r.placed.section.trailer c.trailer place.here in
        let trails : t ≡ c.trail = cc (sym (trail1_again r.placed.section.trailer t label.label)
        ∙ ap trail1_at (sym trail_is) ∙ c.ends) in
        let n = sym (long r.blocks) ∙ ap length p.are_blocks in
        let many = ap length exact ∙ blocks_long r.blocks in
        let b = c.blocks in
        let few = p.is.few in
        record {
          section = r;
          among = (s.before, s.rest, s.is);
          key = whose;
          front = c.front ++ (block c.hdr1 ∷ c.labels);
          rest = end;
          is = c.is
              ∙ ap (λ (l : List TapeItem). c.front ++ (block c.hdr1 ∷ (c.labels ++ (mark
              ∷ (l ++ (mark ∷ end)))))) exact
              ∙ sym (append_assoc c.front (block c.hdr1 ∷ c.labels)
              (mark ∷ (read_blocks r.blocks ++ (mark ∷ end))));
          blocks = omega (arith, b, many, n, few);
          digest = c.digest ∙ ap (digest_items 0) exact;
          count = c.closing.1
              ∙ ap (λ (z : Trail1). z.blocks) (sym trails) ∙ label.count ∙ ap label_count (sym n);
        }

labels_no_heads : (set_id : List ℕ) (ls : Labels) → AreNoHeads ls
    → AllByRecursion (NoHead set_id) (read_labels ls)
labels_no_heads set_id [] none = tt
labels_no_heads set_id ((true, b) ∷ ls) ((f, e), none) =
    (λ h is own. absurd (cc (sym e ∙ is)), labels_no_heads set_id ls none)
labels_no_heads set_id ((false, b) ∷ ls) none = (tt, labels_no_heads set_id ls none)

pub closed_are_exact : ClosedAreExact
closed_are_exact set_id volumes v ls rs last items more is labels all apart whole =
    each (sections_in items) (closed_are_there items)
  where
    each : (l : List FoundAt) → AllByRecursion (IsThere items) l
        → AllByRecursion (IsFoundExactly set_id rs items) l
    each [] there = tt
    each ((place, (u, None)) ∷ l) (h, there) = (tt, each l there)
    each ((place, (u, Some k)) ∷ l) (h, there) = (
      λ none own. found_exactly set_id volumes ls rs last items more u k
          (labels_no_heads set_id ls (volume_no_heads v ls is labels)) all apart whole (h none) own,
      each l there,
    )
