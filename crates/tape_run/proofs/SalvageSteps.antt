-- The walk over a section of a valid set, with a list of results that is extended on the way.
use Rattle.std.proofs.Common.{◌≡◌, ℕ, true, false, List, [], ◌∷◌, ◌++◌, length, Ok, refl, sym, ap}
use Rattle.std.proofs.Common.{◌∙◌, arith, Some, None}
use Rattle.tape_image.specs.Tape.{TapeItem, block, bad, mark}
use Rattle.tape_label.specs.declared.values.Kind.TheVariants as kinds
use Rattle.tape_label.specs.declared.values.{Head1.Head1, Trail1.Trail1}
use Rattle.tape_label.specs.Reading.{head1_at, wide_head2_at, trail1_at}
use Rattle.tape_label.specs.{Kinds.kind_at, WideHead2.is_further_header}
use Rattle.tape_label.proofs.First.{head1_again, trail1_again}
use Rattle.tape_set.specs.Lawful.{FileForm, label_count}
use Rattle.tape_run.specs.declared.salvage.walk.{OpenSection.OpenSection, Closing.Closing}
use Rattle.tape_run.specs.declared.salvage.walk.Expected.{Expected}
use Rattle.tape_run.specs.declared.section.SectionKey.{SectionKey}
use Rattle.tape_run.specs.declared.salvage.walk.Expected.TheVariants.{Outside, Second, Headers}
use Rattle.tape_run.specs.declared.salvage.walk.Expected.TheVariants.{Data, Trailer, Trailers, Next}
use Rattle.tape_run.specs.SalvageWalk.{with_second}
use Rattle.tape_run.specs.SalvageWalk.{step, expected_after, section_by, begun_by, with_item}
use Rattle.tape_run.specs.SalvageWalk.{with_data, with_unreadable, doubted, closes, with_trailer}
use Rattle.tape_run.specs.SalvageWalk.{form_by}
use Rattle.tape_run.specs.SalvageWhole.{Blocks, not_read}
use Rattle.tape_run.specs.SalvageSections.{Labels, read_labels, labels_of, read_blocks, SectionRead}
use Rattle.tape_run.specs.SalvageSections.{read_section, AreNoHeads, NoneBegins, IsRead, key_of}
use Rattle.tape_run.specs.SalvageSections.{MayBegin, after_trailers}
use Rattle.tape_run.proofs.SalvagedSoFar.{expected_after-append}
use Rattle.tape_run.proofs.SalvageOpened.{may_begin, second_is, closes_it, trailer_step}
use Rattle.tape_run.proofs.SalvageOpened.{key_is, headed, same_headed, none_headed, section_after}
use Rattle.tape_run.proofs.SalvageOpened.{same_section_after, counted, long, trailed, same_trailed}
use Rattle.tape_run.proofs.SalvageOpened.{counted_trailed, after_headed, form_headed, after_section}
use Rattle.tape_run.proofs.SalvageOpened.{form_section, after_trailed, form_trailed, unread_headed}
use Rattle.tape_run.proofs.SalvageOpened.{AllRead, certain_headed, unread_section, certain_section}
use Rattle.tape_run.proofs.SalvageOpened.{doubt_section, unread_trailed}
use Rattle.tape_run.specs.SalvageWalk.{closing_of}

-- ---- the walk

-- the results from these items
abbrev pub gathered : {A : Type 0} → (Expected → A → TapeItem → A) → Expected → A
    → List TapeItem → A
gathered act s a [] = a
gathered act s a (x ∷ xs) = gathered act (step s x).0 (act s a x) xs

pub gathered-append : {A : Type 0} (act : Expected → A → TapeItem → A) (s : Expected) (a : A)
    (xs ys : List TapeItem)
    → gathered act s a (xs ++ ys) ≡ gathered act (expected_after s xs) (gathered act s a xs) ys
gathered-append act s a [] ys = refl
gathered-append act s a (x ∷ xs) ys = gathered-append act (step s x).0 (act s a x) xs ys

-- these items lead from one state to another, with these results
pub record Walk {A : Type 0} (act : Expected → A → TapeItem → A) (s : Expected) (a : A)
    (xs : List TapeItem) (t : Expected) (b : A) : Type 0 where
  pub after : expected_after s xs ≡ t
  pub gives : gathered act s a xs ≡ b

-- the first of these labels was read
abbrev pub FirstIsRead : Labels → Type 0
FirstIsRead [] = ⊥
FirstIsRead ((true, b) ∷ ls) = Unit {0}
FirstIsRead ((false, b) ∷ ls) = ⊥

-- these labels after HDR1 were read
abbrev pub AreHeads : Labels → Type 0
AreHeads ls = FirstIsRead ls × AllRead ls

-- labels, and marks between sections, have no results
pub record Quiet {A : Type 0} (act : Expected → A → TapeItem → A) : Type 0 where
  pub begin : (s : Expected) (a : A) (x : TapeItem) → MayBegin s → act s a x ≡ a
  pub second : (u : OpenSection) (a : A) (x : TapeItem) → act (Second u) a x ≡ a
  pub headers : (u : OpenSection) (a : A) (x : TapeItem) → act (Headers u) a x ≡ a
  pub trailer : (u : OpenSection) (a : A) (b : List ℕ) (t : Trail1) → trail1_at b ≡ Ok t
      → closes u t ≡ true → act (Trailer u) a (block b) ≡ a
  pub trailers : (u : OpenSection) (k : Closing) (a : A) (b : List ℕ)
      → act (Trailers u k) a (block b) ≡ a

-- the section and its end are those of this section
pub record IsAsRead (set_id : List ℕ) (r : SectionRead) (section : OpenSection) (closing : Closing)
    : Type 0 where
  pub key : section.key ≡ key_of set_id r
  pub blocks : section.blocks ≡ length r.blocks
  pub count : closing.count ≡ label_count (length r.blocks)
  pub after : section.after ≡ None
  pub unread : section.unreadable ≡ not_read r.blocks
  pub certain : AllRead r.headers → not_read r.blocks ≡ 0 → section.certain ≡ None
  pub doubt : section.certain ≡ None → not_read r.blocks ≡ 0
  pub eof : (t : Trail1) → trail1_at r.placed.section.trailer ≡ Ok t → closing.eof ≡ t.eof
  pub form : (h : Head1) (f : FileForm) → head1_at r.placed.section.hdr1 ≡ Ok h
      → FirstIsRead r.headers → kind_at r.placed.section.hdr2 ≡ Some kinds.Hdr2
      → form_by h.file_id (wide_head2_at r.placed.section.hdr2) ≡ Some f → section.form ≡ Some f

module _ {A : Type 0} (act : Expected → A → TapeItem → A) where
  pub follow : (s t u : Expected) (a b c : A) (xs ys : List TapeItem) → Walk act s a xs t b
      → Walk act t b ys u c → Walk act s a (xs ++ ys) u c
  follow s t u a b c xs ys one two = record {
    after = expected_after-append s xs ys ∙ ap (λ z. expected_after z ys) one.after ∙ two.after;
    gives = gathered-append act s a xs ys
        ∙ ap (λ z. gathered act z (gathered act s a xs) ys) one.after
        ∙ ap (λ z. gathered act t z ys) one.gives ∙ two.gives;
  }

  pub one : (s t : Expected) (a b : A) (x : TapeItem) → (step s x).0 ≡ t → act s a x ≡ b
      → Walk act s a (x ∷ []) t b
  one s t a b x e f = record { after = e; gives = f }

  pub first : (s t u : Expected) (a b c : A) (x : TapeItem) (xs : List TapeItem)
      → (step s x).0 ≡ t → act s a x ≡ b → Walk act t b xs u c → Walk act s a (x ∷ xs) u c
  first s t u a b c x xs e f rest = follow s t u a b c (x ∷ []) xs (one s t a b x e f) rest

  -- data of a section that has no results
  pub quiet_data : (key : SectionKey) (u : OpenSection) (a : A) (bs : Blocks) → u.key ≡ key
      → ((v : OpenSection) (b : List ℕ) → v.key ≡ key → act (Data v) a (block b) ≡ a)
      → ((v : OpenSection) → v.key ≡ key → act (Data v) a bad ≡ a)
      → Walk act (Data u) a (read_blocks bs) (Data (section_after u bs)) a
  unfolding section_after
  quiet_data key u a [] own f g = record { after = refl; gives = refl }
  quiet_data key u a ((true, x) ∷ bs) own f g =
      let v = with_data x.bytes u in
      first (Data u) (Data v) (Data (section_after v bs)) a a a (block x.bytes) (read_blocks bs)
      refl (f u x.bytes own) (quiet_data key v a bs own f g)
  quiet_data key u a ((false, x) ∷ bs) own f g =
      let v = with_item (with_unreadable u) in
      first (Data u) (Data v) (Data (section_after v bs)) a a a bad (read_blocks bs)
      refl (g u own) (quiet_data key v a bs own f g)

  -- labels outside of sections
  pub outside : Quiet act → (a : A) (ls : Labels) → AreNoHeads ls
      → Walk act (Outside 0) a (read_labels ls) (Outside 0) a
  outside q a [] none = record { after = refl; gives = refl }
  outside q a ((true, b) ∷ ls) (n, none) =
      first (Outside 0) (Outside 0) (Outside 0) a a a (block b) (read_labels ls)
      (ap (λ r. begun_by r (Outside 0)) n.1) (q.begin (Outside 0) a (block b) refl)
      (outside q a ls none)
  outside q a ((false, b) ∷ ls) none =
      first (Outside 0) (Outside 0) (Outside 0) a a a bad (read_labels ls) refl
      (q.begin (Outside 0) a bad refl) (outside q a ls none)

  headers : Quiet act → (u : OpenSection) (a : A) (ls : Labels)
      → Walk act (Headers u) a (read_labels ls) (Headers (headed u ls)) a
  unfolding headed
  headers q u a [] = record { after = refl; gives = refl }
  headers q u a ((true, b) ∷ ls) =
      first (Headers u) (Headers u) (Headers (headed u ls)) a a a (block b) (read_labels ls) refl
      (q.headers u a (block b)) (headers q u a ls)
  headers q u a ((false, b) ∷ ls) =
      let v = doubted u in
      first (Headers u) (Headers v) (Headers (headed v ls)) a a a bad (read_labels ls) refl
      (q.headers u a bad) (headers q v a ls)

  -- the labels after HDR1, of which there is at least one
  record AfterHead (u : OpenSection) (a : A) (ls : Labels) (b : List ℕ) : Type 0 where
    section : OpenSection
    walk : Walk act (Second u) a (read_labels ls) (Headers section) a
    same : section.key ≡ u.key
    none : section.blocks ≡ u.blocks
    after : section.after ≡ u.after
    unread : section.unreadable ≡ u.unreadable
    certain : AllRead ls → section.certain ≡ u.certain
    form : FirstIsRead ls → kind_at b ≡ Some kinds.Hdr2
        → section.form ≡ form_by u.file_id (wide_head2_at b)

  after_head : Quiet act → (u : OpenSection) (a : A) (ls : Labels) (b : List ℕ)
      (more : List (List ℕ)) → labels_of ls ≡ b ∷ more → AfterHead u a ls b
  after_head q u a [] b more e = absurd (cc e)
  after_head q u a ((true, x) ∷ ls) b more e =
      let two = second_is (with_second (is_further_header x) u) (kind_at x) (wide_head2_at x) in
      let v = two.section in
      let is : x ≡ b = cc e in
      record {
        section = headed v ls;
        walk = first (Second u) (Headers v) (Headers (headed v ls)) a a a (block x)
            (read_labels ls) two.expects (q.second u a (block x)) (headers q v a ls);
        same = same_headed v ls ∙ two.same;
        none = none_headed v ls ∙ two.none;
        after = after_headed v ls ∙ two.after;
        unread = unread_headed v ls ∙ two.unread;
        certain = λ all. certain_headed v ls all ∙ two.certain;
        form = λ read kind. form_headed v ls ∙ two.form (ap kind_at is ∙ kind)
            ∙ ap (λ y. form_by u.file_id (wide_head2_at y)) is;
      }
  after_head q u a ((false, x) ∷ ls) b more e =
      let v = doubted u in
      record {
        section = headed v ls;
        walk = first (Second u) (Headers v) (Headers (headed v ls)) a a a bad (read_labels ls)
            refl (q.second u a bad) (headers q v a ls);
        same = same_headed v ls;
        none = none_headed v ls;
        after = after_headed v ls;
        unread = unread_headed v ls;
        certain = λ all. absurd all;
        form = λ read. absurd read;
      }

  -- the labels after a trailer label, and the mark after them
  trailers : Quiet act → (u : OpenSection) (k : Closing) (a : A) (ends : OpenSection → A)
      (ls : Labels) → NoneBegins ls
      → ((z : OpenSection) → act (Trailers z k) a mark ≡ ends z)
      → ((z : OpenSection) → act (Trailers z k) a bad ≡ ends (with_second false z))
      → Walk act (Trailers u k) a (read_labels ls ++ mark ∷ []) (after_trailers ls)
      (ends (trailed u ls))
  unfolding trailed
  trailers q u k a ends [] none m n = one (Trailers u k) Next a (ends u) mark refl (m u)
  trailers q u k a ends ((true, x) ∷ ls) none m n =
      let v = with_trailer u (kind_at x) (wide_head2_at x) in
      first (Trailers u k) (Trailers v k) (after_trailers ls) a a (ends (trailed v ls)) (block x)
      (read_labels ls ++ mark ∷ []) refl (q.trailers u k a x) (trailers q v k a ends ls none m n)
  trailers q u k a ends ((false, x) ∷ ls) none m n =
      let b = ends (with_second false u) in
      first (Trailers u k) (Outside 0) (Outside 1) a b b bad (read_labels ls ++ mark ∷ []) refl (n u)
      (follow (Outside 0) (Outside 0) (Outside 1) b b b (read_labels ls) (mark ∷ [])
      (outside q b ls none)
      (one (Outside 0) (Outside 1) b b mark refl (q.begin (Outside 0) b mark refl)))

  -- ---- a section

  -- The walk over a section that closes. `ends` is the result at the end of its trailer labels.
  pub record Walked (set_id : List ℕ) (r : SectionRead) (s : Expected) (a : A)
      (ends : OpenSection → Closing → A) : Type 0 where
    pub section : OpenSection
    pub closing : Closing
    pub walk : Walk act s a (read_section r) (after_trailers r.trailers) (ends section closing)
    pub has : IsAsRead set_id r section closing

  pub section_walked : Quiet act → (set_id : List ℕ) (volumes : ℕ) (r : SectionRead)
      (s : Expected) (a b c : A) (ends : OpenSection → Closing → A) → IsRead set_id volumes r
      → MayBegin s
      → ((v : OpenSection) → v.key ≡ key_of set_id r → v.blocks ≡ 0
      → Walk act (Data v) a (read_blocks r.blocks) (Data (section_after v r.blocks)) b)
      → ((w : OpenSection) → w.key ≡ key_of set_id r → w.blocks ≡ length r.blocks
      → act (Data w) b mark ≡ c)
      → ((z : OpenSection) (k : Closing) → act (Trailers z k) c mark ≡ ends z k)
      → ((z : OpenSection) (k : Closing) → act (Trailers z k) c bad ≡ ends (with_second false z) k)
      → Walked set_id r s a ends
  section_walked q set_id volumes r s a b c ends read may on_data on_mark on_end on_bad =
      let x = r.placed in
      let y = x.section in
      let (h, header) = read.is.header in
      let (t, trailer) = read.is.trailer in
      let u = section_by h in
      let two = after_head q u a r.headers y.hdr2 y.headers read.headers in
      let v = two.section in
      let own = two.same
      ∙ key_is h set_id x.file x.sect header.set_id header.file header.sect in
      let w = section_after v r.blocks in
      let whose : w.key ≡ key_of set_id r = same_section_after v r.blocks ∙ own in
      let closed = closes_it w t (trailer.sect ∙ sym (ap (λ (k : SectionKey). k.sect) whose))
      (trailer.file ∙ sym (ap (λ (k : SectionKey). k.file) whose)) in
      let at = trail1_again y.trailer t trailer.label in
      let k = closing_of w t in
      let z = trailed w r.trailers in
      let d = ends z k in
      let e = after_trailers r.trailers in
      let n = sym (long r.blocks) ∙ ap length read.blocks in
      let all = counted v r.blocks (omega (arith, two.none, n, read.is.few)) in
      let later = counted_trailed w r.trailers in
      record {
        section = z;
        closing = k;
        walk = follow s (Second u) e a a d (block y.hdr1 ∷ []) _
            (one s (Second u) a a (block y.hdr1)
            (may_begin s y.hdr1 h may (head1_again y.hdr1 h header.label))
            (q.begin s a (block y.hdr1) may))
            (follow (Second u) (Headers v) e a a d (read_labels r.headers) _ two.walk
            (follow (Headers v) (Data v) e a a d (mark ∷ []) _
            (one (Headers v) (Data v) a a mark refl (q.headers v a mark))
            (follow (Data v) (Data w) e a b d (read_blocks r.blocks) _ (on_data v own two.none)
            (follow (Data w) (Trailers w k) e b c d (mark ∷ block y.trailer ∷ []) _
            (first (Data w) (Trailer w) (Trailers w k) b c c mark (block y.trailer ∷ []) refl
            (on_mark w whose (omega (arith, all, two.none)))
            (one (Trailer w) (Trailers w k) c c (block y.trailer)
            (ap (λ p. p.0) (trailer_step w y.trailer t at closed))
            (q.trailer w c y.trailer t at closed)))
            (trailers q w k c (λ y. ends y k) r.trailers read.none (λ y. on_end y k)
            (λ y. on_bad y k))))));
        has = record {
          key = same_trailed w r.trailers ∙ whose;
          blocks = omega (arith, later, all, two.none);
          count = trailer.count ∙ ap label_count (sym n);
          after = after_trailed w r.trailers (after_section v r.blocks ∙ two.after);
          unread =
              let e = unread_section v r.blocks (omega (arith, two.unread, n, read.is.few)) in
              let f = (unread_trailed w r.trailers).0 in omega (arith, e, f, two.unread);
          certain = λ heads none. (unread_trailed w r.trailers).1
              ∙ certain_section v r.blocks (two.certain heads) none;
          doubt = λ e. (doubt_section v r.blocks (sym (unread_trailed w r.trailers).1 ∙ e)).1;
          eof = λ t' is. let same : t ≡ t' = cc (sym at ∙ is) in ap (λ (x : Trail1). x.eof) same;
          form = λ h' f is first kind has.
              let same : h ≡ h' = cc (sym (head1_again y.hdr1 h header.label) ∙ is) in
              form_trailed w r.trailers f (form_section v r.blocks ∙ two.form first kind
              ∙ ap (λ (x : Head1). form_by x.file_id (wide_head2_at y.hdr2)) same ∙ has);
        };
      }
