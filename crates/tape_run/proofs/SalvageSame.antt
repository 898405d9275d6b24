-- What was read of a volume determines which blocks of each section were read.
use Rattle.std.proofs.Common.{◌≡◌, ◌<◌, ℕ, Bool, true, false, List, [], ◌∷◌, ◌++◌, length, refl}
use Rattle.std.proofs.Common.{sym, ap, subst, ◌∙◌, arith, append_assoc, if◌then◌else◌}
use Rattle.std.specs.List.{AllByRecursion}
use Rattle.tape_image.specs.Tape.{TapeItem, block, bad, mark}
use Rattle.tape_blocks.specs.Tight.{Filled}
use Rattle.tape_set.specs.Layout.{FileSet, Placed, Volume}
use Rattle.tape_set.specs.{Lawful.IsLawful, Reading.Reading}
use Rattle.tape_set.proofs.Volumes.{Rising, sections_on_rise}
use Rattle.tape_run.specs.{SalvageWhole.Blocks, SalvageSets.HasBlocks}
use Rattle.tape_run.specs.SalvageSections.{Labels, labels_of, read_labels, read_blocks, filled_of}
use Rattle.tape_run.specs.SalvageSections.{SectionRead, IsRead, read_section, read_sections}
use Rattle.tape_run.proofs.SalvageReadings.{placed_of}

-- items after the same labels
after_labels : (ls ms : Labels) (xs ys : List TapeItem) → labels_of ls ≡ labels_of ms
    → read_labels ls ++ xs ≡ read_labels ms ++ ys → xs ≡ ys
after_labels [] [] xs ys e f = f
after_labels [] (m ∷ ms) xs ys e f = absurd (cc e)
after_labels (l ∷ ls) [] xs ys e f = absurd (cc e)
after_labels (l ∷ ls) (m ∷ ms) xs ys e f =
    let t : labels_of ls ≡ labels_of ms = cc e in
    let u : read_labels ls ++ xs ≡ read_labels ms ++ ys = cc f in after_labels ls ms xs ys t u

same_flag : (x y : Bool) (m n : List ℕ)
    → (if x then block m else bad) ≡ (if y then block n else bad) → x ≡ y
same_flag true true m n e = refl
same_flag true false m n e = absurd (cc e)
same_flag false true m n e = absurd (cc e)
same_flag false false m n e = refl

-- the same blocks, and items after them
after_blocks : (bs cs : Blocks) (xs ys : List TapeItem) → filled_of bs ≡ filled_of cs
    → read_blocks bs ++ xs ≡ read_blocks cs ++ ys → (bs ≡ cs) × (xs ≡ ys)
after_blocks [] [] xs ys e f = (refl, f)
after_blocks [] (c ∷ cs) xs ys e f = absurd (cc e)
after_blocks (b ∷ bs) [] xs ys e f = absurd (cc e)
after_blocks ((x, b) ∷ bs) ((y, c) ∷ cs) xs ys e f =
    let same : b ≡ c = cc e in
    let t : filled_of bs ≡ filled_of cs = cc e in
    let h : (if x then block b.bytes else bad) ≡ (if y then block c.bytes else bad) = cc f in
    let u : read_blocks bs ++ xs ≡ read_blocks cs ++ ys = cc f in
    let r = after_blocks bs cs xs ys t u in
    let flag = same_flag x y b.bytes c.bytes h in (
      ap (λ (z : Bool). (z, b) ∷ bs) flag ∙ ap (λ (z : Filled). (y, z) ∷ bs) same
          ∙ ap (λ (l : Blocks). (y, c) ∷ l) r.0,
      r.1,
    )

module _ (set_id : List ℕ) (volumes : ℕ) where
  after_section : (r q : SectionRead) (xs ys : List TapeItem) → IsRead set_id volumes r
      → IsRead set_id volumes q → r.placed ≡ q.placed
      → read_section r ++ xs ≡ read_section q ++ ys → (r.blocks ≡ q.blocks) × (xs ≡ ys)
  after_section r q xs ys a b same e =
      let end = λ (z : SectionRead). read_labels z.trailers ++ (mark ∷ []) in
      let tail = λ (z : SectionRead). mark ∷ block z.placed.section.trailer ∷ end z in
      let body = λ (z : SectionRead). mark ∷ (read_blocks z.blocks ++ tail z) in
      let heads = a.headers ∙ ap (λ (p : Placed). p.section.hdr2 ∷ p.section.headers) same
      ∙ sym b.headers in
      let fills = a.blocks ∙ ap (λ (p : Placed). p.section.blocks) same ∙ sym b.blocks in
      let trails = a.trailers ∙ ap (λ (p : Placed). p.section.trailers) same ∙ sym b.trailers in
      let one : (read_labels r.headers ++ body r) ++ xs ≡ (read_labels q.headers ++ body q) ++ ys =
      cc e in
      let two = after_labels r.headers q.headers (body r ++ xs) (body q ++ ys) heads
      (sym (append_assoc (read_labels r.headers) (body r) xs) ∙ one
      ∙ append_assoc (read_labels q.headers) (body q) ys) in
      let three : (read_blocks r.blocks ++ tail r) ++ xs ≡ (read_blocks q.blocks ++ tail q) ++ ys =
      cc two in
      let four = after_blocks r.blocks q.blocks (tail r ++ xs) (tail q ++ ys) fills
      (sym (append_assoc (read_blocks r.blocks) (tail r) xs) ∙ three
      ∙ append_assoc (read_blocks q.blocks) (tail q) ys) in
      let last = four.1 in
      let five : end r ++ xs ≡ end q ++ ys = cc last in
      let six = after_labels r.trailers q.trailers (mark ∷ xs) (mark ∷ ys) trails
      (sym (append_assoc (read_labels r.trailers) (mark ∷ []) xs) ∙ five
      ∙ append_assoc (read_labels q.trailers) (mark ∷ []) ys) in
      let seven : xs ≡ ys = cc six in (four.0, seven)

  -- the same blocks were read of each section
  Same : List SectionRead → List SectionRead → Type 0
  Same [] [] = Unit {0}
  Same [] (q ∷ qs) = ⊥
  Same (r ∷ rs) [] = ⊥
  Same (r ∷ rs) (q ∷ qs) = (r.blocks ≡ q.blocks) × Same rs qs

  all_same : (rs qs : List SectionRead) (xs ys : List TapeItem)
      → AllByRecursion (IsRead set_id volumes) rs → AllByRecursion (IsRead set_id volumes) qs
      → placed_of rs ≡ placed_of qs → read_sections rs ++ xs ≡ read_sections qs ++ ys → Same rs qs
  unfolding Same
  all_same [] [] xs ys a b same e = tt
  all_same [] (q ∷ qs) xs ys a b same e = absurd (cc same)
  all_same (r ∷ rs) [] xs ys a b same e = absurd (cc same)
  all_same (r ∷ rs) (q ∷ qs) xs ys (a, more) (b, others) same e =
      let h : r.placed ≡ q.placed = cc same in
      let t : placed_of rs ≡ placed_of qs = cc same in
      let one = after_section r q (read_sections rs ++ xs) (read_sections qs ++ ys) a b h
      (sym (append_assoc (read_section r) (read_sections rs) xs) ∙ e
      ∙ append_assoc (read_section q) (read_sections qs) ys) in
      (one.0, all_same rs qs xs ys more others t one.1)

  below : (x : Placed) (front : List SectionRead) (s : SectionRead) (rest : List SectionRead)
      → AllByRecursion (λ y. x.file < y.file) (placed_of (front ++ s ∷ rest))
      → x.file < s.placed.file
  below x [] s rest (h, all) = h
  below x (y ∷ front) s rest (h, all) = below x front s rest all

  at_same : (a : List SectionRead) (s : SectionRead) (c : List SectionRead) (b : List SectionRead)
      (q : SectionRead) (d : List SectionRead) → Same (a ++ s ∷ c) (b ++ q ∷ d)
      → placed_of (a ++ s ∷ c) ≡ placed_of (b ++ q ∷ d) → Rising (placed_of (a ++ s ∷ c))
      → s.placed ≡ q.placed → s.blocks ≡ q.blocks
  unfolding Same
  at_same [] s c [] q d same e rise p = same.0
  at_same [] s c (y ∷ b) q d same e (all, rise) p =
      let t : placed_of c ≡ placed_of (b ++ q ∷ d) = cc e in
      let lt = below s.placed b q d
      (subst (AllByRecursion (λ z. s.placed.file < z.file)) t all) in
      let f = ap (λ (z : Placed). z.file) p in absurd (omega (arith, lt, f))
  at_same (x ∷ a) s c [] q d same e (all, rise) p =
      let h : x.placed ≡ q.placed = cc e in
      let lt = below x.placed a s c all in
      let f = ap (λ (z : Placed). z.file) p in
      let g = ap (λ (z : Placed). z.file) h in absurd (omega (arith, lt, f, g))
  at_same (x ∷ a) s c (y ∷ b) q d same e (all, rise) p =
      let t : placed_of (a ++ s ∷ c) ≡ placed_of (b ++ q ∷ d) = cc e in
      at_same a s c b q d same.1 t rise p

pub same_blocks : (set : FileSet) (r : Reading) (p : Placed) (bs cs : Blocks) → IsLawful set
    → HasBlocks set r p bs → HasBlocks set r p cs → bs ≡ cs
same_blocks set r p bs cs l a b =
    let v = a.volume in
    let w = b.volume in
    let id = set.set_id in
    let n = length set.volumes in
    let one : v.volume ≡ w.volume = cc (sym v.there ∙ w.there) in
    let labels = v.are_labels ∙ ap (λ (z : Volume). z.vol1 ∷ z.labels) one ∙ sym w.are_labels in
    let placed = v.all ∙ sym w.all in
    let tails = after_labels v.labels w.labels (read_sections v.reads ++ (mark ∷ []))
    (read_sections w.reads ++ (mark ∷ [])) labels (sym v.is ∙ w.is) in
    let same = all_same id n v.reads w.reads (mark ∷ []) (mark ∷ []) v.are_read w.are_read placed
    tails in
    let (a1, a2, e) = a.among in
    let (b1, b2, f) = b.among in
    let both = subst (λ (z : List SectionRead). Same id n z (b1 ++ b.section ∷ b2)) e
    (subst (λ (z : List SectionRead). Same id n v.reads z) f same) in
    let rise = subst Rising (ap placed_of e) (subst Rising (sym v.all)
    (sections_on_rise set r.volume l)) in
    a.blocks ∙ at_same id n a1 a.section a2 b1 b.section b2 both
    (sym (ap placed_of e) ∙ placed ∙ ap placed_of f) rise (a.is ∙ sym b.is) ∙ sym b.blocks
