-- The items to come of a section without HDR1, with one more item at the start.
use Rattle.std.proofs.Common.{◌≡◌, ◌≢◌, ◌≤◌, ◌⊎◌, ℕ, ◌+◌, ◌==◌, Bool, true, false, List, [], ◌∷◌}
use Rattle.std.proofs.Common.{◌++◌, Option, None, Ok, ap, ◌∙◌, arith, min}
use Rattle.std.specs.List.{AllByRecursion}
use Rattle.tape_image.specs.Tape.{TapeItem, block, mark}
use Rattle.tape_label.specs.{declared.values.Trail1.Trail1, Reading.trail1_at}
use Rattle.tape_set.specs.Lawful.{label_count}
use Rattle.tape_run.specs.declared.salvage.walk.Expected.TheVariants.{Outside, Second, Headers}
use Rattle.tape_run.specs.declared.salvage.walk.Expected.TheVariants.{Data, Trailer, Trailers, Next}
use Rattle.tape_run.specs.declared.salvage.walk.Expected.TheVariants.{Over, Skipping, Unnamed}
use Rattle.tape_run.specs.{declared.salvage.walk.OpenSection.OpenSection, SalvageWalk.section_by}
use Rattle.tape_run.specs.{declared.salvage.walk.Closing.Closing, SalvageClosed.IsNoMark}
use Rattle.tape_run.specs.declared.salvage.walk.Expected.{Expected}
use Rattle.tape_run.specs.declared.salvage.walk.Expected.TheVariants.{UnnamedTrailer}
use Rattle.tape_run.specs.SalvageUnnamed.{IsNoFirst, IsUnnamedIn}
use Rattle.tape_run.proofs.SalvageComing.{counted, all_counted}
use Rattle.tape_run.specs.SalvageClosed.{EndsBy}

-- ---- the items to come

-- the section has an HDR1, or not
abbrev pub NoHdr1 : Option ℕ → Type 0
NoHdr1 o = o ≡ None → ⊥

-- its trailer label was read
pub record IsTrailed (u : OpenSection) (l : Closing) (v : OpenSection) (k : Closing) : Type 0 where
  pub key : v.key ≡ u.key
  pub blocks : v.blocks ≡ u.blocks
  pub after : NoHdr1 u.after
  pub closing : k ≡ l

-- its trailer label comes next, after n data items
pub record TrailerTo (n : ℕ) (xs : List TapeItem) (v : OpenSection) (k : Closing) : Type 0 where
  pub trailer : List ℕ
  pub trail : Trail1
  pub rest : List TapeItem
  pub is : xs ≡ block trailer ∷ rest
  pub ends : trail1_at trailer ≡ Ok trail
  pub key : v.key ≡ (section_by trail.head).key
  pub closing : EndsBy trail k
  pub blocks : v.blocks ≡ n
  pub count : trail.blocks ≡ label_count v.blocks

-- further data come next, after n data items
pub record DataTo (n : ℕ) (xs : List TapeItem) (v : OpenSection) (k : Closing) : Type 0 where
  pub data_items : List TapeItem
  pub trailer : List ℕ
  pub trail : Trail1
  pub rest : List TapeItem
  pub is : xs ≡ data_items ++ (mark ∷ block trailer ∷ rest)
  pub no_data : AllByRecursion IsNoMark data_items
  pub no_first : AllByRecursion IsNoFirst data_items
  pub ends : trail1_at trailer ≡ Ok trail
  pub key : v.key ≡ (section_by trail.head).key
  pub closing : EndsBy trail k
  pub blocks : v.blocks ≡ counted n data_items
  pub count : trail.blocks ≡ label_count v.blocks

-- its data come next, after a tape mark
pub record AfterMark (xs : List TapeItem) (v : OpenSection) (k : Closing) : Type 0 where
  pub first : TapeItem
  pub more : List TapeItem
  pub is : xs ≡ first ∷ more
  pub off : IsNoMark first
  pub none : IsNoFirst first
  pub goes : DataTo 1 more v k

abbrev pub AfterOne : Bool → List TapeItem → OpenSection → Closing → Type 0
AfterOne true xs v k = AfterMark xs v k
AfterOne false xs v k = ⊥

abbrev pub Open : Expected → List TapeItem → OpenSection → Closing → Type 0
Open (Outside n) xs v k = AfterOne (n == 1) xs v k
Open (Second u) xs v k = NoHdr1 u.after
Open (Headers u) xs v k = NoHdr1 u.after
Open (Data u) xs v k = NoHdr1 u.after
Open (Trailer u) xs v k = NoHdr1 u.after
Open (Trailers u l) xs v k = IsTrailed u l v k
Open (Unnamed r) xs v k = DataTo r.items xs v k
Open (UnnamedTrailer r) xs v k = TrailerTo r.items xs v k ⊎ AfterMark xs v k
Open (Skipping n u) xs v k = Unit {0}
Open Next xs v k = ⊥
Open Over xs v k = ⊥

-- the section is among the items to come, or its end is
abbrev pub Comes : Expected → List TapeItem → OpenSection → Closing → Type 0
Comes s xs v k = v.after ≢ None → IsUnnamedIn xs v k ⊎ Open s xs v k

-- ---- one item more at the start

pub further : (x : TapeItem) (xs : List TapeItem) (v : OpenSection) (k : Closing)
    → IsUnnamedIn xs v k → IsUnnamedIn (x ∷ xs) v k
further x xs v k h = record {
  front = x ∷ h.front;
  data_items = h.data_items;
  trailer = h.trailer;
  trail = h.trail;
  rest = h.rest;
  is = ap (λ (l : List TapeItem). x ∷ l) h.is;
  some = h.some;
  no_data = h.no_data;
  no_first = h.no_first;
  ends = h.ends;
  key = h.key;
  closing = h.closing;
  blocks = h.blocks;
  count = h.count;
}

pub at_mark : (xs : List TapeItem) (v : OpenSection) (k : Closing) → AfterMark xs v k
    → IsUnnamedIn (mark ∷ xs) v k
at_mark xs v k a =
    let d = a.goes in
    let few : 1 ≤ 4294967295 = omega arith in
    let c = all_counted 1 d.data_items few in
    let b = d.blocks in
    record {
      front = [];
      data_items = a.first ∷ d.data_items;
      trailer = d.trailer;
      trail = d.trail;
      rest = d.rest;
      is = ap (λ (l : List TapeItem). mark ∷ l)
          (a.is ∙ ap (λ (l : List TapeItem). a.first ∷ l) d.is);
      some = λ e. absurd (cc e);
      no_data = (a.off, d.no_data);
      no_first = (a.none, d.no_first);
      ends = d.ends;
      key = d.key;
      closing = d.closing;
      blocks = omega (arith, b, c);
      count = d.count;
    }

-- one more data item
pub with_item : (n : ℕ) (x : TapeItem) (xs : List TapeItem) (v : OpenSection) (k : Closing)
    → IsNoMark x → IsNoFirst x → DataTo (min (n + 1) 4294967295) xs v k → DataTo n (x ∷ xs) v k
with_item n x xs v k off none d = record {
  data_items = x ∷ d.data_items;
  trailer = d.trailer;
  trail = d.trail;
  rest = d.rest;
  is = ap (λ (l : List TapeItem). x ∷ l) d.is;
  no_data = (off, d.no_data);
  no_first = (none, d.no_first);
  ends = d.ends;
  key = d.key;
  closing = d.closing;
  blocks = d.blocks;
  count = d.count;
}

-- the mark after the data
pub at_trailer : (n : ℕ) (xs : List TapeItem) (v : OpenSection) (k : Closing) → TrailerTo n xs v k
    → DataTo n (mark ∷ xs) v k
at_trailer n xs v k t = record {
  data_items = [];
  trailer = t.trailer;
  trail = t.trail;
  rest = t.rest;
  is = ap (λ (l : List TapeItem). mark ∷ l) t.is;
  no_data = tt;
  no_first = tt;
  ends = t.ends;
  key = t.key;
  closing = t.closing;
  blocks = t.blocks;
  count = t.count;
}
