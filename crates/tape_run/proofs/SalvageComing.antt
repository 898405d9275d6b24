-- The items to come of a section that closes, with one more item at the start.
use Rattle.std.proofs.Common.{◌≡◌, ◌≤◌, ◌⊎◌, ℕ, ◌+◌, ◌==◌, ◌&&◌, Bool, true, List, [], ◌∷◌, ◌++◌}
use Rattle.std.proofs.Common.{length, Option, Some, None, Ok, refl, sym, ap, ◌∙◌, arith, min}
use Rattle.std.specs.List.{AllByRecursion}
use Rattle.tape_image.specs.Tape.{TapeItem, block, bad, mark}
use Rattle.tape_label.specs.{declared.values.Trail1.Trail1, Reading.trail1_at}
use Rattle.tape_run.specs.declared.salvage.walk.Expected.TheVariants.{Second, Headers, Data}
use Rattle.tape_run.specs.{declared.salvage.walk.OpenSection.OpenSection, SalvageWalk.first_of}
use Rattle.tape_run.specs.{declared.salvage.walk.Closing.Closing, SalvageGaps.IsReadable}
use Rattle.tape_run.specs.declared.salvage.walk.Expected.{Expected}
use Rattle.tape_run.specs.declared.section.SectionKey.{SectionKey}
use Rattle.tape_run.specs.declared.salvage.walk.Expected.TheVariants.{Trailer, Trailers, Skipping}
use Rattle.tape_run.specs.SalvageClosed.{IsNoMark, digest_items, IsClosedIn}
use Rattle.tape_run.specs.SalvageClosed.{EndsBy}

-- the number of blocks after these items
abbrev pub counted : ℕ → List TapeItem → ℕ
counted n [] = n
counted n (x ∷ xs) = counted (min (n + 1) 4294967295) xs

pub all_counted : (n : ℕ) (xs : List TapeItem) → n ≤ 4294967295
    → counted n xs ≡ min (n + length xs) 4294967295
all_counted n [] few = omega (arith, few)
all_counted n (x ∷ xs) few =
    let m : min (n + 1) 4294967295 ≤ 4294967295 = omega arith in
    let r = all_counted (min (n + 1) 4294967295) xs m in omega (arith, r)

-- ---- the items to come of the current section

-- its trailer label was read, with this end
pub record IsTrailed (u : OpenSection) (l : Closing) (v : OpenSection) (k : Closing) : Type 0 where
  pub key : v.key ≡ u.key
  pub blocks : v.blocks ≡ u.blocks
  pub digest : v.digest ≡ u.digest
  pub certain : v.certain ≡ u.certain
  pub after : v.after ≡ None → u.after ≡ None
  pub closing : k ≡ l

abbrev pub is_own : SectionKey → Trail1 → Bool
is_own key t = (t.head.sect == key.sect) && (t.head.sequence == key.file)

-- its trailer label comes next
pub record TrailerTo (key : SectionKey) (blocks digest : ℕ) (certain : Option ℕ)
    (xs : List TapeItem) (v : OpenSection) (k : Closing) : Type 0 where
  pub trailer : List ℕ
  pub trail : Trail1
  pub rest : List TapeItem
  pub is : xs ≡ block trailer ∷ rest
  pub ends : trail1_at trailer ≡ Ok trail
  pub own : is_own key trail ≡ true
  pub same_key : v.key ≡ key
  pub same_blocks : v.blocks ≡ blocks
  pub same_digest : v.digest ≡ digest
  pub same_certain : v.certain ≡ certain
  pub closing : EndsBy trail k

-- its data come next
pub record DataTo (key : SectionKey) (blocks digest : ℕ) (certain : Option ℕ) (xs : List TapeItem)
    (v : OpenSection) (k : Closing) : Type 0 where
  pub data_items : List TapeItem
  pub trailer : List ℕ
  pub trail : Trail1
  pub rest : List TapeItem
  pub is : xs ≡ data_items ++ (mark ∷ block trailer ∷ rest)
  pub no_data : AllByRecursion IsNoMark data_items
  pub ends : trail1_at trailer ≡ Ok trail
  pub own : is_own key trail ≡ true
  pub same_key : v.key ≡ key
  pub all_blocks : v.blocks ≡ counted blocks data_items
  pub all_digest : v.digest ≡ digest_items digest data_items
  pub readable : v.certain ≡ None → (certain ≡ None) × AllByRecursion IsReadable data_items
  pub closing : EndsBy trail k

-- labels come next
pub record HeadersTo (key : SectionKey) (blocks digest : ℕ) (certain : Option ℕ)
    (xs : List TapeItem) (v : OpenSection) (k : Closing) : Type 0 where
  pub labels : List TapeItem
  pub more : List TapeItem
  pub is : xs ≡ labels ++ (mark ∷ more)
  pub no_labels : AllByRecursion IsNoMark labels
  pub goes : DataTo key blocks digest certain more v k

abbrev pub Open : Expected → List TapeItem → OpenSection → Closing → Type 0
Open (Second u) xs v k = HeadersTo u.key u.blocks u.digest u.certain xs v k
Open (Headers u) xs v k = HeadersTo u.key u.blocks u.digest u.certain xs v k
Open (Data u) xs v k = DataTo u.key u.blocks u.digest u.certain xs v k
Open (Trailer u) xs v k = TrailerTo u.key u.blocks u.digest u.certain xs v k
Open (Trailers u l) xs v k = IsTrailed u l v k
Open (Skipping n u) xs v k = Unit {0}
Open _ xs v k = ⊥

-- the section is among the items to come, or its end is
abbrev pub Comes : Expected → List TapeItem → OpenSection → Closing → Type 0
Comes s xs v k = v.after ≡ None → IsClosedIn xs v k ⊎ Open s xs v k

-- ---- one item more at the start

pub further : (x : TapeItem) (xs : List TapeItem) (v : OpenSection) (k : Closing)
    → IsClosedIn xs v k → IsClosedIn (x ∷ xs) v k
further x xs v k h = record {
  front = x ∷ h.front;
  hdr1 = h.hdr1;
  head = h.head;
  labels = h.labels;
  data_items = h.data_items;
  trailer = h.trailer;
  trail = h.trail;
  rest = h.rest;
  is = ap (λ (l : List TapeItem). x ∷ l) h.is;
  begins = h.begins;
  key = h.key;
  no_labels = h.no_labels;
  no_data = h.no_data;
  ends = h.ends;
  same = h.same;
  closing = h.closing;
  blocks = h.blocks;
  digest = h.digest;
  readable = h.readable;
}

-- the labels of a section, after one more item
pub with_label : (key : SectionKey) (blocks digest : ℕ) (certain : Option ℕ) (x : TapeItem)
    (xs : List TapeItem) (v : OpenSection) (k : Closing) → IsNoMark x
    → HeadersTo key blocks digest certain xs v k → HeadersTo key blocks digest certain (x ∷ xs) v k
with_label key blocks digest certain x xs v k off h = record {
  labels = x ∷ h.labels;
  more = h.more;
  is = ap (λ (l : List TapeItem). x ∷ l) h.is;
  no_labels = (off, h.no_labels);
  goes = h.goes;
}

pub some_first : (o : Option ℕ) (n : ℕ) → first_of o n ≡ None → ⊥
some_first None n e = absurd (cc e)
some_first (Some m) n e = absurd (cc e)

-- an unreadable item among the labels
pub with_doubt : (u : OpenSection) (xs : List TapeItem) (v : OpenSection) (k : Closing)
    → HeadersTo u.key u.blocks u.digest (first_of u.certain u.blocks) xs v k
    → HeadersTo u.key u.blocks u.digest u.certain (bad ∷ xs) v k
with_doubt u xs v k h =
    let d = h.goes in
    record {
      labels = bad ∷ h.labels;
      more = h.more;
      is = ap (λ (l : List TapeItem). bad ∷ l) h.is;
      no_labels = (tt, h.no_labels);
      goes = record {
        data_items = d.data_items;
        trailer = d.trailer;
        trail = d.trail;
        rest = d.rest;
        is = d.is;
        no_data = d.no_data;
        ends = d.ends;
        own = d.own;
        same_key = d.same_key;
        all_blocks = d.all_blocks;
        all_digest = d.all_digest;
        readable = λ e. absurd (some_first u.certain u.blocks (d.readable e).0);
        closing = d.closing;
      };
    }

pub at_mark : (key : SectionKey) (blocks digest : ℕ) (certain : Option ℕ) (xs : List TapeItem)
    (v : OpenSection) (k : Closing) → DataTo key blocks digest certain xs v k
    → HeadersTo key blocks digest certain (mark ∷ xs) v k
at_mark key blocks digest certain xs v k d =
    record { labels = []; more = xs; is = refl; no_labels = tt; goes = d }

pub not_bad : (b : List ℕ) → IsReadable (block b)
not_bad b e = absurd (cc e)

-- after the last data item
pub at_data_mark : (key : SectionKey) (blocks digest : ℕ) (certain : Option ℕ) (xs : List TapeItem)
    (v : OpenSection) (k : Closing) → TrailerTo key blocks digest certain xs v k
    → DataTo key blocks digest certain (mark ∷ xs) v k
at_data_mark key blocks digest certain xs v k t = record {
  data_items = [];
  trailer = t.trailer;
  trail = t.trail;
  rest = t.rest;
  is = ap (λ (l : List TapeItem). mark ∷ l) t.is;
  no_data = tt;
  ends = t.ends;
  own = t.own;
  same_key = t.same_key;
  all_blocks = t.same_blocks;
  all_digest = t.same_digest;
  readable = λ e. (sym t.same_certain ∙ e, tt);
  closing = t.closing;
}
