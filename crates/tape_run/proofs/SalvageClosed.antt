-- A section that closes is exactly the items between two tape marks.
use Rattle.std.proofs.Common.{◌≡◌, ◌≤◌, inl, inr, ◌⊎◌, ℕ, ◌+◌, ◌==◌, Bool, true, false, List, []}
use Rattle.std.proofs.Common.{◌∷◌, ◌++◌, Option, Some, None, Result, Ok, Err, refl, ap, ◌∙◌, arith}
use Rattle.std.proofs.Common.{if◌then◌else◌, nat_lt, min, option_map}
use Rattle.std.specs.List.{AllByRecursion}
use Rattle.tape_image.specs.Tape.{TapeItem, block, bad, mark}
use Rattle.tape_label.specs.declared.values.{Kind.Kind, Head1.Head1, Head2.Head2, Trail1.Trail1}
use Rattle.tape_label.specs.declared.label.LabelFault.{LabelFault}
use Rattle.tape_label.specs.declared.values.Kind.TheVariants as kinds
use Rattle.tape_label.specs.Reading.{head1_at, wide_head2_at, trail1_at}
use Rattle.tape_label.specs.{Kinds.kind_at, WideHead2.is_further_header}
use Rattle.tape_set.specs.Lawful.{label_count}
use Rattle.tape_run.specs.declared.salvage.walk.{OpenSection.OpenSection, Closing.Closing}
use Rattle.tape_run.specs.declared.salvage.walk.{UnnamedItems.UnnamedItems, Expected.Expected}
use Rattle.tape_run.specs.declared.salvage.walk.Expected.TheVariants.{Outside, Second, Headers}
use Rattle.tape_run.specs.declared.salvage.walk.Expected.TheVariants.{Data, Trailer, Trailers, Next}
use Rattle.tape_run.specs.declared.salvage.walk.Expected.TheVariants.{Over, Skipping, Unnamed}
use Rattle.tape_run.specs.declared.salvage.walk.Expected.TheVariants.{UnnamedTrailer}
use Rattle.tape_run.specs.SalvageWalk.{with_second}
use Rattle.tape_run.specs.SalvageWalk.{step, begun_by, closed_by, unnamed_by, goes_on_by}
use Rattle.tape_run.specs.SalvageWalk.{unnamed_after, one_read, section_by, second_by, closes}
use Rattle.tape_run.specs.SalvageWalk.{named_by, FoundAt, unclosed_by, and_read, followed_by}
use Rattle.tape_run.specs.SalvageWalk.{and_unreadable, one_unreadable}
use Rattle.tape_run.specs.SalvageClosed.{IsClosedIn, IsThere, ClosedAreThere}
use Rattle.tape_run.proofs.SalvageLater.{PAt, all_found, either}
use Rattle.tape_run.proofs.SalvageComing.{all_counted, is_own, HeadersTo, Open, Comes, further}
use Rattle.tape_run.proofs.SalvageComing.{with_label, some_first, with_doubt, at_mark, not_bad}
use Rattle.tape_run.proofs.SalvageComing.{at_data_mark}
use Rattle.tape_run.specs.SalvageWalk.{closing_of}

-- HDR1 begins a section
begin_here : (b : List ℕ) (h : Head1) (xs : List TapeItem) (v : OpenSection) (k : Closing)
    → head1_at b ≡ Ok h → Open (Second (section_by h)) xs v k → IsClosedIn (block b ∷ xs) v k
begin_here b h xs v k is l =
    let d = l.goes in
    let n : 0 ≤ 4294967295 = omega arith in
    let c = all_counted 0 d.data_items n in
    let e = d.all_blocks in
    record {
      front = [];
      hdr1 = b;
      head = h;
      labels = l.labels;
      data_items = d.data_items;
      trailer = d.trailer;
      trail = d.trail;
      rest = d.rest;
      is = ap (λ (z : List TapeItem). block b ∷ z)
          (l.is ∙ ap (λ (z : List TapeItem). l.labels ++ (mark ∷ z)) d.is);
      begins = is;
      key = d.same_key;
      no_labels = l.no_labels;
      no_data = d.no_data;
      ends = d.ends;
      same = ap (λ c. is_own c d.trail) d.same_key ∙ d.own;
      closing = d.closing;
      blocks = omega (arith, c, e);
      digest = d.all_digest;
      readable = λ e. (d.readable e).1;
    }

begun : (b : List ℕ) (r : Result Head1 LabelFault) (other : Expected) (xs : List TapeItem)
    (v : OpenSection) (k : Closing) → head1_at b ≡ r → (Open other xs v k → ⊥)
    → IsClosedIn xs v k ⊎ Open (begun_by r other) xs v k → IsClosedIn (block b ∷ xs) v k
begun b r other xs v k is none (inl h) = further (block b) xs v k h
begun b (Ok h) other xs v k is none (inr o) = begin_here b h xs v k is o
begun b (Err f) other xs v k is none (inr o) = absurd (none o)

none_unnamed : (b : Bool) (r : UnnamedItems) (xs : List TapeItem) (v : OpenSection) (k : Closing)
    → Open (if b then Unnamed r else Outside 0) xs v k → ⊥
none_unnamed true r xs v k o = o
none_unnamed false r xs v k o = o

none_goes_on : (o : Option Kind) (xs : List TapeItem) (v : OpenSection) (k : Closing)
    → Open (goes_on_by o) xs v k → ⊥
none_goes_on None xs v k o = o
none_goes_on (Some kinds.Vol1) xs v k o = o
none_goes_on _ xs v k o = o

only_closed : (x : TapeItem) (t : Expected) (xs : List TapeItem) (v : OpenSection) (k : Closing)
    → (Open t xs v k → ⊥) → IsClosedIn xs v k ⊎ Open t xs v k → IsClosedIn (x ∷ xs) v k
only_closed x t xs v k none (inl h) = further x xs v k h
only_closed x t xs v k none (inr o) = absurd (none o)

outside : (b : Bool) (n : ℕ) (c : List ℕ) (xs : List TapeItem) (v : OpenSection) (k : Closing)
    → IsClosedIn xs v k ⊎ Open (if b then begun_by (head1_at c) (unnamed_after n one_read)
    else goes_on_by (kind_at c)) xs v k → IsClosedIn (block c ∷ xs) v k
outside true n c xs v k h = begun c _ _ _ _ _ refl (none_unnamed (n == 1) one_read xs v k) h
outside false n c xs v k h = only_closed (block c) _ _ _ _ (none_goes_on (kind_at c) xs v k) h

none_bad : (b c : Bool) (r : UnnamedItems) (n : ℕ) (xs : List TapeItem) (v : OpenSection)
    (k : Closing)
    → Open (if b then (if c then Unnamed r else Outside 0) else Outside n) xs v k → ⊥
none_bad true c r n xs v k o = none_unnamed c r xs v k o
none_bad false c r n xs v k o = o

none_mark : (b c : Bool) (xs : List TapeItem) (v : OpenSection) (k : Closing)
    → Open (if b then Outside 1 else (if c then Outside 2 else Over)) xs v k → ⊥
none_mark true c xs v k o = o
none_mark false true xs v k o = o
none_mark false false xs v k o = o

second : (u : OpenSection) (o : Option Kind) (r : Result Head2 LabelFault) (b : List ℕ)
    (xs : List TapeItem) (v : OpenSection) (k : Closing) → Open (second_by u o r) xs v k
    → HeadersTo u.key u.blocks u.digest u.certain (block b ∷ xs) v k
second u None r b xs v k h = with_label _ _ _ _ (block b) xs v k tt h
second u (Some kinds.Hdr2) r b xs v k h = with_label _ _ _ _ (block b) xs v k tt h
second u _ r b xs v k h = with_label _ _ _ _ (block b) xs v k tt h

-- a block in place of the trailer label
trailer_item : (u w : OpenSection) (b : List ℕ) (r : Result Trail1 LabelFault) (xs : List TapeItem)
    (v : OpenSection) (k : Closing) → trail1_at b ≡ r → v.after ≡ None
    → IsClosedIn xs v k ⊎ Open (closed_by u w r (head1_at b)).0 xs v k
    → IsClosedIn (block b ∷ xs) v k ⊎ Open (Trailer u) (block b ∷ xs) v k
trailer_item u w b (Err f) xs v k is none h = inl (begun b _ _ _ _ _ refl (λ o. o) h)
trailer_item u w b (Ok t) xs v k is none h = chosen (closes u t) refl h
  where
    chosen : (c : Bool) → closes u t ≡ c
        → IsClosedIn xs v k ⊎ Open (if c
        then (Trailers u (closing_of u t), None)
        else unclosed_by w (head1_at b)).0 xs v k
        → IsClosedIn (block b ∷ xs) v k ⊎ Open (Trailer u) (block b ∷ xs) v k
    chosen false e h = inl (begun b (head1_at b) (Outside 0) xs v k refl (λ o. o) h)
    chosen true e (inl h) = inl (further (block b) xs v k h)
    chosen true e (inr o) = inr (record {
      trailer = b;
      trail = t;
      rest = xs;
      is = refl;
      ends = is;
      own = e;
      same_key = o.key;
      same_blocks = o.blocks;
      same_digest = o.digest;
      same_certain = o.certain;
      closing = (ap (λ (z : Closing). z.eof) o.closing, ap (λ (z : Closing). z.count) o.closing);
    })

-- a block in place of the trailer label of a section without HDR1
unnamed_item : (r : UnnamedItems) (b : List ℕ) (l : Result Trail1 LabelFault) (xs : List TapeItem)
    (v : OpenSection) (k : Closing) → v.after ≡ None
    → IsClosedIn xs v k ⊎ Open (unnamed_by r l (head1_at b)) xs v k
    → IsClosedIn (block b ∷ xs) v k
unnamed_item r b (Err f) xs v k none h = begun b _ _ _ _ _ refl (λ o. o) h
unnamed_item r b (Ok t) xs v k none h = chosen (t.blocks == label_count r.items) h
  where
    chosen : (c : Bool) → IsClosedIn xs v k ⊎ Open (if c
        then Trailers (named_by r t) (closing_of (named_by r t) t)
        else begun_by (head1_at b) (Unnamed one_read)) xs v k → IsClosedIn (block b ∷ xs) v k
    chosen false h = begun b (head1_at b) (Unnamed one_read) xs v k refl (λ o. o) h
    chosen true (inl h) = further (block b) xs v k h
    chosen true (inr o) = absurd (cc (o.after none))

none_after : (o : Option ℕ) → option_map (λ n. min (n + 1) 4294967295) o ≡ None → o ≡ None
none_after None e = refl
none_after (Some n) e = absurd (cc e)

-- one item more at the start
back : (s : Expected) (x : TapeItem) (xs : List TapeItem) (v : OpenSection) (k : Closing)
    → Comes (step s x).0 xs v k → Comes s (x ∷ xs) v k
back (Outside n) (block b) xs v k h none = inl (outside (nat_lt n 2) n b xs v k (h none))
back (Outside n) bad xs v k h none = inl (only_closed bad _ xs v k
    (none_bad (nat_lt n 2) (n == 1) _ n xs v k) (h none))
back (Outside n) mark xs v k h none =
    inl (only_closed mark _ xs v k (none_mark (n == 0) (n == 1) xs v k) (h none))
back (Second u) (block b) xs v k h none =
    either (h none) (further (block b) xs v k)
    (second (with_second (is_further_header b) u) (kind_at b) (wide_head2_at b) b xs v k)
back (Second u) bad xs v k h none = either (h none) (further bad xs v k) (with_doubt u xs v k)
back (Second u) mark xs v k h none =
    either (h none) (further mark xs v k) (at_mark u.key u.blocks u.digest u.certain xs v k)
back (Headers u) (block b) xs v k h none = either (h none) (further (block b) xs v k)
    (with_label u.key u.blocks u.digest u.certain (block b) xs v k tt)
back (Headers u) bad xs v k h none = either (h none) (further bad xs v k) (with_doubt u xs v k)
back (Headers u) mark xs v k h none =
    either (h none) (further mark xs v k) (at_mark u.key u.blocks u.digest u.certain xs v k)
back (Data u) (block b) xs v k h none = either (h none) (further (block b) xs v k) (λ o. record {
  data_items = block b ∷ o.data_items;
  trailer = o.trailer;
  trail = o.trail;
  rest = o.rest;
  is = ap (λ (l : List TapeItem). block b ∷ l) o.is;
  no_data = (tt, o.no_data);
  ends = o.ends;
  own = o.own;
  same_key = o.same_key;
  all_blocks = o.all_blocks;
  all_digest = o.all_digest;
  readable = λ e. ((o.readable e).0, (not_bad b, (o.readable e).1));
  closing = o.closing;
})
back (Data u) bad xs v k h none = either (h none) (further bad xs v k) (λ o. record {
  data_items = bad ∷ o.data_items;
  trailer = o.trailer;
  trail = o.trail;
  rest = o.rest;
  is = ap (λ (l : List TapeItem). bad ∷ l) o.is;
  no_data = (tt, o.no_data);
  ends = o.ends;
  own = o.own;
  same_key = o.same_key;
  all_blocks = o.all_blocks;
  all_digest = o.all_digest;
  readable = λ e. absurd (some_first u.certain u.blocks (o.readable e).0);
  closing = o.closing;
})
back (Data u) mark xs v k h none =
    either (h none) (further mark xs v k) (at_data_mark u.key u.blocks u.digest u.certain xs v k)
back (Trailer u) (block b) xs v k h none =
    trailer_item u (followed_by b u) b (trail1_at b) xs v k refl none (h none)
back (Trailer u) bad xs v k h none = inl (only_closed bad (Outside 0) xs v k (λ o. o) (h none))
back (Trailer u) mark xs v k h none = inl (only_closed mark (Outside 1) xs v k (λ o. o) (h none))
back (Trailers u l) (block b) xs v k h none = either (h none) (further (block b) xs v k)
    (λ o. record {
      key = o.key;
      blocks = o.blocks;
      digest = o.digest;
      certain = o.certain;
      after = λ e. none_after u.after (o.after e);
      closing = o.closing;
    })
back (Trailers u l) bad xs v k h none = inl (only_closed bad (Outside 0) xs v k (λ o. o) (h none))
back (Trailers u l) mark xs v k h none = inl (only_closed mark Next xs v k (λ o. o) (h none))
back Next (block b) xs v k h none =
    inl (begun b (head1_at b) (Outside 0) xs v k refl (λ o. o) (h none))
back Next bad xs v k h none = inl (only_closed bad (Outside 0) xs v k (λ o. o) (h none))
back Next mark xs v k h none = inl (only_closed mark Over xs v k (λ o. o) (h none))
back Over x xs v k h none = inl (only_closed x Over xs v k (λ o. o) (h none))
back (Unnamed r) (block b) xs v k h none =
    inl (begun b (head1_at b) (Unnamed (and_read r)) xs v k refl (λ o. o) (h none))
back (Unnamed r) bad xs v k h none =
    inl (only_closed bad (Unnamed (and_unreadable r)) xs v k (λ o. o) (h none))
back (Unnamed r) mark xs v k h none =
    inl (only_closed mark (UnnamedTrailer r) xs v k (λ o. o) (h none))
back (UnnamedTrailer r) (block b) xs v k h none =
    inl (unnamed_item r b (trail1_at b) xs v k none (h none))
back (UnnamedTrailer r) bad xs v k h none =
    inl (only_closed bad (Unnamed one_unreadable) xs v k (λ o. o) (h none))
back (UnnamedTrailer r) mark xs v k h none =
    inl (only_closed mark (Outside 2) xs v k (λ o. o) (h none))
back (Skipping n u) x xs v k h none = inr tt

-- ---- all sections

here : (u : OpenSection) (l : Closing) (xs : List TapeItem) → Comes (Trailers u l) xs u l
here u l xs none = inr (record {
  key = refl;
  blocks = refl;
  digest = refl;
  certain = refl;
  after = λ e. e;
  closing = refl;
})

unsure : (u : OpenSection) (l : Closing) (xs : List TapeItem)
    → Comes (Trailers u l) xs (with_second false u) l
unsure u l xs none = inr (record {
  key = refl;
  blocks = refl;
  digest = refl;
  certain = refl;
  after = λ e. e;
  closing = refl;
})

all_there : (xs : List TapeItem) (l : List FoundAt) → AllByRecursion (PAt Comes (Outside 0) xs) l
    → AllByRecursion (IsThere xs) l
all_there xs [] all = tt
all_there xs ((place, (v, None)) ∷ l) (h, all) = (tt, all_there xs l all)
all_there xs ((place, (v, Some k)) ∷ l) (h, all) =
    (λ none. elim (h none) [ inl c ↦ c | inr o ↦ absurd o ], all_there xs l all)

pub closed_are_there : ClosedAreThere
closed_are_there items =
    all_there _ _ (all_found Comes back here unsure (λ n u xs v k none. inr tt) items)
