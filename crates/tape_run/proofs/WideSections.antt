-- The last items read by a survey, according to what is expected next: the labels of a section, its
-- data, or its end.
use Rattle.std.proofs.Common.{◌≡◌, ℕ, false, true, List, [], ◌∷◌, ◌++◌, length, Ok, refl, ap, ◌∙◌}
use Rattle.std.proofs.Common.{arith, append_assoc, length-append, map, inl, inr}
use Rattle.std.specs.Prelude.{⊤}
use Rattle.tape_image.specs.Tape.{TapeItem, block, mark}
use Rattle.tape_label.specs.declared.values.{Head1.Head1, Trail1.Trail1}
use Rattle.tape_label.specs.Reading.{head1_at, trail1_at}
use Rattle.tape_label.proofs.First.{head1_found, trail1_found}
use Rattle.tape_run.specs.declared.passing.Phase.TheVariants.{Volume, Labels, Second, Headers, Data}
use Rattle.tape_run.specs.declared.passing.Phase.TheVariants.{Trailer, Trailers, Next, Over}
use Rattle.tape_run.specs.Passing.{with_block, closes, told, met_by}
use Rattle.tape_run.specs.{declared.section.SectionKey.SectionKey, declared.section.Entry.Entry}
use Rattle.tape_run.specs.{declared.met.Met.Met, declared.passing.Phase.Phase}
use Rattle.tape_run.specs.Shown.{HeadsSection}
use Rattle.tape_set.specs.Lawful.{label_count}
use Rattle.tape_run.specs.WideShown.{IsSecond, AreHeaders, WideShown, NamesVolume}
use Rattle.tape_run.proofs.SectionsMet.{begins_more, map_push, regroup_first, regroup_data}
use Rattle.tape_run.proofs.SectionsMet.{regroup_close, regroup_end, closed}

-- the volume is still named if more items follow
pub names_more : (items : List TapeItem) (v : List ℕ) (more : List TapeItem) → NamesVolume items v
    → NamesVolume (items ++ more) v
names_more items v more (inl b) = inl (begins_more items v more b)
names_more items v more (inr o) = inr (record {
  item = o.item;
  more = o.more ++ more;
  first = ap (λ (r : List TapeItem). r ++ more) o.first;
  other = o.other;
  named = o.named;
})

-- the last item is a section's first label
pub record Headed (items : List TapeItem) (met : Met) : Type 0 where
  pub before : List TapeItem
  pub hdr1 : List ℕ
  pub head : HeadsSection hdr1 met.key
  pub stands : items ≡ before ++ block hdr1 ∷ []
  pub none : met.blocks ≡ 0

-- the last items are a section's labels
pub record Labelled (items : List TapeItem) (met : Met) : Type 0 where
  pub before : List TapeItem
  pub hdr1 : List ℕ
  pub hdr2 : List ℕ
  pub headers : List (List ℕ)
  pub head : HeadsSection hdr1 met.key
  pub second : IsSecond hdr2
  pub stands : items ≡ before ++ block hdr1 ∷ block hdr2 ∷ map block headers
  pub none : met.blocks ≡ 0

-- the last items are a section's labels, a mark and these data blocks, and the items after them
pub record Filled (items : List TapeItem) (met : Met) (behind : List TapeItem)
    (blocks : List (List ℕ)) : Type 0 where
  pub before : List TapeItem
  pub hdr1 : List ℕ
  pub headers : List (List ℕ)
  pub head : HeadsSection hdr1 met.key
  pub second : AreHeaders headers
  pub stands : items
      ≡ before ++ block hdr1 ∷ map block headers ++ mark ∷ map block blocks ++ behind
  pub many : met.blocks ≡ length blocks

-- The last items, and the data blocks so far, according to what is expected next. Of a section with
-- an unreadable item only the volume is stated.
abbrev pub Stood : Phase → List TapeItem → List (List ℕ) → Type 0
Stood Volume items blocks = items ≡ []
Stood (Labels v) items blocks = NamesVolume items v
Stood (Second met) items blocks = NamesVolume items met.volume × Headed items met
Stood (Headers met) items blocks =
    NamesVolume items met.volume × (met.bad ≡ false → Labelled items met)
Stood (Data met) items blocks =
    NamesVolume items met.volume × (met.bad ≡ false → Filled items met [] blocks)
Stood (Trailer met) items blocks =
    NamesVolume items met.volume × (met.bad ≡ false → Filled items met (mark ∷ []) blocks)
Stood (Trailers v) items blocks = NamesVolume items v
Stood (Next v) items blocks = NamesVolume items v
Stood Over items blocks = ⊤

-- a section that is shown is still shown if more items follow
unfoldable pub shown_more : (items : List TapeItem) (key : SectionKey) (entry : Entry)
    (more : List TapeItem)
    → WideShown items key entry → WideShown (items ++ more) key entry
shown_more items key entry more s = record {
  volume = names_more items entry.volume more s.volume;
  before = s.before;
  hdr1 = s.hdr1;
  headers = s.headers;
  content = s.content;
  trailer = s.trailer;
  after = s.after ++ more;
  stands = ap (λ (r : List TapeItem). r ++ more) s.stands ∙ simp append_assoc;
  head = s.head;
  second = s.second;
  ends = s.ends;
  blocks = s.blocks;
}

-- a section's first label was read
pub headed : (items : List TapeItem) (v b : List ℕ) (head : Head1) → head1_at b ≡ Ok head
    → Headed (items ++ block b ∷ []) (met_by v head)
headed items v b head e = record {
  before = items;
  hdr1 = b;
  head =
      record { label = head; is = head1_found b head e; set_id = refl; file = refl; sect = refl };
  stands = refl;
  none = refl;
}

pub labelled : (items : List TapeItem) (met : Met) (b : List ℕ) → IsSecond b → Headed items met
    → Labelled (items ++ block b ∷ []) met
labelled items met b is h = record {
  before = h.before;
  hdr1 = h.hdr1;
  hdr2 = b;
  headers = [];
  head = h.head;
  second = is;
  stands = ap (λ (r : List TapeItem). r ++ block b ∷ []) h.stands
      ∙ append_assoc h.before (block h.hdr1 ∷ []) (block b ∷ []);
  none = h.none;
}

pub labelled_more : (items : List TapeItem) (met : Met) (b : List ℕ) → Labelled items met
    → Labelled (items ++ block b ∷ []) met
labelled_more items met b h = record {
  before = h.before;
  hdr1 = h.hdr1;
  hdr2 = h.hdr2;
  headers = h.headers ++ b ∷ [];
  head = h.head;
  second = h.second;
  stands =
      let labels : List TapeItem = block h.hdr1 ∷ block h.hdr2 ∷ [] in
      ap (λ (r : List TapeItem). r ++ block b ∷ []) h.stands
      ∙ append_assoc h.before (labels ++ map block h.headers) (block b ∷ [])
      ∙ ap (λ (r : List TapeItem). h.before ++ (labels ++ r)) (map_push h.headers b);
  none = h.none;
}

-- a mark that follows HDR1: there are no further labels
pub filled_none : (items : List TapeItem) (met : Met) → Headed items met
    → Filled (items ++ mark ∷ []) met [] []
filled_none items met h = record {
  before = h.before;
  hdr1 = h.hdr1;
  headers = [];
  head = h.head;
  second = tt;
  stands = ap (λ (r : List TapeItem). r ++ mark ∷ []) h.stands
      ∙ regroup_first h.before (block h.hdr1 ∷ []);
  many = h.none;
}

pub filled_first : (items : List TapeItem) (met : Met) → Labelled items met
    → Filled (items ++ mark ∷ []) met [] []
filled_first items met h = record {
  before = h.before;
  hdr1 = h.hdr1;
  headers = h.hdr2 ∷ h.headers;
  head = h.head;
  second = h.second;
  stands = ap (λ (r : List TapeItem). r ++ mark ∷ []) h.stands
      ∙ regroup_first h.before (block h.hdr1 ∷ block h.hdr2 ∷ map block h.headers);
  many = h.none;
}

pub filled_more : (items : List TapeItem) (met : Met) (b : List ℕ) (blocks : List (List ℕ))
    → Filled items met [] blocks
    → Filled (items ++ block b ∷ []) (with_block met false) [] (blocks ++ b ∷ [])
filled_more items met b blocks h = record {
  before = h.before;
  hdr1 = h.hdr1;
  headers = h.headers;
  head = h.head;
  second = h.second;
  stands =
      let labels : List TapeItem = block h.hdr1 ∷ map block h.headers in
      ap (λ (r : List TapeItem). r ++ block b ∷ []) h.stands
      ∙ regroup_data h.before labels (map block blocks) (block b)
      ∙ ap (λ (r : List TapeItem). h.before ++ labels ++ mark ∷ r ++ []) (map_push blocks b);
  many = omega (arith, h.many, length-append blocks (b ∷ []));
}

pub filled_closed : (items : List TapeItem) (met : Met) (blocks : List (List ℕ))
    → Filled items met [] blocks → Filled (items ++ mark ∷ []) met (mark ∷ []) blocks
filled_closed items met blocks h = record {
  before = h.before;
  hdr1 = h.hdr1;
  headers = h.headers;
  head = h.head;
  second = h.second;
  stands = ap (λ (r : List TapeItem). r ++ mark ∷ []) h.stands
      ∙ regroup_close h.before (block h.hdr1 ∷ map block h.headers) (map block blocks);
  many = h.many;
}

-- a section with the right count and these data blocks is shown
unfoldable pub shown_as : (items : List TapeItem) (met : Met) (b : List ℕ) (trail : Trail1)
    (blocks : List (List ℕ)) → trail1_at b ≡ Ok trail → closes met trail ≡ true
    → NamesVolume items met.volume → Filled items met (mark ∷ []) blocks
    → trail.blocks ≡ label_count met.blocks
    → WideShown (items ++ block b ∷ []) met.key (told met trail).1
shown_as items met b trail blocks e c names h count = record {
  volume = names_more items met.volume (block b ∷ []) names;
  before = h.before;
  hdr1 = h.hdr1;
  headers = h.headers;
  content = blocks;
  trailer = b;
  after = [];
  stands = ap (λ (r : List TapeItem). r ++ block b ∷ []) h.stands ∙ regroup_end h.before
      (block h.hdr1 ∷ map block h.headers) (map block blocks) (block b);
  head = h.head;
  second = h.second;
  ends = record {
    label = trail;
    is = trail1_found b trail e;
    file = (closed met trail c).0;
    sect = (closed met trail c).1;
    count = count ∙ ap label_count h.many;
    kind = refl;
  };
  blocks = h.many;
}
