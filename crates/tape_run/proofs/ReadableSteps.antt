-- One step of the wider reading over a volume of a set that it recovers: the reader of the valid
-- set of the same shape takes the same step, and the next parts of the file are delivered.
use Rattle.std.proofs.Common.{◌≡◌, ◌≢◌, ◌⊎◌, inl, inr, ◌<◌, ◌≤◌, ℕ, zero, suc, ◌+◌, List, [], ◌∷◌}
use Rattle.std.proofs.Common.{◌++◌, Bool, true, false, cond, Option, Some, None, Ok, refl, sym, ap}
use Rattle.std.proofs.Common.{◌∙◌, subst, arith, length, length-append, slice_get, map, drop, take}
use Rattle.std.proofs.Common.{nat_lt, ◌==◌, append_assoc, unwrap_or, is_some}
use Rattle.std.proofs.lemmas.{Bool.Decides.nat_tests, List.length-map}
use Rattle.std.specs.List.{AllByRecursion}
use Rattle.std.specs.Prelude.{⊤}
use Rattle.tape_image.specs.Tape.{TapeItem, block as block', bad, mark}
use Rattle.tape_label.specs.declared.values.{Head1.Head1, Head2.Head2, Trail1.Trail1}
use Rattle.tape_label.specs.declared.values.Format.TheVariants.{Fixed}
use Rattle.tape_label.specs.declared.values.Format.{Format}
use Rattle.tape_label.specs.declared.values.Kind.TheVariants as kinds
use Rattle.tape_label.specs.{Kinds.HasKind, Kinds.kind_at, Kinds.trailer, Head1.IsHead1}
use Rattle.tape_label.specs.{WideHead2.IsWideHead2, WideHead2.HasRecLen, Reading.wide_head2_at}
use Rattle.tape_label.specs.{Reading.trail1_at, Trail1.IsTrail1}
use Rattle.tape_label.proofs.Apart.{kind_again, HasKind-unique}
use Rattle.tape_label.proofs.{Wide.wide_again, Second.head2_again, First.trail1_again}
use Rattle.tape_blocks.specs.Block.{Portion, Holds}
use Rattle.tape_blocks.specs.{Spans.InOrder, Judged.begun_behind, Tight.Filled, Content.content_in}
use Rattle.tape_blocks.proofs.{Wide.content_kept, OwnLaws.judged_only}
use Rattle.tape_set.specs.declared.position.Position.{Position}
use Rattle.tape_set.specs.declared.position.Position.TheVariants.{Awaits, Finished}
use Rattle.tape_set.specs.Position.{awaiting, next_block, next_section, block_of, part_of}
use Rattle.tape_set.specs.Layout.{FileSet, Section, Placed, Volume, Entry, a_label, a_data_block}
use Rattle.tape_set.specs.Layout.{a_mark, item_of, nth, section_of, sections, on, entries, ends_file}
use Rattle.tape_set.specs.Layout.{data_group, trailer_group}
use Rattle.tape_set.specs.Before.{before, section_parts, parts_before}
use Rattle.tape_set.specs.Lawful.{FileForm, IsTrailer, form_of, binding_len, most_blocks}
use Rattle.tape_set.specs.Reach.{stopped, good_run}
use Rattle.tape_set.specs.Readable.{IsReadable, TellsWideForm, HasWideForm}
use Rattle.tape_set.specs.Tight.{second_of}
use Rattle.tape_set.proofs.Everywhere.{every_at, every_rest, every-filter, every, take_at_get}
use Rattle.tape_set.proofs.Numbering.{FileOf, section_found, sections_found}
use Rattle.tape_set.proofs.FileParts.{file_is, ends_at, before_more, before_next, before_end}
use Rattle.tape_set.proofs.FileParts.{begun_behind-append, order_front, order_rest, order_end}
use Rattle.tape_set.proofs.{Forms.head1_same, PartsBefore.parts_upto, PartsBefore.upto_all}
use Rattle.tape_set.proofs.PartsBefore.{before_at}
use Rattle.tape_core.specs.declared.event.{Answer.Answer, Heading.Heading, Phase.Phase}
use Rattle.tape_core.specs.declared.event.Answer.TheVariants.{Passed, Deliver, SectionDone, Complete}
use Rattle.tape_core.specs.declared.event.Phase.TheVariants.{Over, Header2, Headers, DataWanted}
use Rattle.tape_core.specs.declared.event.Phase.TheVariants.{TrailerWanted}
use Rattle.tape_core.specs.{State.State, State.told, Labels.heading_of, Labels.form_at}
use Rattle.tape_core.specs.Labels.{other_shape}
use Rattle.tape_core.specs.Table.{Outcome, passed, at_head2, at_data, at_item, delivered, moved_to}
use Rattle.tape_core.specs.Table.{step_of, unless_complete}
use Rattle.tape_core.specs.Table as Table
use Rattle.tape_core.specs.Wide as Wide
use Rattle.tape_core.specs.Follows.{IsReading, Follows, Inside, InData, AtTrailer, Left, to_come}
use Rattle.tape_core.proofs.{Aim.Aim, Aim.aim_of, Fronts.first_left, Fronts.here}
use Rattle.tape_core.proofs.{AwaitedSection.wanted_at, AwaitedSection.on_it, Files.get_behind}
use Rattle.tape_core.proofs.{DataSteps.count_cases, Steps.step_keeps, Files.ends_as}
use Rattle.tape_core.proofs.{LabelLaws.no_other_shape, WideReading.by_one_file}
use Rattle.tape_run.proofs.PlainSets.{plain_set, plain_section, plain_placed, plain_block}
use Rattle.tape_run.proofs.PlainSets.{plain_sections, plain_lawful, plain_label, plain_shape}
use Rattle.tape_run.proofs.PlainSets.{label_is, byte_part, plain_holds, bytes_order, plain_form}
use Rattle.tape_run.proofs.PlainShape.{readable_file, form_of_it, found_back, plain_on, HasSecond}
use Rattle.tape_run.proofs.PlainShape.{IsAlike, AreSeconds, AreAlike, alike_at, entries_alike}
use Rattle.tape_run.proofs.PlainShape.{from_second, second_at, on_found}
use Rattle.tape_run.proofs.PlainSteps.{plain, plain_out, plain_phase, plain_known, Still, Mirrors}
use Rattle.tape_run.proofs.PlainSteps.{passed_m, ItemsAlike, read_seconds, items_same, IsQuietItem}
use Rattle.tape_run.proofs.PlainSteps.{quiet_step, finished_step, trailer_step, Closes, data_is}
use Rattle.tape_run.proofs.PlainSteps.{awaits_by}

-- ---- the forms that labels state in the wider reading

one_wide : (s : Section) (a b : FileForm) → TellsWideForm a s → TellsWideForm b s → a ≡ b
one_wide s a b h g =
    let heads : h.head ≡ g.head = head1_same s.hdr1 h.head g.head h.hdr1 g.hdr1 in
    let both : Ok h.second ≡ Ok g.second =
    sym (wide_again s.hdr2 kinds.Hdr2 h.second h.hdr2)
    ∙ wide_again s.hdr2 kinds.Hdr2 g.second g.hdr2 in
    let seconds : h.second ≡ g.second = cc in
    sym h.told ∙ (ap (λ z. form_of z h.second) heads ∙ (ap (form_of g.head) seconds ∙ g.told))

-- all sections of the file state the form
abbrev pub FileReads : FileSet → ℕ → FileForm → Type 0
FileReads set file form = (sect : ℕ) (s : Section) → section_of set file sect ≡ Some s
    → TellsWideForm form s

abbrev pub AllRead : FileSet → ℕ → Option FileForm → Type 0
AllRead set file None = ⊤
AllRead set file (Some form) = FileReads set file form

file_reads : (set : FileSet) → IsReadable set → (file sect : ℕ) (w : Section) (form : FileForm)
    → section_of set file sect ≡ Some w → TellsWideForm form w → FileReads set file form
file_reads set is file sect w form here tells other x there =
    let a = section_found set file sect w here in
    let b = section_found set file other x there in
    let both : Some a.sections ≡ Some b.sections =
    sym (file_is set file sect w a) ∙ file_is set file other x b in
    let same : a.sections ≡ b.sections = cc in
    let alike = (readable_file set file sect w is a).alike in
    let first : HasWideForm alike.0 w =
    every_at (HasWideForm alike.0) a.sections a.sect_at.place w alike.1 a.sect_at.found in
    let found : slice_get a.sections b.sect_at.place ≡ Some x =
    ap (λ v. slice_get v b.sect_at.place) same ∙ b.sect_at.found in
    let second : HasWideForm alike.0 x =
    every_at (HasWideForm alike.0) a.sections b.sect_at.place x alike.1 found in
    subst (λ v. TellsWideForm v x) (one_wide w alike.0 form first.labels tells) second.labels

-- ---- the order of parts

in_order_at : (set : FileSet) (file sect : ℕ) (w : Section) → IsReadable set
    → (at : FileOf set file sect w) → (past rest : List Filled) (d : Filled) (b : ℕ)
    → past ++ d ∷ rest ≡ w.blocks → length past ≡ b
    → InOrder (begun_behind false (before set file (awaiting sect b))) d.parts
    (begun_behind false (before set file (awaiting sect (b + 1))))
in_order_at set file sect w is at past rest d b e n =
    let n' : sect ≡ suc at.sect_at.place = at.sect_at.number in
    let up = upto_all at.sections at.sect_at.place (b + 1) 0 in
    let its : parts_upto at.sections at.sect_at.place (b + 1) 0
    ≡ before set file (awaiting sect (b + 1)) =
    sym (ap (λ o. parts_before (unwrap_or o []) (awaiting sect (b + 1))) (file_is set file sect w at)
    ∙ (ap (λ m. parts_before at.sections (awaiting m (b + 1))) n'
    ∙ before_at at.sections at.sect_at.place (b + 1) 0)) in
    let whole : before set file (awaiting sect (b + 1)) ++ up.0 ≡ section_parts at.sections =
    ap (λ z. z ++ up.0) (sym its) ∙ up.1 in
    let order : InOrder false (before set file (awaiting sect (b + 1)) ++ up.0) false =
    subst (λ z. InOrder false z false) (sym whole) (readable_file set file sect w is at).order in
    let more : before set file (awaiting sect (b + 1))
    ≡ before set file (awaiting sect b) ++ d.parts =
    before_more set file sect w at past rest d b e n in
    let front : InOrder false (before set file (awaiting sect (b + 1)))
    (begun_behind false (before set file (awaiting sect (b + 1)))) =
    order_front false false (before set file (awaiting sect (b + 1))) up.0 order in
    order_rest false (begun_behind false (before set file (awaiting sect (b + 1))))
    (before set file (awaiting sect b)) d.parts
    (subst (λ z. InOrder false z (begun_behind false (before set file (awaiting sect (b + 1)))))
    more front)

whole_closed : (set : FileSet) (file sect : ℕ) (w : Section) → IsReadable set
    → FileOf set file sect w → begun_behind false (before set file Finished) ≡ false
whole_closed set file sect w is at =
    ap (λ z. begun_behind false z)
    (ap (λ o. parts_before (unwrap_or o []) Finished) (file_is set file sect w at))
    ∙ order_end false false (section_parts at.sections) (readable_file set file sect w is at).order

-- ---- the state of the reader

-- The forms that the reader knows are those of its file, and whether a record is unfinished is
-- known from the parts before the position, which is the start of a block.
pub record Fine (set : FileSet) (c : State) : Type 0 where
  pub known : AllRead set c.file c.known
  pub told : AllRead set c.file (told c.phase)
  pub begun : c.begun ≡ begun_behind false (before set c.file c.position)
  pub first : part_of c.position ≡ 0

-- the block was delivered: it contains these parts, in the form that is now known
pub record Delivered (c : State) (x : TapeItem) (out : Outcome) (parts : List Portion)
    : Type 0 where
  pub answer : out.0 ≡ Deliver
  pub bytes : List ℕ
  pub form : FileForm
  pub taken : Wide.read_as true c x ≡ block' bytes
  pub known : out.1.known ≡ Some form
  pub held : Holds form.format form.rec_len form.offset bytes parts

-- the parts that the step delivers
abbrev pub GivesParts : FileSet → State → TapeItem → Outcome → Type 0
GivesParts set c x out =
    ((out.0 ≢ Deliver) × (before set c.file out.1.position ≡ before set c.file c.position))
    ⊎ ((parts : List Portion) × Delivered c x out parts
    × (before set c.file out.1.position ≡ before set c.file c.position ++ parts))

pub record Taken (set : FileSet) (c : State) (x : TapeItem) (out its : Outcome) : Type 0 where
  pub same : its ≡ plain_out out
  pub same_file : out.1.file ≡ c.file
  pub fine : Fine set out.1
  pub gives : GivesParts set c x out

-- the same facts of another state of the file
fine_of : (set : FileSet) (c new : State) → new.file ≡ c.file → AllRead set c.file new.known
    → AllRead set c.file (told new.phase)
    → new.begun ≡ begun_behind false (before set c.file new.position)
    → part_of new.position ≡ 0 → Fine set new
fine_of set c new f known told_ begun first = record {
  known = subst (λ (n : ℕ). AllRead set n new.known) (sym f) known;
  told = subst (λ (n : ℕ). AllRead set n (told new.phase)) (sym f) told_;
  begun = begun ∙ ap (λ (n : ℕ). begun_behind false (before set n new.position)) (sym f);
  first = first;
}

told_still : (set : FileSet) (c : State) (o : Option FileForm) → Fine set c
    → (o ≡ None) ⊎ (o ≡ told c.phase) → AllRead set c.file o
told_still set c o fine (inl e) = subst (λ z. AllRead set c.file z) (sym e) tt
told_still set c o fine (inr e) = subst (λ z. AllRead set c.file z) (sym e) fine.told

still_taken : (set : FileSet) (c : State) (x : TapeItem) (out its : Outcome)
    → out.1.file ≡ c.file → Fine set c → Still c out → its ≡ plain_out out
    → Taken set c x out its
still_taken set c x out its f fine s same = record {
  same = same;
  same_file = f;
  fine = fine_of set c out.1 f (subst (λ z. AllRead set c.file z) (sym s.known) fine.known)
      (told_still set c (told out.1.phase) fine s.told)
      (s.begun ∙ (fine.begun ∙ ap (λ z. begun_behind false (before set c.file z))
      (sym s.position)))
      (ap part_of s.position ∙ fine.first);
  gives = inl (s.silent, ap (before set c.file) s.position);
}

pub mirrors_taken : (set : FileSet) (c : State) (x : TapeItem) (its : Outcome) → Fine set c
    → Mirrors c (Wide.step_by true c (Some x)) its
    → Taken set c x (Wide.step_by true c (Some x)) its
mirrors_taken set c x its fine m =
    still_taken set c x (Wide.step_by true c (Some x)) its (by_one_file true c (Some x)).file fine
    m.still m.same

-- ---- lists

split_map : {A B : Type 0} (f : A → B) (past : List B) (x : B) (later : List B) (ys : List A)
    → past ++ x ∷ later ≡ map f ys
    → (front : List A) × (y : A) × (rest : List A) × (front ++ y ∷ rest ≡ ys)
    × (map f front ≡ past) × (f y ≡ x) × (map f rest ≡ later)
split_map f [] x later [] e = absurd (cc e)
split_map f [] x later (y ∷ ys) e =
    let a : x ≡ f y = cc e in
    let b : later ≡ map f ys = cc e in
    ([], y, ys, refl, refl, sym a, sym b)
split_map f (p ∷ past) x later [] e = absurd (cc e)
split_map f (p ∷ past) x later (y ∷ ys) e =
    let a : p ≡ f y = cc e in
    let b : past ++ x ∷ later ≡ map f ys = cc e in
    let (front, z, rest, whole, m, n, o) = split_map f past x later ys b in (
      y ∷ front,
      z,
      rest,
      ap (λ v. y ∷ v) whole,
      ap (λ v. f y ∷ v) m ∙ ap (λ v. v ∷ past) (sym a),
      n,
      o,
    )

-- at a block of which no part was delivered
stopped_first : (q : Position) (sect b part n : ℕ) → q ≡ stopped (Awaits sect b part) sect b n
    → part_of q ≡ 0 → q ≡ awaiting sect n
stopped_first q sect b part n is first = go (n == b) refl is
  where
    go : (t : Bool) → (n == b) ≡ t → q ≡ cond t (Awaits sect b part) (awaiting sect n)
        → q ≡ awaiting sect n
    go false e h = h
    go true e h =
        let same : n ≡ b = grind (arith, nat_tests) in
        let none : part ≡ 0 = sym (ap part_of h) ∙ first in
        h ∙ (ap (λ z. Awaits sect z part) (sym same) ∙ ap (λ z. Awaits sect n z) none)

alike_items : (e f : Entry) → IsAlike e f → ItemsAlike (item_of e) (item_of f)
alike_items e f (inl same) = subst (λ z. ItemsAlike (item_of e) (item_of z)) same
    (items_same (item_of e))
alike_items e f (inr s) =
    let two : ItemsAlike (item_of (a_label s.one)) (item_of (a_label s.other)) =
    read_seconds s.one s.other s.kind s.other_kind in
    subst (λ z. ItemsAlike (item_of z) (item_of f)) (sym s.is)
    (subst (λ z. ItemsAlike (item_of (a_label s.one)) (item_of z)) (sym s.other_is) two)

-- an entry other than a label is the same in both volumes
same_data : (e f : Entry) (b : List ℕ) → IsAlike e f → f ≡ a_data_block b → e ≡ f
same_data e f b (inl same) is = same
same_data e f b (inr s) is = absurd (let q = sym s.other_is ∙ is in cc q)

same_mark : (e f : Entry) → IsAlike e f → f ≡ a_mark → e ≡ f
same_mark e f (inl same) is = same
same_mark e f (inr s) is = absurd (let q = sym s.other_is ∙ is in cc q)

no_trailer : (eof : Bool) → kinds.Hdr2 ≡ trailer eof → ⊥
no_trailer true q = cc q
no_trailer false q = cc q

same_trailer : (e f : Entry) (b : List ℕ) (eof : Bool) → HasKind b (trailer eof) → IsAlike e f
    → f ≡ a_label b → e ≡ f
same_trailer e f b eof kind (inl same) is = same
same_trailer e f b eof kind (inr s) is =
    let q : a_label s.other ≡ a_label b = sym s.other_is ∙ is in
    let same : s.other ≡ b = cc q in
    absurd (no_trailer eof (HasKind-unique b kinds.Hdr2 (trailer eof)
    (subst (λ z. HasKind z kinds.Hdr2) same s.other_kind) kind))

-- ---- record lengths in format F

wide_len : (label : List ℕ) (f : Format) (n : ℕ) → HasRecLen f label n → f ≡ Fixed → 1 ≤ n
wide_len label Fixed n h e = h.at_least
wide_len label _ n h e = absurd (cc e)

wide_least : (form : FileForm) (s : Section) → TellsWideForm form s → form.format ≡ Fixed
    → 1 ≤ form.rec_len
wide_least form s t fixed =
    let format : t.second.format ≡ Fixed = ap (λ (f : FileForm). f.format) t.told ∙ fixed in
    let range : 1 ≤ t.second.rec_len =
    wide_len s.hdr2 t.second.format t.second.rec_len t.hdr2.rec_len format in
    let len : t.second.rec_len ≡ form.rec_len =
    sym (ap (λ (z : Format). binding_len z t.second.rec_len) format)
    ∙ ap (λ (f : FileForm). f.rec_len) t.told in
    omega (arith, range, len)

plain_no_other : (known : Option FileForm) (heading : Heading)
    → other_shape (plain_known known) (form_at heading (second_of plain_shape)) ≡ false
plain_no_other None heading = refl
plain_no_other (Some form) heading = refl

known_form : (set : FileSet) (file sect : ℕ) (s : Section) (form : FileForm)
    → section_of set file sect ≡ Some s → TellsWideForm form s → (o : Option FileForm)
    → AllRead set file o → (o ≡ None) ⊎ (o ≡ Some form)
known_form set file sect s form found tells None h = inl refl
known_form set file sect s form found tells (Some other) h =
    inr (ap Some (one_wide s other form (h sect s found) tells))

-- ---- the phases in which every item is quiet

abbrev is_plain : Phase → Bool
is_plain (Header2 heading wanted) = false
is_plain (DataWanted heading form seen) = false
is_plain (TrailerWanted heading form) = false
is_plain phase = true

quiet_label : (c : State) (phase : Phase) (e : Entry) → is_plain phase ≡ true
    → IsQuietItem c phase (item_of e)
quiet_label c (Header2 heading wanted) e is = absurd (cc is)
quiet_label c (DataWanted heading form seen) e is = absurd (cc is)
quiet_label c (TrailerWanted heading form) e is = absurd (cc is)
quiet_label c _ (a_label b) is = tt
quiet_label c _ (a_data_block b) is = tt
quiet_label c _ a_mark is = tt

-- ---- a readable item

module _ (set : FileSet) (is : IsReadable set) (c : State) (fine : Fine set c)
    (sect b part k : ℕ) (v : Volume) (vol : nth set.volumes k ≡ Some v) (good : List Bool)
    (r : IsReading (plain_set set) (Awaits sect b part) k good (plain c))
    (e : Entry) (s : slice_get (entries set k) (length good) ≡ Some e)
    (e' : Entry) (s' : slice_get (entries (plain_set set) k) (length good) ≡ Some e')
    (a : IsAlike e e') where
  abbrev aim : Aim
  aim = aim_of (plain_set set) (plain_lawful set is) (plain c) sect b part k v vol good r

  abbrev out : Outcome
  out = Wide.step_by true c (Some (item_of e))

  abbrev its : Outcome
  its = step_of (plain c) (Some (item_of e'))

  by_quiet : IsQuietItem c c.phase (item_of e) → Taken set c (item_of e) out its
  by_quiet q = mirrors_taken set c (item_of e) its fine
      (quiet_step c (item_of e) (item_of e') (alike_items e e' a) q)

  -- the second label of a section
  record SecondHere (x : Placed) : Type 0 where
    y : Placed
    same : plain_placed y ≡ x
    found : section_of set y.file y.sect ≡ Some y.section
    e_is : a_label y.section.hdr2 ≡ e
    its_is : a_label plain_label ≡ e'

  second_here : (heading : Heading) (wanted : Bool) (x : Placed)
      → Inside (plain_set set) c.file sect b part k good heading wanted x
      (a_label x.section.hdr2 ∷ map a_label x.section.headers
      ++ a_mark ∷ data_group x.section.blocks ++ trailer_group x.section)
      → SecondHere x
  second_here heading wanted x inside =
      let (front, y, rest, whole, m1, same, m2) =
      split_map plain_placed inside.among.past x inside.later (on k (sections set))
      (inside.among.all ∙ (ap (on k) (plain_sections set) ∙ plain_on k (sections set))) in
      let founds : AllByRecursion (λ z. section_of set z.file z.sect ≡ Some z.section)
      (y ∷ rest) =
      every_rest (λ z. section_of set z.file z.sect ≡ Some z.section) front (y ∷ rest)
      (subst (AllByRecursion (λ z. section_of set z.file z.sect ≡ Some z.section)) (sym whole)
      (on_found set k)) in
      let kinds_are : AllByRecursion HasSecond (y ∷ rest) =
      every (λ z. section_of set z.file z.sect ≡ Some z.section) HasSecond
      (λ z found. (form_of_it set z.file z.sect z.section is found).1.labels.hdr2.kind)
      (y ∷ rest) founds in
      let left : inside.left.done ++ from_second (plain_placed y) (map plain_placed rest)
      ≡ entries (plain_set set) k =
      ap (λ z. inside.left.done ++ from_second z (map plain_placed rest)) same
      ∙ (ap (λ z. inside.left.done ++ from_second x z) m2 ∙ inside.left.whole) in
      let there : slice_get (entries set k) (length inside.left.done)
      ≡ Some (a_label y.section.hdr2) =
      second_at set is k v vol front y rest whole kinds_are inside.left.done left in
      let both : Some (a_label y.section.hdr2) ≡ Some e =
      sym there ∙ (ap (slice_get (entries set k)) inside.left.count ∙ s) in
      record {
        y = y;
        same = same;
        found = founds.0;
        e_is = cc both;
        its_is = ap (λ z. a_label z.section.hdr2) same
            ∙ first_left (plain_set set) k good e' (a_label x.section.hdr2) _ inside.left s';
      }

  second_wide : (heading : Heading) (wanted : Bool) (i j m : ℕ) → c.position ≡ Awaits i j m
      → c.phase ≡ Header2 heading wanted → (l : List ℕ)
      → Wide.step_by true c (Some (block' l)) ≡ Wide.second_label c heading wanted l (kind_at l)
  second_wide heading wanted i j m p ph l = rw (p, ph) refl

  second_strict : (heading : Heading) (wanted : Bool) (i j m : ℕ) → c.position ≡ Awaits i j m
      → c.phase ≡ Header2 heading wanted → (l : List ℕ)
      → step_of (plain c) (Some (block' l))
      ≡ Table.second_label (plain c) heading wanted l (kind_at l)
  second_strict heading wanted i j m p ph l = rw (p, ph) refl

  -- both labels at their place
  at_place : (x : Placed) (h : SecondHere x)
      → Taken set c (block' h.y.section.hdr2)
      (Wide.step_by true c (Some (block' h.y.section.hdr2)))
      (step_of (plain c) (Some (block' plain_label)))
      → Taken set c (item_of e) out its
  at_place x h t =
      subst (λ z. Taken set c (item_of z) (Wide.step_by true c (Some (item_of z))) its) h.e_is
      (subst (λ z. Taken set c (block' h.y.section.hdr2)
      (Wide.step_by true c (Some (block' h.y.section.hdr2)))
      (step_of (plain c) (Some (item_of z)))) h.its_is t)

  second_skipped : (heading : Heading) (i j m : ℕ) → c.position ≡ Awaits i j m
      → c.phase ≡ Header2 heading false → (l : List ℕ) → HasKind l kinds.Hdr2
      → Taken set c (block' l) (Wide.step_by true c (Some (block' l)))
      (step_of (plain c) (Some (block' plain_label)))
  second_skipped heading i j m p ph l kind =
      let wide : Wide.step_by true c (Some (block' l)) ≡ passed c (Headers heading None) =
      second_wide heading false i j m p ph l
      ∙ ap (Wide.second_label c heading false l) (kind_again l kinds.Hdr2 kind) in
      let strict : step_of (plain c) (Some (block' plain_label))
      ≡ passed (plain c) (Headers heading None) =
      second_strict heading false i j m p ph plain_label
      ∙ ap (Table.second_label (plain c) heading false plain_label)
      (kind_again plain_label kinds.Hdr2 label_is.kind) in
      mirrors_taken set c (block' l) (step_of (plain c) (Some (block' plain_label))) fine
      (subst (λ (z : Outcome). Mirrors c z (step_of (plain c) (Some (block' plain_label))))
      (sym wide) (subst (λ (z : Outcome). Mirrors c (passed c (Headers heading None)) z)
      (sym strict) (passed_m c (Headers heading None) (inl refl))))

  second_wanted : (heading : Heading) (i j m : ℕ) → c.position ≡ Awaits i j m
      → c.phase ≡ Header2 heading true → (y : Placed)
      → section_of set y.file y.sect ≡ Some y.section → y.file ≡ c.file
      → (h : Head1) → IsHead1 y.section.hdr1 h → heading ≡ heading_of h
      → Taken set c (block' y.section.hdr2) (Wide.step_by true c (Some (block' y.section.hdr2)))
      (step_of (plain c) (Some (block' plain_label)))
  second_wanted heading i j m p ph y found file h h_is head_is =
      let l = y.section.hdr2 in
      let told_it = form_of_it set y.file y.sect y.section is found in
      let form = told_it.0 in
      let tells : TellsWideForm form y.section = told_it.1.labels in
      let here : section_of set c.file y.sect ≡ Some y.section =
      ap (λ z. section_of set z y.sect) (sym file) ∙ found in
      let heads : tells.head ≡ h = head1_same y.section.hdr1 tells.head h tells.hdr1 h_is in
      let same : form_at heading tells.second ≡ form = ap (λ z. form_at z tells.second) head_is
      ∙ (ap (λ z. form_of z tells.second) (sym heads) ∙ tells.told) in
      let no_other : other_shape c.known (form_at heading tells.second) ≡ false =
      ap (other_shape c.known) same
      ∙ no_other_shape c.known form
      (known_form set c.file y.sect y.section form here tells c.known fine.known) in
      let at_wide : at_head2 c heading (Ok tells.second)
      ≡ passed c (Headers heading (Some (form_at heading tells.second))) = rw no_other refl in
      let wide : Wide.step_by true c (Some (block' l))
      ≡ passed c (Headers heading (Some (form_at heading tells.second))) =
      second_wide heading true i j m p ph l
      ∙ (ap (Wide.second_label c heading true l) (kind_again l kinds.Hdr2 tells.hdr2.kind)
      ∙ (ap (at_head2 c heading) (wide_again l kinds.Hdr2 tells.second tells.hdr2) ∙ at_wide)) in
      let at_strict : at_head2 (plain c) heading (Ok (second_of plain_shape))
      ≡ passed (plain c) (Headers heading (Some (form_at heading (second_of plain_shape)))) =
      rw (plain_no_other c.known heading) refl in
      let strict : step_of (plain c) (Some (block' plain_label))
      ≡ passed (plain c) (Headers heading (Some (form_at heading (second_of plain_shape)))) =
      second_strict heading true i j m p ph plain_label
      ∙ (ap (Table.second_label (plain c) heading true plain_label)
      (kind_again plain_label kinds.Hdr2 label_is.kind)
      ∙ (ap (at_head2 (plain c) heading)
      (head2_again plain_label kinds.Hdr2 (second_of plain_shape) label_is) ∙ at_strict)) in
      let reads : FileReads set c.file (form_at heading tells.second) =
      file_reads set is c.file y.sect y.section (form_at heading tells.second) here
      (subst (λ z. TellsWideForm z y.section) (sym same) tells) in
      subst (λ (z : Outcome). Taken set c (block' l) z
      (step_of (plain c) (Some (block' plain_label)))) (sym wide)
      (subst (λ (z : Outcome). Taken set c (block' l)
      (passed c (Headers heading (Some (form_at heading tells.second)))) z) (sym strict)
      (record {
        same = refl;
        same_file = refl;
        fine = record {
          known = fine.known;
          told = reads;
          begun = fine.begun;
          first = fine.first;
        };
        gives = inl ((λ q. cc), refl);
      }))

  at_second : (heading : Heading) (wanted : Bool) (i j m : ℕ) → c.position ≡ Awaits i j m
      → c.phase ≡ Header2 heading wanted → (x : Placed)
      → Inside (plain_set set) c.file sect b part k good heading wanted x
      (a_label x.section.hdr2 ∷ map a_label x.section.headers
      ++ a_mark ∷ data_group x.section.blocks ++ trailer_group x.section)
      → (h : Head1) → IsHead1 x.section.hdr1 h → heading ≡ heading_of h
      → Taken set c (item_of e) out its
  at_second heading false i j m p ph x inside h h_is head_is =
      let here = second_here heading false x inside in
      at_place x here (second_skipped heading i j m p ph here.y.section.hdr2
      (form_of_it set here.y.file here.y.sect here.y.section is here.found).1.labels.hdr2.kind)
  at_second heading true i j m p ph x inside h h_is head_is =
      let here = second_here heading true x inside in
      at_place x here (second_wanted heading i j m p ph here.y here.found
      (ap (λ z. z.file) here.same ∙ inside.chosen.0) h
      (subst (λ z. IsHead1 z.section.hdr1 h) (sym here.same) h_is) head_is)

  -- the section of the file to which the expected one belongs
  record ItsSection (w : Section) : Type 0 where
    s0 : Section
    found : section_of set c.file sect ≡ Some s0
    same : plain_section s0 ≡ w

  its_section : ItsSection aim.w
  its_section =
      let (s0, found, same) = found_back set c.file sect aim.w aim.found in
      record { s0 = s0; found = found; same = same }

  -- the expected block
  at_awaited : (heading : Heading) (form : FileForm) (seen i j m : ℕ)
      → c.position ≡ Awaits i j m → c.phase ≡ DataWanted heading form seen → (x : Placed)
      → (t : InData (plain_set set) c.file sect b part k good heading (plain_form form) seen
      c.position x) → (d : Filled) (rest : List Filled) → t.blocks ≡ d ∷ rest
      → nat_lt seen (block_of c.position) ≡ false
      → Taken set c (block' d.bytes) (Wide.step_by true c (Some (block' d.bytes)))
      (step_of (plain c) (Some (block' d.bytes)))
  at_awaited heading form seen i j m p ph x t d rest blocks here =
      let own = its_section in
      let at_it = wanted_at aim t.inside in
      let w_blocks : x.section.blocks ≡ map plain_block own.s0.blocks =
      ap (λ z. z.blocks) at_it.same ∙ ap (λ z. z.blocks) (sym own.same) in
      let whole : t.past ++ d ∷ rest ≡ map plain_block own.s0.blocks =
      ap (λ z. t.past ++ z) (sym blocks) ∙ (t.split ∙ w_blocks) in
      let (front, f, more, all, m1, d_is, m2) =
      split_map plain_block t.past d rest own.s0.blocks whole in
      let bytes : f.bytes ≡ d.bytes = ap (λ z. z.bytes) d_is in
      let numbered : length front ≡ seen =
      sym (length-map front plain_block) ∙ (ap length m1 ∙ t.numbered) in
      let full : b + good_run (drop b t.seen) ≡ seen =
      count_cases aim heading (plain_form form) seen x t here in
      let stands : c.position ≡ stopped (Awaits sect b part) sect b seen =
      t.awaited ∙ ap (λ z. stopped (Awaits sect b part) sect b z) full in
      let now : c.position ≡ awaiting sect seen =
      stopped_first c.position sect b part seen stands fine.first in
      let at = section_found set c.file sect own.s0 own.found in
      let tells : FileReads set c.file form =
      subst (λ z. AllRead set c.file (told z)) ph fine.told in
      let its_form = form_of_it set c.file sect own.s0 is own.found in
      let form_is : its_form.0 ≡ form =
      one_wide own.s0 its_form.0 form its_form.1.labels (tells sect own.s0 own.found) in
      let all_held : AllByRecursion
      (λ z. Holds form.format form.rec_len form.offset z.bytes z.parts) own.s0.blocks =
      subst (λ (z : FileForm). AllByRecursion
      (λ y. Holds z.format z.rec_len z.offset y.bytes y.parts) own.s0.blocks) form_is
      its_form.1.held in
      let held : Holds form.format form.rec_len form.offset d.bytes f.parts =
      subst (λ z. Holds form.format form.rec_len form.offset z f.parts) bytes
      (every_rest (λ z. Holds form.format form.rec_len form.offset z.bytes z.parts) front
      (f ∷ more) (subst (AllByRecursion
      (λ z. Holds form.format form.rec_len form.offset z.bytes z.parts)) (sym all) all_held)).0 in
      let end : Bool = begun_behind false (before set c.file (awaiting sect (seen + 1))) in
      let begun : begun_behind false (before set c.file (awaiting sect seen)) ≡ c.begun =
      sym (fine.begun ∙ ap (λ z. begun_behind false (before set c.file z)) now) in
      let order : InOrder c.begun f.parts end = subst (λ z. InOrder z f.parts end) begun
      (in_order_at set c.file sect own.s0 is at front more f seen all numbered) in
      let count_is : block_of c.position ≡ seen = ap block_of now in
      let few = (on_it aim x t.inside.later t.inside.among).lawful.few in
      let lengths : length t.past + length (d ∷ rest) ≡ length x.section.blocks =
      sym (length-append t.past (d ∷ rest))
      ∙ ap length (ap (λ z. t.past ++ z) (sym blocks) ∙ t.split) in
      let lt : block_of c.position < most_blocks =
      omega (arith, lengths, t.numbered, count_is, few) in
      let some_more : nat_lt (block_of c.position) most_blocks ≡ true =
      grind (arith, nat_tests) in
      let kept : content_in form.format form.rec_len form.offset d.bytes ≡ d.bytes =
      content_kept form.format form.rec_len form.offset c.begun end d.bytes
      (wide_least form own.s0 (tells sect own.s0 own.found))
      (judged_only form.format form.rec_len form.offset c.begun end d.bytes f.parts held order) in
      let wide : Wide.step_by true c (Some (block' d.bytes)) ≡ delivered c heading form end =
      wide_data heading form seen i j m p ph d.bytes
      ∙ (ap (at_data c heading form seen) kept
      ∙ data_is c heading form seen d.bytes f.parts end fine.first here some_more held order) in
      let strict : step_of (plain c) (Some (block' d.bytes))
      ≡ delivered (plain c) heading (plain_form form) false =
      strict_data heading form seen i j m p ph d.bytes
      ∙ data_is (plain c) heading (plain_form form) seen d.bytes (map byte_part d.bytes) false
      fine.first here some_more (plain_holds d.bytes) (bytes_order d.bytes) in
      let next_is : next_block c.position ≡ awaiting sect (seen + 1) = ap next_block now in
      let gives : before set c.file (next_block c.position)
      ≡ before set c.file c.position ++ f.parts =
      ap (before set c.file) next_is
      ∙ (before_more set c.file sect own.s0 at front more f seen all numbered
      ∙ ap (λ z. before set c.file z ++ f.parts) (sym now)) in
      let taken : Wide.read_as true c (block' d.bytes) ≡ block' d.bytes =
      ap (λ z. Wide.item_by z (block' d.bytes)) ph ∙ ap block' kept in
      subst (λ (z : Outcome). Taken set c (block' d.bytes) z
      (step_of (plain c) (Some (block' d.bytes)))) (sym wide)
      (subst (λ (z : Outcome). Taken set c (block' d.bytes) (delivered c heading form end) z)
      (sym strict)
      (record {
        same = refl;
        same_file = refl;
        fine = record {
          known = tells;
          told = tells;
          begun = ap (λ z. begun_behind false (before set c.file z)) (sym next_is);
          first = ap part_of next_is;
        };
        gives = inr (
          f.parts,
          record {
            answer = refl;
            bytes = d.bytes;
            form = form;
            taken = taken;
            known = refl;
            held = held;
          },
          gives,
        );
      }))
    where
      wide_data : (heading : Heading) (form : FileForm) (seen i j m : ℕ)
          → c.position ≡ Awaits i j m → c.phase ≡ DataWanted heading form seen → (l : List ℕ)
          → Wide.step_by true c (Some (block' l))
          ≡ at_data c heading form seen (content_in form.format form.rec_len form.offset l)
      wide_data heading form seen i j m p ph l = rw (p, ph) refl

      strict_data : (heading : Heading) (form : FileForm) (seen i j m : ℕ)
          → c.position ≡ Awaits i j m → c.phase ≡ DataWanted heading form seen → (l : List ℕ)
          → step_of (plain c) (Some (block' l))
          ≡ at_data (plain c) heading (plain_form form) seen l
      strict_data heading form seen i j m p ph l = rw (p, ph) refl

  at_data' : (heading : Heading) (form : FileForm) (seen i j m : ℕ)
      → c.position ≡ Awaits i j m → c.phase ≡ DataWanted heading form seen → (x : Placed)
      → (t : InData (plain_set set) c.file sect b part k good heading (plain_form form) seen
      c.position x) → (blocks : List Filled) → t.blocks ≡ blocks
      → (below : Bool) → nat_lt seen (block_of c.position) ≡ below
      → Taken set c (item_of e) out its
  at_data' heading form seen i j m p ph x t [] blocks below q =
      let its_is : a_mark ≡ e' = first_left (plain_set set) k good e' a_mark _
      (subst (λ z. Left (plain_set set) k good
      ((data_group z ++ trailer_group x.section) ++ to_come t.inside.later)) blocks t.inside.left)
      s' in
      let e_is : e ≡ a_mark = same_mark e e' a (sym its_is) ∙ sym its_is in
      by_quiet (subst (λ z. IsQuietItem c c.phase (item_of z)) (sym e_is)
      (subst (λ z. IsQuietItem c z mark) (sym ph) tt))
  at_data' heading form seen i j m p ph x t (d ∷ rest) blocks below q =
      let its_is : a_data_block d.bytes ≡ e' =
      first_left (plain_set set) k good e' (a_data_block d.bytes) _
      (subst (λ z. Left (plain_set set) k good
      ((data_group z ++ trailer_group x.section) ++ to_come t.inside.later)) blocks t.inside.left)
      s' in
      let e_is : e ≡ a_data_block d.bytes =
      same_data e e' d.bytes a (sym its_is) ∙ sym its_is in
      go below q e_is its_is
    where
      go : (t' : Bool) → nat_lt seen (block_of c.position) ≡ t' → e ≡ a_data_block d.bytes
          → a_data_block d.bytes ≡ e' → Taken set c (item_of e) out its
      go true q' e_is its_is = by_quiet (subst (λ z. IsQuietItem c c.phase (item_of z))
          (sym e_is) (subst (λ z. IsQuietItem c z (block' d.bytes)) (sym ph) q'))
      go false q' e_is its_is =
          subst (λ z. Taken set c (item_of z) (Wide.step_by true c (Some (item_of z))) its)
          (sym e_is)
          (subst (λ z. Taken set c (block' d.bytes)
          (Wide.step_by true c (Some (block' d.bytes))) (step_of (plain c) (Some (item_of z))))
          its_is (at_awaited heading form seen i j m p ph x t d rest blocks q'))

  -- the trailer label of the section needed
  closed_taken : (heading : Heading) (form : FileForm) (w : Section) (l : List ℕ)
      → section_of set c.file sect ≡ Some w → c.position ≡ awaiting sect (length w.blocks)
      → FileReads set c.file form
      → ((t : Trail1) → trail1_at l ≡ Ok t → ends_file w ≡ t.eof)
      → Closes c form (trail1_at l) (Wide.step_by true c (Some (block' l)))
      (step_of (plain c) (Some (block' l)))
      → Taken set c (block' l) (Wide.step_by true c (Some (block' l)))
      (step_of (plain c) (Some (block' l)))
  closed_taken heading form w l found now tells eof cl = go cl.ends
    where
      at : FileOf set c.file sect w
      at = section_found set c.file sect w found

      moved : (o : Bool) → ends_file w ≡ o → (z : Outcome)
          → z ≡ cond o (Complete, moved_to c Finished false form Over)
          (SectionDone, moved_to c (next_section c.position) c.begun form Over)
          → step_of (plain c) (Some (block' l)) ≡ plain_out z
          → Taken set c (block' l) z (step_of (plain c) (Some (block' l)))
      moved true f z z_is same =
          let closed = whole_closed set c.file sect w is at in
          let last : length at.sections ≡ at.sect_at.place + 1 =
          elim (ends_at at.sections at.sect_at.place w
          (readable_file set c.file sect w is at).ends at.sect_at.found) [
            | inl x ↦ x.1
            | inr x ↦ absurd (let q = sym x.0 ∙ f in cc q)
          ] in
          subst (λ (y : Outcome). Taken set c (block' l) y (step_of (plain c) (Some (block' l))))
          (sym z_is)
          (record {
            same = same ∙ ap plain_out z_is;
            same_file = refl;
            fine = record { known = tells; told = tt; begun = sym closed; first = refl };
            gives = inl (
              (λ q. cc q),
              before_end set c.file sect w at last ∙ ap (before set c.file) (sym now),
            );
          })
      moved false f z z_is same =
          let next_is : next_section c.position ≡ awaiting (sect + 1) 0 = ap next_section now in
          let same_before : before set c.file (next_section c.position)
          ≡ before set c.file c.position =
          ap (before set c.file) next_is
          ∙ (before_next set c.file sect w at ∙ ap (before set c.file) (sym now)) in
          subst (λ (y : Outcome). Taken set c (block' l) y (step_of (plain c) (Some (block' l))))
          (sym z_is)
          (record {
            same = same ∙ ap plain_out z_is;
            same_file = refl;
            fine = record {
              known = tells;
              told = tt;
              begun = fine.begun ∙ ap (λ z. begun_behind false z) (sym same_before);
              first = ap part_of next_is;
            };
            gives = inl ((λ q. cc q), same_before);
          })

      go : Still c (Wide.step_by true c (Some (block' l)))
          ⊎ ((t : Trail1) × (trail1_at l ≡ Ok t) × (Wide.step_by true c (Some (block' l))
          ≡ cond t.eof (Complete, moved_to c Finished false form Over)
          (SectionDone, moved_to c (next_section c.position) c.begun form Over)))
          → Taken set c (block' l) (Wide.step_by true c (Some (block' l)))
          (step_of (plain c) (Some (block' l)))
      go (inl still) = still_taken set c (block' l) (Wide.step_by true c (Some (block' l)))
          (step_of (plain c) (Some (block' l))) (by_one_file true c (Some (block' l))).file fine
          still cl.same
      go (inr (t, reads, moves)) = moved t.eof (eof t reads)
          (Wide.step_by true c (Some (block' l))) moves cl.same

  at_trailer : (heading : Heading) (form : FileForm) (i j m : ℕ) → c.position ≡ Awaits i j m
      → c.phase ≡ TrailerWanted heading form → (x : Placed)
      → AtTrailer (plain_set set) c.file sect b part k good heading (plain_form form) c.position x
      → Taken set c (item_of e) out its
  at_trailer heading form i j m p ph x t =
      let own = its_section in
      let at_it = wanted_at aim t.inside in
      let l = x.section.trailer in
      let lawful = (on_it aim x t.inside.later t.inside.among).lawful.trailer in
      let its_is : a_label l ≡ e' = first_left (plain_set set) k good e' (a_label l) _
      t.inside.left s' in
      let e_is : e ≡ a_label l =
      same_trailer e e' l lawful.0.eof lawful.1.label.kind a (sym its_is) ∙ sym its_is in
      let size : length x.section.blocks ≡ length own.s0.blocks =
      ap (λ z. length z.blocks) (at_it.same ∙ sym own.same)
      ∙ length-map own.s0.blocks plain_block in
      let now : c.position ≡ awaiting sect (length own.s0.blocks) =
      stopped_first c.position sect b part (length own.s0.blocks)
      (t.awaited ∙ ap (λ z. stopped (Awaits sect b part) sect b z) size) fine.first in
      let tells : FileReads set c.file form =
      subst (λ z. AllRead set c.file (told z)) ph fine.told in
      let trailer_is : own.s0.trailer ≡ l =
      ap (λ z. z.trailer) (own.same ∙ sym at_it.same) in
      let eof : (u : Trail1) → trail1_at l ≡ Ok u → ends_file own.s0 ≡ u.eof = λ u reads.
      let both : Ok lawful.0 ≡ Ok u = sym (trail1_again l lawful.0 lawful.1.label) ∙ reads in
      let same : lawful.0 ≡ u = cc both in
      ends_as own.s0 lawful.0 (subst (λ z. IsTrail1 z lawful.0) (sym trailer_is) lawful.1.label)
      ∙ ap (λ (z : Trail1). z.eof) same in
      let at = section_found set c.file sect own.s0 own.found in
      let closed : (u : Trail1) → trail1_at l ≡ Ok u → u.eof ≡ true → c.begun ≡ false =
      λ u reads last. begun_closed own.s0 at (eof u reads ∙ last) now in
      let done = closed_taken heading form own.s0 l own.found now tells eof
      (trailer_step c heading form l i j m p ph closed) in
      subst (λ z. Taken set c (item_of z) (Wide.step_by true c (Some (item_of z))) its)
      (sym e_is)
      (subst (λ z. Taken set c (block' l) (Wide.step_by true c (Some (block' l)))
      (step_of (plain c) (Some (item_of z)))) its_is done)
    where
      begun_closed : (w : Section) → (at : FileOf set c.file sect w) → ends_file w ≡ true
          → c.position ≡ awaiting sect (length w.blocks) → c.begun ≡ false
      begun_closed w at f now =
          let last : length at.sections ≡ at.sect_at.place + 1 =
          elim (ends_at at.sections at.sect_at.place w
          (readable_file set c.file sect w is at).ends at.sect_at.found) [
            | inl x ↦ x.1
            | inr x ↦ absurd (let q = sym x.0 ∙ f in cc q)
          ] in
          fine.begun ∙ (ap (λ z. begun_behind false (before set c.file z)) now
          ∙ (ap (λ z. begun_behind false z) (sym (before_end set c.file sect w at last))
          ∙ whole_closed set c.file sect w is at))

  by_phase : (phase : Phase) → c.phase ≡ phase
      → Follows (plain_set set) c.file sect b part k (plain_phase phase) c.position good
      → (q : Position) → c.position ≡ q → Taken set c (item_of e) out its
  by_phase (Header2 heading wanted) ph f (Awaits i j m) p =
      let (wait, x, inside, h, h_is, head_is) = f in
      at_second heading wanted i j m p ph x inside h h_is head_is
  by_phase (DataWanted heading form seen) ph f (Awaits i j m) p =
      at_data' heading form seen i j m p ph f.0 f.1 f.1.blocks refl
      (nat_lt seen (block_of c.position)) refl
  by_phase (TrailerWanted heading form) ph f (Awaits i j m) p =
      at_trailer heading form i j m p ph f.0 f.1
  by_phase phase ph f Finished p = mirrors_taken set c (item_of e) its fine
      (finished_step c (item_of e) (item_of e') p)
  by_phase phase ph f (Awaits i j m) p =
      by_quiet (subst (λ z. IsQuietItem c z (item_of e)) (sym ph) (quiet_label c phase e refl))

  readable_taken : Taken set c (item_of e) out its
  readable_taken = by_phase c.phase refl r.follows c.position refl

-- ---- any item of a volume

-- After one more item the reader follows the volume of the valid set, and the parts that were
-- delivered are the next parts of the file.
pub record Stepped (set : FileSet) (p : Position) (k : ℕ) (good : List Bool) (c : State)
    (x : TapeItem) : Type 0 where
  pub reads : IsReading (plain_set set) p k good (plain (Wide.step_by true c (Some x)).1)
  pub same_file : (Wide.step_by true c (Some x)).1.file ≡ c.file
  pub fine : Fine set (Wide.step_by true c (Some x)).1
  pub gives : GivesParts set c x (Wide.step_by true c (Some x))

pub stepped_by : (set : FileSet) (p : Position) (k : ℕ) (good : List Bool) (c : State)
    (x y : TapeItem) → IsReading (plain_set set) p k good (step_of (plain c) (Some y)).1
    → Taken set c x (Wide.step_by true c (Some x)) (step_of (plain c) (Some y))
    → Stepped set p k good c x
stepped_by set p k good c x y reads t = record {
  reads = subst (λ (z : Outcome). IsReading (plain_set set) p k good z.1) t.same reads;
  same_file = t.same_file;
  fine = t.fine;
  gives = t.gives;
}

taken_from : (set : FileSet) → IsReadable set → (p : Position) (k : ℕ) (v : Volume)
    → nth set.volumes k ≡ Some v → (good : List Bool) (g : Bool) (c : State) → Fine set c
    → IsReading (plain_set set) p k good (plain c) → (e e' : Entry)
    → slice_get (entries set k) (length good) ≡ Some e
    → slice_get (entries (plain_set set) k) (length good) ≡ Some e' → IsAlike e e'
    → Taken set c (cond g (item_of e) bad) (Wide.step_by true c (Some (cond g (item_of e) bad)))
    (step_of (plain c) (Some (cond g (item_of e') bad)))
taken_from set is p k v vol good false c fine r e e' s s' a =
    mirrors_taken set c bad (step_of (plain c) (Some bad)) fine (quiet_step c bad bad tt tt)
taken_from set is Finished k v vol good true c fine r e e' s s' a =
    mirrors_taken set c (item_of e) (step_of (plain c) (Some (item_of e'))) fine
    (finished_step c (item_of e) (item_of e') r.follows)
taken_from set is (Awaits sect b part) k v vol good true c fine r e e' s s' a =
    readable_taken set is c fine sect b part k v vol good r e s e' s' a

pub next_item : (set : FileSet) → IsReadable set → (p : Position) (k : ℕ) (v : Volume)
    → nth set.volumes k ≡ Some v → (good : List Bool) (g : Bool) (c : State) → Fine set c
    → IsReading (plain_set set) p k good (plain c) → (e : Entry)
    → slice_get (entries set k) (length good) ≡ Some e
    → Stepped set p k (good ++ g ∷ []) c (cond g (item_of e) bad)
next_item set is p k v vol good g c fine r e s =
    let (e', s', a) = alike_at (entries set k) (entries (plain_set set) k) (length good) e
    (entries_alike set is k) s in
    let kept = step_keeps (plain_set set) p k v good g e' (plain c) (plain_lawful set is) vol s' r in
    stepped_by set p k (good ++ g ∷ []) c (cond g (item_of e) bad) (cond g (item_of e') bad)
    kept.reads (taken_from set is p k v vol good g c fine r e e' s s' a)
