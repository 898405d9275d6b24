-- After a change of the volume the set written so far is still a draft of a valid, tight set.
use Rattle.tape_writer.proofs.Words.{◌≡◌, ◌<◌, ◌≤◌, ℕ, ◌+◌, List, [], ◌∷◌, ◌++◌, length, Bool, true}
use Rattle.tape_writer.proofs.Words.{false, Some, refl, sym, ap, ◌∙◌, subst, append_assoc, arith}
use Rattle.tape_writer.proofs.Words.{length-append, map, slice_get, AllByRecursion, map-append}
use Rattle.tape_writer.proofs.Words.{append-nil, Vol1, block, mark, Filled, Placed, Volume, a_mark}
use Rattle.tape_writer.proofs.Words.{numbered, all_numbered, on, all_entries, section_entries}
use Rattle.tape_writer.proofs.Words.{item_of, group_of, IsSection, used_before, IsTightChange}
use Rattle.tape_writer.proofs.Volumes.{snoc_same, all_push, chain_push, each_push}
use Rattle.tape_writer.proofs.Volumes.{chain_behind_push, numbered-push, all_numbered-push, on_none}
use Rattle.tape_writer.proofs.Sections.{section_items, section_is, of_file, ends_by, header_size}
use Rattle.tape_writer.proofs.Words.{items_size-append, IsWideVolume, every}
use Rattle.tape_writer.proofs.Volumes.{body_here, first_same, first_next}
use Rattle.tape_writer.proofs.Sections.{trailer_size, vol1_size, used_is}
use Rattle.tape_set.specs.Lawful.{GoesOn, StartsOnFirst}
use Rattle.tape_set.specs.Tight.{takes_end, takes_next, IsTightEnd}
use Rattle.tape_writer.specs.declared.{course.Opened.Opened, course.Course.Course}
use Rattle.tape_writer.specs.Labels.{volume_label, header_items, trailer_items}
use Rattle.tape_writer.specs.Told.{labelled, IsWithin}
use Rattle.tape_writer.specs.Draft.{Draft, placed, body, first_volumes, closing, here}
use Rattle.tape_writer.specs.Draft.{body_items, open_items, ended_volumes, IsDone, IsGoing, OfLast}
use Rattle.tape_writer.specs.Draft.{Within, changed_course}
use Rattle.std.proofs.lemmas.Bool.{eq-eqb}
use Rattle.tape_writer.proofs.Drafts.{changed_draft, ended_draft}

-- one more section
pub sects_next : (file : Opened) (course : Course) (d : Draft) (eof : Bool)
    → file.head.sequence ≡ length d.files + 1 → course.sect ≡ length d.sects + 1
    → all_numbered 1 d.files ++ numbered (length d.files + 1) 1 (d.sects ++ closing file
    course.volume course.sect d.blocks eof ∷ []) ≡ placed d ++ here file course d.blocks eof ∷ []
sects_next file course d eof f s = rw (
  numbered-push (length d.files + 1) 1 d.sects
      (closing file course.volume course.sect d.blocks eof) course.sect (omega arith),
  f,
  append_assoc,
)

pub files_next : (file : Opened) (course : Course) (d : Draft)
    → file.head.sequence ≡ length d.files + 1 → course.sect ≡ length d.sects + 1
    → placed (ended_draft file course d) ≡ placed d ++ here file course d.blocks true ∷ []
files_next file course d f s = rw (
  append-nil,
  all_numbered-push 1 d.files
      (d.sects ++ closing file course.volume course.sect d.blocks true ∷ []) (length d.files + 1)
      (omega arith),
) (sects_next file course d true f s)

-- after one more section, it is the last one
pub last_is : (xs zs : List Placed) (y : Placed) (P : List Placed → Placed → Type 0)
    → zs ≡ xs ++ y ∷ [] → P xs y → OfLast zs P
last_is xs zs y P e p ys x g =
    let same = snoc_same xs ys y x (sym e ∙ g) in
    subst (λ z. P z x) same.0 (subst (λ z. P xs z) same.1 p)

first_push : (xs : List Placed) (y : Placed) → StartsOnFirst xs → (xs ≡ [] → y.section.volume ≡ 1)
    → StartsOnFirst (xs ++ y ∷ [])
first_push [] y h k = k refl
first_push (x ∷ xs) y h k = h

pub not_nil : {A : Type 0} (xs : List A) (x : A) → xs ++ x ∷ [] ≡ [] → ⊥
not_nil [] x e = cc
not_nil (y ∷ xs) x e = cc

-- the number of the current section has four digits
pub number_fits : {vs : List Volume} {cap : ℕ} {set_id : List ℕ} {file : Opened} {course : Course}
    {next : List Filled} {d : Draft} → length vs ≤ 9999
    → Within vs cap set_id file course next d → (1 ≤ course.sect) × (course.sect ≤ 9999)
number_fits few w = (omega (arith, w.sect), omega (arith, w.sect_most, w.few, few))

-- the current section is finished
pub done_push : (vs : List Volume) (cap : ℕ) (set_id : List ℕ) (m : ℕ) (file : Opened)
    (course : Course) (d : Draft) (eof : Bool) → length vs ≤ 9999 → cap ≤ 4294967295
    → Within vs cap set_id file course d.blocks d → d.past + 1 ≤ m
    → (eof ≡ true → takes_end cap course.used ≡ true)
    → IsDone vs cap set_id m (placed d ++ here file course d.blocks eof ∷ [])
done_push vs cap set_id m file course d eof few most w le room =
    let x : Placed = here file course d.blocks eof in
    let number = number_fits few w in
    let used : course.used ≡ used_before vs (placed d) x.section =
    w.used ∙ used_is vs (placed d) file course d.blocks eof d.past w.volume in
    record {
      each = all_push (IsSection set_id m) (placed d) x
          (every (IsSection set_id (d.past + 1)) (IsSection set_id m)
          (λ x h. record {
            header = h.header;
            trailer = h.trailer;
            volume = (h.volume.0, omega (arith, h.volume.1, le));
            few = h.few;
            sized = h.sized;
          }) (placed d) w.done.each)
          (section_is set_id m file course d.blocks eof w.ready w.of_set (omega (arith, w.volume))
          (omega (arith, w.volume, le)) (omega (arith, w.count, w.count_most, w.room, most))
          number w.sized);
      first = first_push (placed d) x w.done.first (λ e. omega (arith, w.volume, w.fresh e));
      chain = chain_push GoesOn (placed d) x w.done.chain w.goes;
      ends = each_push (IsTightEnd vs cap) [] (placed d) x w.done.ends record {
        volume_end = rw used at w.room;
        file_end = λ e. rw (← used)
            (room (sym (ends_by file course d.blocks eof w.ready number) ∙ e));
      };
      changes = chain_behind_push (IsTightChange vs cap) [] (placed d) x w.done.changes w.change;
    }

-- the items after a section's end
pub body_ended : (vs : List Volume) (file : Opened) (course : Course) (d : Draft) (eof : Bool)
    → course.volume ≡ d.past + 1 → course.count ≡ length d.blocks
    → map item_of (body vs (placed d ++ here file course d.blocks eof ∷ []) d.past)
    ≡ open_items vs file course d ++ trailer_items file course.sect course.count eof
body_ended vs file course d eof v c =
    let x : Placed = here file course d.blocks eof in
    rw (
      body_here vs (placed d) x d.past v,
      map-append item_of (body vs (placed d) d.past)
          (section_entries x.section),
      section_items file course d.blocks eof,
      c,
    ) (simp append_assoc)

-- the volumes that ended, after a change
pub ended_changed : (vs : List Volume) (file : Opened) (course : Course) (d : Draft)
    → file.head.sequence ≡ length d.files + 1 → course.sect ≡ length d.sects + 1
    → course.volume ≡ d.past + 1 → course.count ≡ length d.blocks
    → ended_volumes vs (changed_draft file course d) ≡ ended_volumes vs d ++ (open_items vs file
    course d ++ trailer_items file course.sect course.count false ++ mark ∷ []) ∷ []
ended_changed vs file course d f s v c =
    let x : Placed = here file course d.blocks false in
    ap (λ z. first_volumes vs z (d.past + 1)) (sects_next file course d false f s)
    ∙ rw (
      first_next vs (placed d ++ x ∷ []) d.past,
      first_same vs (placed d) x d.past (omega arith),
      map-append item_of (body vs (placed d ++ x ∷ []) d.past) (a_mark ∷ []),
      body_ended vs file course d false v c,
    )

-- a new volume contains only its label
pub body_new : (vs : List Volume) (xs : List Placed) (k : ℕ) (v : Vol1)
    → AllByRecursion (λ x. x.section.volume < k + 1) xs → slice_get vs k ≡ Some (labelled v)
    → map item_of (body vs xs k) ≡ block (volume_label v) ∷ []
body_new vs xs k v h g = ap (λ z. map item_of (group_of z ++ all_entries (on (k + 1) xs))) g
    ∙ ap (λ z. block (volume_label v) ∷ map item_of (all_entries z)) (on_none (k + 1) xs h)

-- the volumes of the sections have begun
below : (set_id : List ℕ) (n : ℕ) (xs : List Placed) → AllByRecursion (IsSection set_id n) xs
    → AllByRecursion (λ x. x.section.volume < n + 1) xs
below set_id n xs h = every (IsSection set_id n)
    (λ x. x.section.volume < n + 1) (λ x k. omega (arith, k.volume.1)) xs h

-- after a section on volume n, every section is before volume n + 1
before_next : (set_id : List ℕ) (n : ℕ) (xs : List Placed) (x : Placed)
    → AllByRecursion (IsSection set_id n) xs → x.section.volume ≡ n
    → AllByRecursion (λ y. y.section.volume < n + 1) (xs ++ x ∷ [])
before_next set_id n xs x h e =
    all_push (λ y. y.section.volume < n + 1) xs x (below set_id n xs h) (omega (arith, e))

-- **the volume is changed**: the next section will begin with the given blocks
pub changed : (vs : List Volume) (cap : ℕ) (set_id : List ℕ)
    (file : Opened) (course : Course) (d : Draft) (next : List Filled) (v : Vol1)
    → IsWideVolume v → length vs ≤ 9999 → 460 ≤ cap → cap ≤ 4294967295
    → Within vs cap set_id file course d.blocks d → takes_next cap course.used next ≡ false
    → course.volume < length vs → slice_get vs course.volume ≡ Some (labelled v)
    → Within vs cap set_id file (changed_course course) next (changed_draft file course d)
changed vs cap set_id file course d next v wide few capacity most w refused more g =
    let x : Placed = here file course d.blocks false in
    let number = number_fits few w in
    let all : placed (changed_draft file course d) ≡ placed d ++ x ∷ [] =
    sects_next file course d false w.sequence w.sect in
    let used : course.used ≡ used_before vs (placed d) x.section =
    w.used ∙ used_is vs (placed d) file course d.blocks false d.past w.volume in
    let ended = ended_changed vs file course d w.sequence w.sect w.volume w.count in
    let new : body_items vs (changed_draft file course d) ≡ block (volume_label v) ∷ [] =
    ap (λ z. map item_of (body vs z (d.past + 1))) all
    ∙ body_new vs (placed d ++ x ∷ []) (d.past + 1) v (before_next set_id (d.past + 1) (placed d) x
    w.done.each w.volume) (rw w.volume at g) in
    let size = vol1_size v wide in
    let header = header_size file (course.sect + 1) w.ready
    (omega arith, omega (arith, w.sect_most, more, few)) in
    let trailer = trailer_size file course.sect course.count false w.ready number in
    let full = items_size-append (open_items vs file course d
    ++ trailer_items file course.sect course.count false) (mark ∷ []) in
    let front = items_size-append (open_items vs file course d)
    (trailer_items file course.sect course.count false) in
    record {
      ready = w.ready;
      of_set = w.of_set;
      sequence = w.sequence;
      volume = ap (λ n. n + 1) w.volume;
      few = omega (arith, more);
      sect = omega (
        arith,
        w.sect,
        length-append d.sects (closing file course.volume course.sect d.blocks false ∷ []),
      );
      sect_most = omega (arith, w.sect_most);
      count = refl;
      count_most = omega arith;
      sized = tt;
      done = rw all (done_push vs cap set_id (d.past + 1 + 1) file course d false few most w
          (omega arith) (λ e. absurd cc));
      goes = last_is (placed d) (placed (changed_draft file course d)) x
          (λ ys y. GoesOn y (here file (changed_course course) [] true)) all
          (rw (eq-eqb file.head.sequence file.head.sequence refl) refl);
      fresh = λ e. absurd (not_nil (placed d) x (sym all ∙ e));
      change = last_is (placed d) (placed (changed_draft file course d)) x
          (λ ys y. IsTightChange vs cap ys y (here file (changed_course course) next true)) all
          (rw (eq-eqb file.head.sequence file.head.sequence refl, ← used) refused);
      going = rw (numbered-push file.head.sequence 1 d.sects x.section course.sect
          (omega (arith, w.sect)))
          (all_push (IsGoing file) (numbered file.head.sequence 1 d.sects) x w.going (
            of_file file course d.blocks false number,
            ends_by file course d.blocks false w.ready number,
          ));
      within = rw ended (all_push (IsWithin cap) (ended_volumes vs d) _ w.within
          (omega (arith, full, front, trailer, w.used, w.room)));
      used = rw new (omega (arith, size, header));
      room = omega (arith, capacity);
    }

-- the current volume after a change
pub open_changed : (vs : List Volume) (set_id : List ℕ)
    (file : Opened) (course : Course) (d : Draft) (v : Vol1)
    → AllByRecursion (IsSection set_id (d.past + 1)) (placed d)
    → file.head.sequence ≡ length d.files + 1 → course.sect ≡ length d.sects + 1
    → course.volume ≡ d.past + 1 → slice_get vs course.volume ≡ Some (labelled v)
    → open_items vs file (changed_course course) (changed_draft file course d)
    ≡ block (volume_label v) ∷ header_items file (course.sect + 1)
open_changed vs set_id file course d v each f s k g =
    let x : Placed = here file course d.blocks false in
    rw (
      sects_next file course d false f s,
      body_new vs (placed d ++ x ∷ []) (d.past + 1) v
          (before_next set_id (d.past + 1) (placed d) x each k) (rw k at g),
    )
