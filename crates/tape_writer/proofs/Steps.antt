-- After each step of the writer the set written so far is still a draft of a valid, tight set.
use Rattle.tape_writer.proofs.Words.{◌≡◌, ◌<◌, ◌≤◌, ℕ, ◌+◌, List, [], ◌∷◌, ◌++◌, length, true, refl}
use Rattle.tape_writer.proofs.Words.{sym, ap, ◌∙◌, inl, append_assoc, arith, length-append, map}
use Rattle.tape_writer.proofs.Words.{map-append, append-nil, block, Filled, Placed, Volume, item_of}
use Rattle.tape_writer.proofs.Changed.{files_next, last_is, not_nil, done_push, body_ended}
use Rattle.tape_writer.proofs.Words.{item_size, IsTightChange, items_size-append, ne_eqb}
use Rattle.tape_writer.proofs.Volumes.{all_push, first_same}
use Rattle.tape_writer.proofs.{Sections.header_size, Sections.trailer_size, Changed.number_fits}
use Rattle.tape_writer.specs.Draft.{Draft, placed, body, first_volumes, data_item, closing, here}
use Rattle.tape_writer.specs.Draft.{body_items, open_items, ended_volumes, OfLast, Between, Within}
use Rattle.tape_writer.specs.Draft.{Steady}
use Rattle.tape_writer.specs.{declared.course.Opened.Opened, declared.course.Course.Course}
use Rattle.tape_writer.specs.Labels.{IsReady, header_items, trailer_items}
use Rattle.std.proofs.lemmas.Bool.{le-leb}
use Rattle.tape_writer.proofs.Drafts.{ended_draft, added_draft, added_course, ended_course}
use Rattle.tape_writer.proofs.Drafts.{begun_course}

pub open_added :
    (vs : List Volume) (file : Opened) (course : Course) (d : Draft) (b : Filled) (n : ℕ)
    → open_items vs file (added_course course n) (added_draft d b)
    ≡ open_items vs file course d ++ block b.bytes ∷ []
open_added vs file course d b n =
    ap (λ z. body_items vs d ++ header_items file course.sect ++ z) (map-append data_item
    d.blocks (b ∷ []))
    ∙ sym (append_assoc (body_items vs d ++ header_items file course.sect) (map data_item d.blocks)
    (block b.bytes ∷ []))

pub added : (vs : List Volume) (cap : ℕ) (set_id : List ℕ)
    (file : Opened) (course : Course) (d : Draft) (b : Filled)
    → (0 < length b.bytes) × (length b.bytes ≤ 99999)
    → Within vs cap set_id file course (d.blocks ++ b ∷ []) d
    → course.used + item_size (block b.bytes) + 192 ≤ cap
    → Steady vs cap set_id file (added_course course (item_size (block b.bytes))) (added_draft d b)
added vs cap set_id file course d b sized w fits = record {
  begins = λ e. absurd (not_nil d.blocks b e);
  inside = record {
    ready = w.ready;
    of_set = w.of_set;
    sequence = w.sequence;
    volume = w.volume;
    few = w.few;
    sect = w.sect;
    sect_most = w.sect_most;
    count = omega (arith, w.count, length-append d.blocks (b ∷ []));
    count_most = omega (arith, w.count_most);
    sized =
        all_push (λ z. (0 < length z.bytes) × (length z.bytes ≤ 99999)) d.blocks b w.sized sized;
    done = w.done;
    goes = w.goes;
    fresh = w.fresh;
    change = w.change;
    going = w.going;
    within = w.within;
    used = rw (open_added vs file course d b (item_size (block b.bytes))) (omega (
      arith,
      w.used,
      items_size-append (open_items vs file course d) (block b.bytes ∷ []),
    ));
    room = fits;
  };
}

-- if blocks are appended to the current section, the change of volumes before the section was still
-- required
pub goes_on : (vs : List Volume) (cap : ℕ) (set_id : List ℕ) (file : Opened) (course : Course)
    (d : Draft) (next : List Filled) → Steady vs cap set_id file course d
    → Within vs cap set_id file course (d.blocks ++ next) d
goes_on vs cap set_id file course d next s = record {
  ready = s.inside.ready;
  of_set = s.inside.of_set;
  sequence = s.inside.sequence;
  sized = s.inside.sized;
  volume = s.inside.volume;
  few = s.inside.few;
  sect = s.inside.sect;
  sect_most = s.inside.sect_most;
  count = s.inside.count;
  count_most = s.inside.count_most;
  done = s.inside.done;
  goes = s.inside.goes;
  fresh = s.inside.fresh;
  going = s.inside.going;
  within = s.inside.within;
  used = s.inside.used;
  room = s.inside.room;
  change = λ ys x e. go d.blocks ys x (s.inside.change ys x e) (λ n. s.begins n ys x e);
}
  where
    go : (bs : List Filled) (ys : List Placed) (x : Placed)
        → IsTightChange vs cap ys x (here file course bs true)
        → (bs ≡ [] → x.file ≡ file.head.sequence → ⊥)
        → IsTightChange vs cap ys x (here file course (bs ++ next) true)
    go [] ys x h n = rw (ne_eqb x.file file.head.sequence (n refl))
        (rw (ne_eqb x.file file.head.sequence (n refl)) at h)
    go (c ∷ bs) ys x h n = h

-- **a file ends**
pub ended : (vs : List Volume) (cap : ℕ) (set_id : List ℕ)
    (file : Opened) (course : Course) (d : Draft)
    → length vs ≤ 9999 → cap ≤ 4294967295
    → Within vs cap set_id file course d.blocks d → course.used + 184 + 372 ≤ cap
    → Between vs cap set_id (ended_course course) (ended_draft file course d)
    × (body_items vs (ended_draft file course d)
    ≡ open_items vs file course d ++ trailer_items file course.sect course.count true)
    × (ended_volumes vs (ended_draft file course d) ≡ ended_volumes vs d)
ended vs cap set_id file course d few most w room =
    let x : Placed = here file course d.blocks true in
    let number = number_fits few w in
    let all : placed (ended_draft file course d) ≡ placed d ++ x ∷ [] =
    files_next file course d w.sequence w.sect in
    let items : body_items vs (ended_draft file course d)
    ≡ open_items vs file course d ++ trailer_items file course.sect course.count true =
    ap (λ z. map item_of (body vs z d.past)) all
    ∙ body_ended vs file course d true w.volume w.count in
    let volumes : ended_volumes vs (ended_draft file course d) ≡ ended_volumes vs d =
    ap (λ z. first_volumes vs z d.past) all
    ∙ first_same vs (placed d) x d.past (omega (arith, w.volume)) in (
      record {
        no_sects = refl;
        no_blocks = refl;
        volume = w.volume;
        few = w.few;
        done = rw all (done_push vs cap set_id (d.past + 1) file course d true few most w
            (omega arith) (λ e. le-leb _ _ room));
        last = last_is (placed d) (placed (ended_draft file course d)) x (λ ys y. (y.file
            ≡ length (ended_draft file course d).files) × (y.section.volume ≡ course.volume)) all (
              w.sequence ∙ sym (length-append d.files
                  ((d.sects ++ closing file course.volume course.sect d.blocks true ∷ []) ∷ [])),
              refl,
            );
        fresh = λ e. absurd (not_nil (placed d) x (sym all ∙ e));
        within = rw volumes w.within;
        used = rw items (omega (
          arith,
          w.used,
          trailer_size file course.sect course.count true w.ready number,
          items_size-append (open_items vs file course d)
              (trailer_items file course.sect course.count true),
        ));
        room = omega (arith, room);
      },
      items,
      volumes,
    )

-- **a file begins**
pub begun : (vs : List Volume) (cap : ℕ) (set_id : List ℕ)
    (file : Opened) (course : Course) (d : Draft)
    → Between vs cap set_id course d → IsReady file → file.head.set_id ≡ set_id
    → file.head.sequence ≡ length d.files + 1 → Steady vs cap set_id file (begun_course course) d
    × (open_items vs file (begun_course course) d ≡ body_items vs d ++ header_items file 1)
begun vs cap set_id file course d w r s f =
    let items : open_items vs file (begun_course course) d
    ≡ body_items vs d ++ header_items file 1 =
    ap (λ z. body_items vs d ++ header_items file 1 ++ map data_item z) w.no_blocks
    ∙ append-nil (body_items vs d ++ header_items file 1) in
    let other : OfLast (placed d) (λ ys x. (x.file ≡ file.head.sequence) → ⊥) =
    λ ys x e n. absurd (omega (arith, (w.last ys x e).0, n, f)) in (
      record {
        begins = λ e. other;
        inside = record {
          ready = r;
          of_set = s;
          sequence = f;
          volume = w.volume;
          few = w.few;
          sect = ap (λ z. length z + 1) (sym w.no_sects);
          sect_most = omega (arith, w.volume);
          count = ap length (sym w.no_blocks);
          count_most = omega arith;
          sized = rw w.no_blocks tt;
          done = w.done;
          goes = λ ys x e. rw (ne_eqb x.file file.head.sequence (other ys x e))
              (inl (sym (w.last ys x e).1));
          fresh = w.fresh;
          change = λ ys x e. rw (ne_eqb x.file file.head.sequence (other ys x e))
              (sym (w.last ys x e).1);
          going = rw w.no_sects tt;
          within = w.within;
          used = rw items (omega (
            arith,
            w.used,
            header_size file 1 r (omega arith, omega arith),
            items_size-append (body_items vs d) (header_items file 1),
          ));
          room = omega (arith, w.room);
        };
      },
      items,
    )
