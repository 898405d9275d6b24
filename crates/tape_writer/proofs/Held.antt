-- The steps of the writer, with the contents of the tapes.
use Rattle.tape_writer.proofs.Words.{◌≡◌, ◌<◌, ◌≤◌, ℕ, ◌+◌, List, [], ◌∷◌, ◌++◌, length, false}
use Rattle.tape_writer.proofs.Words.{Some, refl, sym, ap, ◌∙◌, append_assoc, arith, get_or, map}
use Rattle.tape_writer.proofs.Words.{slice_get, option_map, append-nil, length-map, Vol1, TapeItem}
use Rattle.tape_writer.proofs.Words.{block, Filled, Section, blocks_of_all, item_size, every_at}
use Rattle.tape_writer.proofs.Words.{IsWideVolume, AllByRecursion, least_capacity, Packing, Given}
use Rattle.tape_writer.proofs.{Words.Shape, Changed.changed, Changed.ended_changed}
use Rattle.tape_writer.proofs.{Changed.open_changed, Steps.added, Steps.goes_on, Steps.open_added}
use Rattle.std.proofs.lemmas.Option.{slice_get-map, slice_get_within, slice_get-get_or}
use Rattle.std.proofs.lemmas.Grind.{flat_map-append}
use Rattle.tape_set.specs.Tight.{takes_next}
use Rattle.tape_writer.specs.Draft.{Draft, open_blocks, closing, changed_course, IsOpen}
use Rattle.tape_writer.specs.{declared.course.Opened.Opened, declared.course.Course.Course}
use Rattle.tape_writer.specs.{Inside.Flushed, Inside.HasPlace, Told.labelled}
use Rattle.tape_writer.specs.Tapes.{Tapes, UnderWay}
use Rattle.tape_writer.proofs.Drafts.{changed_draft, changed_tapes, added_draft, added_course}

pub label_at : (vs : List Vol1) (k : ℕ) (v : Vol1) → slice_get vs k ≡ Some v
    → slice_get (map labelled vs) k ≡ Some (labelled v)
label_at vs k v e = slice_get-map labelled vs k ∙ ap (option_map labelled) e

pub in_range : (vs : List Vol1) (k : ℕ) (v : Vol1) → slice_get vs k ≡ Some v
    → k < length (map labelled vs)
in_range vs k v e = omega (arith, slice_get_within vs k v e, length-map vs labelled)

pub blocks_next : (ss : List Section) (s : Section)
    → blocks_of_all (ss ++ s ∷ []) ≡ blocks_of_all ss ++ s.blocks
blocks_next ss s = flat_map-append (λ x. x.blocks) ss (s ∷ [])
    ∙ ap (λ z. blocks_of_all ss ++ z) (append-nil s.blocks)

pub got : (vs : List Vol1) (k n : ℕ) (v : Vol1) → k ≡ n → k < length vs → v ≡ get_or vs k v
    → slice_get vs n ≡ Some v
got vs k n v e h g = ap (slice_get vs) (sym e) ∙ (slice_get-get_or vs k v h ∙ ap Some (sym g))

-- a block fits on an empty volume
pub fits_next : (p : Packing) (shape : Shape) (text : List ℕ) (cap : ℕ) → p.shape ≡ shape
    → Given p text → least_capacity shape ≤ cap → 268 + item_size (block text) + 192 ≤ cap
fits_next p shape text cap same given room =
    omega (arith, ap (λ s. s.block_len) same, room, given.within)

module _ {H K : Tapes → Type 0} {vs : List Vol1} {cap : ℕ} {set_id : List ℕ} {file : Opened}
    {course : Course} {d : Draft} where
  -- the next blocks may be written after a change of the volume
  pub place_next : (next : List Filled) (v : Vol1) → AllByRecursion IsWideVolume vs
      → length vs ≤ 9999 → 460 ≤ cap → cap ≤ 4294967295 → takes_next cap course.used next ≡ false
      → slice_get vs course.volume ≡ Some v → ((volumes : List (List TapeItem))
      (items : List TapeItem) → H (UnderWay volumes items)
      → K (changed_tapes file course v volumes items)) → IsOpen H vs cap set_id file course d
      → HasPlace K vs cap set_id file (changed_course course) next d
  place_next next v wide few least most due there put o =
      let w = o.steady.inside in
      let label = label_at vs course.volume v there in
      let ended = ended_changed (map labelled vs) file course d w.sequence w.sect w.volume
      w.count in
      let begun = open_changed (map labelled vs) set_id file course d v w.done.each w.sequence
      w.sect w.volume label in
      record {
        draft = changed_draft file course d;
        within = changed (map labelled vs) cap set_id file course d next v
            (every_at IsWideVolume vs course.volume v wide there)
            (omega (arith, few, length-map vs labelled)) least most w due
            (in_range vs course.volume v there) label;
        held = rw (ended, begun) (put _ _ o.held);
        files = refl;
        blocks = ap (λ z. z ++ []) (blocks_next d.sects
            (closing file course.volume course.sect d.blocks false)) ∙ append-nil (open_blocks d);
      }

  -- a block is written
  pub written : {p : Packing} {text : List ℕ} → Given p text → p.shape ≡ file.shape
      → course.used + item_size (block text) + 192 ≤ cap → ((volumes : List (List TapeItem))
      (items : List TapeItem) → H (UnderWay volumes items)
      → K (UnderWay volumes (items ++ block text ∷ [])))
      → HasPlace H vs cap set_id file course (record { bytes = text; parts = p.parts } ∷ []) d
      → Flushed K vs cap set_id file (added_course course (item_size (block text))) d p
  written {p} {text} given same fits put k =
      let b : Filled = record { bytes = text; parts = p.parts } in
      let most = k.within.ready.writable.most in
      record {
        draft = added_draft k.draft b;
        text = text;
        given = given;
        is_open = record {
          steady = added (map labelled vs) cap set_id file course k.draft b (
            given.some_bytes,
            omega (arith, given.within, most, ap (λ s. s.block_len) same),
          ) k.within fits;
          held = rw (open_added (map labelled vs) file course k.draft b (item_size (block text)))
              (put _ _ k.held);
        };
        files = k.files;
        blocks = sym (append_assoc (blocks_of_all k.draft.sects) k.draft.blocks (b ∷ []))
            ∙ ap (λ z. z ++ b ∷ []) k.blocks;
      }

-- the next blocks may be written in the current section
pub place_here : {H : Tapes → Type 0} {vs : List Vol1} {cap : ℕ} {set_id : List ℕ} {file : Opened}
    {course : Course} {d : Draft} (next : List Filled) → IsOpen H vs cap set_id file course d
    → HasPlace H vs cap set_id file course next d
place_here {d = d} next o = record {
  draft = d;
  within = goes_on _ _ _ _ _ d next o.steady;
  held = o.held;
  files = refl;
  blocks = refl;
}
