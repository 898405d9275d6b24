-- The beginnings and ends of files and of the set.
use Rattle.tape_writer.proofs.Words.{◌≡◌, ◌≢◌, ◌<◌, ◌≤◌, ℕ, ◌+◌, List, [], ◌∷◌, ◌++◌, length, true}
use Rattle.tape_writer.proofs.Words.{false, inl, inr, refl, sym, ap, ◌∙◌, arith, map, get_or}
use Rattle.tape_writer.proofs.Words.{AllByRecursion, TapeItem, block, mark, Vol1, every_at, Packing}
use Rattle.tape_writer.proofs.Words.{Section, Placed, item_of, group_of, blocks_of_all, items_size}
use Rattle.tape_writer.proofs.Words.{least_capacity, IsWideVolume, append-nil, length-map}
use Rattle.tape_writer.proofs.Sections.{vol1_size, of_file, ends_by}
use Rattle.tape_writer.proofs.{Steps.begun, Steps.ended, Held.label_at, Held.got, Held.blocks_next}
use Rattle.tape_writer.proofs.{Changed.number_fits, Filed.filed, Filed.filed_push, Filed.filed_many}
use Rattle.tape_writer.proofs.Finish.{written_set}
use Rattle.tape_blocks.proofs.RunLaws.{run_begins}
use Rattle.tape_writer.specs.declared.{course.Opened.Opened, course.Course.Course}
use Rattle.tape_writer.specs.Tapes.{Tapes, Ended, UnderWay, all_volumes}
use Rattle.tape_writer.specs.Told.{labelled, Told, AreFiled, IsWrittenSet}
use Rattle.tape_writer.specs.Draft.{Draft, Within, open_blocks, closing, body_items}
use Rattle.tape_writer.specs.Labels.{IsReady, volume_label, header_items, trailer_items}
use Rattle.tape_writer.specs.Inside.{IsFlat, IsBetween, IsFiling, HasPlace, IsWaiting}
use Rattle.tape_writer.proofs.Drafts.{begun_course, ended_draft, ended_course}

-- the file ends
pub file_ended : {H H' K : Tapes → Type 0} {vs : List Vol1} {cap : ℕ} {set_id : List ℕ}
    {file : Opened} {old course : Course} {fs : List (List Section)}
    {records : List (List ℕ)} (past : List Told) → length vs ≤ 9999 → cap ≤ 4294967295
    → least_capacity file.shape ≤ cap → course.used + 556 ≤ cap → AreFiled cap past fs
    → (flat : IsFlat H vs cap set_id file old fs records)
    → ((volumes : List (List TapeItem)) (items : List TapeItem) → H' (UnderWay volumes items)
    → K (UnderWay volumes (items ++ trailer_items file course.sect course.count true)))
    → HasPlace H' vs cap set_id file course [] flat.draft
    → IsBetween K vs cap set_id (ended_course course)
    (past ++ record { file = file; records = records } ∷ [])
file_ended {vs = vs} {cap = cap} {set_id = set_id} {file = file} {course = course} {fs = fs}
    {records = records} past few most least room a flat put k =
    let d = k.draft in
    let last : Section = closing file course.volume course.sect d.blocks true in
    let w : Within (map labelled vs) cap set_id file course d.blocks d =
    rw (append-nil d.blocks) at k.within in
    let e = ended (map labelled vs) cap set_id file course d
    (omega (arith, few, length-map vs labelled)) most w (omega (arith, room)) in
    let number = number_fits (omega (arith, few, length-map vs labelled)) w in
    record {
      draft = ended_draft file course d;
      resting = record { between = e.0; held = rw (e.1, e.2) (put _ _ k.held) };
      filed = rw (k.files ∙ flat.files) (filed_push cap past fs
          (record { file = file; records = records }) (d.sects ++ last ∷ []) a
          (filed cap file records (open_blocks flat.draft) d.sects last course.sect w.ready least
          flat.lengths flat.tight w.sect w.going (of_file file course d.blocks true number)
          (ends_by file course d.blocks true w.ready number)
          (blocks_next d.sects last ∙ k.blocks)));
    }

abbrev pub no_draft : Draft
no_draft = record { files = []; sects = []; blocks = []; past = 0 }

none : (ys : List Placed) (x : Placed) → [] ≡ ys ++ x ∷ [] → ⊥
none [] x e = cc
none (y ∷ ys) x e = cc

pub between_first : {H K : Tapes → Type 0} {vs : List Vol1} {cap : ℕ} {set_id : List ℕ}
    {course : Course} {v : Vol1} (old : Course) (told : List Told) → old.volume ≡ 0 → 1024 ≤ cap
    → 0 < length vs → v ≡ get_or vs 0 v → AllByRecursion IsWideVolume vs
    → course ≡ record old { volume = old.volume + 1; used = 88 }
    → ((tapes : Tapes) → H tapes → K (UnderWay (all_volumes tapes) (block (volume_label v) ∷ [])))
    → IsWaiting H vs cap set_id old told → IsBetween K vs cap set_id course told
between_first old told fresh room some is wide n put (inr (k, x)) =
    absurd (omega (arith, fresh, k.resting.between.volume))
between_first {vs = vs} {course = course} {v = v} old told fresh room some is wide n put
    (inl (begun, h, empty)) =
    let g = got vs 0 0 v refl some is in
    let one : course.volume ≡ 0 + 1 = ap (λ z. z.volume) n ∙ ap (λ k. k + 1) fresh in
    let used : course.used ≡ 88 = ap (λ z. z.used) n in
    let body : body_items (map labelled vs) no_draft ≡ block (volume_label v) ∷ [] =
    ap (λ z. map item_of (group_of z ++ [])) (label_at vs 0 v g) in
    let size = vol1_size v (every_at IsWideVolume vs 0 v wide g) in
    rw empty (record {
      draft = no_draft;
      filed = tt;
      resting = record {
        held = rw body (put (Ended []) h);
        between = record {
          no_sects = refl;
          no_blocks = refl;
          volume = one;
          few = omega (arith, one, some, length-map vs labelled);
          done = record { each = tt; first = tt; chain = tt; ends = tt; changes = tt };
          last = λ ys x e. absurd (none ys x e);
          fresh = λ e. refl;
          within = tt;
          used = used ∙ (omega (arith, size) ∙ ap items_size (sym body));
          room = omega (arith, used, room);
        };
      };
    })

pub filing_begun : {H K : Tapes → Type 0} {vs : List Vol1} {cap : ℕ} {set_id : List ℕ}
    {file : Opened} {course : Course} {p : Packing} {told : List Told}
    → IsReady file → file.head.set_id ≡ set_id → file.head.sequence ≡ length told + 1
    → p ≡ record { shape = file.shape; parts = []; begun = false; closed = false }
    → ((volumes : List (List TapeItem)) (items : List TapeItem) → H (UnderWay volumes items)
    → K (UnderWay volumes (items ++ header_items file 1))) → IsBetween H vs cap set_id course told
    → IsFiling K vs cap set_id file (begun_course course) p told []
filing_begun {vs = vs} {cap = cap} {set_id = set_id} {file = file} {course = course} {p = p}
    {told = told} ready s f e put k =
    let b = begun (map labelled vs) cap set_id file course k.draft k.resting.between ready s
    (f ∙ ap (λ z. z + 1) (filed_many cap told k.draft.files k.filed)) in
    let none : open_blocks k.draft ≡ [] =
    ap (λ z. blocks_of_all z ++ k.draft.blocks) k.resting.between.no_sects
    ∙ k.resting.between.no_blocks in
    record {
      files = k.draft.files;
      filed = k.filed;
      inside = record {
        draft = k.draft;
        is_open = record { steady = b.0; held = rw b.1 (put _ _ k.resting.held) };
        files = refl;
        shape = ap (λ (z : Packing). z.shape) e;
        ended = ap (λ (z : Packing). z.begun) e;
        run = λ i. rw none (run_begins p i (ap (λ (z : Packing). z.parts) e)
            (ap (λ (z : Packing). z.begun) e) (ap (λ (z : Packing). z.closed) e));
        lengths = tt;
      };
    }

pub end_written : {H H1 H2 : Tapes → Type 0} {vs : List Vol1} {cap : ℕ} {set_id : List ℕ}
    {course : Course} {told : List Told} → AllByRecursion IsWideVolume vs
    → ((volumes : List (List TapeItem)) (items : List TapeItem) → H (UnderWay volumes items)
    → H1 (UnderWay volumes (items ++ mark ∷ []))) → ((tapes : Tapes) → H1 tapes
    → H2 (Ended (all_volumes tapes))) → IsBetween H vs cap set_id course told × (told ≢ [])
    → IsWrittenSet H2 vs cap set_id told
end_written {H2 = H2} {vs = vs} {cap = cap} {set_id = set_id} {course = course} {told = told} wide
    put close (k, some) = written_set H2 vs cap set_id course k.draft told wide some
    k.resting.between k.filed (close (UnderWay _ _) (put _ _ k.resting.held))
