-- Images, one volume after another.
use Rattle.tape_writer.proofs.Words.{◌≡◌, ◌≢◌, ℕ, ◌+◌, List, [], ◌∷◌, ◌++◌, Bool, true, false}
use Rattle.tape_writer.proofs.Words.{Option, Some, inl, inr, None, Ok, Err, length, ◌%◌, refl, sym}
use Rattle.tape_writer.proofs.Words.{ap, ◌∙◌, arith, length-append, TapeItem, block, mark}
use Rattle.tape_writer.proofs.Words.{Writer, writing, items_size, item_size, items_size-append}
use Rattle.std.proofs.Common.{replicate, append-nil, MatchBool}
use Rattle.std.proofs.lemmas.List.{length-replicate}
use Rattle.byteorder.specs.Endian.{little_bytes}
use Rattle.tape_image.specs.Writer.{Standing, finished, broken, Puts, PutsFrom, BlockFrom, PutItem}
use Rattle.tape_image.specs.{declared.item.Ending.TheVariants.Marked, Word.end_word}
use Rattle.tape_image.specs.{Written.written, Written.is_no_block}
use Rattle.tape_image.specs.{declared.item.ImageWriteFault.ImageWriteFault}
use Rattle.tape_image.proofs.Leads.{Leads-nil, Leads-then, Leads-before}
use Rattle.tape_image.proofs.WrittenItems.{put_item, put_all, known_after}
use Rattle.tape_writer.specs.Tapes.{Tapes, Ended, UnderWay, all_volumes}
use Rattle.tape_writer.specs.Images.{IsNext, IsImageSoFar, IsImageOf, AreImagesOf, AreImages}
use Rattle.tape_image.specs.declared.item.ImageWriteFault.TheVariants as faults

-- an open writer has written exactly the items
contents_open : (items : List TapeItem) (w : Writer) (s : IsImageSoFar items w)
    → w.standing ≡ writing → w.contents ≡ Some s.bytes
contents_open items w s is =
    s.contents ∙ ap Some (ap (λ r. s.bytes ++ r) (s.whole is) ∙ append-nil s.bytes)

not_writing : (w : Writer) → w.standing ≡ writing → w.standing ≢ finished
not_writing w a b = cc

-- the encoding written for a block has the size of the block
block_size : (content : List ℕ) → length (written (block content)) ≡ item_size (block content)
block_size content =
    let n = length content in
    omega (
      arith,
      length-append (little_bytes 4 n) (content ++ (replicate (n % 2) 0 ++ little_bytes 4 n)),
      length-append content (replicate (n % 2) 0 ++ little_bytes 4 n),
      length-append (replicate (n % 2) 0) (little_bytes 4 n),
      length-replicate {A = ℕ} (n % 2) 0,
    )

size_push : (items : List TapeItem) (item : TapeItem)
    → items_size (items ++ item ∷ []) ≡ items_size items + item_size item
size_push items item =
    let both : items_size (items ++ item ∷ []) ≡ items_size items + (item_size item + 0) =
    items_size-append items (item ∷ []) in
    omega (arith, both)

nothing_more : (next : List ℕ) × (rest : List ℕ) × IsNext next × (next ≡ [] ++ rest)
nothing_more = (little_bytes 4 end_word, little_bytes 4 end_word, inl refl, refl)

-- one more item
pub one_more : (item : TapeItem) (items : List TapeItem) (old new : Writer) → old.standing ≡ writing
    → length (written item) ≡ item_size item → PutItem item old new → IsImageSoFar items old
    → IsImageSoFar (items ++ item ∷ []) new
one_more item items old new is long put s =
    let (spelled, all) = put_item item old new put in
    let there = known_after old.contents new.contents s.bytes (written item)
    (contents_open items old s is) all.wrote in
    record {
      bytes = s.bytes ++ written item;
      more = [];
      contents = there ∙ ap Some (sym (append-nil (s.bytes ++ written item)));
      leads = Leads-then s.bytes (written item) items (item ∷ []) s.leads spelled;
      size = omega (arith, all.size, s.size, length-append s.bytes (written item));
      sized = omega (
        arith,
        s.sized,
        long,
        size_push items item,
        length-append s.bytes (written item),
      );
      open_at = not_writing new all.stands;
      whole = λ _. refl;
      front = nothing_more;
    }

-- the end-of-medium marker
ended : (items : List TapeItem) (old new : Writer) → old.standing ≡ writing
    → PutsFrom old.standing (little_bytes 4 end_word) finished old (Ok tt) new
    → IsImageSoFar items old
    → (bytes : List ℕ) × (new.contents ≡ Some bytes) × IsImageOf items bytes
ended items old new is put s =
    let all = put_all old.standing finished (little_bytes 4 end_word) old new put in (
      s.bytes ++ little_bytes 4 end_word,
      known_after old.contents new.contents s.bytes (little_bytes 4 end_word)
          (contents_open items old s is) all.wrote,
      record {
        spells = record {
          rest = little_bytes 4 end_word;
          leads = Leads-before s.bytes [] (little_bytes 4 end_word) items s.leads;
          ending = Marked;
          ended = (omega arith, refl);
        };
        sized = omega (arith, s.sized, length-append s.bytes (little_bytes 4 end_word));
      },
    )

-- only an open writer returns Ok
put_open : (s after : Standing) (bytes : List ℕ) (old new : Writer)
    → PutsFrom s bytes after old (Ok tt) new → s ≡ writing
put_open writing after bytes old new h = refl
put_open finished after bytes old new (e, _) = absurd (cc e)
put_open broken after bytes old new (e, _) = absurd (cc e)

block_open : (s : Standing) (content : List ℕ) (old new : Writer)
    → BlockFrom s content old (Ok tt) new → s ≡ writing
block_open writing content old new h = refl
block_open finished content old new (e, _) = absurd (cc e)
block_open broken content old new (e, _) = absurd (cc e)

-- one image more
one_image : (vs : List (List TapeItem)) (bs : List (List ℕ)) (items : List TapeItem)
    (bytes : List ℕ) → AreImagesOf vs bs → IsImageOf items bytes
    → AreImagesOf (vs ++ items ∷ []) (bs ++ bytes ∷ [])
one_image [] [] items bytes a i = (i, tt)
one_image [] (b ∷ bs) items bytes a i = absurd a
one_image (v ∷ vs) [] items bytes a i = absurd a
one_image (v ∷ vs) (b ∷ bs) items bytes (x, a) i = (x, one_image vs bs items bytes a i)

-- an empty image
started : (w : Writer) → w.standing ≡ writing → w.size ≡ 0 → w.contents ≡ Some []
    → IsImageSoFar [] w
started w stands size contents = record {
  bytes = [];
  more = [];
  contents = contents;
  leads = Leads-nil [];
  size = size;
  sized = refl;
  open_at = not_writing w stands;
  whole = λ _. refl;
  front = nothing_more;
}

-- a call that was refused: the items are unchanged, followed by a prefix of the bytes that it was
-- to write
put_refused : (bytes : List ℕ) (after s : Standing) (items : List TapeItem) (old new : Writer)
    (f : ImageWriteFault) → old.standing ≡ s → IsNext bytes
    → PutsFrom s bytes after old (Err f) new → IsImageSoFar items old → IsImageSoFar items new
put_refused bytes after finished items old new f is next (e, same) so = rw same so
put_refused bytes after broken items old new f is next (e, same) so = rw same so
put_refused bytes after writing items old new faults.TooLong is next (long, same) so = rw same so
put_refused bytes after writing items old new faults.BlockLength is next none so = absurd none
put_refused bytes after writing items old new faults.Finished is next none so = absurd none
put_refused bytes after writing items old new faults.Device is next p so = record {
  bytes = so.bytes;
  more = p.some;
  contents = known_after old.contents new.contents so.bytes p.some (contents_open items old so is)
      p.wrote;
  leads = so.leads;
  size = p.size ∙ so.size;
  sized = so.sized;
  open_at = λ e. (let f : broken ≡ finished = sym p.stands ∙ e in cc);
  whole = λ e. absurd (let f : broken ≡ writing = sym p.stands ∙ e in cc);
  front = (bytes, p.rest, next, p.front);
}

block_refused : (content : List ℕ) (s : Standing) (items : List TapeItem) (old new : Writer)
    (f : ImageWriteFault) → old.standing ≡ s → BlockFrom s content old (Err f) new
    → IsImageSoFar items old → IsImageSoFar items new
block_refused content finished items old new f is (e, same) so = rw same so
block_refused content broken items old new f is (e, same) so = rw same so
block_refused content writing items old new f is put so = go _ (is_no_block content) put
  where
    go : (X : Type 0) (b : Bool) → MatchBool b (X × (new ≡ old))
        (Puts (written (block content)) writing old (Err f) new) → IsImageSoFar items new
    go X true (e, same) = rw same so
    go X false p = put_refused (written (block content)) writing writing items old new f is
        (inr (block content, refl)) p so

-- the relation between a store and the images that it received
abbrev StoreHolds : Type 1
StoreHolds = Bool → List (List ℕ) → Type 0

-- an image that is written is the current one
no_image : {A : Type 0} (image : Option Writer) (u : Writer) → image ≡ Some u → image ≡ None → A
no_image image u a b = absurd cc

module _ (H : StoreHolds) (image other : Option Writer) (u w : Writer) (there : image ≡ Some u)
    (here : other ≡ Some w) where
  -- the image of the tapes after a change
  become : (volumes : List (List TapeItem)) (items more : List TapeItem)
      → (IsImageSoFar items u → IsImageSoFar more w)
      → AreImages H image (UnderWay volumes items) → AreImages H other (UnderWay volumes more)
  become volumes items more step (s, h) = (rw here (step (rw there at s)), h)

  pub block_at : (content : List ℕ) (volumes : List (List TapeItem)) (items : List TapeItem)
      → BlockFrom u.standing content u (Ok tt) w → AreImages H image (UnderWay volumes items)
      → AreImages H other (UnderWay volumes (items ++ block content ∷ []))
  block_at content volumes items put = become volumes items (items ++ block content ∷ [])
      (one_more (block content) items u w (block_open u.standing content u w put)
      (block_size content) put)

  pub mark_at : (volumes : List (List TapeItem)) (items : List TapeItem)
      → PutsFrom u.standing (written mark) writing u (Ok tt) w
      → AreImages H image (UnderWay volumes items)
      → AreImages H other (UnderWay volumes (items ++ mark ∷ []))
  mark_at volumes items put = become volumes items (items ++ mark ∷ [])
      (one_more mark items u w (put_open u.standing writing (written mark) u w put) refl put)

  -- the image of the tapes after a call was refused
  kept_at : (tapes : Tapes) → ((items : List TapeItem) → IsImageSoFar items u
      → IsImageSoFar items w) → AreImages H image tapes → AreImages H other tapes
  kept_at (Ended volumes) keeps (e, _) = no_image image u there e
  kept_at (UnderWay volumes items) keeps a = become volumes items items (keeps items) a

  pub block_kept : (content : List ℕ) (f : ImageWriteFault) (tapes : Tapes)
      → BlockFrom u.standing content u (Err f) w → AreImages H image tapes
      → AreImages H other tapes
  block_kept content f tapes put =
      kept_at tapes (λ items so. block_refused content u.standing items u w f refl put so)

  pub put_kept : (bytes : List ℕ) (after : Standing) (f : ImageWriteFault) (tapes : Tapes)
      → IsNext bytes → PutsFrom u.standing bytes after u (Err f) w → AreImages H image tapes
      → AreImages H other tapes
  put_kept bytes after f tapes next put =
      kept_at tapes (λ items so. put_refused bytes after u.standing items u w f refl next put so)

-- the image of the tapes after its end-of-medium marker was written and it was passed to the store
pub end_at : (H H' : StoreHolds) (image other : Option Writer) (u w : Writer) (tapes : Tapes)
    → image ≡ Some u → other ≡ None
    → PutsFrom u.standing (little_bytes 4 end_word) finished u (Ok tt) w
    → ((images : List (List ℕ)) (bytes : List ℕ) → H true images → w.contents ≡ Some bytes
    → H' false (images ++ bytes ∷ []))
    → AreImages H image tapes → AreImages H' other (Ended (all_volumes tapes))
end_at H H' image other u w (Ended volumes) there gone put keep (e, _) = no_image image u there e
end_at H H' image other u w (UnderWay volumes items) there gone put keep (s, h) =
    let at = put_open u.standing finished (little_bytes 4 end_word) u w put in
    let (bytes, contents, is) = ended items u w at put (rw there at s) in (
      gone,
      record {
        images = h.images ++ bytes ∷ [];
        held = keep h.images bytes h.held contents;
        spelled = one_image volumes h.images items bytes h.spelled is;
      },
    )

-- the next image begins
pub begun_at : (H H' : StoreHolds) (image : Option Writer) (w : Writer) (k : Option (List ℕ))
    (volumes : List (List TapeItem))
    → w ≡ record { size = 0; standing = writing; contents = k }
    → ((images : List (List ℕ)) → H false images → (k ≡ Some []) × H' true images)
    → AreImages H image (Ended volumes) → AreImages H' (Some w) (UnderWay volumes [])
begun_at H H' image w k volumes new lent (_, h) =
    let (empty, held) = lent h.images h.held in (
      started w (ap (λ x. x.standing) new) (ap (λ x. x.size) new)
          (ap (λ x. x.contents) new ∙ empty),
      record { images = h.images; held = held; spelled = h.spelled },
    )
