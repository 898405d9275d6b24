-- The bytes that a writer writes encode its items.
use Rattle.std.proofs.Common.{◌≡◌, ℕ, ◌+◌, ◌<◌, ◌≤◌, ◌%◌, ◌^◌, Bool, true, false, List, [], ◌∷◌}
use Rattle.std.proofs.Common.{◌++◌, length, replicate, Option, Some, None, Ok, Err, refl, sym, ap}
use Rattle.std.proofs.Common.{◌∙◌, arith, append_assoc, append-nil, length-append}
use Rattle.std.proofs.{lemmas.Bool.Decides.nat_tests, lemmas.List.length-replicate}
use Rattle.std.specs.{Prelude.MatchBool, List.flat_map, Io.KnownBytes.Appends}
use Rattle.byteorder.specs.Endian.{little_bytes, little_number}
use Rattle.byteorder.specs.Numbers.{little_number-reads_back}
use Rattle.tape_image.specs.Spelling.{IsSpelling, a_mark, a_block, Leads}
use Rattle.tape_image.specs.Written.{written, written_block, is_no_block}
use Rattle.tape_image.specs.Writer.{Writer, Standing, writing, finished, broken, PutsAll, PutsSome}
use Rattle.tape_image.specs.Writer.{PutsFrom, BlockFrom, PutItem, PutItems, FailItem, WrittenSpells}
use Rattle.tape_image.specs.Writer.{FailedHoldsFront}
use Rattle.tape_image.specs.{declared.item.ImageWriteFault.TheVariants.Device, Tape.TapeItem}
use Rattle.tape_image.specs.{Tape.block, Tape.bad, Tape.mark, Word.IsWord, Word.mark_word}
use Rattle.tape_image.specs.{Word.end_word, Word.block_len, declared.item.Ending.TheVariants.Marked}
use Rattle.tape_image.proofs.Leads.{Leads-nil, Leads-then, Leads-before, Leads-trans}

-- the four bytes of a word encode the word
pub word_bytes : (w : ℕ) → w < 256 ^ 4 → IsWord (little_bytes 4 w) w
word_bytes w h = grind (arith, little_number, append-nil, little_bytes, little_number-reads_back)

block_word : (n : ℕ) → 0 < n → n ≤ 99999 → block_len n ≡ Some n
block_word n some few = grind (arith, nat_tests)

-- the bytes written for a block are an encoding of it
pub block_spelled : (content : List ℕ) → is_no_block content ≡ false
    → IsSpelling (written_block content) (block content ∷ [])
block_spelled content is =
    let some : 0 < length content = grind (arith, nat_tests, is) in
    let few : length content ≤ 99999 = grind (arith, nat_tests, is) in
    let word = word_bytes (length content) (omega arith) in
    a_block (length content) content (block_word (length content) some few)
    (record {
      lead = little_bytes 4 (length content);
      pad = replicate (length content % 2) 0;
      trail = little_bytes 4 (length content);
      whole = refl;
      lead_is = word;
      pad_is = length-replicate (length content % 2) 0;
      trail_is = word;
    })
    (grind (arith, nat_tests, few))

pub mark_spelled : IsSpelling (written mark) (mark ∷ [])
mark_spelled = a_mark (word_bytes mark_word (omega arith)) refl

-- the bytes written for a bad block are an encoding of it
pub bad_spelled : IsSpelling (written bad) (bad ∷ [])
bad_spelled = a_block 0x80000001 (0 ∷ []) refl
    (record {
      lead = 1 ∷ 0 ∷ 0 ∷ 128 ∷ [];
      pad = 0 ∷ [];
      trail = 1 ∷ 0 ∷ 0 ∷ 128 ∷ [];
      whole = refl;
      lead_is = record { four = refl; value = refl };
      pad_is = refl;
      trail_is = record { four = refl; value = refl };
    })
    refl

-- a call that returned Ok wrote all the bytes
pub put_all : (s after : Standing) (bytes : List ℕ) (old new : Writer)
    → PutsFrom s bytes after old (Ok tt) new → PutsAll bytes after old new
put_all writing after bytes old new h = h
put_all finished after bytes old new (e, _) = absurd (cc e)
put_all broken after bytes old new (e, _) = absurd (cc e)

put_long : (ok : Bool) (content : List ℕ) (old new : Writer) (P : Type 0) → ok ≡ is_no_block content
    → (P → ⊥) → MatchBool ok P (PutsAll (written_block content) writing old new)
    → (is_no_block content ≡ false) × PutsAll (written_block content) writing old new
put_long true content old new P is never h = absurd (never h)
put_long false content old new P is never h = (sym is, h)

put_block : (s : Standing) (content : List ℕ) (old new : Writer)
    → BlockFrom s content old (Ok tt) new
    → (is_no_block content ≡ false) × PutsAll (written_block content) writing old new
put_block writing content old new h = grind (arith, put_long)
put_block finished content old new (e, _) = absurd (cc e)
put_block broken content old new (e, _) = absurd (cc e)

pub put_item : (item : TapeItem) (old new : Writer) → PutItem item old new
    → IsSpelling (written item) (item ∷ []) × PutsAll (written item) writing old new
put_item (block content) old new h =
    let (is, all) = put_block old.standing content old new h in (block_spelled content is, all)
put_item bad old new h = (bad_spelled, put_all old.standing writing _ old new h)
put_item mark old new h = (mark_spelled, put_all old.standing writing _ old new h)

-- contents that are known stay known after an append
pub known_after : (old new : Option (List ℕ)) (xs bytes : List ℕ) → old ≡ Some xs
    → Appends old new bytes → new ≡ Some (xs ++ bytes)
known_after None new xs bytes e h = absurd (cc e)
known_after (Some ys) None xs bytes e h = absurd h
known_after (Some ys) (Some zs) xs bytes e h = let same : ys ≡ xs = cc in cc

-- the calls for the items wrote one encoding of each
put_items : (items : List TapeItem) (old new : Writer) (before : List ℕ)
    → old.contents ≡ Some before → PutItems items old new
    → (new.contents ≡ Some (before ++ flat_map written items)) × Leads (flat_map written
    items) items [] × (new.size ≡ old.size + length (flat_map written items))
put_items [] old new before known same = grind (arith, append-nil, Leads-nil)
put_items (item ∷ items) old new before known (mid, put, then) =
    let (spelled, all) = put_item item old mid put in
    let here = known_after old.contents mid.contents before (written item) known all.wrote in
    let (there, leads, size) = put_items items mid new (before ++ written item) here then in
    let first : Leads (written item) (item ∷ []) [] =
    Leads-then [] (written item) [] (item ∷ []) (Leads-nil []) spelled in (
      there ∙ ap Some (append_assoc before (written item) (flat_map written items)),
      Leads-trans (written item ++ flat_map written items)
          (flat_map written items) [] (item ∷ []) items
          (Leads-before (written item) [] (flat_map written items) (item ∷ []) first) leads,
      omega (arith, size, all.size, length-append (written item) (flat_map written items)),
    )

same_some : (left : Option (List ℕ)) (ys zs : List ℕ) → left ≡ Some ys → left ≡ Some zs → zs ≡ ys
same_some left ys zs a b = cc

pub written_spells : WrittenSpells
written_spells old mid new items before after known end puts done =
    let (there, leads, size) = put_items items old mid before known puts in
    let all = put_all mid.standing finished (little_bytes 4 end_word) mid new done in
    let bytes = flat_map written items ++ little_bytes 4 end_word in
    let last = known_after mid.contents new.contents (before ++ flat_map written items)
    (little_bytes 4 end_word) there all.wrote in (
      bytes,
      same_some new.contents (before ++ bytes) after (last
          ∙ ap Some (append_assoc before (flat_map written items) (little_bytes 4 end_word))) end,
      refl,
      record {
        rest = little_bytes 4 end_word;
        leads = Leads-before (flat_map written items) [] (little_bytes 4 end_word) items leads;
        ending = Marked;
        ended = (omega arith, refl);
      },
      omega (
        arith,
        size,
        all.size,
        length-append (flat_map written items) (little_bytes 4 end_word),
      ),
    )

-- the bytes that a failed call wrote: none if the device had failed before, otherwise a prefix
pub record FailsWith (bytes : List ℕ) (old new : Writer) : Type 0 where
  pub front : List ℕ
  pub rest : List ℕ
  pub wrote : (xs : List ℕ) → old.contents ≡ Some xs → new.contents ≡ Some (xs ++ front)
  pub is : bytes ≡ front ++ rest
  pub size : new.size ≡ old.size

some_fails : (bytes : List ℕ) (old new : Writer) → PutsSome bytes old new → FailsWith bytes old new
some_fails bytes old new p = grind (arith, known_after)

none_fails : (bytes : List ℕ) (old new : Writer) → new ≡ old → FailsWith bytes old new
none_fails bytes old new same = grind (arith, append-nil)

put_fails : (s after : Standing) (bytes : List ℕ) (old new : Writer)
    → PutsFrom s bytes after old (Err Device) new → FailsWith bytes old new
put_fails writing after bytes old new p = some_fails bytes old new p
put_fails finished after bytes old new (e, _) = absurd (cc e)
put_fails broken after bytes old new (e, same) = none_fails bytes old new same

long_fails : (ok : Bool) (content : List ℕ) (old new : Writer) (P : Type 0) → (P → ⊥)
    → MatchBool ok P (PutsSome (written_block content) old new)
    → FailsWith (written_block content) old new
long_fails true content old new P never h = absurd (never h)
long_fails false content old new P never p = some_fails (written_block content) old new p

block_fails : (s : Standing) (content : List ℕ) (old new : Writer)
    → BlockFrom s content old (Err Device) new → FailsWith (written_block content) old new
block_fails writing content old new p = grind (arith, long_fails)
block_fails finished content old new (e, _) = absurd (cc e)
block_fails broken content old new (e, same) = none_fails (written_block content) old new same

pub item_fails : (item : TapeItem) (old new : Writer) → FailItem item old new
    → FailsWith (written item) old new
item_fails (block content) old new h = block_fails old.standing content old new h
item_fails bad old new h = put_fails old.standing writing (written bad) old new h
item_fails mark old new h = put_fails old.standing writing (written mark) old new h

pub failed_holds : FailedHoldsFront
failed_holds old mid new items item before after known end puts fails =
    let (there, _, size) = put_items items old mid before known puts in
    let f = item_fails item mid new fails in (
      f.front,
      f.rest,
      same_some new.contents (before ++ (flat_map written items ++ f.front)) after
          (f.wrote (before ++ flat_map written items) there
          ∙ ap Some (append_assoc before (flat_map written items) f.front)) end,
      f.is,
      f.size ∙ size,
    )
