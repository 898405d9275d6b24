-- The records that are complete in the blocks that were read.
use Rattle.std.proofs.Common.{◌≡◌, ◌≢◌, ℕ, Bool, true, false, List, [], ◌∷◌, ◌++◌, refl, sym, ap}
use Rattle.std.proofs.Common.{subst, ◌∙◌, arith, append-nil, append_assoc, Ok, Some, if◌then◌else◌}
use Rattle.std.proofs.Common.{◌≤◌}
use Rattle.std.specs.List.{AllByRecursion}
use Rattle.tape_blocks.specs.{Block.Portion, Block.Holds, Judged.judged, Tight.Filled}
use Rattle.tape_blocks.specs.Spans.{continues, leaves, InOrder}
use Rattle.tape_blocks.proofs.{OwnLaws.judged_only, Wide.content_kept}
use Rattle.tape_label.specs.declared.values.Format.{Format}
use Rattle.tape_label.specs.declared.values.Format.TheVariants.{Fixed, Counted, Spanned}
use Rattle.tape_label.specs.declared.values.Format.TheVariants.{Undefined, Variable}
use Rattle.tape_set.specs.Lawful.{FileForm}
use Rattle.tape_core.specs.Parts.{goes_on_at}
use Rattle.tape_core.proofs.BlockLaws.{parts_in_it, first_begun}
use Rattle.tape_run.specs.SalvageRecords.{Piece, with_part, with_parts, torn, mended}
use Rattle.tape_run.specs.SalvageRecords.{mended_by, mended_in, begun_at, judged_at, content_for}
use Rattle.tape_run.specs.SalvageWhole.{Blocks, parts_of_block, parts_with, all_parts, whole_from}
use Rattle.tape_run.specs.SalvageWhole.{piece_after, IsBlock, RecoversWhole, AllWhole}

-- The meaning of a part for the unfinished record, whose parts so far were all read or not.
pub data Follows (p : Piece) (begun : Bool) (front : List Portion) (all : Bool) : Type 0 where
  -- no part of the unfinished record is missing
  on : p.torn ≡ false → p.begun ≡ begun → p.front ≡ front → all ≡ true → Follows p begun front all
  -- a part of the unfinished record is missing
  within : p.torn ≡ true → p.front ≡ [] → begun ≡ true → all ≡ false → Follows p begun front all
  -- no record is unfinished after something that is missing
  behind : p.torn ≡ true → p.front ≡ [] → begun ≡ false → front ≡ [] → all ≡ true
      → Follows p begun front all

-- the records recovered after further parts, and those still to come
record Gives (p q : Piece) (front : List Portion) (all end : Bool)
    (xs rest : List (Bool × Portion)) : Type 0 where
  later : List Portion
  still : Bool
  follows : Follows q end later still
  same : q.done ++ whole_from later still rest ≡ p.done ++ whole_from front all (xs ++ rest)

-- ---- lists

moved : (d o : List Portion) (x : Portion) (w : List Portion)
    → ((d ++ o) ++ x ∷ []) ++ w ≡ d ++ ((o ++ x ∷ []) ++ w)
moved [] o x w = refl
moved (y ∷ d) o x w = ap (λ (l : List Portion). y ∷ l) (moved d o x w)

-- ---- one part of a block that was read

part_there : (p : Piece) (begun all : Bool) (front : List Portion) (x : Portion)
    (rest : List (Bool × Portion)) (l : Bool) → leaves x.span ≡ l → continues x.span ≡ begun
    → Follows p begun front all
    → Gives p (with_part p x) front all l ((true, x) ∷ []) rest
part_there p begun all front x rest true l c (on t b o a) = record {
  later = front ++ x ∷ [];
  still = true;
  follows = rw (t, l) (on refl refl (ap (λ (z : List Portion). z ++ x ∷ []) o) refl);
  same = rw (t, l, a) refl;
}
part_there p begun all front x rest false l c (on t b o a) = record {
  later = [];
  still = true;
  follows = rw (t, l) (on refl refl refl refl);
  same = rw (t, l, a, o) (moved p.done front x (whole_from [] true rest));
}
part_there p begun all front x rest true l c (within t o b a) = record {
  later = front ++ x ∷ [];
  still = false;
  follows = rw (t, c ∙ b) (within refl o refl refl);
  same = rw (t, c ∙ b, l, a) refl;
}
part_there p begun all front x rest false l c (within t o b a) = record {
  later = [];
  still = true;
  follows = rw (t, c ∙ b) (behind refl o refl refl refl);
  same = rw (t, c ∙ b, l, a) refl;
}
part_there p begun all front x rest true l c (behind t o b e a) = record {
  later = front ++ x ∷ [];
  still = true;
  follows = rw (t, c ∙ b, l)
      (on refl refl (ap (λ (z : List Portion). z ++ x ∷ []) (o ∙ sym e)) refl);
  same = rw (t, c ∙ b, l, a) refl;
}
part_there p begun all front x rest false l c (behind t o b e a) = record {
  later = [];
  still = true;
  follows = rw (t, c ∙ b, l) (on refl refl refl refl);
  same = rw (t, c ∙ b, l, a, o ∙ sym e) (moved p.done front x (whole_from [] true rest));
}

-- ---- the parts of a block that was read

parts_there : (p : Piece) (begun all end : Bool) (front : List Portion) (xs : List Portion)
    (rest : List (Bool × Portion)) → InOrder begun xs end → Follows p begun front all
    → Gives p (with_parts p xs) front all end (parts_of_block true xs) rest
parts_there p begun all end front [] rest o f = record {
  later = front;
  still = all;
  follows = subst (λ b. Follows p b front all) o f;
  same = refl;
}
parts_there p begun all end front (x ∷ xs) rest (c, o) f =
    let one = part_there _ _ _ _ _ (parts_of_block true xs ++ rest) (leaves x.span) refl c f in
    let more = parts_there (with_part p x) (leaves x.span) one.still end one.later xs rest o
    one.follows in
    record {
      later = more.later;
      still = more.still;
      follows = more.follows;
      same = more.same ∙ one.same;
    }

-- ---- the parts of a missing block

lost_step : (front : List Portion) (all l : Bool) (x : Portion) (w : List (Bool × Portion))
    → leaves x.span ≡ l → whole_from front all ((false, x) ∷ w)
    ≡ (if l then whole_from (front ++ x ∷ []) false w else whole_from [] true w)
lost_step front true true x w l = rw l refl
lost_step front false true x w l = rw l refl
lost_step front true false x w l = rw l refl
lost_step front false false x w l = rw l refl

lost_on : (p : Piece) (all end : Bool) (front : List Portion) (x : Portion) (xs : List Portion)
    (rest : List (Bool × Portion)) (l : Bool) → leaves x.span ≡ l
    → (l ≡ true → Gives p p (front ++ x ∷ []) false end (parts_of_block false xs) rest)
    → (l ≡ false → Gives p p [] true end (parts_of_block false xs) rest)
    → Gives p p front all end (parts_of_block false (x ∷ xs)) rest
lost_on p all end front x xs rest true l a b =
    let more = a refl in
    record {
      later = more.later;
      still = more.still;
      follows = more.follows;
      same = more.same ∙ ap (λ (w : List Portion). p.done ++ w)
          (sym (lost_step front all true x (parts_of_block false xs ++ rest) l));
    }
lost_on p all end front x xs rest false l a b =
    let more = b refl in
    record {
      later = more.later;
      still = more.still;
      follows = more.follows;
      same = more.same ∙ ap (λ (w : List Portion). p.done ++ w)
          (sym (lost_step front all false x (parts_of_block false xs ++ rest) l));
    }

without_block : (p : Piece) (begun all end : Bool) (front : List Portion) (xs : List Portion)
    (rest : List (Bool × Portion)) → p.torn ≡ true → p.front ≡ []
    → (xs ≡ [] → Follows p begun front all) → InOrder begun xs end
    → Gives p p front all end (parts_of_block false xs) rest
without_block p begun all end front [] rest t o none i = record {
  later = front;
  still = all;
  follows = subst (λ b. Follows p b front all) i (none refl);
  same = refl;
}
without_block p begun all end front (x ∷ xs) rest t o none (c, i) =
    lost_on p all end front x xs rest (leaves x.span) refl
    (λ e. without_block p true false end (front ++ x ∷ []) xs rest t o (λ _. within t o refl refl)
    (subst (λ b. InOrder b xs end) e i))
    (λ e. without_block p false true end [] xs rest t o (λ _. behind t o refl refl refl)
    (subst (λ b. InOrder b xs end) e i))

-- ---- blocks

-- in format F a block that contains its parts has records of at least one byte
pub some_holds : (format : Format) (rec_len offset : ℕ) (block : List ℕ) (ps : List Portion)
    → Holds format rec_len offset block ps → format ≡ Fixed → 1 ≤ rec_len
some_holds Fixed rec_len offset block ps h e = let l = h.2.1 in omega (arith, l)
some_holds Counted rec_len offset block ps h e = absurd cc
some_holds Spanned rec_len offset block ps h e = absurd cc
some_holds Undefined rec_len offset block ps h e = absurd cc
some_holds Variable rec_len offset block ps h e = absurd cc

-- a block without a fault has no other padding
kept : (form : FileForm) (p : Piece) (block : List ℕ) (parts : List Portion) (end : Bool)
    → Holds form.format form.rec_len form.offset block parts → judged_at form p block ≡ Ok end
    → content_for form block ≡ block
kept form p block parts end h j = content_kept form.format form.rec_len form.offset
    (begun_at form p block) end block (some_holds _ _ _ _ _ h) j

pub same_piece : (form : FileForm) (p : Piece) (block : List ℕ) (parts : List Portion) (end : Bool)
    → Holds form.format form.rec_len form.offset block parts → judged_at form p block ≡ Ok end
    → mended (Some form) p block ≡ with_parts p parts
same_piece form p block parts end h j =
    ap (mended_in form p) (kept form p block parts end h j) ∙ ap (mended_by form p block) j
    ∙ ap (with_parts p) (parts_in_it form block parts h)

judged_from : (form : FileForm) (p : Piece) (block : List ℕ) (parts : List Portion)
    (begun end : Bool)
    → Holds form.format form.rec_len form.offset block parts → InOrder begun parts end
    → begun_at form p block ≡ begun → judged_at form p block ≡ Ok end
judged_from form p block parts begun end h o e =
    ap (λ b. judged form.format form.rec_len form.offset b block) e ∙ judged_only _ _ _ _ _ _ _ h o

at_on : (form : FileForm) (p : Piece) (block : List ℕ) → p.torn ≡ false
    → begun_at form p block ≡ p.begun
at_on form p block t = rw t refl

at_torn : (form : FileForm) (p : Piece) (block : List ℕ) → p.torn ≡ true
    → begun_at form p block ≡ goes_on_at form.format form.offset block
at_torn form p block t = rw t refl

judged_torn : (form : FileForm) (p : Piece) (block : List ℕ) (parts : List Portion)
    (begun end : Bool)
    → Holds form.format form.rec_len form.offset block parts → InOrder begun parts end
    → p.torn ≡ true → (some : Bool) × (judged_at form p block ≡ Ok some)
judged_torn form p block [] begun end h o t =
    let g = goes_on_at form.format form.offset block in
    (g, judged_from form p block [] g g h refl (at_torn form p block t))
judged_torn form p block (x ∷ xs) begun end h o t = (
  end,
  judged_from form p block (x ∷ xs) begun end h o
      (at_torn form p block t ∙ first_begun form block (x ∷ xs) begun end 0 h o (omega arith)),
)

pub is_judged : (form : FileForm) (p : Piece) (block : List ℕ) (parts : List Portion)
    (begun end all : Bool) (front : List Portion)
    → Holds form.format form.rec_len form.offset block parts → InOrder begun parts end
    → Follows p begun front all → (some : Bool) × (judged_at form p block ≡ Ok some)
is_judged form p block parts begun end all front h o (on t b e a) =
    (end, judged_from form p block parts begun end h o (at_on form p block t ∙ b))
is_judged form p block parts begun end all front h o (within t e b a) =
    judged_torn form p block parts begun end h o t
is_judged form p block parts begun end all front h o (behind t e b f a) =
    judged_torn form p block parts begun end h o t

block_there : (form : FileForm) (p : Piece) (begun all end : Bool) (front : List Portion)
    (f : Filled)
    (rest : List (Bool × Portion)) → Holds form.format form.rec_len form.offset f.bytes f.parts
    → InOrder begun f.parts end → Follows p begun front all
    → Gives p (mended (Some form) p f.bytes) front all end (parts_of_block true f.parts) rest
block_there form p begun all end front f rest h o s =
    let j = is_judged form p f.bytes f.parts begun end all front h o s in
    subst (λ q. Gives p q front all end (parts_of_block true f.parts) rest)
    (sym (same_piece form p f.bytes f.parts j.0 h j.1))
    (parts_there p begun all end front f.parts rest o s)

block_lost : (p : Piece) (begun all end : Bool) (front : List Portion) (xs : List Portion)
    (rest : List (Bool × Portion)) → xs ≢ [] → InOrder begun xs end
    → Gives p (torn p) front all end (parts_of_block false xs) rest
block_lost p begun all end front xs rest some i =
    let g = without_block (torn p) begun all end front xs rest refl refl (λ e. absurd (some e)) i in
    record { later = g.later; still = g.still; follows = g.follows; same = g.same }

pub split_order : (begun end : Bool) (xs ys : List Portion) → InOrder begun (xs ++ ys) end
    → (mid : Bool) × InOrder begun xs mid × InOrder mid ys end
split_order begun end [] ys o = (begun, refl, o)
split_order begun end (x ∷ xs) ys (c, o) =
    let more = split_order (leaves x.span) end xs ys o in
    (more.0, (c, more.1), more.2)

-- the records recovered from further blocks follow those recovered earlier
pub given_of : (form : FileForm) (p : Piece) (begun all end : Bool) (front : List Portion)
    (bs : Blocks)
    → AllByRecursion (IsBlock form) bs → InOrder begun (all_parts bs) end
    → Follows p begun front all
    → (piece_after form p bs).done ≡ p.done ++ whole_from front all (parts_with bs)
given_of form p begun all end front [] blocks o s = sym (append-nil p.done)
given_of form p begun all end front ((true, f) ∷ bs) (b, blocks) o s =
    let cut = split_order begun end f.parts (all_parts bs) o in
    let g = block_there form p begun all cut.0 front f (parts_with bs) b.holds cut.1 s in
    given_of form (mended (Some form) p f.bytes) cut.0 g.still end g.later bs blocks cut.2 g.follows
    ∙ g.same
given_of form p begun all end front ((false, f) ∷ bs) (b, blocks) o s =
    let cut = split_order begun end f.parts (all_parts bs) o in
    let g = block_lost p begun all cut.0 front f.parts (parts_with bs) (b.some refl) cut.1 in
    given_of form (torn p) cut.0 g.still end g.later bs blocks cut.2 g.follows ∙ g.same

pub gives_whole : RecoversWhole
gives_whole form bs end blocks o = given_of _ _ _ _ _ [] _ blocks o (on refl refl refl refl)

-- ---- if nothing is missing

kept_by : (front : List Portion) (x : Portion) (xs : List Portion) (l : Bool) → leaves x.span ≡ l
    → (l ≡ true → whole_from (front ++ x ∷ []) true (parts_of_block true xs)
    ≡ (front ++ x ∷ []) ++ xs)
    → (l ≡ false → whole_from [] true (parts_of_block true xs) ≡ xs)
    → whole_from front true (parts_of_block true (x ∷ xs)) ≡ front ++ x ∷ xs
kept_by front x xs true l a b = rw l (a refl ∙ append_assoc front (x ∷ []) xs)
kept_by front x xs false l a b =
    rw l (ap (λ (w : List Portion). (front ++ x ∷ []) ++ w) (b refl)
    ∙ append_assoc front (x ∷ []) xs)

all_kept : (front : List Portion) (begun : Bool) (xs : List Portion) → (begun ≡ false → front ≡ [])
    → InOrder begun xs false → whole_from front true (parts_of_block true xs) ≡ front ++ xs
all_kept front begun [] n i = sym (append-nil front ∙ n i)
all_kept front begun (x ∷ xs) n (c, i) = kept_by front x xs (leaves x.span) refl
    (λ e. all_kept (front ++ x ∷ []) true xs (λ f. absurd (cc))
    (subst (λ b. InOrder b xs false) e i))
    (λ e. all_kept [] false xs (λ f. refl) (subst (λ b. InOrder b xs false) e i))

joined : (xs ys : List Portion) → parts_of_block true xs ++ parts_of_block true ys
    ≡ parts_of_block true (xs ++ ys)
joined [] ys = refl
joined (x ∷ xs) ys = ap (λ (w : List (Bool × Portion)). (true, x) ∷ w) (joined xs ys)

there : (bs : Blocks) → AllByRecursion (λ b. b.0 ≡ true) bs
    → parts_with bs ≡ parts_of_block true (all_parts bs)
there [] all = refl
there (b ∷ bs) (e, all) = rw (e, there bs all) (joined b.1.parts (all_parts bs))

pub all_whole : AllWhole
all_whole bs all o = ap (whole_from [] true) (there _ all) ∙ all_kept [] _ _ (λ e. refl) o
