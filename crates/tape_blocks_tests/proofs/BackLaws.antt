-- Blocks read back: the records that a walk over their parts has joined.
use Rattle.std.proofs.Common.{◌≡◌, ℕ, zero, suc, ◌+◌, ◌<◌, Bool, true, false, List, [], ◌∷◌, ◌++◌}
use Rattle.std.proofs.Common.{length, take, drop, get_or, Option, Some, None, refl, sym, ap, subst}
use Rattle.std.proofs.Common.{◌∙◌, append_assoc, arith, map}
use Rattle.std.proofs.lemmas.List.{map-append, length-map}
use Rattle.std.proofs.lemmas.List.Concat.{flat_map-cons}
use Rattle.tape_blocks.specs.declared.parts.Shape.{Shape}
use Rattle.std.specs.declared.alloc.Global.{Global}
use Rattle.std.specs.declared.vec.Vec.{Vec}
use Rattle.tape_blocks.specs.declared.parts.Part.{Part}
use Rattle.tape_blocks.specs.declared.parts.Span.{Span}
use Rattle.tape_blocks.specs.Parts.{view}
use Rattle.tape_blocks_tests.specs.Records.{contents}
use Rattle.tape_blocks.specs.Block.{Portion, Holds}
use Rattle.tape_blocks.specs.Laws.{AllHold}
use Rattle.tape_blocks.specs.Spans.{Joined, InOrder, leaves, content_after, join}
use Rattle.tape_blocks.specs.Tight.{Filled, bytes_of_all, parts_of_all}
use Rattle.tape_blocks.proofs.JoinLaws.{join_ends, join_goes_on}

abbrev pub front_text : Option (List ℕ) → List ℕ
front_text None = []
front_text (Some front) = front

-- The given parts have joined to the given records, and `text` is the content of the unfinished
-- record.
pub record HasJoined (parts : List Portion) (records : List (List ℕ)) (text : List ℕ) : Type 0 where
  pub front : Option (List ℕ)
  pub joins : join parts ≡ record { records = records; rest = front }
  pub begun : text ≡ front_text front

content_is : (front : Option (List ℕ)) (bytes : List ℕ)
    → front_text front ++ bytes ≡ content_after front bytes
content_is None bytes = refl
content_is (Some front) bytes = refl

pub joined_goes_on : (parts : List Portion) (p : Portion) (records : List (List ℕ)) (text : List ℕ)
    → HasJoined parts records text → leaves p.span ≡ true
    → HasJoined (parts ++ p ∷ []) records (text ++ p.bytes)
joined_goes_on parts p records text has goes = record {
  front = Some (content_after has.front p.bytes);
  joins = join_goes_on parts p records has.front has.joins goes;
  begun = ap (λ (t : List ℕ). t ++ p.bytes) has.begun ∙ content_is has.front p.bytes;
}

pub joined_ends : (parts : List Portion) (p : Portion) (records : List (List ℕ)) (text : List ℕ)
    → HasJoined parts records text → leaves p.span ≡ false
    → HasJoined (parts ++ p ∷ []) (records ++ (text ++ p.bytes) ∷ []) []
joined_ends parts p records text has ends = record {
  front = None;
  joins = join_ends parts p records has.front has.joins ends
      ∙ ap (λ (r : List ℕ). the_joined (records ++ r ∷ [])) (sym
      (ap (λ (t : List ℕ). t ++ p.bytes) has.begun ∙ content_is has.front p.bytes));
  begun = refl;
}
  where
    the_joined : List (List ℕ) → Joined
    the_joined rs = record { records = rs; rest = None }

-- ---- one block of a list

pub record Here (shape : Shape) (blocks : List Filled) (i : ℕ) (bytes : List ℕ) : Type 0 where
  pub block : Filled
  pub next : take (i + 1) blocks ≡ take i blocks ++ block ∷ []
  pub same : block.bytes ≡ bytes
  pub holds : Holds shape.format shape.rec_len shape.offset block.bytes block.parts
  pub before : Bool
  pub behind : Bool
  pub order : InOrder before block.parts behind

-- two lists of parts, one after the other, are each in span order if both together are
InOrder-split : (ps qs : List Portion) (begun end : Bool) → InOrder begun (ps ++ qs) end
    → (middle : Bool) × InOrder begun ps middle × InOrder middle qs end
InOrder-split [] qs begun end order = (begun, refl, order)
InOrder-split (p ∷ ps) qs begun end order =
    let rest = InOrder-split ps qs (leaves p.span) end order.1 in
    (rest.0, (order.0, rest.1), rest.2)

split_first : (b : Filled) (bs : List Filled) (begun end : Bool)
    → InOrder begun (parts_of_all (b ∷ bs)) end
    → (middle : Bool) × InOrder begun b.parts middle × InOrder middle (parts_of_all bs) end
split_first b bs begun end order = InOrder-split b.parts (parts_of_all bs) begun end
    (subst (λ (ps : List Portion). InOrder begun ps end)
    (flat_map-cons (λ (x : Filled). x.parts) b bs) order)

behind_first : (shape : Shape) (b : Filled) (bs : List Filled) (i : ℕ) (bytes : List ℕ)
    → Here shape bs i bytes → Here shape (b ∷ bs) (suc i) bytes
behind_first shape b bs i bytes here = record {
  block = here.block;
  next =
      let z : suc i + 1 ≡ suc (i + 1) = omega arith in
      rw z (ap (λ (xs : List Filled). b ∷ xs) here.next);
  same = here.same;
  holds = here.holds;
  before = here.before;
  behind = here.behind;
  order = here.order;
}

pub here_at : (shape : Shape) (blocks : List Filled) (texts : List (List ℕ)) (i : ℕ) (begun
    end : Bool) → i < length texts → bytes_of_all blocks ≡ texts → AllHold shape blocks
    → InOrder begun (parts_of_all blocks) end → Here shape blocks i (get_or texts i [])
here_at shape [] texts i begun end lt same all order =
    absurd (let long = ap length same in omega arith)
here_at shape (b ∷ bs) [] i begun end lt same all order = absurd (omega arith)
here_at shape (b ∷ bs) (t ∷ ts) zero begun end lt same all order =
    let split = split_first b bs begun end order in
    record {
      block = b;
      next = refl;
      same = ap (λ (xs : List (List ℕ)). get_or xs 0 []) same;
      holds = all.0;
      before = begun;
      behind = split.0;
      order = split.1;
    }
here_at shape (b ∷ bs) (t ∷ ts) (suc i) begun end lt same all order =
    let split = split_first b bs begun end order in
    behind_first shape b bs i (get_or ts i []) (here_at shape bs ts i split.0 end (omega arith)
    (ap (λ (xs : List (List ℕ)). drop 1 xs) same) all.1 split.2)

-- ---- in the form that callers need

pub joined_as : (ps qs : List Portion) (rs ss : List (List ℕ)) (t u : List ℕ) → ps ≡ qs → rs ≡ ss
    → t ≡ u → HasJoined ps rs t → HasJoined qs ss u
joined_as ps qs rs ss t u p r e has = record {
  front = has.front;
  joins = ap join (sym p) ∙ has.joins ∙ ap (λ (xs : List (List ℕ)). with_front has.front xs) r;
  begun = sym e ∙ has.begun;
}
  where
    with_front : Option (List ℕ) → List (List ℕ) → Joined
    with_front front xs = record { records = xs; rest = front }

pub text_at : (vs : List (Vec ℕ Global)) (i : ℕ) (v : Vec ℕ Global) → i < length vs
    → v ≡ get_or vs i v → get_or (contents vs) i [] ≡ v.items
text_at [] i v lt is = absurd (omega arith)
text_at (x ∷ xs) zero v lt is = ap (λ (y : Vec ℕ Global). y.items) (sym is)
text_at (x ∷ xs) (suc i) v lt is = text_at xs i v (omega arith) is

pub parts_push : (ps : List Portion) (yielded : List Part) (p : Part)
    → (ps ++ map view yielded) ++ view p ∷ [] ≡ ps ++ map view (yielded ++ p ∷ [])
parts_push ps yielded p = append_assoc ps (map view yielded) (view p ∷ [])
    ∙ ap (λ (qs : List Portion). ps ++ qs) (sym (map-append view yielded (p ∷ [])))

pub contents_push : (vs more : List (Vec ℕ Global)) (v : Vec ℕ Global) (text : List ℕ)
    → more ≡ vs ++ v ∷ [] → v.items ≡ text → contents vs ++ text ∷ [] ≡ contents more
contents_push vs more v text e is = ap (λ (t : List ℕ). contents vs ++ t ∷ []) (sym is)
    ∙ sym (map-append (λ (x : Vec ℕ Global). x.items) vs (v ∷ [])) ∙ ap contents (sym e)

pub in_contents : (vs : List (Vec ℕ Global)) (i : ℕ) → i < length vs → i < length (contents vs)
in_contents vs i lt = omega (arith, length-map vs (λ (x : Vec ℕ Global). x.items))

pub spans_same : (xs : List Part)
    → map (λ (p : Part). p.span) xs ≡ map (λ (p : Portion). p.span) (map view xs)
spans_same [] = refl
spans_same (x ∷ xs) = ap (λ (ys : List Span). x.span ∷ ys) (spans_same xs)
