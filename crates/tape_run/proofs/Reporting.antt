-- The part of a report that has been written, and the text that comes next.
use Rattle.std.proofs.Common.{◌≡◌, ℕ, ◌+◌, ◌-◌, ◌<◌, suc, Bool, List, [], ◌∷◌, ◌++◌}
use Rattle.std.proofs.Common.{length, Option, option_map, Result, Ok, Err, IfOk, OnOk, refl, sym}
use Rattle.std.proofs.Common.{ap, subst, ◌∙◌, arith, append_assoc, append-nil, length-append}
use Rattle.std.proofs.KnownBytes.{Appends-trans, Appends-nil}
use Rattle.std.proofs.lemmas.List.Concat.{flat_map-append}
use Rattle.std.specs.{List.flat_map, Io.KnownBytes.Appends}
use Rattle.tape_run.specs.Checked.{Reel, IsReel, AddsImage, AddsImages, summary, summary_behind}
use Rattle.tape_run.specs.{declared.section.ImageLine.ImageLine, Passing.Told, Lacks.found_all}
use Rattle.tape_run.specs.CheckLine.{image_line, image_lines}
use Rattle.tape_run.specs.Checked.{Reports, ReportsInPart, TellsImage, TellsImages}
use Rattle.tape_run.specs.Reeling.{Mounting, AreMounted}
use Rattle.tape_image.specs.Written.{AppendsFront}
use Rattle.tape_run.proofs.Turns.{one_mounted}

-- all of one text was written, and a prefix of the next
pub front_then : (old mid new : Option (List ℕ)) (a b more all : List ℕ) → Appends old mid a
    → AppendsFront mid new b → all ≡ (a ++ b) ++ more → AppendsFront old new all
front_then old mid new a b more all wrote part is = grind (arith, append_assoc)

image_lines-more : (n : ℕ) (lines : List (Option ImageLine)) (line : Option ImageLine)
    → image_lines n (lines ++ line ∷ []) ≡ image_lines n lines ++ image_line (n + length lines) line
image_lines-more n [] line = append-nil (image_line n line)
    ∙ ap (λ m. image_line m line) (let same : n ≡ n + 0 = omega arith in same)
image_lines-more n (l ∷ lines) line =
    let same : n + 1 + length lines ≡ n + length (l ∷ lines) = omega arith in
    ap (λ t. image_line n l ++ t) (image_lines-more (n + 1) lines line
    ∙ ap (λ m. image_lines (n + 1) lines ++ image_line m line) same)
    ∙ sym (append_assoc (image_line n l) (image_lines (n + 1) lines)
    (image_line (n + length (l ∷ lines)) line))

-- one more image was read
read_more : (reels : List Reel) (lines : List (Option ImageLine)) (c mid d : List Told)
    (reel : Reel) (line : Option ImageLine) → AddsImages reels lines c mid
    → AddsImage reel line mid d
    → AddsImages (reels ++ reel ∷ []) (lines ++ line ∷ []) c d
read_more [] [] c mid d reel line read one =
    (d, subst (λ m. AddsImage reel line m d) read one, refl)
read_more [] (l ∷ lines) c mid d reel line read one = absurd read
read_more (r ∷ reels) [] c mid d reel line read one = absurd read
read_more (r ∷ reels) (l ∷ lines) c mid d reel line read one =
    (read.0, read.1, read_more reels lines read.0 mid d reel line read.2 one)

-- each image has a line
as_many : (reels : List Reel) (lines : List (Option ImageLine)) (c d : List Told)
    → AddsImages reels lines c d → length lines ≡ length reels
as_many [] [] c d read = refl
as_many [] (l ∷ lines) c d read = absurd read
as_many (r ∷ reels) [] c d read = absurd read
as_many (r ∷ reels) (l ∷ lines) c d read = ap suc (as_many reels lines read.0 d read.2)

-- the first images of a source, up to this number, were opened and read, and their lines written
pub record ReadSoFar {L R : Type 0} (gives : Mounting L R) (remaining : R → Option (List ℕ))
    (shelf now : L) (number : ℕ) (d : List Told) (old new : Option (List ℕ)) : Type 0 where
  pub reels : List Reel
  pub counted : length reels ≡ number
  pub mounted : AreMounted gives (IsReel remaining) shelf 0 reels now
  pub lines : List (Option ImageLine)
  pub read : AddsImages reels lines [] d
  pub wrote : Appends old new (image_lines 1 lines)

pub starts : {L R : Type 0} (gives : Mounting L R) (remaining : R → Option (List ℕ)) (shelf : L)
    (d : List Told) (w : Option (List ℕ)) → d ≡ [] → ReadSoFar gives remaining shelf shelf 0 d w w
starts gives remaining shelf d w none = record {
  reels = [];
  counted = refl;
  mounted = refl;
  lines = [];
  read = none;
  wrote = Appends-nil w;
}

-- the lines of the images up to an index, and of the next one
one_line : (reels : List Reel) (lines : List (Option ImageLine)) (line : Option ImageLine)
    (place : ℕ) (d : List Told) → AddsImages reels lines [] d → length reels ≡ place
    → image_lines 1 (lines ++ line ∷ []) ≡ image_lines 1 lines ++ image_line (place + 1) line
one_line reels lines line place d read counted =
    let number : 1 + length lines ≡ place + 1 =
    omega (arith, as_many reels lines [] d read, counted) in
    image_lines-more 1 lines line ∙ ap (λ n. image_lines 1 lines ++ image_line n line) number

-- the image with this number was opened
mounted_next : {L R : Type 0} (gives : Mounting L R) (remaining : R → Option (List ℕ))
    (shelf now next : L) (number : ℕ) (reels : List Reel) (image : Option R)
    → AreMounted gives (IsReel remaining) shelf 0 reels now → length reels ≡ number
    → gives now number image next
    → AreMounted gives (IsReel remaining) shelf 0 (reels ++ option_map remaining image ∷ []) next
mounted_next gives remaining shelf now next number reels image are counted gave =
    let at : number ≡ 0 + length reels = omega (arith, counted) in
    one_mounted gives (IsReel remaining) shelf 0 reels now (option_map remaining image) image next
    are (subst (λ n. gives now n image next) at gave) refl

pub one_more : {L R : Type 0} (gives : Mounting L R) (remaining : R → Option (List ℕ))
    (shelf now next : L) (number : ℕ) (mid d : List Told) (old w new : Option (List ℕ))
    (image : Option R) → ReadSoFar gives remaining shelf now number mid old w
    → gives now number image next → TellsImage (option_map remaining image) (number + 1) mid d w new
    → ReadSoFar gives remaining shelf next (number + 1) d old new
one_more gives remaining shelf now next number mid d old w new image s gave told =
    let line = told.0 in
    let reel = option_map remaining image in
    record {
      reels = s.reels ++ reel ∷ [];
      counted = length-append s.reels (reel ∷ []) ∙ ap (λ n. n + 1) s.counted;
      mounted =
          mounted_next gives remaining shelf now next number s.reels image s.mounted s.counted gave;
      lines = s.lines ++ line ∷ [];
      read = read_more s.reels s.lines [] mid d reel line s.read told.1;
      wrote = subst (Appends old new) (sym (one_line s.reels s.lines line number mid s.read
          s.counted)) (Appends-trans old w new (image_lines 1 s.lines)
          (image_line (number + 1) line) s.wrote told.2);
    }

-- a fault occurred when an image was opened: nothing more was written
pub not_mounted : {L R : Type 0} (size : L → ℕ) (gives : Mounting L R)
    (remaining : R → Option (List ℕ)) (shelf now left : L) (number : ℕ) (mid : List Told)
    (old w : Option (List ℕ)) → number < size shelf → left ≡ now
    → ReadSoFar gives remaining shelf now number mid old w
    → ReportsInPart size gives remaining shelf left old w
not_mounted size gives remaining shelf now left number mid old w within same s =
    let unread = size shelf - number in
    record {
      first = s.reels;
      more = [];
      mounted = subst (λ r. AreMounted gives (IsReel remaining) shelf 0 r left)
          (sym (append-nil s.reels))
          (subst (AreMounted gives (IsReel remaining) shelf 0 s.reels) (sym same) s.mounted);
      unread = unread;
      counted = omega (arith, s.counted, within);
      few = (omega arith, omega arith);
      lines = s.lines;
      sections = mid;
      read = s.read;
      wrote = (image_lines 1 s.lines, summary_behind unread mid, s.wrote, refl);
    }

-- a fault occurred while the image with this number was read: nothing more was written
pub not_read : {L R : Type 0} (size : L → ℕ) (gives : Mounting L R)
    (remaining : R → Option (List ℕ)) (shelf now next : L) (number : ℕ) (mid : List Told)
    (old w : Option (List ℕ)) (image : Option R) → number < size shelf
    → ReadSoFar gives remaining shelf now number mid old w → gives now number image next
    → ReportsInPart size gives remaining shelf next old w
not_read size gives remaining shelf now next number mid old w image within s gave =
    let unread = size shelf - number in
    record {
      first = s.reels;
      more = option_map remaining image ∷ [];
      mounted =
          mounted_next gives remaining shelf now next number s.reels image s.mounted s.counted gave;
      unread = unread;
      counted = omega (arith, s.counted, within);
      few = (omega arith, omega (arith, within));
      lines = s.lines;
      sections = mid;
      read = s.read;
      wrote = (image_lines 1 s.lines, summary_behind unread mid, s.wrote, refl);
    }

-- a prefix of the line of the image with this number was written
pub line_stops : {L R : Type 0} (size : L → ℕ) (gives : Mounting L R)
    (remaining : R → Option (List ℕ)) (shelf now next : L) (number : ℕ) (mid d : List Told)
    (old w new : Option (List ℕ)) (image : Option R) (line : Option ImageLine)
    → number < size shelf → ReadSoFar gives remaining shelf now number mid old w
    → gives now number image next → AddsImage (option_map remaining image) line mid d
    → AppendsFront w new (image_line (number + 1) line)
    → ReportsInPart size gives remaining shelf next old new
line_stops size gives remaining shelf now next number mid d old w new image line within s gave adds
    part
    =
    let reel = option_map remaining image in
    let unread = size shelf - (number + 1) in
    let first = s.reels ++ reel ∷ [] in
    let many : length first ≡ number + 1 =
    length-append s.reels (reel ∷ []) ∙ ap (λ n. n + 1) s.counted in
    let told = one_line s.reels s.lines line number mid s.read s.counted in
    record {
      first = first;
      more = [];
      mounted = subst (λ r. AreMounted gives (IsReel remaining) shelf 0 r next)
          (sym (append-nil first))
          (mounted_next gives remaining shelf now next number s.reels image s.mounted s.counted
          gave);
      unread = unread;
      counted = omega (arith, many, within);
      few = (omega arith, omega arith);
      lines = s.lines ++ line ∷ [];
      sections = d;
      read = read_more s.reels s.lines [] mid d reel line s.read adds;
      wrote = front_then old w new (image_lines 1 s.lines)
          (image_line (number + 1) line) (summary_behind unread d)
          (image_lines 1 (s.lines ++ line ∷ []) ++ summary_behind unread d) s.wrote part
          (ap (λ l. l ++ summary_behind unread d) told);
    }

-- all images were read
pub told_all : {L R : Type 0} (size : L → ℕ) (gives : Mounting L R)
    (remaining : R → Option (List ℕ)) (shelf left : L) (number : ℕ) (d e : List Told)
    (old new : Option (List ℕ)) → ReadSoFar gives remaining shelf left number d old new
    → number ≡ size shelf → d ≡ e → TellsImages size gives remaining shelf left e old new
told_all size gives remaining shelf left number d e old new s all same = record {
  reels = s.reels;
  mounted = s.mounted;
  all = s.counted ∙ all;
  lines = s.lines;
  read = subst (AddsImages s.reels s.lines []) same s.read;
  wrote = s.wrote;
}

-- the summary was written after the lines of all images
pub reported : {L R : Type 0} (size : L → ℕ) (gives : Mounting L R)
    (remaining : R → Option (List ℕ)) (shelf left : L) (d : List Told)
    (old mid new : Option (List ℕ)) (found : Bool)
    → TellsImages size gives remaining shelf left d old mid → found ≡ found_all d
    → Appends mid new (summary d) → Reports size gives remaining shelf left old new found
reported size gives remaining shelf left d old mid new found told is wrote = record {
  reels = told.reels;
  mounted = told.mounted;
  all = told.all;
  text = image_lines 1 told.lines ++ summary d;
  report =
      record { lines = told.lines; sections = d; read = told.read; told = refl; all = is };
  wrote = Appends-trans old mid new (image_lines 1 told.lines) (summary d) told.wrote wrote;
}

-- a prefix of the summary was written
pub reported_in_part : {L R : Type 0} (size : L → ℕ) (gives : Mounting L R)
    (remaining : R → Option (List ℕ)) (shelf left : L) (d : List Told)
    (old mid new : Option (List ℕ)) → TellsImages size gives remaining shelf left d old mid
    → AppendsFront mid new (summary d) → ReportsInPart size gives remaining shelf left old new
reported_in_part size gives remaining shelf left d old mid new told part =
    let lines = image_lines 1 told.lines in
    record {
      first = told.reels;
      more = [];
      mounted = subst (λ r. AreMounted gives (IsReel remaining) shelf 0 r left)
          (sym (append-nil told.reels)) told.mounted;
      unread = 0;
      counted = omega (arith, told.all);
      few = (omega arith, omega arith);
      lines = told.lines;
      sections = d;
      read = told.read;
      wrote = front_then old mid new lines (summary d) [] (lines ++ summary d) told.wrote part
          (sym (append-nil (lines ++ summary d)));
    }

-- the texts of the first elements were written, and `rest` is left
pub record TextsSoFar {X : Type 0} (f : X → List ℕ) (all rest : List X) (old new : Option (List ℕ))
    : Type 0 where
  pub done : List X
  pub whole : all ≡ done ++ rest
  pub wrote : Appends old new (flat_map f done)

one_text : {X : Type 0} (f : X → List ℕ) (done : List X) (x : X)
    → flat_map f (done ++ x ∷ []) ≡ flat_map f done ++ f x
one_text f done x = flat_map-append f done (x ∷ [])
    ∙ ap (λ l. flat_map f done ++ l) (append-nil (f x))

-- one more text was written
pub text_more : {X : Type 0} (f : X → List ℕ) (all rest next : List X) (x : X) (text : List ℕ)
    (old mid new : Option (List ℕ)) → TextsSoFar f all rest old mid → rest ≡ x ∷ next → text ≡ f x
    → Appends mid new text → TextsSoFar f all next old new
text_more f all rest next x text old mid new s is same wrote = record {
  done = s.done ++ x ∷ [];
  whole = s.whole ∙ ap (λ l. s.done ++ l) is ∙ sym (append_assoc s.done (x ∷ []) next);
  wrote = subst (Appends old new) (sym (one_text f s.done x))
      (Appends-trans old mid new (flat_map f s.done) (f x) s.wrote
      (subst (Appends mid new) same wrote));
}

-- a prefix of it was written
pub text_front : {X : Type 0} (f : X → List ℕ) (all rest next : List X) (x : X) (text : List ℕ)
    (old mid new : Option (List ℕ)) → TextsSoFar f all rest old mid → rest ≡ x ∷ next → text ≡ f x
    → AppendsFront mid new text → AppendsFront old new (flat_map f all)
text_front f all rest next x text old mid new s is same part =
    let whole : all ≡ (s.done ++ x ∷ []) ++ next =
    s.whole ∙ ap (λ l. s.done ++ l) is ∙ sym (append_assoc s.done (x ∷ []) next) in
    front_then old mid new (flat_map f s.done) (f x) (flat_map f next) (flat_map f all) s.wrote
    (subst (AppendsFront mid new) same part)
    (ap (flat_map f) whole ∙ flat_map-append f (s.done ++ x ∷ []) next
    ∙ ap (λ l. l ++ flat_map f next) (one_text f s.done x))

-- all texts were written
pub texts_done : {X : Type 0} (f : X → List ℕ) (all rest : List X) (old new : Option (List ℕ))
    → TextsSoFar f all rest old new → rest ≡ [] → Appends old new (flat_map f all)
texts_done f all rest old new s none = subst (λ l. Appends old new (flat_map f l))
    (sym (s.whole ∙ ap (λ l. s.done ++ l) none ∙ append-nil s.done)) s.wrote

pub if_ok_both : {T E : Type 0} (r : Result T E) (P Q : T → Type 0) (C : Type 0) → IfOk r P
    → OnOk r C → ((x : T) → P x → C → Q x) → IfOk r Q
if_ok_both (Ok x) P Q C h d f = f x h d
if_ok_both (Err e) P Q C h d f = tt
