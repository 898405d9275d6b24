-- A prefix of a mount is a mount.
use Rattle.std.proofs.Common.{◌≡◌, ◌≢◌, ◌≤◌, ℕ, zero, suc, ◌+◌, List, [], ◌∷◌, ◌++◌, Bool, true}
use Rattle.std.proofs.Common.{false, length, take, refl, sym, ap, subst, ◌∙◌, arith, length-append}
use Rattle.std.proofs.Common.{if◌then◌else◌, drop, Option}
use Rattle.tape_image.specs.{Tape.TapeItem, Tape.block, Tape.bad, Tape.mark, Begins.Walks}
use Rattle.tape_image.proofs.{Leads.Leads-before, Existence.Begins-some, Callers.walked_front}
use Rattle.tape_label.specs.{VolumeLabels.is_volume_label, Reading.head1_at}
use Rattle.tape_core.specs.Foreign.{starts_set, labels_of_set, is_of_set}
use Rattle.tape_set.specs.{Layout.FileSet, Layout.items, Layout.entries, Reach.passes}
use Rattle.tape_set.specs.Reading.{Reading, as_read}
use Rattle.tape_run.specs.Mount.{MountEvent, reads, foreign_reel, saves, restarts, IsCopy, IsMount}
use Rattle.tape_run.specs.{Mount.IsMountOf, Mount.cut, Given.IsGiven, History.IsHistory}
use Rattle.tape_run.specs.Fronts.{FrontsAreMounts, GivenIsHistory}
use Rattle.tape_run.specs.declared.script.Step.TheVariants.{Reel, Save, Restart}

-- ---- copies

-- a prefix of items that were read like this
record Front (is : List TapeItem) (good : List Bool) (ys more : List TapeItem) : Type 0 where
  left : List TapeItem
  whole : ys ≡ as_read is (take (length ys) good) ++ left
  behind : left ≢ [] → (more ≢ []) × (take (length ys) good ≡ good)

none_read : (is : List TapeItem) → as_read is [] ≡ []
none_read [] = refl
none_read (x ∷ is) = refl

front_read : (is : List TapeItem) (good : List Bool) (ys rest more : List TapeItem)
    → length good ≤ length is → as_read is good ++ more ≡ ys ++ rest → Front is good ys more
front_read is good [] rest more fits e = record {
  left = [];
  whole = ap (λ z. z ++ []) (sym (none_read is));
  behind = λ n. absurd (n refl);
}
front_read is [] (y ∷ ys) rest more fits e = record {
  left = y ∷ ys;
  whole = ap (λ z. z ++ (y ∷ ys)) (sym (none_read is));
  behind = λ n. (
    λ none. let d : [] ≡ y ∷ ys ++ rest = sym
        (ap (λ z. as_read is [] ++ z) none ∙ ap (λ z. z ++ []) (none_read is)) ∙ e in cc,
    refl,
  );
}
front_read [] (g ∷ good) (y ∷ ys) rest more fits e = absurd (omega (arith, fits))
front_read (x ∷ is) (g ∷ good) (y ∷ ys) rest more fits e =
    grind (arith, front_read is good ys rest more (omega (arith, fits)) (ap (drop 1) e))

pub front_of_copy : (set : FileSet) (ys rest : List TapeItem) (r : Reading)
    → IsCopy set (ys ++ rest) r
    → IsCopy set ys (record { volume = r.volume; good = take (length ys) r.good })
front_of_copy set ys rest r c =
    let f = front_read (items set r.volume) r.good ys rest c.more c.is_reading.within (sym c.whole)
    in
    record {
      is_reading = record {
        volume = c.is_reading.volume;
        within = omega
            (arith, c.is_reading.within, shorter (length ys) r.good);
      };
      more = f.left;
      whole = f.whole;
      behind = λ n. let (some, all) = f.behind n in let (long, fine) = c.behind some in
          (ap length all ∙ long, ap (λ z. passes z (entries set r.volume)) all ∙ fine);
    }
  where
    shorter : (n : ℕ) (good : List Bool) → length (take n good) ≤ length good
    shorter zero good = omega arith
    shorter (suc n) [] = omega arith
    shorter (suc n) (g ∷ good) = let h = shorter n good in omega (arith, h)

-- ---- foreign reels

by_label : (is x y z : Bool) → (x ≡ true → y ≡ true) → (if is then x else z) ≡ true
    → (if is then y else z) ≡ true
by_label true x y z f h = f h
by_label false x y z f h = h

labels_more : (set_id : List ℕ) (ys rest : List TapeItem) → labels_of_set set_id ys ≡ true
    → labels_of_set set_id (ys ++ rest) ≡ true
labels_more set_id [] rest h = absurd (cc)
labels_more set_id (block b ∷ ys) rest h =
    by_label (is_volume_label b) _ _ (is_of_set set_id (head1_at b)) (labels_more set_id ys rest) h
labels_more set_id (bad ∷ ys) rest h = absurd (cc)
labels_more set_id (mark ∷ ys) rest h = absurd (cc)

starts_more : (set_id : List ℕ) (ys rest : List TapeItem) → starts_set set_id ys ≡ true
    → starts_set set_id (ys ++ rest) ≡ true
starts_more set_id [] rest h = absurd (cc)
starts_more set_id (block b ∷ ys) rest h = grind (arith, labels_more)
starts_more set_id (bad ∷ ys) rest h = absurd (cc)
starts_more set_id (mark ∷ ys) rest h = absurd (cc)

pub front_of_foreign : (set_id : List ℕ) (ys rest : List TapeItem)
    → starts_set set_id (ys ++ rest) ≡ false → starts_set set_id ys ≡ false
front_of_foreign set_id ys rest h = by (starts_set set_id ys) refl
  where
    by : (is : Bool) → starts_set set_id ys ≡ is → starts_set set_id ys ≡ false
    by true e = absurd (let d = starts_more set_id ys rest e in cc)
    by false e = e

-- ---- mounts

front_of_mount : (set : FileSet) (ys rest : List TapeItem) (h : MountEvent)
    → IsMount set (ys ++ rest) h → IsMount set ys (cut (length ys) h)
front_of_mount set ys rest (reads r) m = front_of_copy set ys rest r m
front_of_mount set ys rest foreign_reel m = front_of_foreign set.set_id ys rest m
front_of_mount set ys rest saves m = absurd m
front_of_mount set ys rest (restarts n) m = absurd m

-- the items that bytes begin with are read from longer bytes too
pub walks_before : (front rest ys : List ℕ) (xs : List TapeItem) (end : ℕ) → Walks 0 front xs end ys
    → Walks 0 (front ++ rest) xs end (ys ++ rest)
walks_before front rest ys xs end w = record {
  leads = Leads-before front ys rest xs w.leads;
  moves = omega (arith, w.moves, length-append front rest, length-append ys rest);
}

pub fronts_are_mounts : FrontsAreMounts
fronts_are_mounts set front rest h (xs, end, stop, b, m) =
    let (ys, at, why, c) = Begins-some 0 front (omega arith) in
    let (more, whole, _) = walked_front 0 (front ++ rest) (c.rest ++ rest) ys xs at end stop
    (walks_before _ rest _ _ _ c.walks) c.within b in (
      length ys,
      (
        ys,
        at,
        why,
        c,
        front_of_mount set ys more h (subst (λ z. IsMount set z h) whole m),
      ),
    )

-- ---- histories

mount_given : (set : FileSet) (b g : List ℕ) (h : MountEvent) → IsMountOf set b h → (failed : Bool)
    (left : Option (List ℕ)) → IsGiven failed b left g → (h' : MountEvent) × IsMountOf set g h'
mount_given set b g h m false left same = (h, subst (λ z. IsMountOf set z h) (sym same) m)
mount_given set b g h m true left (rest, is, whole) =
    let (n, front) = fronts_are_mounts set g rest h (subst (λ z. IsMountOf set z h) whole m) in
    (cut n h, front)

pub given_is_history : GivenIsHistory
given_is_history set notes which [] bytes given left [] h a = ([], tt)
given_is_history set notes which [] bytes given left (x ∷ hs) h a = absurd h
given_is_history set notes which (s ∷ steps) bytes given left [] h a = absurd h
given_is_history set notes which (Reel ∷ steps) [] given left (x ∷ hs) h a = absurd h
given_is_history set notes [] (Reel ∷ steps) (b ∷ bytes) given left (x ∷ hs) h a =
    (x ∷ hs, subst (λ z. IsHistory set notes (Reel ∷ steps) z (x ∷ hs)) (sym a) h)
given_is_history set notes (f ∷ which) (Reel ∷ steps) (b ∷ bytes) given [] (x ∷ hs) h a = absurd a
given_is_history set notes (f ∷ which) (Reel ∷ steps) (b ∷ bytes) [] (l ∷ left) (x ∷ hs) h a =
    absurd a
given_is_history set notes (f ∷ which) (Reel ∷ steps) (b ∷ bytes) (g ∷ given) (l ∷ left) (x ∷ hs)
    (m, h) (is, a) =
    let (x', m') = mount_given set b g x m f l is in
    let (hs', h') = given_is_history set notes which steps bytes given left hs h a in
    (x' ∷ hs', (m', h'))
given_is_history set notes which (Save ∷ steps) bytes given left (x ∷ hs) (e, h) a =
    let (hs', h') = given_is_history set (notes + 1) which steps bytes given left hs h a in
    (saves ∷ hs', (refl, h'))
given_is_history set notes which (Restart n ∷ steps) bytes given left (x ∷ hs) (e, less, h) a =
    let (hs', h') = given_is_history set (n + 1) which steps bytes given left hs h a in
    (restarts n ∷ hs', (refl, less, h'))
