-- Positions inside a block.
use Rattle.std.proofs.Common.{◌≡◌, ◌≢◌, ℕ, zero, suc, ◌-◌, ◌<◌, ◌≤◌, ◌==◌, Bool, true, false}
use Rattle.std.proofs.Common.{if◌then◌else◌, List, [], ◌∷◌, ◌++◌, length, take, drop, Option, Some}
use Rattle.std.proofs.Common.{None, refl, sym, ap, subst, ◌∙◌, arith, append-nil}
use Rattle.std.proofs.{lemmas.Bool.Decides.nat_tests, Math.Seq.take-nil}
use Rattle.tape_blocks.specs.declared.parts.Shape.{Shape}
use Rattle.tape_blocks.specs.{Block.Portion, Block.Holds, Judged.begun_behind}
use Rattle.tape_image.specs.Tape.{TapeItem, block}
use Rattle.tape_set.specs.Position.{at_part, part_of}
use Rattle.tape_set.specs.{Layout.FileSet, Lawful.FileForm, Before.before}
use Rattle.tape_core.specs.declared.event.{Answer.Answer, Phase.TheVariants.Over}
use Rattle.tape_core.specs.declared.event.Answer.TheVariants.{Passed, Deliver}
use Rattle.tape_core.specs.{Point.Point, State.State, Table.saved, Table.Shows}
use Rattle.tape_core.specs.{Stands.weight_of, Stands.inside_block, Place.place_of, Place.IsPlaced}
use Rattle.tape_core.specs.Follows.{IsAt, Delivers, Gives, Checked}
use Rattle.tape_core.proofs.{Standing.stood, PartPoints.part_stands}
use Rattle.tape_run.specs.Puts.{refused_point}

-- ---- the position of a refused part

none_between : (k : ℕ) (ps : List Portion) → drop k (take k ps) ≡ []
none_between zero ps = refl
none_between (suc k) [] = refl
none_between (suc k) (p ∷ ps) = none_between k ps

drop_take : (k n : ℕ) (ps : List Portion) → drop k (take n ps) ≡ take (n - k) (drop k ps)
drop_take zero n ps = let e : n - 0 ≡ n = omega arith in rw e refl
drop_take (suc k) zero ps = let e : 0 - suc k ≡ 0 = omega arith in rw e refl
drop_take (suc k) (suc n) [] = sym (take-nil {A = Portion} (suc n - suc k))
drop_take (suc k) (suc n) (p ∷ ps) =
    let e : suc n - suc k ≡ n - k = omega arith in
    rw e (drop_take k n ps)

pick_place : (g : Bool) (c : Point) (d : Point) (P : State → Type 0) → (g ≡ true → P (place_of c))
    → (g ≡ false → P (place_of d)) → P (place_of (if g then c else d))
pick_place true c d P x y = x refl
pick_place false c d P x y = y refl

at_same : (set : FileSet) (old : State) (held : List Portion) (staged k : ℕ) (ps : List Portion)
    → IsPlaced set old held
    → IsPlaced set (place_of (saved old staged)) (held ++ drop k (take k ps))
at_same set old held staged k ps a = grind (arith, append-nil, none_between)

at_later : (set : FileSet) (x : TapeItem) (old new : State) (held : List Portion)
    (n : ℕ) (begun : Bool)
    → (d : Delivers set x old new) → IsPlaced set old held → IsAt set new → new.file ≡ old.file
    → d.part < n → n < length d.filled.parts
    → begun ≡ begun_behind old.begun (drop d.part (take n d.filled.parts))
    → IsPlaced set (place_of (inside_block (saved new 0) old.position n begun 0)) (held
    ++ drop d.part (take n d.filled.parts))
at_later set x old new held n begun d a b same lt within is =
    let kept = take (n - d.part) (drop d.part d.filled.parts) in
    let all = before set old.file old.position ++ kept in
    let stands = part_stands set old new x 0 n begun (weight_of all) a.at b.of_set same d lt within
    (is ∙ ap (begun_behind old.begun) (drop_take d.part n d.filled.parts)) refl in
    let there = stood set old.file (inside_block (saved new 0) old.position n begun (weight_of all))
    all stands in
    let parts : all ≡ held ++ drop d.part (take n d.filled.parts) = ap (λ z. z ++ kept) (sym a.all)
    ∙ ap (λ z. held ++ z) (sym (drop_take d.part n d.filled.parts)) in
    subst (IsPlaced set (place_of (inside_block (saved new 0) old.position n begun 0))) parts
    (record { at = there.at; all = there.all })

-- At a refused part of the delivered block the core matches the parts that were put.
pub refused_place : (set : FileSet) (x : TapeItem) (old new : State) (held : List Portion) (n : ℕ)
    → (d : Delivers set x old new) → IsPlaced set old held → IsAt set new → new.file ≡ old.file
    → d.part ≤ n → n < length d.filled.parts
    → IsPlaced set (place_of (refused_point (saved old 0) (saved new 0) n (begun_behind old.begun
    (drop d.part (take n d.filled.parts))))) (held ++ drop d.part (take n d.filled.parts))
refused_place set x old new held n d a b same le within =
    let part_is : part_of old.position ≡ d.part = ap part_of d.awaited in
    let begun = begun_behind old.begun (drop d.part (take n d.filled.parts)) in
    pick_place (n == part_of old.position) (saved old 0)
    (inside_block (saved new 0) old.position n begun 0)
    (λ (p : State). IsPlaced set p (held ++ drop d.part (take n d.filled.parts)))
    (λ e. let same_part : n ≡ d.part =
    (let q : n ≡ part_of old.position = grind (arith, nat_tests) in q ∙ part_is) in
    rw same_part (at_same set old held 0 d.part d.filled.parts a))
    (λ e. at_later set x old new held n begun d a b same (let q : n ≢ part_of old.position =
    grind (arith, nat_tests) in omega (arith, le, q, part_is)) within refl)

pub refused_position : (old new : State) (n : ℕ) (begun : Bool)
    → (place_of (refused_point (saved old 0) (saved new 0) n begun)).position
    ≡ at_part n old.position
refused_position old new n begun = grind (arith, pick_place)

-- at the expected part the core is unchanged
pub stands_first : (old new : State) (n : ℕ) (begun : Bool) → n ≡ part_of old.position
    → place_of (refused_point (saved old 0) (saved new 0) n begun) ≡ record old { phase = Over }
stands_first old new n begun first = grind (arith, pick_place)

-- and after it the block determines its state
pub stands_behind : (old new : State) (n : ℕ) (begun : Bool) → part_of old.position < n
    → ((place_of (refused_point (saved old 0) (saved new 0) n begun)).known ≡ new.known)
    × (begun ≡ false → (place_of (refused_point (saved old 0) (saved new 0) n begun)).begun ≡ false)
stands_behind old new n begun behind = grind (arith, pick_place)

-- ---- a step of a core

-- the parts of a block that was checked
pub checked_parts : (core new : State) (bytes : List ℕ) (k : Checked (Some (block bytes)) core new)
    → Holds k.form.format k.form.rec_len k.form.offset bytes k.parts
checked_parts core new bytes k =
    let same : k.bytes ≡ bytes = let e = k.came in cc in
    subst (λ (b : List ℕ). Holds k.form.format k.form.rec_len k.form.offset b k.parts) same k.holds

-- a step that delivers a block, and one that does not
pub gives_block : (set : FileSet) (x : TapeItem) (answer : Answer) (old new : State)
    → answer ≡ Deliver → Gives set x answer old new → Delivers set x old new
gives_block set x answer old new e g = subst (λ (a : Answer). Gives set x a old new) e g

pub gives_none : (set : FileSet) (x : TapeItem) (answer : Answer) (old new : State)
    → answer ≢ Deliver → Gives set x answer old new
    → before set new.file new.position ≡ before set old.file old.position
gives_none set x Passed old new e g = g
gives_none set x Deliver old new e g = absurd (e refl)
gives_none set x _ old new e g = g

-- ---- results

pub shape_fits : (known : Option FileForm) (shape : Option Shape) (k : FileForm) (s : Shape)
    → Shows known shape → known ≡ Some k → shape ≡ Some s
    → (s.format ≡ k.format) × (s.rec_len ≡ k.rec_len) × (s.offset ≡ k.offset)
shape_fits None shape k s h e f = absurd (cc)
shape_fits (Some l) None k s h e f = absurd h
shape_fits (Some l) (Some t) k s h e f = grind (arith)
