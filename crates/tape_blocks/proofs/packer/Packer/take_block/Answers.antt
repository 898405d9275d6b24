use Rattle.std.proofs.Common.{◌≡◌, ◌≢◌, ◌-◌, ◌++◌, take, replicate, [], false, subst, sym, ap, refl}
use Rattle.std.proofs.Common.{◌∙◌, arith}
use Rattle.std.specs.Vec.{with_items}
use Rattle.tape_blocks.specs.{Packed.Keeps, Packing.Packing, Packing.Given, Packing.emptied}
use Rattle.tape_blocks.proofs.PackerSteps.{given_is, given_keeps, padded_in, keeps_nothing}
use Rattle.tape_blocks.proofs.{PackerSteps.packed_is, PackerSteps.not_closed, PackLaws.keeps_itself}
use Rattle.std.proofs.Common.{ℕ, List, ◌≤◌, length, drop}
use Rattle.std.proofs.lemmas.List.{length-take, length-drop, length-replicate}
use Rattle.std.proofs.lemmas.Slice.{take-put_mid}
use borrow.Rule.Slice.PartMut.{put_mid, same_len_mid}
use Rattle.tape_blocks.proofs.PackLaws.{padded_fits}
use Rattle.tape_blocks.proofs.packer.Packer.take_block.Goals as goal

-- circumflexes written from `len` to `end`
filled : (lent text : List ℕ) (len end : ℕ) → len ≤ end → end ≤ length lent
    → text ≡ replicate (length (take (end - len) (drop len lent))) 94
    → (take end (put_mid len (end - len) lent text) ≡ take len lent ++ replicate (end - len) 94)
    × (length (put_mid len (end - len) lent text) ≡ length lent)
filled lent text len end order room is =
    let size : length (take (end - len) (drop len lent)) ≡ end - len =
    omega (arith, length-take (end - len) (drop len lent), length-drop len lent) in
    let spaces : text ≡ replicate (end - len) 94 = is ∙ ap (λ n. replicate n 94) size in
    let long : length text ≡ end - len = ap length spaces ∙ length-replicate (end - len) 94 in (
      take-put_mid len (end - len) lent text end (omega arith) (omega arith)
          ∙ ap (λ l. take len lent ++ l) spaces,
      same_len_mid len (end - len) lent text (long ∙ sym size),
    )

pub returns-then-self-offset : goal.returns-then-self-offset
returns-then-self-offset c = grind (arith, keeps_nothing, not_closed)

pub invariant_of-self-2 : goal.invariant_of-self-2
invariant_of-self-2 c =
    let a = c.self.inside in
    let fits = padded_fits a.shape a.len c.self.invariant.writable c.self.invariant.keeps.within in
    let lent = c.deref_mut.result.now in
    let end = c.padded_len-end.result in
    let is = c.padded_len-end.ensures in
    let more = put_mid a.len (end - a.len) lent c.fill.new.self in
    let (front, size) = filled lent c.fill.new.self a.len end (omega (arith, fits.0, is))
    (omega (arith, fits.1, is, c.self.invariant.size, c.deref_mut.ensures.len))
    (c.fill.ensures.after (λ y e. e)) in
    let k : Keeps a.shape (with_items a.block more).items c.from-offset.result [] =
    given_keeps a.shape a.block lent more a.len end c.from-offset.result _
    c.self.invariant.writable c.self.invariant.keeps c.self.invariant.size
    c.deref_mut.ensures.value size is front c.from-offset.ensures in
    record {
      writable = c.self.invariant.writable;
      size = c.self.invariant.size;
      room = c.self.invariant.room;
      keeps = keeps_itself a.shape (with_items a.block more).items c.from-offset.result [] k;
      closed = λ e. absurd cc;
      begun = c.self.invariant.begun;
    }

pub returns : goal.returns
returns c =
    let a = c.self.inside in
    let fits = padded_fits a.shape a.len c.self.invariant.writable c.self.invariant.keeps.within in
    let lent = c.deref_mut.result.now in
    let end = c.padded_len-end.result in
    let is = c.padded_len-end.ensures in
    let more = put_mid a.len (end - a.len) lent c.fill.new.self in
    let (front, size) = filled lent c.fill.new.self a.len end (omega (arith, fits.0, is))
    (omega (arith, fits.1, is, c.self.invariant.size, c.deref_mut.ensures.len))
    (c.fill.ensures.after (λ y e. e)) in
    let some : a.len ≢ a.shape.offset =
    λ e. c.if-self-offset.false (e ∙ sym c.from-offset.ensures) in
    let here : take end c.deref.result.now
    ≡ take a.len a.block.items ++ replicate (end - a.len) 94 =
    ap (take end) c.deref.ensures.value
    ∙ padded_in a.block lent more a.len end c.deref_mut.ensures.value size front in
    let given = given_is a.shape a.block.items (take end c.deref.result.now) a.len end _ a.begun
    a.closed c.self.invariant.writable c.self.invariant.keeps is here some in
    let k : Keeps a.shape (with_items a.block more).items c.from-offset.result [] =
    given_keeps a.shape a.block lent more a.len end c.from-offset.result _
    c.self.invariant.writable c.self.invariant.keeps c.self.invariant.size
    c.deref_mut.ensures.value size is front c.from-offset.ensures in (
      (
        refl,
        λ _. tt,
        packed_is a.shape (with_items a.block more).items c.from-offset.result [] a.begun false k
            ∙ ap emptied c.self.view_is,
      ),
      record {
        found = subst (λ (v : Packing). Given v (take end c.deref.result.now)) c.self.view_is given;
        none = tt;
        after = tt;
      },
    )
