use Rattle.std.proofs.Common.{ℕ, ◌≡◌, ◌+◌, ◌≤◌, List, [], ◌∷◌, ◌++◌, take, length, ap, sym, subst}
use Rattle.std.proofs.Common.{◌∙◌, arith}
use Rattle.std.specs.Vec.{with_items}
use Rattle.tape_label.specs.declared.values.Format.TheVariants.{Spanned}
use Rattle.tape_blocks.specs.Block.{Portion, IsUnit, spelling, head_len}
use Rattle.tape_blocks.specs.{declared.parts.Span.Span, Packed.Keeps, Packed.parts_in}
use Rattle.tape_blocks.specs.{Packing.Packing, Packing.size_of, Packing.with_part, Spans.span_of}
use Rattle.tape_blocks.proofs.PackLaws.{keeps_itself}
use Rattle.tape_blocks.proofs.PackerSteps.{put_keeps, written_in, keeps_some, push_some, packed_is}
use Rattle.tape_blocks.proofs.packer.Packer.put_part.Goals as goal

abbrev part : goal.After-self-4-1 → Portion
part c = record { span = span_of c.self.inside.begun c.args.goes_on; bytes = c.args.bytes.now }

-- the packer's parts, and the part appended
abbrev more : goal.After-self-4-1 → List Portion
more c = parts_in c.self.inside.shape c.self.inside.block.items c.self.inside.len ++ part c ∷ []

-- the contents of the block after the call
abbrev text : goal.After-self-4-1 → List ℕ
text c = (with_items c.self.inside.block c.put_unit.new.block).items

keeps : (c : goal.After-self-4-1) → Keeps c.self.inside.shape (text c) (c.self.inside.len
    + (c.head_len.result + length c.args.bytes.now)) (more c)
keeps c =
    let a = c.self.inside in
    let shape = a.shape in
    let last = a.len + (c.head_len.result + length c.args.bytes.now) in
    let size : length c.put_unit.new.block ≡ a.block.len =
    omega (arith, c.put_unit.ensures.len, ap length c.as_mut_slice.ensures.value, a.block.ok) in
    let unit : IsUnit shape.format shape.rec_len (part c) =
    subst (λ (v : Packing). IsUnit v.shape.format v.shape.rec_len (record {
      span = span_of v.begun c.args.goes_on;
      bytes = c.args.bytes.now;
    })) (sym c.self.view_is) c.requires.unit in
    let room : size_of shape (parts_in shape a.block.items a.len) + (head_len shape.format
    + length c.args.bytes.now) ≤ shape.block_len =
    subst (λ (v : Packing). size_of v.shape v.parts + (head_len v.shape.format
    + length c.args.bytes.now) ≤ v.shape.block_len) (sym c.self.view_is) c.requires.room in
    let front : take last c.put_unit.new.block
    ≡ take a.len a.block.items ++ spelling shape.format (part c) =
    ap (λ n. take (a.len + (n + length c.args.bytes.now)) c.put_unit.new.block) c.head_len.ensures
    ∙ c.put_unit.ensures.front
    ∙ ap (λ (s : List ℕ). take a.len s ++ spelling shape.format (record {
      span = c.span-span.result;
      bytes = c.args.bytes.now;
    })) c.as_mut_slice.ensures.value
    ∙ ap (λ (s : Span). take a.len a.block.items ++ spelling shape.format (record {
      span = s;
      bytes = c.args.bytes.now;
    })) c.span-span.ensures in
    subst (λ (s : List ℕ). Keeps shape s last (more c))
    (sym (written_in a.block c.as_mut_slice.result.now c.put_unit.new.block
    c.as_mut_slice.ensures.value c.put_unit.ensures.len))
    (put_keeps shape a.block.items c.put_unit.new.block a.len last _
    (part c) c.self.invariant.keeps unit front (omega (arith, size, a.block.ok))
    (omega (arith, c.head_len.ensures)) (omega (arith, a.block.ok, c.self.invariant.size)) room)

pub invariant_of-self : goal.invariant_of-self
invariant_of-self c =
    let k = keeps c in
    let last = c.self.inside.len + (c.head_len.result + length c.args.bytes.now) in
    record {
      writable = c.self.invariant.writable;
      size = c.self.invariant.size;
      room = c.self.invariant.room;
      keeps = keeps_itself c.self.inside.shape (text c) last (more c) k;
      closed = λ e. keeps_some c.self.inside.shape (text c) last (more c) k (push_some _ (part c));
      begun = λ e. subst (λ (v : Packing). v.shape.format ≡ Spanned) (sym c.self.view_is)
          (c.requires.spanned e);
    }

pub returns : goal.returns
returns c =
    packed_is c.self.inside.shape (text c) (c.self.inside.len + (c.head_len.result
    + length c.args.bytes.now)) (more c) c.args.goes_on c.args.goes_on (keeps c)
    ∙ ap (λ (v : Packing). with_part v c.args.goes_on c.args.bytes.now) c.self.view_is
