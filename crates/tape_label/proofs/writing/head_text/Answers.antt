use Rattle.std.proofs.Common.{append_assoc}
use Rattle.tape_label.proofs.writing.head_text.Goals as goal

pub returns-clause-text : goal.returns-clause-text
returns-clause-text c =
    rw (
      c.whole.ensures,
      c.put_spaces.ensures.items,
      c.put-8.ensures.items,
      c.put_number-3.ensures.items,
      c.push.ensures.items,
      c.put-7.ensures.items,
      c.put-6.ensures.items,
      c.put-5.ensures.items,
      c.put-4.ensures.items,
      c.put_number-2.ensures.items,
      c.put_number.ensures.items,
      c.put-3.ensures.items,
      c.put-2.ensures.items,
      c.put.ensures.items,
      c.new-label.ensures,
    )
    (rw (
      c.identifier.ensures,
      c.bytes.ensures.value,
      c.bytes-2.ensures.value,
      c.bytes-3.ensures.value,
      c.bytes-4.ensures.value,
      c.bytes-5.ensures.value,
      c.bytes-6.ensures.value,
      c.bytes-7.ensures.value,
      c.from.ensures,
      c.from-2.ensures,
      c.from-3.ensures,
    )
    (simp append_assoc))
