use Rattle.std.proofs.Common.{◌≡◌, ◌==◌, ◌++◌, ℕ, Bool, true, false, if◌then◌else◌, List, take}
use Rattle.std.proofs.Common.{drop, length, sym, ap, ◌∙◌, arith, append_assoc, take_all}
use Rattle.std.proofs.lemmas.List.{take-append-drop}
use Rattle.std.specs.{Prelude.Option, Prelude.Some, Prelude.None, Io.Buffered.reader_buffer}
use Rattle.std.specs.Io.KnownBytes.{Consumes, prepend_known}
use Rattle.tape_tool.proofs.images.ReadAheadRead.read.Goals as goal

-- the first n buffered bytes were read
passed : (empty : Bool) (left : Option (List ℕ)) (bytes : List ℕ) (n : ℕ)
    → Consumes (if empty then None else prepend_known bytes left)
    (if empty then None else prepend_known (drop n bytes) left) (take n bytes)
passed true left bytes n = tt
passed false None bytes n = tt
passed false (Some xs) bytes n =
    ap (λ l. l ++ xs) (sym (take-append-drop n bytes))
    ∙ append_assoc (take n bytes) (drop n bytes) xs

read_front : (size size' : ℕ) (left left' : Option (List ℕ)) (bytes bytes' front : List ℕ) (n : ℕ)
    → size' ≡ size → left' ≡ left → bytes' ≡ drop n bytes → front ≡ take n bytes
    → Consumes (if size == 0 then None else prepend_known bytes left)
    (if size' == 0 then None else prepend_known bytes' left') front
read_front size size' left left' bytes bytes' front n e f g h =
    rw (e, f, g, h) (passed (size == 0) left bytes n)

pub returns-clause-bytes : goal.returns-clause-bytes
returns-clause-bytes g c =
    let front = c.copy_from_slice.new.self in
    let buffered = reader_buffer c.args.self.now.inner in
    let all : take (length front) front ≡ front = take_all (length front) front (omega arith) in
    let copied : front ≡ take (length front) buffered =
    c.copy_from_slice.ensures.after
    ∙ ap (take (length c.args.buf.now)) c.buffer-ready.ensures
    ∙ ap (λ n. take n buffered) (sym c.copy_from_slice.ensures.len) in (
      read_front _ _ _ _ buffered _ _ (length front) c.consume.ensures.capacity
          (ap g.R.Read.remaining c.consume.ensures.inner) c.consume.ensures.buffer (all ∙ copied),
      λ none some. absurd (omega (arith, none, some)),
    )
