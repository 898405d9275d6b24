-- Properties that sequences of calls preserve.
use Rattle.tape_writer.proofs.Words.{◌≡◌, ◌≤◌, ℕ, ◌+◌, List, [], ◌∷◌, ◌++◌, refl, ◌∙◌}
use Rattle.tape_writer.proofs.Words.{append_assoc, arith, inl, inr, append-nil, TapeItem, item_size}
use Rattle.tape_writer.proofs.Words.{items_size-append, Vol1}
use Rattle.tape_writer.specs.Tapes.{Tapes, UnderWay, Rose, Failures, Grows, WasAsked}
use Rattle.tape_writer.specs.Lasting.{Lasting, Lasts, LastsFirst}

pub rose_from : (a b c : ℕ) → a ≤ b → Rose b c → Rose a c
rose_from a b c le (inl lt) = inl (omega arith)
rose_from a b c le (inr top) = inr top

pub rose_none : Rose 0 0 → ⊥
rose_none (inl lt) = omega (arith, lt)
rose_none (inr top) = omega (arith, top)

pub lasting_then : (H K L : Tapes → Type 0) (n m k : Failures) (u v w : ℕ) → Lasting H n u K m v
    → Lasting K m v L k w → Lasting H n u L k w
lasting_then H K L n m k u v w a b = record {
  lasts = λ volumes items h s.
      let x = a.lasts volumes items h s in
      let y = b.lasts (volumes ++ x.more) x.items x.held x.size in
      record {
        more = x.more ++ y.more;
        items = y.items;
        held = rw append_assoc at y.held;
        size = y.size;
      };
  count = (omega (arith, a.count.0, b.count.0), omega (arith, a.count.1, b.count.1));
}

-- before the first volume: a call that leaves a size other than 0 began it
pub first_lasts : (H : Tapes → Type 0) (u : ℕ) → LastsFirst H u → (u ≡ 0 → ⊥) → Lasts H u []
first_lasts H u (inl none) some = absurd (some none.1)
first_lasts H u (inr lasts) some = lasts

pub lasts_then : (H K : Tapes → Type 0) (n m : Failures) (u v : ℕ) → Lasts H u []
    → Lasting H n u K m v → Lasts K v []
lasts_then H K n m u v x b =
    let y = b.lasts x.more x.items x.held x.size in
    record { more = x.more ++ y.more; items = y.items; held = y.held; size = y.size }

-- an item was accepted
pub lasting_item : (H K : Tapes → Type 0) (n m : Failures) (u v : ℕ) (x : TapeItem)
    → ((volumes : List (List TapeItem)) (items : List TapeItem) → H (UnderWay volumes items)
    → K (UnderWay volumes (items ++ x ∷ []))) → Grows n m → v ≡ u + item_size x → Lasting H n u K m
    v
lasting_item H K n m u v x f le e = record {
  lasts = λ volumes items h s. record {
    more = [];
    items = items ++ x ∷ [];
    held = rw append-nil (f volumes items h);
    size = omega (arith, e, s, items_size-append items (x ∷ []));
  };
  count = le;
}

-- nothing was accepted
pub lasting_err : (H K : Tapes → Type 0) (n m : Failures) (u v : ℕ)
    → ((tapes : Tapes) → H tapes → K tapes) → Grows n m → v ≡ u → Lasting H n u K m v
lasting_err H K n m u v f le e = record {
  lasts = λ volumes items h s. record {
    more = [];
    items = items;
    held = rw append-nil (f (UnderWay volumes items) h);
    size = e ∙ s;
  };
  count = le;
}

pub lasting_self : (H : Tapes → Type 0) (n : Failures) (u : ℕ) → Lasting H n u H n u
lasting_self H n u = lasting_err H H n n u u (λ t h. h) (omega arith, omega arith) refl

-- the facts that a sequence of calls requires of each call
pub ruleset kept = (lasting_then, lasting_self, rose_from)

-- the same for an equal list of volumes
pub asked_of : (A B : Vol1 → Type 0) (us vs : List Vol1) (n m : ℕ) → us ≡ vs
    → (WasAsked A us n → WasAsked B us m) → WasAsked A vs n → WasAsked B vs m
asked_of A B us vs n m e = rw (← e) (λ f. f)
