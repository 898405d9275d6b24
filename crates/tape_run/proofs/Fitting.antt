-- Faults, and prefixes of texts, in the forms that occur in answers.
use Rattle.std.proofs.Common.{◌≡◌, ℕ, Bool, true, false, List, [], Option, Some, None, refl, sym}
use Rattle.std.proofs.{Common.◌∙◌, Common.append-nil, Common.if◌then◌else◌, KnownBytes.Appends-nil}
use Rattle.std.specs.Io.KnownBytes.{Appends, Keeps}
use Rattle.tape_image.specs.Written.{AppendsFront}

-- the text after a part that ends its record
pub end_behind : (b : Bool) (end : List ℕ) → b ≡ false → (if b then [] else end) ≡ end
end_behind true end e = absurd (cc)
end_behind false end e = refl

-- the writer contains the same bytes
pub kept : (old mid new : Option (List ℕ)) (bytes : List ℕ) → Appends old mid bytes → Keeps mid new
    → Appends old new bytes
kept None mid new bytes a b = tt
kept (Some xs) None new bytes a b = absurd a
kept (Some xs) (Some ys) None bytes a b = absurd b
kept (Some xs) (Some ys) (Some zs) bytes a b = b ∙ a

-- nothing was written
pub no_text : (w : Option (List ℕ)) (all : List ℕ) → AppendsFront w w all
no_text w all = ([], all, Appends-nil w, refl)

-- all of a text
pub whole_text : (old new : Option (List ℕ)) (a : List ℕ) → Appends old new a
    → AppendsFront old new a
whole_text old new a wrote = (a, [], wrote, sym (append-nil a))

-- exactly the text was written
pub whole_front : (old mid new : Option (List ℕ)) (text : List ℕ) → Appends old mid text
    → Keeps mid new → AppendsFront old new text
whole_front old mid new text wrote keeps =
    whole_text old new text (kept old mid new text wrote keeps)

-- no more was written
pub no_front : (mid new : Option (List ℕ)) → Keeps mid new → AppendsFront mid new []
no_front mid new keeps = ([], [], kept mid mid new [] (Appends-nil mid) keeps, refl)
