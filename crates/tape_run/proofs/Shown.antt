-- Texts shown by Display, and the bytes written of them.
use Rattle.std.proofs.Common.{◌≡◌, ℕ, List, Option, Some, None, subst, Result, Ok, Err, OnOk, OnErr}
use Rattle.std.proofs.Common.{IfSome}

-- a property of the text that was built is also a property of the text that is shown
pub on_ok_shown : {A E : Type 0} (r : Result A E) (shown : Option (List ℕ)) (P : List ℕ → Type 0)
    (made : List ℕ) → IfSome shown (λ bs. made ≡ bs) → OnOk r (P made)
    → OnOk r (IfSome shown P)
on_ok_shown (Ok x) None P made same p = tt
on_ok_shown (Ok x) (Some bs) P made same p = subst P same p
on_ok_shown (Err e) shown P made same p = tt

pub on_err_shown : {A E : Type 0} (r : Result A E) (shown : Option (List ℕ)) (P : List ℕ → Type 0)
    (made : List ℕ) → IfSome shown (λ bs. made ≡ bs) → OnErr r (P made)
    → OnErr r (IfSome shown P)
on_err_shown (Err e) None P made same p = tt
on_err_shown (Err e) (Some bs) P made same p = subst P same p
on_err_shown (Ok x) shown P made same p = tt

pub some_map : (shown : Option (List ℕ)) (P Q : List ℕ → Type 0)
    → ((bs : List ℕ) → P bs → Q bs) → IfSome shown P → IfSome shown Q
some_map None P Q f p = tt
some_map (Some bs) P Q f p = f bs p
