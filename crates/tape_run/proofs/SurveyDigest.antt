-- What changes a digest.
use Rattle.std.proofs.Common.{◌≡◌, ℕ, ◌+◌, ◌-◌, ◌*◌, ◌/◌, ◌%◌, ◌^◌, ◌<◌, List, [], ◌∷◌, ◌++◌, refl}
use Rattle.std.proofs.Common.{sym, ap, ◌∙◌, arith, length, map, drop, append_assoc, ◌≢◌}
use Rattle.std.specs.Int.{from_le_bytes, w64, rotate_left}
use Rattle.std.specs.{Simd.first_chunks, Int.Bits.bit_or}
use Rattle.std.proofs.Math.Nat.{mul_assoc, mul-add, mul-one, mod-add-mod, mod-add-div'}
use Rattle.std.proofs.Math.Nat.{add-mul-mod_self_right, mod-eq_of_lt}
use Rattle.std.proofs.lemmas.Nat.{mul-mod_first, or_shifted, mod_below}
use Rattle.tape_run.specs.SurveyDigest.{digest_by, digest_over, digest_with, digest_all, words_of}
use Rattle.tape_run.specs.SurveyDigest.{side_by, side_over, no_chains, block_digests}
use Rattle.tape_run.specs.SurveyDigest.{TellsWordsApart}

-- the factor and its inverse
abbrev factor : ℕ
factor = 11400714819323198485

abbrev inverse : ℕ
inverse = 17428512612931826493

-- ---- a sum or product determines the value that was added or multiplied

spread : (a q n : ℕ) → a * (1 + q * n) ≡ a + a * q * n
spread a q n = mul-add a 1 (q * n) ∙ ap (λ x. x + a * (q * n)) (mul-one a)
    ∙ ap (λ x. a + x) (sym (mul_assoc a q n))

-- a product with a factor, multiplied by the inverse of the factor, is the original value
taken_back : (a m k q n : ℕ) → a < n → m * k ≡ 1 + q * n → ((a * m) % n * k) % n ≡ a
taken_back a m k q n below inv =
    mul-mod_first (a * m) k n
    ∙ ap (λ x. x % n) (mul_assoc a m k ∙ ap (λ x. a * x) inv ∙ spread a q n)
    ∙ add-mul-mod_self_right a (a * q) n ∙ mod-eq_of_lt below

same_factor : (a b m k q n : ℕ) → a < n → b < n → m * k ≡ 1 + q * n
    → (a * m) % n ≡ (b * m) % n → a ≡ b
same_factor a b m k q n an bn inv e =
    sym (taken_back a m k q n an inv) ∙ ap (λ x. (x * k) % n) e ∙ taken_back b m k q n bn inv

rest_left : (r u n s p : ℕ) → s + p ≡ r → s < n → r + u + (n - s) ≡ u + (p + n)
rest_left r u n s p e below = omega arith

one_more : (p q n : ℕ) → p ≡ q * n → p + n ≡ (q + 1) * n
one_more p q n e = omega arith

-- a sum, less the number that was added, is the original value
taken_off : (r u n : ℕ) → 0 < n → u < n → ((r + u) % n + (n - r % n)) % n ≡ u
taken_off r u n some below =
    mod-add-mod (r + u) n (n - r % n) ∙ ap (λ x. x % n) (rest_left _ u _ _ _ (mod-add-div' r n)
    (mod_below r n some) ∙ ap (λ x. u + x) (one_more (r / n * n) (r / n) n refl))
    ∙ add-mul-mod_self_right u (r / n + 1) n ∙ mod-eq_of_lt below

same_added : (r u v n : ℕ) → 0 < n → u < n → v < n → (r + u) % n ≡ (r + v) % n → u ≡ v
same_added r u v n some un vn e =
    sym (taken_off r u n some un) ∙ ap (λ x. (x + (n - r % n)) % n) e ∙ taken_off r v n some vn

same_first : (r s u n : ℕ) → 0 < n → r < n → s < n → (r + u) % n ≡ (s + u) % n → r ≡ s
same_first r s u n some rn sn e =
    let left : u + r ≡ r + u = omega arith in
    let right : s + u ≡ u + s = omega arith in
    same_added u r s n some rn sn (ap (λ x. x % n) left ∙ e ∙ ap (λ x. x % n) right)

-- ---- halves that change places

turned : (d : ℕ) → d < 2 ^ 64 → rotate_left w64 d 32 ≡ d % 2 ^ 32 * 2 ^ 32 + d / 2 ^ 32
turned d below =
    let low : (d * 2 ^ 32) % 2 ^ 64 ≡ d % 2 ^ 32 * 2 ^ 32 = omega arith in
    ap (λ x. bit_or x (d / 2 ^ 32)) low
    ∙ or_shifted (d % 2 ^ 32) 32 (d / 2 ^ 32) (omega arith)

turned_below : (d : ℕ) → d < 2 ^ 64 → rotate_left w64 d 32 < 2 ^ 64
turned_below d below = omega (arith, turned d below)

halves : (d e : ℕ) → d < 2 ^ 64 → e < 2 ^ 64
    → d % 2 ^ 32 * 2 ^ 32 + d / 2 ^ 32 ≡ e % 2 ^ 32 * 2 ^ 32 + e / 2 ^ 32 → d ≡ e
halves d e dn en same = omega arith

same_turned : (d e : ℕ) → d < 2 ^ 64 → e < 2 ^ 64
    → rotate_left w64 d 32 ≡ rotate_left w64 e 32 → d ≡ e
same_turned d e dn en same = halves _ _ dn en (sym (turned _ dn) ∙ same ∙ turned _ en)

-- ---- chains

pub side_over-append : (ds ws vs : List ℕ) → side_over ds (ws ++ vs)
    ≡ side_over (side_over ds ws) vs
side_over-append ds [] vs = refl
side_over-append ds (w ∷ ws) vs = side_over-append (side_by ds w) ws vs

-- the words of a block
pub with_words : (ds : List ℕ) (b : List ℕ) (front all : List ℕ)
    → front ≡ side_over ds (map (from_le_bytes w64) (first_chunks 8 (length b / 8) b))
    → all ≡ side_over front (drop (length b / 8 * 8) b) → all ≡ side_over ds (words_of b)
unfolding words_of
with_words ds b front all words bytes =
    rw (bytes, words, side_over-append)

pub digest_below : (d w : ℕ) → digest_by d w < 2 ^ 64
unfolding digest_by
digest_below d w = mod_below ((rotate_left w64 d 32 + w) % 2 ^ 64 * factor) (2 ^ 64) (omega arith)

-- one sum
same_sum : (d e u v : ℕ) → digest_by d u ≡ digest_by e v
    → (rotate_left w64 d 32 + u) % 2 ^ 64 ≡ (rotate_left w64 e 32 + v) % 2 ^ 64
unfolding digest_by
same_sum d e u v same =
    same_factor _ _ _ inverse 10771413168148108919 _
    (mod_below (rotate_left w64 d 32 + u) (2 ^ 64) (omega arith))
    (mod_below (rotate_left w64 e 32 + v) (2 ^ 64) (omega arith)) refl same

same_word : (d u v : ℕ) → u < 2 ^ 64 → v < 2 ^ 64 → digest_by d u ≡ digest_by d v → u ≡ v
same_word d u v un vn same = same_added _ _ _ _ (omega arith) un vn (same_sum _ _ _ _ same)

same_digest : (d e w : ℕ) → d < 2 ^ 64 → e < 2 ^ 64 → digest_by d w ≡ digest_by e w → d ≡ e
same_digest d e w dn en same =
    same_turned d e dn en (same_first (rotate_left w64 d 32) (rotate_left w64 e 32) w (2 ^ 64)
    (omega arith) (turned_below d dn) (turned_below e en) (same_sum d e w w same))

same_before : (d e : ℕ) (ws : List ℕ) → d < 2 ^ 64 → e < 2 ^ 64
    → digest_over d ws ≡ digest_over e ws → d ≡ e
same_before d e [] dn en same = same
same_before d e (w ∷ ws) dn en same =
    same_digest d e w dn en
    (same_before (digest_by d w) (digest_by e w) ws (digest_below d w) (digest_below e w) same)

pub over_below : (d : ℕ) (ws : List ℕ) → d < 2 ^ 64 → digest_over d ws < 2 ^ 64
over_below d [] below = below
over_below d (w ∷ ws) below = over_below (digest_by d w) ws (digest_below d w)

-- one word of several
one_word : (d : ℕ) (front back : List ℕ) (u v : ℕ) → d < 2 ^ 64 → u < 2 ^ 64 → v < 2 ^ 64 → u ≢ v
    → digest_over d (front ++ u ∷ back) ≢ digest_over d (front ++ v ∷ back)
one_word d [] back u v dn un vn other same =
    other (same_word d u v un vn
    (same_before (digest_by d u) (digest_by d v) back (digest_below d u) (digest_below d v) same))
one_word d (w ∷ front) back u v dn un vn other same =
    one_word (digest_by d w) front back u v (digest_below d w) un vn other same

-- ---- chains of which one differs

after_words : (d : ℕ) (front back ws last : List ℕ) (u v : ℕ) → d < 2 ^ 64 → u < 2 ^ 64 → v < 2 ^ 64
    → u ≢ v → digest_over d (side_over (front ++ u ∷ back) ws ++ last)
    ≢ digest_over d (side_over (front ++ v ∷ back) ws ++ last)
after_words d front back [] last u v dn un vn other same =
    one_word d front (back ++ last) u v dn un vn other
    (ap (digest_over d) (sym (append_assoc front (u ∷ back) last)) ∙ same
    ∙ ap (digest_over d) (append_assoc front (v ∷ back) last))
after_words d [] back (w ∷ ws) last u v dn un vn other same =
    after_words d back [] ws last (digest_by u w) (digest_by v w) dn (digest_below u w)
    (digest_below v w) (λ e. other (same_digest u v w un vn e)) same
after_words d (x ∷ front) back (w ∷ ws) last u v dn un vn other same =
    let more = digest_by x w ∷ [] in
    after_words d front (back ++ more) ws last u v dn un vn other
    (ap (λ q. digest_over d (side_over q ws ++ last)) (sym (append_assoc front (u ∷ back) more))
    ∙ same ∙ ap (λ q. digest_over d (side_over q ws ++ last)) (append_assoc front (v ∷ back) more))

-- one of the words that the chains take
taken_word : (d x : ℕ) (xs front back last : List ℕ) (u v : ℕ) → d < 2 ^ 64 → u < 2 ^ 64
    → v < 2 ^ 64 → u ≢ v → digest_over d (side_over (x ∷ xs) (front ++ u ∷ back) ++ last)
    ≢ digest_over d (side_over (x ∷ xs) (front ++ v ∷ back) ++ last)
taken_word d x xs [] back last u v dn un vn other same =
    after_words d xs [] back last (digest_by x u) (digest_by x v) dn (digest_below x u)
    (digest_below x v) (λ e. other (same_word x u v un vn e)) same
taken_word d x [] (w ∷ front) back last u v dn un vn other same =
    taken_word d (digest_by x w) [] front back last u v dn un vn other same
taken_word d x (y ∷ ys) (w ∷ front) back last u v dn un vn other same =
    taken_word d y (ys ++ digest_by x w ∷ []) front back last u v dn un vn other same

-- ---- blocks

with_below : (d : ℕ) (b : List ℕ) → d < 2 ^ 64 → digest_with d b < 2 ^ 64
with_below d b below = over_below d (block_digests b) below

blocks_apart : (d : ℕ) (b c front back : List ℕ) (u v : ℕ) → d < 2 ^ 64 → u < 2 ^ 64 → v < 2 ^ 64
    → u ≢ v → length b ≡ length c → words_of b ≡ front ++ u ∷ back → words_of c ≡ front ++ v ∷ back
    → digest_with d b ≢ digest_with d c
blocks_apart d b c front back u v dn un vn other long one two same =
    let of = λ (ws : List ℕ) (n : ℕ). digest_over d (side_over no_chains ws ++ n ∷ []) in
    taken_word d 0 (0 ∷ 0 ∷ 0 ∷ 0 ∷ 0 ∷ 0 ∷ 0 ∷ []) front back (length b ∷ []) u v dn un vn other
    (ap (λ ws. of ws (length b)) (sym one) ∙ same ∙ ap (of (words_of c)) (sym long)
    ∙ ap (λ ws. of ws (length b)) two)

same_start : (d e : ℕ) (bs : List (List ℕ)) → d < 2 ^ 64 → e < 2 ^ 64
    → digest_all d bs ≡ digest_all e bs → d ≡ e
same_start d e [] dn en same = same
same_start d e (b ∷ bs) dn en same =
    same_before d e (block_digests b) dn en
    (same_start (digest_with d b) (digest_with e b) bs (with_below d b dn) (with_below e b en) same)

pub digest_all-append : (d : ℕ) (bs cs : List (List ℕ))
    → digest_all d (bs ++ cs) ≡ digest_all (digest_all d bs) cs
digest_all-append d [] cs = refl
digest_all-append d (b ∷ bs) cs = digest_all-append (digest_with d b) bs cs

all_apart : (d : ℕ) (before after : List (List ℕ)) (b c : List ℕ) → d < 2 ^ 64
    → ((e : ℕ) → e < 2 ^ 64 → digest_with e b ≢ digest_with e c)
    → digest_all d (before ++ b ∷ after) ≢ digest_all d (before ++ c ∷ after)
all_apart d [] after b c dn apart same =
    apart d dn (same_start (digest_with d b) (digest_with d c) after (with_below d b dn)
    (with_below d c dn) same)
all_apart d (x ∷ before) after b c dn apart same =
    all_apart (digest_with d x) before after b c (with_below d x dn) apart same

pub tells_words_apart : TellsWordsApart
tells_words_apart before after b c front back u v un vn other long one two =
    all_apart 0 before after b c (omega arith)
    (λ e below. blocks_apart e b c front back u v below un vn other long one two)
