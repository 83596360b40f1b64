-- Digits read one by one, and a minus before them.
use Rattle.std.proofs.Common.{◌≡◌, ℕ, ◌+◌, ◌-◌, ◌*◌, ◌^◌, ◌<◌, ◌≤◌, true, false, ◌&&◌, List, [], ◌∷◌, length, get_or, take, drop, pos, neg_ℤ, Some, None, Option, sym, ap, ◌∙◌, pow-suc, add-one, arith}
use native.Mathlib.Nat.{pow-le-pow_right}
use Rattle.std.specs.Option.{option_map}
use Rattle.std.specs.Char.{is_ascii_digit}
use Rattle.std.specs.Str.{all_ascii_digits}
use Rattle.std.proofs.lemmas.List.{at_drop_more, at_drop_all, take_rest}
use Rattle.std.proofs.lemmas.Bool.{cond-true, cond-false, and_from, and_left, and_right, eq-eqb, le-leb}
use Rattle.text.specs.Numbers.{read_on, magnitude_of, number_of}

-- a byte that is no digit
pub magnitude_stops : (xs : List ℕ) (i : ℕ) → i < length xs → is_ascii_digit (get_or xs i 0) ≡ false → all_ascii_digits (drop i xs) ≡ all_ascii_digits xs → magnitude_of xs ≡ None
magnitude_stops xs i l no_digit e =
    let h : all_ascii_digits xs ≡ false = sym e ∙ (at_drop_more all_ascii_digits xs i 0 l ∙ and_left _ _ no_digit) in
    cond-false _ _ _ (and_right _ _ h)

-- a digit
pub digits_more : (xs : List ℕ) (i : ℕ) → i < length xs → is_ascii_digit (get_or xs i 0) ≡ true → all_ascii_digits (drop i xs) ≡ all_ascii_digits (drop (i + 1) xs)
digits_more xs i l digit = at_drop_more all_ascii_digits xs i 0 l ∙ ap (λ b. b && all_ascii_digits (drop (i + 1) xs)) digit

pub read_on_more : (n : ℕ) (xs : List ℕ) (i : ℕ) → i < length xs → read_on n (drop i xs) ≡ read_on (n * 10 + (get_or xs i 0 - 48)) (drop (i + 1) xs)
read_on_more n xs i l = at_drop_more (read_on n) xs i 0 l

-- the end
pub magnitude_ends : (xs : List ℕ) (n i : ℕ) → length xs ≤ i → 1 ≤ length xs → length xs ≤ 10 → all_ascii_digits (drop i xs) ≡ all_ascii_digits xs → read_on n (drop i xs) ≡ read_on 0 xs
    → magnitude_of xs ≡ Some n
magnitude_ends xs n i l some few e v =
    let h : all_ascii_digits xs ≡ true = sym e ∙ at_drop_all all_ascii_digits xs i l in
    let w : read_on 0 xs ≡ n = sym v ∙ at_drop_all (read_on n) xs i l in
    cond-true _ _ _ (and_from _ _ (and_from _ _ (le-leb 1 _ some) (le-leb _ 10 few)) h) ∙ ap Some w

-- each digit multiplies the bound by ten
pub below_ten_times : (n i d : ℕ) → n < 10 ^ i → d ≤ 9 → n * 10 + d < 10 ^ (i + 1)
below_ten_times n i d h k = let e : 10 ^ (i + 1) ≡ 10 ^ i * 10 = rw add-one (pow-suc 10 i) in omega arith

pub below_ten_digits : (n i : ℕ) → n < 10 ^ i → i ≤ 10 → n < 10 ^ 10
below_ten_digits n i h k = let p : 10 ^ i ≤ 10 ^ 10 = pow-le-pow_right {n = 10} (omega arith) {i = i} {j = 10} k in omega arith

-- a minus before digits
pub number_minus : (xs : List ℕ) (o : Option ℕ) → 0 < length xs → get_or xs 0 0 ≡ 45 → o ≡ magnitude_of (take (length xs - 1) (drop 1 xs)) → option_map (λ n. neg_ℤ (pos n)) o ≡ number_of xs
number_minus [] o l h e = absurd (omega arith)
number_minus (b ∷ bs) o l h e = ap (option_map (λ n. neg_ℤ (pos n))) (e ∙ ap magnitude_of (take_rest (b ∷ bs) 1)) ∙ sym (cond-true _ _ _ (eq-eqb b 45 h))
