-- Rows that are painted by one patch after another.
use Rattle.std.proofs.Common.{◌≡◌, ℕ, ◌+◌, ◌-◌, ◌*◌, ◌/◌, ◌<◌, ◌≤◌, Bool, cond, ◌&&◌, ◌||◌, ltb, leb, List, [], ◌∷◌, ◌++◌, length, get_or, take, drop, replicate, sym, ap, ◌∙◌, ⊎_elim, div-lt_iff_lt-mul, le-div_iff_mul-le, rules, arith}
use borrow.Rule.Slice.PartMut.{put_mid}
use Rattle.std.specs.Ordering.{is_le, is_lt, nat_cmp}
use Rattle.std.proofs.Math.Bool.{or_assoc, or-false}
use Rattle.std.proofs.lemmas.Bool.{cases_lt, le-leb, lt-leb, lt-ltb, le-ltb}
use Rattle.std.proofs.lemmas.Bool.Decides.{nat_tests}
use Rattle.std.proofs.lemmas.List.{get_or-replicate, length-replicate, take_more, places}
use Rattle.std.proofs.lemmas.List.Edits.{length-between}
use Rattle.grid.specs.declared.patch.Patch.{Patch}
use Rattle.grid.specs.Boxes.{no_patch, holds, held}

-- the part from one column to another, filled with v
pub filled : (xs ys : List ℕ) (from to v k : ℕ) → from ≤ to → to ≤ length xs → ys ≡ replicate (length (take (to - from) (drop from xs))) v
    → get_or (put_mid from (to - from) xs ys) k 0 ≡ cond (leb from k && ltb k to) v (get_or xs k 0)
filled xs ys from to v k le lt is =
    let n = to - from in
    let all : ys ≡ replicate n v = is ∙ ap (λ m. replicate m v) (length-between xs from to lt) in
    ⊎_elim
    (λ l. let e : get_or (put_mid from n xs ys) k 0 ≡ get_or xs k 0 = search (rules, places) in grind (arith, nat_tests))
    (λ g. let e : get_or (put_mid from n xs ys) (from + (k - from)) 0 ≡ cond (ltb (k - from) (length ys)) (get_or ys (k - from) 0) (get_or xs (from + n + (k - from - length ys)) 0) = search (rules, places) in
    grind (arith, nat_tests, get_or-replicate, length-replicate))
    (cases_lt k from)

-- what one patch adds
held-push : (ps : List Patch) (p : Patch) (x y : ℕ) → held (ps ++ p ∷ []) x y ≡ (held ps x y || holds p x y)
held-push [] p x y = or-false (holds p x y)
held-push (q ∷ ps) p x y = ap (λ b. holds q x y || b) (held-push ps p x y) ∙ sym (or_assoc (holds q x y) (held ps x y) (holds p x y))

held_more : (ps : List Patch) (i x y : ℕ) → i < length ps → held (take (i + 1) ps) x y ≡ (held (take i ps) x y || holds (get_or ps i no_patch) x y)
held_more ps i x y lt = ap (λ qs. held qs x y) (take_more ps i no_patch lt) ∙ held-push (take i ps) (get_or ps i no_patch) x y

-- s places for each cell: place k lies in cell k / s
leb_scaled : (s a k : ℕ) → 0 < s → leb a (k / s) ≡ leb (a * s) k
leb_scaled s a k pos =
    ⊎_elim
    (λ lt. lt-leb a (k / s) ((div-lt_iff_lt-mul pos).1 lt) ∙ sym (lt-leb (a * s) k lt))
    (λ le. le-leb a (k / s) ((le-div_iff_mul-le pos).1 le) ∙ sym (le-leb (a * s) k le))
    (cases_lt k (a * s))

ltb_scaled : (s b k : ℕ) → 0 < s → ltb (k / s) b ≡ ltb k (b * s)
ltb_scaled s b k pos =
    ⊎_elim
    (λ lt. lt-ltb (k / s) b ((div-lt_iff_lt-mul pos).1 lt) ∙ sym (lt-ltb k (b * s) lt))
    (λ le. le-ltb (k / s) b ((le-div_iff_mul-le pos).1 le) ∙ sym (le-ltb k (b * s) le))
    (cases_lt k (b * s))

-- of a row with s places for each cell, the places that a patch holds in row y
scaled : (p : Patch) (s y k : ℕ) → 0 < s → ((is_le (nat_cmp p.y0 y) && is_lt (nat_cmp y p.y1)) && (leb (p.x0 * s) k && ltb k (p.x1 * s))) ≡ holds p (k / s) y
scaled p s y k pos =
    let low = leb_scaled s p.x0 k pos in
    let high = ltb_scaled s p.x1 k pos in
    rw (← low, ← high) (grind (arith, nat_tests))

over : (a b : Bool) (v old row next : ℕ) → row ≡ cond a v old → next ≡ cond b v row → next ≡ cond (a || b) v old
over a b v old row next e f = grind (arith, nat_tests)

-- v is written at the places that the next patch holds
pub patch_more : (ps : List Patch) (i s y v k old row next : ℕ) → i < length ps → 0 < s → row ≡ cond (held (take i ps) (k / s) y) v old
    → (let p = get_or ps i no_patch in next ≡ cond ((is_le (nat_cmp p.y0 y) && is_lt (nat_cmp y p.y1)) && (leb (p.x0 * s) k && ltb k (p.x1 * s))) v row)
    → next ≡ cond (held (take (i + 1) ps) (k / s) y) v old
patch_more ps i s y v k old row next lt pos before after =
    over (held (take i ps) (k / s) y) (holds (get_or ps i no_patch) (k / s) y) v old row next before (after ∙ ap (λ b. cond b v row) (scaled (get_or ps i no_patch) s y k pos))
    ∙ ap (λ b. cond b v old) (sym (held_more ps i (k / s) y lt))
