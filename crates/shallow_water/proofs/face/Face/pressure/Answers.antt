use Rattle.std.proofs.Common.{◌≡◌, ℕ, zero, suc, ◌+◌, ◌*◌, ◌/◌, ◌%◌, ◌^◌, ◌<◌, ◌≤◌, min, ℤ, pos, negsuc, nat_abs, sym, refl, ap, ◌∙◌, ⊎_elim, zero-mul, arith, rules, w64, to_z}
use native.Mathlib.Nat.{pow-le-pow_right, zero-div}
use Rattle.std.proofs.lemmas.Nat.{pow_pos, pow-add, shl_whole, le-div, mul-le, mul-pow}
use Rattle.std.proofs.lemmas.Int.{ints, clamps}
use Rattle.std.proofs.lemmas.Bool.{cases_lt}
use Rattle.shallow_water.specs.declared.along.Along.{Along}
use Rattle.shallow_water.specs.Waves.{bounded, pressure}
use Rattle.shallow_water.proofs.face.Face.pressure.Goals as goal

power_four : (k : ℕ) → 2 ^ (2 * k) ≡ 4 ^ k
power_four k = let e : 2 * k ≡ k + k = omega arith in ap (λ n. 2 ^ n) e ∙ pow-add 2 k k ∙ sym (mul-pow 2 2 k)

-- any pressure of a level from 26 on is at least 2^28
high : (s l x : ℕ) → s ≤ 24 → 26 ≤ l → 0 < x → 268435456 ≤ x * 4 ^ l / 2 ^ s
high s l x small deep some =
    let shifted : 2 ^ s ≤ 2 ^ 24 = pow-le-pow_right (omega arith) small in
    let scaled : 4 ^ 26 ≤ 4 ^ l = pow-le-pow_right (omega arith) deep in
    le-div 268435456 (x * 4 ^ l) (2 ^ s) (pow_pos s) (omega (arith, mul-le 1 (4 ^ l) x (4 ^ l) some (omega arith)))

-- where the level is cut at 26, the bounded pressure stays the same
cut : (s l x : ℕ) → s ≤ 24 → min (x * 4 ^ min l 26 / 2 ^ s) 268435456 ≡ min (x * 4 ^ l / 2 ^ s) 268435456
cut s l zero small = simp (zero-mul, zero-div)
cut s l (suc x) small =
    ⊎_elim
    (λ (h : l < 26). let e : min l 26 ≡ l = omega arith in rw e)
    (λ (h : 26 ≤ l). let e : min l 26 ≡ 26 = omega arith in rw e (omega (arith, high s 26 (suc x) small (omega arith) (omega arith), high s l (suc x) small h (omega arith))))
    (cases_lt l 26)

pressure_abs : (s l : ℕ) (u : Along ℤ) → pressure s l u ≡ pos (nat_abs u.v * nat_abs u.v * 4 ^ l / 2 ^ s)
pressure_abs s l u = elim u.v as (λ v. pressure s l (record u { v = v }) ≡ pos (nat_abs v * nat_abs v * 4 ^ l / 2 ^ s)) [ pos m ↦ refl | negsuc m ↦ refl ]

-- the pressure as it is worked out
worked_out : (s l v r : ℕ) → s ≤ 24 → v ≤ 268435456 → r ≡ min (v * v * 2 ^ (2 * min l 26) % 2 ^ 128 / 2 ^ s) 268435456
    → bounded (to_z w64 r) ≡ bounded (pos (v * v * 4 ^ l / 2 ^ s))
worked_out s l v r small range e =
    let square : v * v < 2 ^ 57 = omega (arith, mul-le v v 268435456 268435456 range range) in
    let whole : v * v * 2 ^ (2 * min l 26) % 2 ^ 128 ≡ v * v * 4 ^ min l 26 = shl_whole (v * v) 57 (2 * min l 26) 128 square (omega arith) ∙ ap (λ n. v * v * n) (power_four (min l 26)) in
    let cut_off : r ≡ min (v * v * 4 ^ l / 2 ^ s) 268435456 = e ∙ ap (λ n. min (n / 2 ^ s) 268435456) whole ∙ cut s l (v * v) small in
    omega (arith, ints, clamps)

pub returns : goal.returns
returns c =
    c.bounded.ensures
    ∙ worked_out c.args.self.rule.shift c.args.self.level (nat_abs c.args.water.v) c.min-2.result c.args.self.rule.range.1 (rw (← c.water.view_is) (rw c.get.ensures.value at c.get.ensures.range)) (search rules)
    ∙ ap bounded (sym (pressure_abs c.args.self.rule.shift c.args.self.level c.args.water))
