use Rattle.std.proofs.Common.{◌≡◌, ℕ, ℤ, pos, negsuc, ◌+ℤ◌, ◌*ℤ◌, ◌≤ℤ◌, ap, ◌∙◌, arith, w64, SFits}
use Rattle.std.proofs.lemmas.Int.{ints, clamps, to_z-of_z}
use Rattle.interfaces.specs.Whole.{floor_div}
use Rattle.shallow_water.specs.declared.along.Along.{Along}
use Rattle.shallow_water.specs.Waves.{bounded, pressure}
use Rattle.shallow_water.proofs.face.Face.momentum_flux.Goals as goal

square_carried : (n v : ℤ) → pos 0 ≤ℤ v → pos 0 ≤ℤ floor_div (n *ℤ n) v
square_carried (pos a) (pos m) s = omega (arith, ints)
square_carried (negsuc a) (pos m) s = omega (arith, ints)
square_carried n (negsuc m) s = absurd s.le

pressed : (s l : ℕ) (u : Along ℤ) → pos 0 ≤ℤ pressure s l u
pressed s l u = elim u.v as (λ v. pos 0 ≤ℤ pressure s l (record u { v = v })) [ pos m ↦ omega (arith, ints) | negsuc m ↦ omega (arith, ints) ]

-- Where neither number is below zero, the second may be brought into its range before the sum is.
summed : (a p : ℤ) → pos 0 ≤ℤ a → pos 0 ≤ℤ p → bounded (a +ℤ bounded p) ≡ bounded (a +ℤ p)
summed a p some pressed = omega (arith, ints, clamps)

pub returns : goal.returns
returns c =
    let u = c.args.water in
    let p = pressure c.args.self.rule.shift c.args.self.level u in
    let told = c.in_ok-carried.ensures in
    let carried = told.value.1 ∙ ap (λ n. floor_div (u.n *ℤ n) u.v) (ap (λ (w : Along ℤ). w.n) c.water.view_is) in
    let some : pos 0 ≤ℤ u.v = rw (← c.water.view_is) c.water.invariant in
    let range = told.range in
    let fits_1 : SFits w64 c.in_ok-carried.carried = omega (arith, ints) in
    let fits_2 : SFits w64 c.get.result = record { sfits = c.get.type_inv } in
    let fits : SFits w64 (c.in_ok-carried.carried +ℤ c.get.result) = omega (arith, ints) in
    (simp to_z-of_z at c.bounded.ensures)
    ∙ ap (λ g. bounded (c.in_ok-carried.carried +ℤ g)) (c.get.ensures.value ∙ c.pressure.ensures)
    ∙ summed c.in_ok-carried.carried p (rw carried (square_carried u.n u.v some)) (pressed c.args.self.rule.shift c.args.self.level u)
    ∙ ap (λ a. bounded (a +ℤ p)) carried
