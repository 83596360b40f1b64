use Rattle.std.proofs.Common.{◌≡◌, ◌≢◌, ℕ, ℤ, pos, ◌*ℤ◌, nat_abs, arith, sym, ◌∙◌, rules}
use Rattle.std.proofs.lemmas.Int.{ints, to_z-of_z}
use Rattle.std.proofs.lemmas.Bool.{cond-false, ne_eqb}
use Rattle.interfaces.specs.Whole.{floor_div}
use Rattle.shallow_water.specs.declared.along.Along.{Along}
use Rattle.shallow_water.specs.Waves.{bounded, momentum_flux, fluxes}
use Rattle.shallow_water.proofs.face.Face.wet_fluxes.Goals as goal

-- the fluxes of a cell that has a volume, part by part
wet : (s l : ℕ) (u : Along ℤ) {v n t : ℤ} → u.v ≢ pos 0 → v ≡ bounded u.n → n ≡ bounded (momentum_flux s l u) → t ≡ bounded (floor_div (u.n *ℤ u.t) u.v)
    → ◌≡◌ {A = Along ℤ} (record { v = v; n = n; t = t }) (fluxes s l u)
wet s l u some v n t =
    (λ i. record { v = v i; n = n i; t = t i }) ∙ sym (cond-false _ _ _ (ne_eqb (nat_abs u.v) 0 (λ e. some (omega (arith, ints)))))

pub returns : goal.returns
returns c =
    let u = c.args.water in
    let carried = c.in_ok-carried.ensures in
    wet c.args.self.rule.shift c.args.self.level u carried.value.0 (search rules) c.in_ok-momentum_flux.ensures (search (rules, to_z-of_z))
