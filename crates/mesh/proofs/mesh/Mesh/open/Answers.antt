use Rattle.std.proofs.Common.{◌≡◌, ℕ, true, length, Some, refl, ap, ◌∙◌, rules, arith}
use Rattle.std.proofs.lemmas.Bool.{eq-eqb}
use Rattle.std.proofs.lemmas.Bool.Decides.{nat_tests}
use Rattle.grid.specs.Sizes.{sheet_length}
use Rattle.model.specs.Refusals.{Sheets, all_long}
use Rattle.model.proofs.Sheets.{fields_of_zeros}
use Rattle.sheets.specs.Lists.{lent}
use Rattle.mesh.proofs.Opens.{no_patches, filled}
use Rattle.mesh.proofs.mesh.Mesh.open.Goals as goal

-- each of the five sheets has the length
all_long_parts : {A : Type 0} (n : ℕ) (sheets : Sheets A) → all_long n sheets ≡ true
    → (length sheets.contents ≡ n) × (length sheets.before ≡ n) × (length sheets.corrections ≡ n) × (length sheets.marks ≡ n) × (length sheets.wanted ≡ n)
all_long_parts n sheets e = (grind (arith, nat_tests), grind (arith, nat_tests), grind (arith, nat_tests), grind (arith, nat_tests), grind (arith, nat_tests))

pub returns : goal.returns
returns g c =
    let G = g.V.Amount.addition in
    let o = c.in-Some.layout in
    let some : c.flat.result ≡ Some o = grind arith in
    let flat = rw some at c.flat.ensures in
    let none = no_patches o flat.2 flat.3 in
    let n : c.sheet_length.result ≡ sheet_length c.args.size = c.sheet_length.ensures.0 ∙ ap sheet_length flat.1 in
    let long : all_long c.sheet_length.result (lent c.args.sheets) ≡ true = grind arith in
    let parts = all_long_parts c.sheet_length.result (lent c.args.sheets) long in
    simp (
      flat.0,
      flat.1,
      none,
      n,
      c.zero-zero.ensures,
      filled _ _ c.zero-zero.result (λ x q k. search rules) _ c.fill_with.ensures.ran c.fill_with.ensures.len,
      filled _ _ c.zero-zero.result (λ x q k. search rules) _ c.fill_with-2.ensures.ran c.fill_with-2.ensures.len,
      filled _ _ c.zero-zero.result (λ x q k. search rules) _ c.fill_with-3.ensures.ran c.fill_with-3.ensures.len,
      c.mark_base.ensures,
      c.fill.ensures.after (λ y e. e),
      parts.0,
      parts.1,
      parts.2,
      parts.3,
      parts.4,
      fields_of_zeros c.args.size G.zero (sheet_length c.args.size) refl,
      eq-eqb (sheet_length c.args.size) _ refl,
    )
