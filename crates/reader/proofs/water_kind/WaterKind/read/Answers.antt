use Rattle.std.proofs.Common.{◌≡◌, ℤ, Some, sym, ap, ◌∙◌, w32, SFits, to_z, of_z, rules}
use Rattle.std.specs.Int.{int_wrap}
use Rattle.std.proofs.lemmas.Int.{to_z-of_z, int_wrap_fits}
use Rattle.amount.specs.Waters.{water_of}
use Rattle.amount.specs.WatersLemmas.{water_eq}
use Rattle.reader.specs.Forms.{amount_field, water_from}
use Rattle.reader.proofs.water_kind.WaterKind.read.Goals as goal

-- a part that fits its width is what it wraps to
kept : (z : ℤ) → SFits w32 z → to_z w32 (of_z w32 z) ≡ int_wrap w32 z
kept z fits = to_z-of_z w32 z fits ∙ sym (int_wrap_fits w32 z fits)

pub returns : goal.returns
returns c =
    let line = c.args.line.now in
    let v = c.in-Some.v in
    let p = c.in-Some-read_part.p in
    let q = c.in-Some-read_part-2.q in
    let vfits : SFits w32 v = search rules in
    let pfits : SFits w32 p = search rules in
    let qfits : SFits w32 q = search rules in
    ap Some (water_eq _ (water_of v p q) (kept v vfits) (kept p pfits) (kept q qfits))
    ∙ (ap (λ o. water_from o (Some p) (Some q)) c.in-Some.ensures
    ∙ (ap (λ o. water_from (amount_field line 3) o (Some q)) c.in-Some-read_part.ensures
    ∙ ap (λ o. water_from (amount_field line 3) (amount_field line 4) o) c.in-Some-read_part-2.ensures))
