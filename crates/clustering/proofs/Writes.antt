-- Boxes that are written one after another into lent patches.
use Rattle.std.proofs.Common.{◌≡◌, ℕ, ◌<◌, ◌≤◌, true, List, [], ◌++◌, length, take, drop, is_err, Ok, Err, Result, refl, sym, ap, ◌∙◌, subst, arith}
use mathlib.Core.Bool.{false≢true}
use Rattle.std.proofs.lemmas.List.{append_assoc, length-append}
use Rattle.std.proofs.lemmas.Slice.{drop-append-drop}
use Rattle.std.proofs.lemmas.Grind.{common_steps}
use Rattle.grid.specs.declared.patch.Patch.{Patch}
use Rattle.interfaces.specs.declared.clustering.TooMany.{TooMany}
use Rattle.interfaces.specs.Answers.{Clustered}
use Rattle.clustering.specs.declared.boxes.Boxes.{Boxes}
use Rattle.clustering.specs.Rows.{Written, Wrote}

-- Once boxes are written, the front ends with them, and behind them and in length the patches are as they were.
behind : (count n m : ℕ) (now next boxes : List Patch) → count ≤ length now → Written (Ok tt) count n now next boxes → n ≤ m
    → (take n next ≡ take count now ++ boxes) × (drop m next ≡ drop m now) × (length next ≡ length now)
behind count n m now next boxes h w l =
    let long : length (take count now ++ boxes) ≡ n = grind (arith, common_steps) in (
      grind (arith, common_steps),
      ap (drop m) (w.2 ∙ sym (append_assoc (take count now) boxes (drop n now))) ∙ drop-append-drop n now (take count now ++ boxes) m l long,
      grind (arith, common_steps),
    )

-- some boxes and then others
joined : (r : Result (Unit {0}) TooMany) (now next after : Boxes) (boxes rest : List Patch) → now.count ≤ length now.patches.now
    → Wrote (Ok tt) now next boxes → Wrote r next after rest → Wrote r now after (boxes ++ rest)
joined (Ok done) now next after boxes rest h w v =
    let b = behind now.count next.count after.count now.patches.now next.patches.now boxes h w.written (omega arith) in record {
      lent = v.lent ∙ w.lent;
      written = (
        omega (arith, length-append boxes rest),
        omega (arith, b.2),
        v.written.2 ∙ ap (λ f. f ++ (rest ++ drop after.count next.patches.now)) b.0
            ∙ ap (λ t. (take now.count now.patches.now ++ boxes) ++ (rest ++ t)) b.1 ∙ simp append_assoc,
      );
    }
joined (Err e) now next after boxes rest h w v = record {
  lent = v.lent ∙ w.lent;
  written = omega (arith, v.written, w.written, length-append boxes rest, (behind now.count next.count next.count now.patches.now next.patches.now boxes h w.written (omega arith)).2);
}

-- Of all boxes the rest is left to write: whatever writing the rest from here on answers is the answer for all from the start.
pub record UnderWay (start : Boxes) (all : List Patch) (now : Boxes) (rest : List Patch) : Type 0 where
  pub room : now.count ≤ length now.patches.now
  pub ends : (r : Result (Unit {0}) TooMany) (after : Boxes) → Wrote r now after rest → Wrote r start after all

module _ {start now : Boxes} {all rest : List Patch} (u : UnderWay start all now rest) where
  pub left : {other : List Patch} → rest ≡ other → UnderWay start all now other
  left e = subst (λ (l : List Patch). UnderWay start all now l) e u

  pub ended : rest ≡ [] → Wrote (Ok tt) start now all
  ended e = (left e).ends (Ok tt) now (let room = u.room in record { lent = refl; written = grind (arith, common_steps) })

  pub further : {next : Boxes} (boxes other : List Patch) → rest ≡ boxes ++ other → Wrote (Ok tt) now next boxes → UnderWay start all next other
  further {next} boxes other e w =
      let b = behind now.count next.count next.count now.patches.now next.patches.now boxes u.room w.written (omega arith) in
      record {
        room = omega (arith, b.2, w.written.1);
        ends = λ r after v. (left e).ends r after (joined r now next after boxes other u.room w v);
      }

  pub overfull : {t : TooMany} {after : Boxes} (boxes other : List Patch) → rest ≡ boxes ++ other → Wrote (Err t) now after boxes
      → (r : Result (Unit {0}) TooMany) → is_err r ≡ true → Wrote r start after all
  overfull boxes other e w (Ok done) err = absurd (false≢true err)
  overfull {after = after} boxes other e w (Err t) err =
      u.ends (Err t) after (record { lent = w.lent; written = omega (arith, w.written, ap length e ∙ length-append boxes other) })

-- written from the first patch on, the boxes are the answer of a clustering
pub all_written : (n : ℕ) (before after boxes : List Patch) → Written (Ok tt) 0 n before after boxes → Clustered (Ok n) before after boxes
all_written n before after boxes w = grind (arith, common_steps)

pub too_many : (r : Result ℕ TooMany) (before after boxes : List Patch) → is_err r ≡ true → length before < length boxes → Clustered r before after boxes
too_many (Ok n) before after boxes err l = absurd (false≢true err)
too_many (Err e) before after boxes err l = l
