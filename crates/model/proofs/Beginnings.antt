-- What a history begins with, and the marks that its calls are lent.
use Rattle.std.proofs.Common.{◌≡◌, ℕ, zero, suc, ◌+◌, ◌<◌, Bool, true, false, cond, eqb, ltb, leb, length, replicate, Some, None, Ok, Err, Option, Result, sym, refl, ap, ◌∙◌, arith}
use mathlib.Core.Bool.{false≢true}
use Rattle.std.proofs.lemmas.Slice.Eq.{bytes_eq-Decides}
use Rattle.std.proofs.lemmas.List.{length-replicate, get_or-replicate}
use Rattle.std.proofs.lemmas.Bool.{cond-true, cond-false, ne_eqb}
use Rattle.amount.specs.Additions.{Addition}
use Rattle.grid.specs.declared.size.Size.{Size}
use Rattle.grid.specs.Sizes.{in_range, in_mesh, level_width, level_height, sheet_length, index, sheet}
use Rattle.grid.specs.Hierarchies.{live, mark}
use Rattle.grid.proofs.Sheets.{is_sheet, sheet_at, length-sheet, index_below}
use Rattle.model.specs.States.{State, hierarchy, opened}
use Rattle.model.specs.Refusals.{Sheets, whole, marked, unless, pour_refusal, audit_refusal}
use Rattle.model.specs.Calls.{Outcome, unless_closed, unless_refused, opened_sheets}
use Rattle.model.specs.Evolution.{step_refusal, regrid_refusal, boxes, regrid_done, too_many}
use Rattle.model.specs.History.{Working, to_pour, to_step, to_regrid, to_audit, Reply, done, came_inward, reported, lent, as_reply, replying, outcome}
use Rattle.model.specs.Ledger.{OpeningRight, MarksNeverRefused}
use Rattle.model.proofs.Grids.{base_live}

module _ {A : Type 0} (G : Addition A) (size : Size) where
  zero_contents : replicate (sheet_length size) G.zero ≡ sheet size (opened G size).contents
  zero_contents =
      is_sheet size (opened G size).contents G.zero (replicate (sheet_length size) G.zero) (length-replicate _ _)
      (λ l x y ll lx ly. get_or-replicate (sheet_length size) (index size l x y) G.zero G.zero (index_below size l x y ll lx ly))

  base_marks : sheet size (λ l x y. cond (eqb l 0) 1 0) ≡ sheet size (mark (hierarchy (opened G size)))
  base_marks =
      is_sheet size (mark (hierarchy (opened G size))) 0 (sheet size (λ l x y. cond (eqb l 0) 1 0)) (length-sheet size (λ l x y. cond (eqb l 0) 1 0))
      (λ l x y ll lx ly. sheet_at size (λ l x y. cond (eqb l 0) 1 0) l x y 0 ll lx ly ∙ here l x y lx ly)
    where
      here : (l x y : ℕ) → x < level_width size l → y < level_height size l → cond (eqb l 0) 1 0 ≡ mark (hierarchy (opened G size)) l x y
      here zero x y lx ly = sym (cond-true (live (hierarchy (opened G size)) 0 x y) 1 0 (base_live (hierarchy (opened G size)) x y lx ly))
      here (suc l) x y lx ly = cond-false (eqb (suc l) 0) 1 0 (ne_eqb (suc l) 0 (λ e. omega arith))

  -- an opening, by its two tests
  opening_by : (sheets : Sheets A) (s : State A) (a b : Bool)
      → (unless_closed (unless a 1 (unless b 2 None)) sheets (record { mesh = Ok (opened G size); sheets = opened_sheets G size })).mesh ≡ Ok s
      → (a ≡ true) × (s ≡ opened G size)
      × ((unless_closed (unless a 1 (unless b 2 None)) sheets (record { mesh = Ok (opened G size); sheets = opened_sheets G size })).sheets ≡ opened_sheets G size)
  opening_by sheets s true true e = (refl, (cc), refl)
  opening_by sheets s true false e = let z : ◌≡◌ {A = ℕ} 0 1 = cc in absurd (omega arith)
  opening_by sheets s false b e = let z : ◌≡◌ {A = ℕ} 0 1 = cc in absurd (omega arith)

pub opening_right : (A : Type 0) → OpeningRight A
opening_right A G size sheets s e =
    let p = opening_by G size sheets s (in_range size) (whole size sheets) e in (
      p.0,
      p.1,
      ap (λ k. k.contents) p.2 ∙ (zero_contents G size ∙ ap (λ k. sheet size k.contents) (sym p.1)),
      ap (λ k. k.marks) p.2 ∙ (base_marks G size ∙ ap (λ k. sheet size (mark (hierarchy k))) (sym p.1)),
    )

-- A refusal is not 5 where the test of the marks passes, in the order in which each call is tested.
pour_not : (a b m : Bool) → m ≡ true → unless a 2 (unless b 4 (unless m 5 None)) ≡ Some 5 → ⊥
pour_not true true m h e = let z : ◌≡◌ {A = ℕ} 0 1 = cc in omega arith
pour_not true false m h e = let z : ◌≡◌ {A = ℕ} 4 5 = cc in omega arith
pour_not false b m h e = let z : ◌≡◌ {A = ℕ} 2 5 = cc in omega arith

step_not : (a m b : Bool) → m ≡ true → unless a 2 (unless m 5 (unless b 6 None)) ≡ Some 5 → ⊥
step_not true true true h e = let z : ◌≡◌ {A = ℕ} 0 1 = cc in omega arith
step_not true true false h e = let z : ◌≡◌ {A = ℕ} 6 5 = cc in omega arith
step_not true false b h e = false≢true h
step_not false m b h e = let z : ◌≡◌ {A = ℕ} 2 5 = cc in omega arith

regrid_not : (a b m : Bool) → m ≡ true → unless a 2 (unless b 3 (unless m 5 None)) ≡ Some 5 → ⊥
regrid_not true true m h e = let z : ◌≡◌ {A = ℕ} 0 1 = cc in omega arith
regrid_not true false m h e = let z : ◌≡◌ {A = ℕ} 3 5 = cc in omega arith
regrid_not false b m h e = let z : ◌≡◌ {A = ℕ} 2 5 = cc in omega arith

audit_not : (a m : Bool) → m ≡ true → unless a 2 (unless m 5 None) ≡ Some 5 → ⊥
audit_not true m h e = let z : ◌≡◌ {A = ℕ} 0 1 = cc in omega arith
audit_not false m h e = let z : ◌≡◌ {A = ℕ} 2 5 = cc in omega arith

module _ {A B : Type 0} (reply : B → Reply A) where
  as_was : (a : Result B ℕ) → as_reply reply a ≡ Err 5 → a ≡ Err 5
  as_was (Ok b) e = let z : ◌≡◌ {A = ℕ} 0 1 = cc in absurd (omega arith)
  as_was (Err n) e = let z : n ≡ 5 = cc in ap (λ k. Err k) z

  -- a call answers 5 only if it is refused so, or if it is not refused before and answers so
  not_five : (r : Option ℕ) (s : State A) (sheets : Sheets A) (o : Outcome A B) → (r ≡ Some 5 → ⊥) → (o.answer ≡ Err 5 → ⊥)
      → (replying reply (unless_refused r s sheets o)).answer ≡ Err 5 → ⊥
  not_five None s sheets o f g e = g (as_was o.answer e)
  not_five (Some n) s sheets o f g e = let z : n ≡ 5 = cc in f (ap (λ k. Some k) z)

marks_lent : {A : Type 0} (s : State A) (w : Working A) → marked s (lent s w) ≡ true
marks_lent s w = (bytes_eq-Decides (lent s w).marks (sheet s.size (mark (hierarchy s)))).1 refl

answered : {B : Type 0} (b : B) → ◌≡◌ {A = Result B ℕ} (Ok b) (Err 5) → ⊥
answered b e = let z : ◌≡◌ {A = ℕ} 0 1 = cc in omega arith

too_many_not : {A : Type 0} (t : Bool) (o k : Outcome A (Unit {0})) → (o.answer ≡ Err 5 → ⊥) → k.answer ≡ Err 8 → (cond t o k).answer ≡ Err 5 → ⊥
too_many_not true o k f g e = f e
too_many_not false o k f g e = let z : ◌≡◌ {A = ℕ} 8 5 = cc in omega arith

pub marks_never_refused : (A : Type 0) → MarksNeverRefused A
unfolding outcome
marks_never_refused A G s (to_pour w x y a) e =
    not_five (λ _. done) (pour_refusal s (lent s w) x y) s (lent s w) _
    (pour_not (whole s.size (lent s w)) (in_mesh s.size 0 x y) (marked s (lent s w)) (marks_lent s w)) (answered tt) e
marks_never_refused A G s (to_step w F split) e =
    not_five came_inward (step_refusal s (lent s w)) s (lent s w) _
    (step_not (whole s.size (lent s w)) (marked s (lent s w)) (ltb s.steps 1000000) (marks_lent s w)) (answered _) e
marks_never_refused A G s (to_regrid w l flag split cluster) e =
    not_five (λ _. done) (regrid_refusal s (lent s w) l) s (lent s w) _
    (regrid_not (whole s.size (lent s w)) (ltb (l + 1) s.size.levels) (marked s (lent s w)) (marks_lent s w))
    (too_many_not (leb (length (boxes s l flag cluster)) 128) (regrid_done G s (lent s w) l (boxes s l flag cluster) split) (too_many G s (lent s w)) (answered tt) refl) e
marks_never_refused A G s (to_audit w) e =
    not_five reported (audit_refusal s (lent s w)) s (lent s w) _
    (audit_not (whole s.size (lent s w)) (marked s (lent s w)) (marks_lent s w)) (answered _) e
