-- `all` and `find_map` over 0..n, said of the numbers below n. Assumes nothing.
use Rattle.std.proofs.Common.{◌≡◌, ℕ, ◌+◌, ◌<◌, Bool, true, false, Option, Some, None, MatchOption, Decides, IsTrue, refl, ap, subst, ◌∙◌, arith}
use Rattle.std.specs.Bool.{MatchBool}
use Rattle.std.specs.Option.{option_map, IfSome, IsSomeAnd}
use Rattle.std.specs.Iterator.Runs.{Run, SomeRun, CallKeepsClosure, AllItemsGive, AnyItemGives, IsFirstToGive}
use Rattle.std.specs.declared.ops.Range.{Range}
use Rattle.std.specs.Fn.{Called}
use Rattle.std.proofs.iter.Yields.{nat_range_steps}
use Rattle.std.proofs.iter.runs.Sources.{range_runs}
use Rattle.std.proofs.lemmas.Bool.{false≢true}
use denote.Param.Members.{Mut}

abbrev pub up_to : ℕ → Range ℕ
up_to n = record { start = 0; end = n }

at_Some : (o : Option ℕ) (k : ℕ) (P : ℕ → Type 0) → option_map (λ y. y) o ≡ Some k → IfSome o P → P k
at_Some None k P e h = absurd (let z : ◌≡◌ {A = ℕ} 0 1 = cc in omega arith)
at_Some (Some x) k P e h = let same : x ≡ k = cc in subst P same h

some : (o : Option ℕ) (P : ℕ → Type 0) → IsSomeAnd o P → IfSome o P
some None P h = tt
some (Some x) P h = h

module _ {F R : Type 0} {g : Mut F (ℕ × Unit {0}) R} (n : ℕ) (f : F) (Gives : ℕ → R → Type 0)
    (keeps : CallKeepsClosure g f) (gives : (k : ℕ) (r : R) → k < n → Called g f (k, tt) r f → Gives k r) where
  -- what the closure gave at place k of a run
  one : (p : Run nat_range_steps) (k : ℕ) (r : R) → p.from ≡ up_to n → k < p.len → IfSome (p.at k) (λ x. Called g f (x, tt) r f) → (k < n) × Gives k r
  one p k r e lt called =
      let c = range_runs p p.seen in
      let hi : k < n = omega (arith, ap (λ (q : Range ℕ). q.end) e, c.0) in
      let is_k : p.from.start + k ≡ k = omega (arith, ap (λ (q : Range ℕ). q.start) e) in
      (hi, gives k r hi (at_Some (p.at k) k (λ x. Called g f (x, tt) r f) (c.3 k lt ∙ ap Some is_k) called))

  each : (p : Run nat_range_steps) (r : R) → p.from ≡ up_to n → p.whole ≡ true → AllItemsGive p g f r → (k : ℕ) → k < n → Gives k r
  each p r e w all k hi =
      (one p k r e (omega (arith, (range_runs p p.seen).1 w, ap (λ (q : Range ℕ). q.start) e, ap (λ (q : Range ℕ). q.end) e)) (all keeps k)).1

module _ {F : Type 0} {g : Mut F (ℕ × Unit {0}) Bool} (n : ℕ) (f : F) (P : ℕ → Type 0)
    (keeps : CallKeepsClosure g f) (gives : (k : ℕ) (r : Bool) → k < n → Called g f (k, tt) r f → Decides r (P k)) where
  pub all_Decides : (r : Bool) → SomeRun nat_range_steps (up_to n) (λ p. MatchBool r (IsTrue p.whole × AllItemsGive p g f true) (AnyItemGives p g f false)) → Decides r ((k : ℕ) → k < n → P k)
  all_Decides true d = (λ _ k hi. (each n f (λ k r. Decides r (P k)) keeps gives d.0 true d.1 d.2.0 d.2.1 k hi).0 refl, λ _. refl)
  all_Decides false d =
      let h = d.2 keeps in
      let miss = one n f (λ k r. Decides r (P k)) keeps gives d.0 h.0 false d.1 h.1 (some (d.0.at h.0) (λ x. Called g f (x, tt) false f) h.2) in
      (λ e. absurd (false≢true e), λ all. miss.1.1 (all h.0 miss.0))

module _ {F B : Type 0} {g : Mut F (ℕ × Unit {0}) (Option B)} (n : ℕ) (f : F) (Gives : ℕ → Option B → Type 0)
    (keeps : CallKeepsClosure g f) (gives : (k : ℕ) (r : Option B) → k < n → Called g f (k, tt) r f → Gives k r) where
  pub find_map_gives : (r : Option B)
      → SomeRun nat_range_steps (up_to n) (λ p. MatchOption r (IsTrue p.whole × AllItemsGive p g f None) (λ y. (i : ℕ) × (i < p.len) × (p.len ≡ i + 1) × IsFirstToGive p g f (Some y) None i))
      → MatchOption r ((k : ℕ) → k < n → Gives k None) (λ y. (k : ℕ) × Gives k (Some y))
  find_map_gives None d = each n f Gives keeps gives d.0 None d.1 d.2.0 d.2.1
  find_map_gives (Some y) d = (d.2.0, (one n f Gives keeps gives d.0 d.2.0 (Some y) d.1 d.2.1 (some (d.0.at d.2.0) (λ x. Called g f (x, tt) (Some y) f) (d.2.3 keeps).0)).1)
