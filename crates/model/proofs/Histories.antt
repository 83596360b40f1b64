-- Every history balances.
use Rattle.std.proofs.Common.{◌≡◌, ℕ, zero, suc, ◌+◌, ◌/◌, ◌<◌, ◌≤◌, Bool, true, false, cond, ltb, leb, List, [], ◌∷◌, ◌++◌, length, Some, None, Ok, Err, Option, sym, refl, ap, ◌∙◌, subst, ap₂, zero-le, zero-add, arith}
use mathlib.Core.Bool.{false≢true}
use native.Mathlib.Nat.{suc-pred-eq_of_pos}
use native.Mathlib.Decide.{ℕ_discrete}
use Rattle.std.proofs.lemmas.Bool.{and_parts, ltb-true, leb-true}
use Rattle.amount.specs.Additions.{Addition, Sums}
use Rattle.grid.specs.declared.patch.Patch.{Patch}
use Rattle.grid.specs.declared.size.Size.{Size}
use Rattle.grid.specs.Sizes.{in_range, in_mesh, level_width, level_height, sheet}
use Rattle.grid.specs.Boxes.{held}
use Rattle.grid.specs.Hierarchies.{Hierarchy, live, leaf, mark}
use Rattle.grid.proofs.Indices.{in_mesh_parts}
use Rattle.model.specs.Total.{level_total, composite_total}
use Rattle.model.specs.States.{State, hierarchy, opened, poured_into, total, report}
use Rattle.model.specs.Refusals.{Sheets, whole, unless, pour_refusal, audit_refusal}
use Rattle.model.specs.Calls.{Outcome, unless_refused, with_contents}
use Rattle.model.specs.Groups.{Amounts, Group}
use Rattle.model.specs.Nesting.{Nested, WellLaid}
use Rattle.model.specs.Interfaces.{Flux, Children, child, Splits}
use Rattle.model.specs.Step.{Restricted}
use Rattle.model.specs.Wanted.{Flagging, Clustering, Clustered, Clusters, properly_nested, wanted}
use Rattle.model.specs.Regrid.{relaid, regridded, regrid}
use Rattle.model.specs.Evolution.{step_refusal, regrid_refusal, boxes, step_inward, stepped, repatched, regrid_done, too_many}
use Rattle.model.specs.History.{Working, Call, to_pour, to_step, to_regrid, to_audit, Reply, done, came_inward, reported, lent, replying, outcome, after}
use Rattle.model.specs.Ledger.{Ledger, entered, if_accepted, ledger_from, ledger, Lawful, AllLawful, DeadZero, AuditRight, RegridRight, Balances, HistoryBalances, HistoryWellLaid, HistoryDeadZero}
use Rattle.model.proofs.Sums.{sum-nought}
use Rattle.model.proofs.Grids.{base_live, bottom}
use Rattle.model.proofs.Writes.{write_same, write_other}
use Rattle.model.proofs.Steps.{step_conserves}
use Rattle.model.proofs.Restrictions.{step_restricts}
use Rattle.model.proofs.Regrids.{regrid_conserves, kept as regridded_kept}
use Rattle.model.proofs.Pours.{gate_nought, pour_total, pour_restricted, last}
use Rattle.model.proofs.Dead.{step_dead, pour_dead}
use Rattle.model.proofs.Laid.{nested, covered_here, live_other, live_next, relaid_is, laid_again}

-- a call that is not refused passes each test
passed : (test : Bool) (n : ℕ) (others : Option ℕ) → unless test n others ≡ None → (test ≡ true) × (others ≡ None)
passed true n others e = (refl, e)
passed false n others e = let z : ◌≡◌ {A = ℕ} 0 1 = cc in absurd (omega arith)

-- nothing is laid at first
opened_laid : (size : Size) → WellLaid size (λ k. [])
opened_laid size = record {
  inside = λ l i h. absurd (omega arith);
  apart = λ k c. absurd (omega (arith, c.in_use));
  few = λ k. zero-le;
  none_past = λ k h. refl;
  covered_live = λ l x y c. absurd (false≢true c);
  rings_live = λ l x y u v c hx hy t. absurd (false≢true c);
}

-- a size in range has a level
some_level_of : (size : Size) → in_range size ≡ true → 0 < size.levels
some_level_of size e = leb-true 1 size.levels (and_parts _ _ (and_parts _ _ e).1).0

-- what is in no cell sums to nothing
nothing : {A : Type 0} (G : Addition A) (laws : Sums G) (M : Hierarchy) (d l : ℕ) → composite_total G M d l (λ k x y. G.zero) ≡ G.zero
unfolding composite_total level_total
nothing G laws M zero l = refl
nothing G laws M (suc d) l =
    ap₂ G.◌⊕◌
    (sum-nought G laws _ _ (λ x _. sum-nought G laws _ _ (λ y _. gate_nought G laws (leaf M l x y)))) (nothing G laws M d (suc l))
    ∙ laws.neutral G.zero

module _ {A : Type 0} (G : Amounts A) (laws : Group G) (size : Size) where
  open G use {addition, negation as neg}
  open addition use {zero as nought, ◌⊕◌}
  open laws use {sums, inverse as opposite}
  open sums use {assoc, comm, neutral as right_neutral}

  infixl 60 ◌⊕◌
  -- what every call finds and leaves: a mesh in balance, and a ledger that agrees with the mesh's own sums
  record Sound (s : State A) (b : Ledger A) : Type 0 where
    size_is : s.size ≡ size
    some_level : 0 < s.size.levels
    well : WellLaid s.size s.patches
    restricted : Restricted addition (hierarchy s) s.contents
    dead_zero : DeadZero G s
    balance : total addition s ≡ s.poured ⊕ s.inward
    same_steps : s.steps ≡ b.steps
    same_poured : s.poured ≡ b.poured
    same_inward : s.inward ≡ b.inward

  opened_sound : 0 < size.levels → Sound (opened addition size) (record { steps = 0; poured = nought; inward = nought })
  opened_sound h = record {
    size_is = refl;
    some_level = h;
    well = opened_laid size;
    restricted = λ k x y c. absurd (false≢true c);
    dead_zero = λ k x y v. refl;
    balance = nothing addition sums (hierarchy (opened addition size)) size.levels 0 ∙ sym (right_neutral nought);
    same_steps = refl;
    same_poured = refl;
    same_inward = refl;
  }

  nested_in : (s : State A) (b : Ledger A) → Sound s b → Nested (hierarchy s) s.size.levels
  nested_in s b h = nested s.size s.patches h.well

  module _ (s : State A) (b : Ledger A) (h : Sound s b) where
    abbrev M : Hierarchy
    M = hierarchy s

    abbrev L : ℕ
    L = s.size.levels

    abbrev N : Nested M L
    N = nested_in s b h

    poured_sound : (w : Working A) (x y : ℕ) (a : A) → pour_refusal s (lent s w) x y ≡ None
        → Sound (poured_into addition s x y a) (entered G s (to_pour w x y a) b)
    unfolding entered
    poured_sound w x y a e =
        let here = in_mesh_parts s.size 0 x y (passed (in_mesh s.size 0 x y) 4 _ (passed (whole s.size (lent s w)) 2 _ e).1).0 in
        let v : live M 0 x y ≡ true = base_live M x y here.1 here.2 in
        record {
          size_is = h.size_is;
          some_level = h.some_level;
          well = h.well;
          restricted = λ j i k c. pour_restricted addition sums M L N L 0 x y a s.contents (zero-add L) (λ j' i' k' _ t. h.restricted j' i' k' t) j i k zero-le c;
          dead_zero = λ j i k d. pour_dead G M L N L 0 x y a s.contents j i k v d ∙ h.dead_zero j i k d;
          balance =
              pour_total addition sums M L N L 0 x y a s.contents v (bottom M L N _ (sym (suc-pred-eq_of_pos h.some_level)))
              ∙ ap (λ z. z ⊕ a) h.balance ∙ last addition sums _ _ _;
          same_steps = h.same_steps;
          same_poured = ap (λ z. z ⊕ a) h.same_poured;
          same_inward = h.same_inward;
        }

    stepped_sound : (w : Working A) (F : Flux A) (split : A → Children A) → Sound (stepped G s F split) (entered G s (to_step w F split) b)
    unfolding entered
    stepped_sound w F split = record {
      size_is = h.size_is;
      some_level = h.some_level;
      well = h.well;
      restricted = step_restricts A G laws M L N F split s.steps s.contents;
      dead_zero = λ j i k d. step_dead G M L N F split s.steps s.contents j i k d ∙ h.dead_zero j i k d;
      balance = step_conserves A G laws M L N F split s.steps s.contents ∙ ap₂ ◌⊕◌ h.balance refl ∙ assoc _ _ _;
      same_steps = ap (λ n. n + 1) h.same_steps;
      same_poured = h.same_poured;
      same_inward = ap (λ z. z ⊕ step_inward G s F split) h.same_inward;
    }

    module _ (w : Working A) (l : ℕ) (flag : Flagging A) (split : A → Children A) (cluster : Clustering)
        (spl : Splits addition split) (clu : Clusters cluster) (deep : suc l < s.size.levels) (few : length (boxes s l flag cluster) ≤ 128) where
      abbrev bs : List Patch
      bs = boxes s l flag cluster

      abbrev s' : State A
      s' = repatched G s l bs split

      clustered : Clustered (level_width s.size l) (level_height s.size l) (wanted M s.contents l flag) (properly_nested M l) bs
      unfolding boxes wanted
      clustered = clu _ _ _ _ (λ x y hx hy t. (and_parts _ _ t).1)

      well' : WellLaid s.size s'.patches
      well' = laid_again s.size s.patches h.well s.contents l flag bs deep clustered few

      same_hierarchy : relaid M l (held bs) ≡ hierarchy s'
      same_hierarchy = relaid_is s.size s.patches h.well s.contents l flag bs deep clustered few

      kept_total : (total addition s' ≡ total addition s) × Restricted addition (hierarchy s') s'.contents
      kept_total =
          let N' = subst (λ K. Nested K L) (sym same_hierarchy) (nested s.size s'.patches well') in
          subst (λ K. (composite_total addition K L 0 s'.contents ≡ total addition s) × Restricted addition K s'.contents) same_hierarchy
          (regrid_conserves A addition sums M L l (held bs) deep N N' split spl s.contents h.restricted)

      zero_or_kept : (c : Bool) (old new : A) → (c ≡ false → old ≡ nought) → regridded addition c false old new ≡ nought
      zero_or_kept true old new q = refl
      zero_or_kept false old new q = q refl

      live_as : (x y : ℕ) → live (hierarchy s') (suc l) x y ≡ held bs (x / 2) (y / 2)
      live_as x y = live_next s.size s.patches h.well s.contents l flag bs deep clustered few x y

      dead' : DeadZero G s'
      unfolding regrid
      dead' j x y v =
          elim (ℕ_discrete j (suc l)) [
            | yes e ↦ subst (λ i. s'.contents i x y ≡ nought) (sym e) (next (subst (λ i. live (hierarchy s') i x y ≡ false) e v))
            | no n ↦ ap (λ f. f x y) (write_other (suc l) j _ s.contents n)
                ∙ h.dead_zero j x y (sym (live_other s.size s.patches h.well s.contents l flag bs deep clustered few j x y n) ∙ v)
          ]
        where
          next : live (hierarchy s') (suc l) x y ≡ false → s'.contents (suc l) x y ≡ nought
          next v =
              ap (λ f. f x y) (write_same (suc l) _ s.contents)
              ∙ ap (λ b. regridded addition (M.covered l (x / 2) (y / 2)) b (s.contents (suc l) x y) (child (split (s.contents l (x / 2) (y / 2))) x y))
              (sym (live_as x y) ∙ v)
              ∙ zero_or_kept (M.covered l (x / 2) (y / 2)) _ _ (λ c. h.dead_zero (suc l) x y c)

      regridded_sound : Sound s' (entered G s (to_regrid w l flag split cluster) b)
      unfolding entered
      regridded_sound = record {
        size_is = h.size_is;
        some_level = h.some_level;
        well = well';
        restricted = kept_total.1;
        dead_zero = dead';
        balance = kept_total.0 ∙ h.balance;
        same_steps = h.same_steps;
        same_poured = h.same_poured;
        same_inward = h.same_inward;
      }

      wanted_covered : (x y : ℕ) → x < level_width s.size l → y < level_height s.size l → wanted M s.contents l flag x y ≡ true
          → (hierarchy s').covered l x y ≡ true
      wanted_covered x y hx hy t =
          covered_here s.size s.patches h.well s.contents l flag bs deep clustered few x y ∙ clustered.every_wanted x y hx hy t

      leaves_kept : (k x y : ℕ) → leaf M k x y ≡ true → leaf (hierarchy s') k x y ≡ true → s'.contents k x y ≡ s.contents k x y
      unfolding regrid
      leaves_kept k x y f g =
          elim (ℕ_discrete k (suc l)) [
            | yes e ↦ subst (λ i. s'.contents i x y ≡ s.contents i x y) (sym e)
                (next (subst (λ i. leaf M i x y ≡ true) e f) (subst (λ i. leaf (hierarchy s') i x y ≡ true) e g))
            | no n ↦ ap (λ v. v x y) (write_other (suc l) k _ s.contents n)
          ]
        where
          next : leaf M (suc l) x y ≡ true → leaf (hierarchy s') (suc l) x y ≡ true → s'.contents (suc l) x y ≡ s.contents (suc l) x y
          next f g =
              ap (λ v. v x y) (write_same (suc l) _ s.contents)
              ∙ regridded_kept addition sums (M.covered l (x / 2) (y / 2)) (held bs (x / 2) (y / 2)) _ _ (and_parts _ _ f).0 (sym (live_as x y) ∙ (and_parts _ _ g).0)

  -- what a call keeps, by what it comes to
  record Kept (s : State A) (b : Ledger A) (c : Call A) (o : Outcome A (Reply A)) : Type 0 where
    sound : Sound o.state (if_accepted G o (entered G s c b) b)
    audit_right : AuditRight G c o (if_accepted G o (entered G s c b) b)
    regrid_right : RegridRight G s c o
    contents_right : o.sheets.contents ≡ sheet o.state.size o.state.contents
    marks_right : o.sheets.marks ≡ sheet o.state.size (mark (hierarchy o.state))

  refused_kept : (s : State A) (b : Ledger A) (c : Call A) (n : ℕ) (sheets : Sheets A) → Sound s b
      → sheets.contents ≡ sheet s.size s.contents → sheets.marks ≡ sheet s.size (mark (hierarchy s))
      → Kept s b c (record { answer = Err n; state = s; sheets = sheets })
  refused_kept s b c n sheets h p q =
      record { sound = h; audit_right = no_audit c; regrid_right = no_regrid c; contents_right = p; marks_right = q }
    where
      no_audit : (c : Call A) → AuditRight G c (record { answer = Err n; state = s; sheets = sheets }) b
      no_audit (to_pour w x y a) = tt
      no_audit (to_step w F split) = tt
      no_audit (to_regrid w l flag split cluster) = tt
      no_audit (to_audit w) = λ t. absurd (false≢true t)

      no_regrid : (c : Call A) → RegridRight G s c (record { answer = Err n; state = s; sheets = sheets })
      no_regrid (to_pour w x y a) = tt
      no_regrid (to_step w F split) = tt
      no_regrid (to_regrid w l flag split cluster) = λ t. absurd (false≢true t)
      no_regrid (to_audit w) = tt

  module _ (s : State A) (b : Ledger A) (h : Sound s b) (w : Working A) where
    pour_kept : (x y : ℕ) (a : A) (r : Option ℕ) → pour_refusal s (lent s w) x y ≡ r
        → Kept s b (to_pour w x y a) (replying {B = Unit {0}} (λ _. done) (unless_refused r s (lent s w) (record {
          answer = Ok tt;
          state = poured_into addition s x y a;
          sheets = with_contents addition (sheet s.size (poured_into addition s x y a).contents) (lent s w);
        })))
    pour_kept x y a None e =
        record { sound = poured_sound s b h w x y a e; audit_right = tt; regrid_right = tt; contents_right = refl; marks_right = refl }
    pour_kept x y a (Some n) e = refused_kept s b (to_pour w x y a) n (lent s w) h refl refl

    step_kept : (F : Flux A) (split : A → Children A) (before corrections : List A) (r : Option ℕ)
        → Kept s b (to_step w F split) (replying came_inward (unless_refused r s (lent s w) (record {
          answer = Ok (step_inward G s F split);
          state = stepped G s F split;
          sheets = record {
            contents = sheet s.size (stepped G s F split).contents;
            before = before;
            corrections = corrections;
            marks = (lent s w).marks;
            wanted = (lent s w).wanted;
          };
        })))
    step_kept F split before corrections None =
        record { sound = stepped_sound s b h w F split; audit_right = tt; regrid_right = tt; contents_right = refl; marks_right = refl }
    step_kept F split before corrections (Some n) = refused_kept s b (to_step w F split) n (lent s w) h refl refl

    module _ (l : ℕ) (flag : Flagging A) (split : A → Children A) (cluster : Clustering) (spl : Splits addition split) (clu : Clusters cluster) where
      boxes_kept : suc l < s.size.levels → (t : Bool) → leb (length (boxes s l flag cluster)) 128 ≡ t
          → Kept s b (to_regrid w l flag split cluster) (replying (λ _. done)
          (cond t (regrid_done G s (lent s w) l (boxes s l flag cluster) split) (too_many G s (lent s w))))
      boxes_kept deep true e =
          let few = leb-true (length (boxes s l flag cluster)) 128 e in
          record {
            sound = regridded_sound s b h w l flag split cluster spl clu deep few;
            audit_right = tt;
            regrid_right = λ t. (wanted_covered s b h w l flag split cluster spl clu deep few, leaves_kept s b h w l flag split cluster spl clu deep few);
            contents_right = refl;
            marks_right = refl;
          }
      boxes_kept deep false e = refused_kept s b (to_regrid w l flag split cluster) 8 (too_many G s (lent s w)).sheets h refl refl

      regrid_kept : (r : Option ℕ) → regrid_refusal s (lent s w) l ≡ r
          → Kept s b (to_regrid w l flag split cluster) (replying (λ _. done) (unless_refused r s (lent s w)
          (cond (leb (length (boxes s l flag cluster)) 128) (regrid_done G s (lent s w) l (boxes s l flag cluster) split) (too_many G s (lent s w)))))
      regrid_kept None e =
          let t = ltb-true (l + 1) s.size.levels (passed (ltb (l + 1) s.size.levels) 3 _ (passed (whole s.size (lent s w)) 2 _ e).1).0 in
          boxes_kept (omega arith) (leb (length (boxes s l flag cluster)) 128) refl
      regrid_kept (Some n) e = refused_kept s b (to_regrid w l flag split cluster) n (lent s w) h refl refl

    audit_kept : (r : Option ℕ)
        → Kept s b (to_audit w) (replying reported (unless_refused r s (lent s w) (record { answer = Ok (report addition s); state = s; sheets = lent s w })))
    unfolding entered
    audit_kept None = record {
      sound = h;
      audit_right = λ t i. Ok (reported (record { steps = h.same_steps i; total = total addition s; poured = h.same_poured i; inward = h.same_inward i }));
      regrid_right = tt;
      contents_right = refl;
      marks_right = refl;
    }
    audit_kept (Some n) = refused_kept s b (to_audit w) n (lent s w) h refl refl

  kept : (s : State A) (b : Ledger A) (c : Call A) → Sound s b → Lawful G c → Kept s b c (outcome G s c)
  unfolding outcome
  kept s b (to_pour w x y a) h law = pour_kept s b h w x y a (pour_refusal s (lent s w) x y) refl
  kept s b (to_step w F split) h law = step_kept s b h w F split _ _ (step_refusal s (lent s w))
  kept s b (to_regrid w l flag split cluster) h law =
      regrid_kept s b h w l flag split cluster law.0 law.1 (regrid_refusal s (lent s w) l) refl
  kept s b (to_audit w) h law = audit_kept s b h w (audit_refusal s (lent s w))

  balances : (s : State A) (b : Ledger A) (c : Call A) → Sound s b → Lawful G c
      → Balances G s c (outcome G s c) (if_accepted G (outcome G s c) (entered G s c b) b)
  balances s b c h law =
      let k = kept s b c h law in
      record {
        whole = k.sound.balance ∙ ap₂ ◌⊕◌ k.sound.same_poured k.sound.same_inward;
        audit_right = k.audit_right;
        apart = k.sound.well.apart;
        rings_live = k.sound.well.rings_live;
        regrid_right = k.regrid_right;
        contents_right = k.contents_right;
        marks_right = k.marks_right;
      }

  -- calls, one after the other
  sound_after : (s : State A) (b : Ledger A) (cs : List (Call A)) → Sound s b → AllLawful G cs → Sound (after G s cs) (ledger_from G s b cs)
  unfolding after ledger_from
  sound_after s b [] h law = h
  sound_after s b (c ∷ cs) h law =
      sound_after (outcome G s c).state (if_accepted G (outcome G s c) (entered G s c b) b) cs (kept s b c h law.0).sound law.1

  ledger_last : (s : State A) (b : Ledger A) (cs : List (Call A)) (c : Call A)
      → ledger_from G s b (cs ++ (c ∷ []))
      ≡ if_accepted G (outcome G (after G s cs) c) (entered G (after G s cs) c (ledger_from G s b cs)) (ledger_from G s b cs)
  unfolding after ledger_from
  ledger_last s b [] c = refl
  ledger_last s b (d ∷ cs) c = ledger_last (outcome G s d).state (if_accepted G (outcome G s d) (entered G s d b) b) cs c

  lawful_parts : (cs : List (Call A)) (c : Call A) → AllLawful G (cs ++ (c ∷ [])) → AllLawful G cs × Lawful G c
  lawful_parts [] c law = (tt, law.0)
  lawful_parts (d ∷ cs) c law = let p = lawful_parts cs c law.1 in ((law.0, p.0), p.1)

  -- the ledger at first
  abbrev empty : Ledger A
  empty = record { steps = 0; poured = nought; inward = nought }

  sound_from : in_range size ≡ true → (cs : List (Call A)) → AllLawful G cs
      → Sound (after G (opened addition size) cs) (ledger_from G (opened addition size) empty cs)
  sound_from range cs law = sound_after (opened addition size) empty cs (opened_sound (some_level_of size range)) law

  balances_last : in_range size ≡ true → (earlier : List (Call A)) (call : Call A) → AllLawful G (earlier ++ (call ∷ []))
      → Balances G (after G (opened addition size) earlier) call (outcome G (after G (opened addition size) earlier) call) (ledger G size (earlier ++ (call ∷ [])))
  unfolding ledger
  balances_last range earlier call law =
      let p = lawful_parts earlier call law in
      let s : State A = after G (opened addition size) earlier in
      subst (λ k. Balances G s call (outcome G s call) k) (sym (ledger_last (opened addition size) empty earlier call))
      (balances s (ledger_from G (opened addition size) empty earlier) call (sound_from range earlier p.0) p.1)

pub history_balances : (A : Type 0) → HistoryBalances A
history_balances A G laws size range earlier call law = balances_last G laws size range earlier call law

pub history_well_laid : (A : Type 0) → HistoryWellLaid A
history_well_laid A G laws size range calls law =
    let h = sound_from G laws size range calls law in
    subst (λ k. WellLaid k (after G (opened G.addition size) calls).patches) h.size_is h.well

pub history_dead_zero : (A : Type 0) → HistoryDeadZero A
history_dead_zero A G laws size range calls law = (sound_from G laws size range calls law).dead_zero
