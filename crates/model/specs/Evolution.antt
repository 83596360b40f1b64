-- The calls step and regrid: which is refused when, what each answers, and what it leaves of the mesh and the five sheets.
use Rattle.std.specs.Prelude.{ℕ, suc, ◌+◌, cond, List, length, replicate, None, Ok, Err, Option, nat_le, nat_lt}
use Rattle.grid.specs.declared.patch.Patch.{Patch}
use Rattle.grid.specs.Sizes.{level_width, level_height, sheet_length, sheet}
use Rattle.grid.specs.Boxes.{held}
use Rattle.grid.specs.Hierarchies.{mark}
use Rattle.model.specs.States.{State, hierarchy}
use Rattle.model.specs.Refusals.{Sheets, whole, marked, unless}
use Rattle.model.specs.Calls.{Outcome, unless_refused}
use Rattle.model.specs.Groups.{Amounts}
use Rattle.model.specs.Interfaces.{Flux, Children}
use Rattle.model.specs.Step.{inward, step}
use Rattle.model.specs.Wanted.{Flagging, Clustering, wanted, properly_nested}
use Rattle.model.specs.Regrid.{with_patches, regrid}

-- The lowest refusal of a step: 2 a sheet has not the right length, 5 the marks differ from what the patches say,
-- 6 a million steps are done.
abbrev pub step_refusal : {A : Type 0} → State A → Sheets A → Option ℕ
step_refusal s sheets = unless (whole s.size sheets) 2 (unless (marked s sheets) 5 (unless (nat_lt s.steps 1000000) 6 None))

-- The lowest refusal of a regrid before the clustering is asked: 2 and 5 as for a step, 3 no level follows the level.
abbrev pub regrid_refusal : {A : Type 0} → State A → Sheets A → ℕ → Option ℕ
regrid_refusal s sheets l =
    unless (whole s.size sheets) 2 (unless (nat_lt (l + 1) s.size.levels) 3 (unless (marked s sheets) 5 None))

-- the boxes that the clustering answers in a regrid of level l
unfoldable pub boxes : {A : Type 0} → State A → ℕ → Flagging A → Clustering → List Patch
boxes s l flag cluster =
    cluster (level_width s.size l) (level_height s.size l) (wanted (hierarchy s) s.contents l flag) (properly_nested (hierarchy s) l)

-- the sheets with no cell wanted
abbrev pub with_none_wanted : {A : Type 0} → State A → Sheets A → Sheets A
with_none_wanted s sheets = record {
  contents = sheets.contents;
  before = sheets.before;
  corrections = sheets.corrections;
  marks = sheets.marks;
  wanted = replicate (sheet_length s.size) 0;
}

module _ {A : Type 0} (G : Amounts A) where
  -- the inward amount of a step
  abbrev pub step_inward : State A → Flux A → (A → Children A) → A
  step_inward s F split = inward G (hierarchy s) F split s.steps s.size.levels 0 s.contents

  -- A step takes the contents one step on, counts one step and adds its inward amount to the sum inward.
  abbrev pub stepped : State A → Flux A → (A → Children A) → State A
  stepped s F split = record {
    size = s.size;
    patches = s.patches;
    contents = step G (hierarchy s) F split s.steps s.size.levels s.contents;
    steps = s.steps + 1;
    poured = s.poured;
    inward = G.addition.◌⊕◌ s.inward (step_inward s F split);
  }

  -- A step answers its inward amount. Contents follow; before and corrections become zero, marks and wanted stay.
  abbrev pub step_call : State A → Sheets A → Flux A → (A → Children A) → Outcome A A
  step_call s sheets F split =
      unless_refused (step_refusal s sheets) s sheets (record {
        answer = Ok (step_inward s F split);
        state = stepped s F split;
        sheets = record {
          contents = sheet s.size (stepped s F split).contents;
          before = replicate (sheet_length s.size) G.addition.zero;
          corrections = replicate (sheet_length s.size) G.addition.zero;
          marks = sheets.marks;
          wanted = sheets.wanted;
        };
      })

  -- A regrid of level l replaces the patches of level l + 1 by the boxes, and the contents of their cells' children follow.
  abbrev pub repatched : State A → ℕ → List Patch → (A → Children A) → State A
  repatched s l ps split = record {
    size = s.size;
    patches = with_patches (suc l) ps s.patches;
    contents = regrid G.addition (hierarchy s) l (held ps) split s.contents;
    steps = s.steps;
    poured = s.poured;
    inward = s.inward;
  }

  -- Contents and marks follow the boxes, wanted becomes zero, before and corrections stay.
  abbrev pub regrid_done : State A → Sheets A → ℕ → List Patch → (A → Children A) → Outcome A (Unit {0})
  regrid_done s sheets l ps split = record {
    answer = Ok tt;
    state = repatched s l ps split;
    sheets = record {
      contents = sheet s.size (repatched s l ps split).contents;
      before = sheets.before;
      corrections = sheets.corrections;
      marks = sheet s.size (mark (hierarchy (repatched s l ps split)));
      wanted = replicate (sheet_length s.size) 0;
    };
  }

  -- 8: more than 128 boxes. It is the one refusal that alters anything: wanted becomes zero.
  abbrev pub too_many : State A → Sheets A → Outcome A (Unit {0})
  too_many s sheets = record { answer = Err 8; state = s; sheets = with_none_wanted s sheets }

  -- A regrid of level l asks the clustering and lays its boxes.
  abbrev pub regrid_call : State A → Sheets A → ℕ → Flagging A → (A → Children A) → Clustering → Outcome A (Unit {0})
  regrid_call s sheets l flag split cluster =
      unless_refused (regrid_refusal s sheets l) s sheets
      (cond (nat_le (length (boxes s l flag cluster)) 128) (regrid_done s sheets l (boxes s l flag cluster) split) (too_many s sheets))
