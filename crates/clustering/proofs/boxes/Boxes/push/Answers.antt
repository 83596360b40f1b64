use Rattle.std.proofs.Common.{refl, add-one, arith}
use Rattle.std.proofs.lemmas.List.{set_split}
use Rattle.clustering.proofs.boxes.Boxes.push.Goals as goal

pub returns : goal.returns
returns c = record {
  written = record { lent = refl; written = (refl, omega arith, rw add-one (set_split _ _ _ (omega arith))) };
  refused = tt;
}
