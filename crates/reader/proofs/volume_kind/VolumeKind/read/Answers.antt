use Rattle.std.proofs.Common.{Some, sym, ap, ◌∙◌, w64, SFits, rules}
use Rattle.std.specs.Option.{option_map}
use Rattle.std.proofs.lemmas.Int.{to_z-of_z, int_wrap_fits}
use Rattle.amount.specs.Volumes.{volume_of}
use Rattle.amount.specs.VolumesLemmas.{volume_eq}
use Rattle.reader.proofs.volume_kind.VolumeKind.read.Goals as goal

pub returns : goal.returns
returns c =
    let fits : SFits w64 c.in-Some.units = search rules in
    ap Some (volume_eq _ (volume_of c.in-Some.units) (to_z-of_z w64 c.in-Some.units fits ∙ sym (int_wrap_fits w64 c.in-Some.units fits))) ∙ ap (option_map volume_of) c.in-Some.ensures
