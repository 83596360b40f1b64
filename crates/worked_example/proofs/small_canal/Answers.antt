-- The worked history, by computing.
use Rattle.std.proofs.Common.{refl}
use Rattle.std.specs.Int.{int_wrap}
use Rattle.model.specs.Fields.{write}
use Rattle.model.specs.Total.{level_total, composite_total}
use Rattle.model.specs.Pour.{added, pour}
use Rattle.model.specs.Interfaces.{child}
use Rattle.model.specs.Step.{seen, halves, children_sum, restrict, flux, gain, flux_register, flux_registers, reflux, row, column, fluxes, advance, level_step, boundary_inward, inward, step}
use Rattle.model.specs.Rings.{some_near, ring_some, ring_every, child_some}
use Rattle.model.specs.Wanted.{around, flagged, buffer, nesting, properly_nested, wanted}
use Rattle.model.specs.Regrid.{with_patches, regrid}
use Rattle.model.specs.Evolution.{boxes}
use Rattle.model.specs.History.{outcome, after}
use Rattle.model.specs.Clusterings.{by_rows, row_runs, runs}
use Rattle.worked_example.specs.Canal.{canal}
use Rattle.worked_example.proofs.small_canal.Goals as goal

pub returns : goal.returns
unfolding canal int_wrap after outcome write level_total composite_total added pour child seen halves children_sum restrict flux gain flux_register flux_registers reflux row column fluxes advance level_step boundary_inward inward step some_near ring_some ring_every child_some around flagged buffer nesting properly_nested wanted with_patches regrid boxes by_rows row_runs runs
returns c = record { patched = refl; cell_0 = refl; cell_1 = refl; cell_2 = refl; cell_3 = refl; refused = refl; audit = refl }
