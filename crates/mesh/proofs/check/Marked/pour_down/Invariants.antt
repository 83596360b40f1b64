use Rattle.std.proofs.Common.{◌≡◌, ◌-◌, ◌<◌, true, length}
use Rattle.grid.specs.Sizes.{in_mesh, sheet_length}
use Rattle.grid.specs.Layouts.{hierarchy_of}
use Rattle.model.specs.Fields.{fields_of}
use Rattle.model.specs.Pour.{pour}
use Rattle.mesh.proofs.check.Marked.pour_down.Given as goal

-- What is poured so far, and then the pour that is left, is the whole pour.
abbrev pub invariant-loop-level : goal.invariant-loop-level
invariant-loop-level g l =
    let G = g.V.Amount.addition in
    let s = l.self.layout.now.size in
    (length l.contents ≡ sheet_length s)
    × (l.level < s.levels → in_mesh s l.level l.place.x l.place.y ≡ true)
    × (pour G (hierarchy_of l.self.layout.now) (s.levels - l.level) l.level l.place.x l.place.y l.amount (fields_of s G.zero l.contents)
    ≡ pour G (hierarchy_of l.self.layout.now) s.levels 0 l.initial.place.x l.initial.place.y l.amount (fields_of s G.zero l.initial.contents))
