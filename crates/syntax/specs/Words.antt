-- The first words of lines, and the order in which lines come. Assumes nothing.
use Rattle.std.specs.Prelude.{ℕ, cond, List, Some, None, codes, Option, Result, ◌==◌}
use Rattle.std.specs.Option.{ok_or}
use Rattle.std.specs.Str.{bytes_eq}
use Rattle.syntax.specs.declared.fault.Fault.{Fault}
use Rattle.syntax.specs.declared.fault.Fault.TheVariants as fault
use Rattle.syntax.specs.declared.word.Word.{Word}
use Rattle.syntax.specs.declared.word.Word.TheVariants as word
use Rattle.syntax.specs.declared.word.Phase.{Phase}
use Rattle.syntax.specs.declared.word.Phase.TheVariants as phase

-- the word that a text spells
abbrev pub word_of : List ℕ → Option Word
word_of bs =
    cond (bytes_eq bs (codes "mesh")) (Some word.Mesh) (
    cond (bytes_eq bs (codes "rule")) (Some word.Rule) (
    cond (bytes_eq bs (codes "feed")) (Some word.Feed) (
    cond (bytes_eq bs (codes "split")) (Some word.Split) (
    cond (bytes_eq bs (codes "flag")) (Some word.Flag) (
    cond (bytes_eq bs (codes "cluster")) (Some word.Cluster) (
    cond (bytes_eq bs (codes "pour")) (Some word.Pour) (
    cond (bytes_eq bs (codes "audit")) (Some word.Audit) None)))))))

-- a text read as a word; a text that spells none is a fault
abbrev pub word_read : List ℕ → Result Word Fault
word_read bs = ok_or (word_of bs) fault.Word

-- the place of a word's lines in the order of lines; pour and audit lines share the last
abbrev pub place_of : Word → ℕ
place_of word.Mesh = 0
place_of word.Rule = 1
place_of word.Feed = 2
place_of word.Split = 3
place_of word.Flag = 4
place_of word.Cluster = 5
place_of word.Pour = 6
place_of word.Audit = 6

-- the place that is due
abbrev pub place_due : Phase → ℕ
place_due phase.Mesh = 0
place_due phase.Rule = 1
place_due phase.Feed = 2
place_due phase.Split = 3
place_due phase.Flag = 4
place_due phase.Cluster = 5
place_due phase.Body = 6

-- the phase after a line that was due
abbrev pub phase_after : Phase → Phase
phase_after phase.Mesh = phase.Rule
phase_after phase.Rule = phase.Feed
phase_after phase.Feed = phase.Split
phase_after phase.Split = phase.Flag
phase_after phase.Flag = phase.Cluster
phase_after phase.Cluster = phase.Body
phase_after phase.Body = phase.Body

-- the phase after a line that begins with w, if that line was due
abbrev pub next_phase : Phase → Word → Option Phase
next_phase p w = cond (place_of w == place_due p) (Some (phase_after p)) None
