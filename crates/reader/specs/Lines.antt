-- What each line of a scenario says. Of a line, an unknown first word comes first, then a word out of order, then a wrong number
-- of fields; then the first bad field from the left decides. Assumes nothing.
use Rattle.std.specs.Prelude.{ℕ, List, [], ◌∷◌, Some, None, Ok, Err, codes, Option, Result}
use Rattle.std.specs.List.{slice_get}
use Rattle.grid.specs.declared.size.Size.{Size}
use Rattle.grid.specs.Sizes.{size_of}
use Rattle.text.specs.Text.{fields}
use Rattle.reader.specs.declared.command.Command.{Command}
use Rattle.reader.specs.declared.command.Command.TheVariants as command
use Rattle.syntax.specs.declared.fault.Fault.{Fault}
use Rattle.syntax.specs.declared.fault.Fault.TheVariants as fault
use Rattle.reader.specs.declared.header.KindName.{KindName}
use Rattle.reader.specs.declared.header.KindName.TheVariants as kind
use Rattle.reader.specs.declared.names.SplitName.{SplitName}
use Rattle.reader.specs.declared.names.SplitName.TheVariants as split
use Rattle.reader.specs.declared.names.ClusterName.{ClusterName}
use Rattle.reader.specs.declared.names.ClusterName.TheVariants as cluster
use Rattle.syntax.specs.declared.word.Phase.{Phase}
use Rattle.syntax.specs.declared.word.Phase.TheVariants as phase
use Rattle.syntax.specs.declared.word.Word.{Word}
use Rattle.syntax.specs.declared.word.Word.TheVariants as word
use Rattle.syntax.specs.Faults.{taken, needed, after}
use Rattle.reader.specs.Forms.{Form, has_fields, amount_field}
use Rattle.syntax.specs.Names.{choice_of, up_to}
use Rattle.syntax.specs.Words.{word_of, next_phase}

-- the first word of a line
abbrev pub word_if : Option (List ℕ) → Option Word
word_if None = None
word_if (Some bs) = word_of bs

abbrev pub first_word : List ℕ → Option Word
first_word line = word_if (slice_get (fields line) 0)

-- the first word of a line that is due, and the phase after it
abbrev pub due_word : Phase → List ℕ → Result (Word × Phase) Fault
due_word p line = taken (first_word line) fault.Word (λ w. taken (next_phase p w) fault.Order (λ next. Ok (w, next)))

-- mesh,volume|water,W,H,L with W from 0 to 16, H from 0 to 4 and L from 0 to 255
abbrev pub mesh_line : List ℕ → Result (KindName × Size) Fault
mesh_line line =
    taken (first_word line) fault.Word (λ w.
    taken (next_phase phase.Mesh w) fault.Order (λ p.
    needed (has_fields line 5) fault.Fields (
    taken (choice_of line 1 ((codes "volume", kind.Volume) ∷ (codes "water", kind.Water) ∷ [])) fault.Fields (λ k.
    taken (up_to line 2 16) fault.Number (λ width.
    taken (up_to line 3 4) fault.Number (λ height.
    taken (up_to line 4 255) fault.Number (λ levels. Ok (k, size_of width height levels))))))))

-- feed,A with an amount
abbrev pub feed_line : List ℕ → Result (Unit {0}) Fault
feed_line line = needed (has_fields line 2) fault.Fields (taken (amount_field line 1) fault.Number (λ a. Ok tt))

-- a word and one of these names
abbrev pub named_line : {T : Type 0} → List ℕ → List (List ℕ × T) → Result T Fault
named_line line names = needed (has_fields line 2) fault.Fields (taken (choice_of line 1 names) fault.Fields (λ k. Ok k))

-- split,first|even
abbrev pub split_line : List ℕ → Result SplitName Fault
split_line line = named_line line ((codes "first", split.First) ∷ (codes "even", split.Even) ∷ [])

-- flag,steep,T with T from 0 to 1,000,000,000, or flag,from,X with X from 0 to 255
abbrev pub flag_line : List ℕ → Result (Unit {0}) Fault
flag_line line =
    needed (has_fields line 3) fault.Fields (
    taken (choice_of line 1 ((codes "steep", 1000000000) ∷ (codes "from", 255) ∷ [])) fault.Fields (λ most.
    taken (up_to line 2 most) fault.Number (λ n. Ok tt)))

-- cluster,runs|cells
abbrev pub cluster_line : List ℕ → Result ClusterName Fault
cluster_line line = named_line line ((codes "runs", cluster.Runs) ∷ (codes "cells", cluster.Cells) ∷ [])

module _ {A : Type 0} (K : Form A) where
  -- pour,X,Y and an amount, with X and Y from 0 to 255
  abbrev pub pour_line : List ℕ → Result (Command A) Fault
  pour_line line =
      needed (has_fields line K.count) fault.Fields (
      taken (up_to line 1 255) fault.Number (λ x.
      taken (up_to line 2 255) fault.Number (λ y.
      taken (K.read line) fault.Number (λ a. Ok (command.Pour x y a)))))

  -- audit
  abbrev pub audit_line : List ℕ → Result (Command A) Fault
  audit_line line = needed (has_fields line 1) fault.Fields (Ok command.Audit)

  -- what a line that begins with a word says; the mesh line stands only first
  abbrev pub command_of : Word → List ℕ → Result (Command A) Fault
  command_of word.Mesh line = Err fault.Order
  command_of word.Rule line = after (K.rule line) (Ok command.Header)
  command_of word.Feed line = after (feed_line line) (Ok command.Header)
  command_of word.Split line = after (split_line line) (Ok command.Header)
  command_of word.Flag line = after (flag_line line) (Ok command.Header)
  command_of word.Cluster line = after (cluster_line line) (Ok command.Header)
  command_of word.Pour line = pour_line line
  command_of word.Audit line = audit_line line

  abbrev pub with_phase : Phase → Result (Command A) Fault → Result (Phase × Command A) Fault
  with_phase p (Ok c) = Ok (p, c)
  with_phase p (Err f) = Err f

  -- what a line after the first says, and which line is due next
  abbrev pub reading : Phase → List ℕ → Result (Phase × Command A) Fault
  reading p line =
      taken (first_word line) fault.Word (λ w. taken (next_phase p w) fault.Order (λ next. with_phase next (command_of w line)))
