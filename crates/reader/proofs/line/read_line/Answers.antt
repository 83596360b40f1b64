use Rattle.std.proofs.Common.{◌≡◌, List, ℕ, Ok, sym, rules}
use Rattle.std.proofs.lemmas.Grind.{common_steps}
use Rattle.std.proofs.Common.{arith}
use Rattle.syntax.specs.declared.word.Phase.{Phase}
use Rattle.syntax.specs.declared.word.Word.{Word}
use Rattle.reader.specs.Forms.{Form}
use Rattle.reader.specs.Lines.{due_word, command_of, with_phase, reading}
use Rattle.reader.proofs.line.read_line.Goals as goal

-- what a line says after a word that was due
reading_due : {A : Type 0} (K : Form A) (p : Phase) (line : List ℕ) (w : Word) (next : Phase) → due_word p line ≡ Ok (w, next)
    → reading K p line ≡ with_phase K next (command_of K w line)
reading_due K p line w next e = grind (arith, common_steps)

pub returns-in_err-command : goal.returns-in_err-command
returns-in_err-command g c =
    rw (reading_due g.V.Kind.form c.args.phase c.args.line.now c.in_ok-word.word c.in_ok-word.next (sym c.in_ok-word.ensures)) (search rules)

pub returns : goal.returns
returns g c =
    rw (reading_due g.V.Kind.form c.args.phase c.args.line.now c.in_ok-word.word c.in_ok-word.next (sym c.in_ok-word.ensures)) (search rules)
