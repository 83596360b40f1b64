-- A text and its lines, and a run that goes on line by line. Assumes nothing.
use Rattle.std.proofs.Common.{◌≡◌, ℕ, suc, ◌+◌, ◌-◌, true, eqb, List, [], ◌∷◌, ◌++◌, length, Some, None, Ok, Err, IfOk, Option, Result, sym, refl, ap, ◌∙◌, ap₂, append_assoc, arith}
use Rattle.amount.specs.Additions.{Addition}
use Rattle.grid.specs.declared.size.Size.{Size}
use Rattle.model.specs.States.{State}
use Rattle.model.specs.Refusals.{Sheets}
use Rattle.model.specs.Calls.{Opening, open_call}
use Rattle.text.specs.Text.{cut_at}
use Rattle.text.proofs.Cuts.{by_cut, pieces_by_cut, pieces_none, pieces_some}
use Rattle.syntax.specs.declared.word.Phase.{Phase}
use Rattle.reader.specs.Lines.{reading}
use Rattle.reader.specs.declared.command.Command.{Command}
use Rattle.scenario.specs.Answers.{Executed, executed}
use Rattle.scenario.specs.Printed.{printed}
use Rattle.std.specs.Prelude.{Bool, slice_get}
use Rattle.reader.specs.Forms.{Form}
use Rattle.scenario.specs.Program.{but_last, lines, ended, unless_fault, if_due, run_lines, new_sheets, after_opening, run_kind}

-- a text has a piece
first_piece : (text : List ℕ) (c : Option (List ℕ × List ℕ)) (front : List ℕ) → but_last (front ∷ by_cut 10 text c) ≡ front ∷ but_last (by_cut 10 text c)
first_piece text None front = refl
first_piece text (Some parts) front = refl

pub lines_none : (text : List ℕ) → None ≡ cut_at 10 text → lines text ≡ []
lines_none text e = ap but_last (pieces_none 10 text e)

pub lines_some : (text front rest : List ℕ) → Some (front, rest) ≡ cut_at 10 text → lines text ≡ front ∷ lines rest
lines_some text front rest e =
    ap but_last (pieces_some 10 text front rest e)
    ∙ (ap (λ ps. but_last (front ∷ ps)) (pieces_by_cut 10 rest) ∙ (first_piece rest (cut_at 10 rest) front ∙ sym (ap (λ ps. front ∷ but_last ps) (pieces_by_cut 10 rest))))

-- a line that is read and done, after which another is due
pub goes_on : {A : Type 0} (G : Addition A) (K : Form A) (n : ℕ) (p : Phase) (s : State A) (sheets : Sheets A) (line : List ℕ) (rest : List (List ℕ)) (old : List ℕ)
    (all : List (List ℕ)) (said : Phase × Command A) (e : Executed A) (next : ℕ) (new : List ℕ)
    → all ≡ line ∷ rest → Ok said ≡ reading K p line → e ≡ executed G s sheets said.1 → next ≡ n + 1 → new ≡ old ++ printed K n e.answer
    → new ++ run_lines G K next said.0 e.state e.sheets rest ≡ old ++ run_lines G K n p s sheets all
goes_on G K n p s sheets line rest old all said e next new cuts reads done count prints =
    ap₂ (λ b m. b ++ run_lines G K m said.0 e.state e.sheets rest) prints count
    ∙ (append_assoc old (printed K n e.answer) (run_lines G K (n + 1) said.0 e.state e.sheets rest)
    ∙ (ap (λ d. old ++ (printed K n d.answer ++ run_lines G K (n + 1) said.0 d.state d.sheets rest)) done
    ∙ (ap (λ r. let run = unless_fault G K n s sheets r in old ++ (run.prints ++ if_due G K run.due (λ q. run_lines G K (n + 1) q run.state run.sheets rest))) reads
    ∙ ap (λ ls. old ++ run_lines G K n p s sheets ls) (sym cuts))))

-- the same, by what the number of the line is
pub goes_on_at : {A : Type 0} (G : Addition A) (K : Form A) (n number : ℕ) (p : Phase) (s : State A) (sheets : Sheets A) (line : List ℕ) (rest : List (List ℕ)) (old : List ℕ)
    (all : List (List ℕ)) (said : Phase × Command A) (e : Executed A) (next : ℕ) (new : List ℕ) → number ≡ n
    → all ≡ line ∷ rest → Ok said ≡ reading K p line → e ≡ executed G s sheets said.1 → next ≡ n + 1 → new ≡ old ++ printed K number e.answer
    → new ++ run_lines G K next said.0 e.state e.sheets rest ≡ old ++ run_lines G K n p s sheets all
goes_on_at G K n number p s sheets line rest old all said e next new same cuts reads done count prints =
    goes_on G K n p s sheets line rest old all said e next new cuts reads done count (prints ∙ ap (λ k. old ++ printed K k e.answer) same)

-- a text is ended exactly where its last byte, if it has one, ends a line
abbrev pub ends_line : Option ℕ → Bool
ends_line None = true
ends_line (Some byte) = eqb byte 10

pub ended_is : (text : List ℕ) → ended text ≡ ends_line (slice_get text (length text - 1))
ended_is [] = refl
ended_is (b ∷ []) = refl
ended_is (b ∷ c ∷ bs) = let e : length (b ∷ c ∷ bs) - 1 ≡ suc (length (c ∷ bs) - 1) = omega arith in rw e (ended_is (c ∷ bs))

-- a mesh that opens in new sheets, or does not
pub opened : {A : Type 0} (G : Addition A) (K : Form A) (size : Size) (lent : Sheets A) (o : Opening A) (rest : List (List ℕ))
    → o ≡ open_call G size lent → lent ≡ new_sheets G K size → after_opening G K o rest ≡ run_kind G K size rest
opened G K size lent o rest opens new = ap (λ x. after_opening G K x rest) (opens ∙ ap (open_call G size) new)

-- what was printed is another text too, where the two are equal
pub written_as : {X Y : Type 0} (r : Result X Y) (start end text other : List ℕ) → text ≡ other
    → IfOk r (λ _. end ≡ start ++ text) → IfOk r (λ _. end ≡ start ++ other)
written_as (Ok x) start end text other e h = h ∙ ap (λ b. start ++ b) e
written_as (Err y) start end text other e h = tt
