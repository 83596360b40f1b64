-- What the first cut of a text says of its pieces and of its length.
use Rattle.std.proofs.Common.{◌≡◌, ℕ, suc, ◌+◌, ◌<◌, inl, inr, Bool, true, false, cond, eqb, nat_lt, not, List, [], ◌∷◌, length, take, drop, ◌-◌, add-one, Some, None, Option, sym, refl, ap, ◌∙◌, subst, arith}
use Prim.Native.Nat.compare
use Rattle.std.specs.Option.{option_map}
use Rattle.std.specs.List.{slice_split, onto_first, position, position_or_len}
use Rattle.std.proofs.lemmas.List.{take_rest}
use Rattle.std.proofs.lemmas.Bool.Decides.{nat_tests}
use Rattle.std.proofs.lemmas.Bool.{cases_Bool, cond-true, cond-false, cond_both, lt-ltb, eq-eqb, ne_eqb}
use Rattle.text.specs.Text.{cut_at, onto, pieces}

-- the pieces of a text, by its first cut
abbrev pub by_cut : ℕ → List ℕ → Option (List ℕ × List ℕ) → List (List ℕ)
by_cut sep bs None = bs ∷ []
by_cut sep bs (Some parts) = parts.0 ∷ pieces sep parts.1

onto_by_cut : (sep b : ℕ) (bs : List ℕ) (o : Option (List ℕ × List ℕ)) → onto b (by_cut sep bs o) ≡ by_cut sep (b ∷ bs) (option_map (λ parts. (b ∷ parts.0, parts.1)) o)
onto_by_cut sep b bs None = refl
onto_by_cut sep b bs (Some parts) = refl

pieces_step : (sep b : ℕ) (bs : List ℕ) (same : Bool) → pieces sep bs ≡ by_cut sep bs (cut_at sep bs)
    → cond same ([] ∷ pieces sep bs) (onto b (pieces sep bs)) ≡ by_cut sep (b ∷ bs) (cond same (Some ([], bs)) (option_map (λ parts. (b ∷ parts.0, parts.1)) (cut_at sep bs)))
pieces_step sep b bs true e = refl
pieces_step sep b bs false e = ap (onto b) e ∙ onto_by_cut sep b bs (cut_at sep bs)

pub pieces_by_cut : (sep : ℕ) (bs : List ℕ) → pieces sep bs ≡ by_cut sep bs (cut_at sep bs)
pieces_by_cut sep [] = refl
pieces_by_cut sep (b ∷ bs) = pieces_step sep b bs (eqb b sep) (pieces_by_cut sep bs)

-- a text without a separator is one piece
pub pieces_none : (sep : ℕ) (bs : List ℕ) → None ≡ cut_at sep bs → pieces sep bs ≡ bs ∷ []
pieces_none sep bs e = pieces_by_cut sep bs ∙ ap (by_cut sep bs) (sym e)

-- otherwise its pieces are what stands before the first separator, and the pieces of the rest
pub pieces_some : (sep : ℕ) (bs front rest : List ℕ) → Some (front, rest) ≡ cut_at sep bs → pieces sep bs ≡ front ∷ pieces sep rest
pieces_some sep bs front rest e = pieces_by_cut sep bs ∙ ap (by_cut sep bs) (sym e)

-- the pieces are the parts that std's split gives
onto_split : (b : ℕ) (ps : List (List ℕ)) → onto_first b ps ≡ onto b ps
onto_split b [] = refl
onto_split b (p ∷ ps) = refl

pub split_pieces : (sep : ℕ) (bs : List ℕ) → slice_split (λ b. eqb b sep) bs ≡ pieces sep bs
split_pieces sep [] = refl
split_pieces sep (b ∷ bs) = cc (split_pieces sep bs, onto_split b (pieces sep bs))

-- what stands before an index, and what stands after it
abbrev pub around : List ℕ → ℕ → List ℕ × List ℕ
around bs i = (take i bs, drop (suc i) bs)

-- a text is cut where the first separator stands
cut_behind : (b : ℕ) (bs : List ℕ) (inside : Bool) (n : ℕ) (o : Option (List ℕ × List ℕ)) → option_map (around bs) (cond inside (Some n) None) ≡ o
    → option_map (around (b ∷ bs)) (cond inside (Some (suc n)) None) ≡ option_map (λ parts. (b ∷ parts.0, parts.1)) o
cut_behind b bs true n o e = cc
cut_behind b bs false n o e = cc

cut_step : (b : ℕ) (bs : List ℕ) (same : Bool) (n : ℕ) (o : Option (List ℕ × List ℕ)) → option_map (around bs) (cond (nat_lt n (length bs)) (Some n) None) ≡ o
    → option_map (around (b ∷ bs)) (cond (nat_lt (cond (not same) (1 + n) 0) (length (b ∷ bs))) (Some (cond (not same) (1 + n) 0)) None)
    ≡ cond same (Some ([], bs)) (option_map (λ parts. (b ∷ parts.0, parts.1)) o)
cut_step b bs true n o e = ap (option_map (around (b ∷ bs))) (cond-true _ _ _ (lt-ltb 0 (length (b ∷ bs)) (omega arith)))
cut_step b bs false n o e = let k : 1 + n ≡ suc n = omega arith in rw (k, compare.suc-suc) (cut_behind b bs (nat_lt n (length bs)) n o e)

pub cut_by_position : (sep : ℕ) (bs : List ℕ) → option_map (around bs) (position (λ b. eqb b sep) bs) ≡ cut_at sep bs
cut_by_position sep [] = refl
cut_by_position sep (b ∷ bs) = cut_step b bs (eqb b sep) (position_or_len (λ b. eqb b sep) bs) (cut_at sep bs) (cut_by_position sep bs)

-- the parts of a cut and the separator are as long as the text
abbrev AsLong : List ℕ → Option (List ℕ × List ℕ) → Type 0
AsLong bs None = Unit {0}
AsLong bs (Some parts) = length bs ≡ length parts.0 + 1 + length parts.1

as_long_behind : (b : ℕ) (bs : List ℕ) (o : Option (List ℕ × List ℕ)) → AsLong bs o → AsLong (b ∷ bs) (option_map (λ parts. (b ∷ parts.0, parts.1)) o)
as_long_behind b bs None h = tt
as_long_behind b bs (Some parts) h = omega arith

cut_length : (sep : ℕ) (bs : List ℕ) → AsLong bs (cut_at sep bs)
cut_length sep [] = tt
cut_length sep (b ∷ bs) = cond_both (eqb b sep) _ _ (AsLong (b ∷ bs)) (λ e. omega arith) (λ e. as_long_behind b bs (cut_at sep bs) (cut_length sep bs))

pub length_cut : (sep : ℕ) (bs front rest : List ℕ) → Some (front, rest) ≡ cut_at sep bs → length bs ≡ length front + 1 + length rest
length_cut sep bs front rest e = subst (AsLong bs) (sym e) (cut_length sep bs)

-- each separator adds a piece
length_onto : (sep b : ℕ) (bs : List ℕ) → length (onto b (pieces sep bs)) ≡ length (pieces sep bs)
length_onto sep b bs = rw (pieces_by_cut sep bs) (length_by_cut (cut_at sep bs))
  where
    length_by_cut : (o : Option (List ℕ × List ℕ)) → length (onto b (by_cut sep bs o)) ≡ length (by_cut sep bs o)
    length_by_cut None = refl
    length_by_cut (Some parts) = refl

pub length_pieces_more : (sep b : ℕ) (bs : List ℕ) → b ≡ sep → length (pieces sep (b ∷ bs)) ≡ length (pieces sep bs) + 1
length_pieces_more sep b bs e = ap length (cond-true (eqb b sep) ([] ∷ pieces sep bs) (onto b (pieces sep bs)) (eq-eqb b sep e)) ∙ omega arith

pub length_pieces_same : (sep b : ℕ) (bs : List ℕ) → (b ≡ sep → ⊥) → length (pieces sep (b ∷ bs)) ≡ length (pieces sep bs)
length_pieces_same sep b bs e = ap length (cond-false (eqb b sep) ([] ∷ pieces sep bs) (onto b (pieces sep bs)) (ne_eqb b sep e)) ∙ length_onto sep b bs

-- the first separator, if there is one, stands inside the text
pub found_inside : (bs : List ℕ) (n i : ℕ) → Some i ≡ cond (nat_lt n (length bs)) (Some n) None → i < length bs
found_inside bs n i e = elim (cases_Bool (nat_lt n (length bs))) [
  | inl lt ↦ let same : Some i ≡ Some n = e ∙ cond-true _ _ _ lt in grind (arith, nat_tests, same, lt)
  | inr ge ↦ let none : Some i ≡ None = e ∙ cond-false _ _ _ ge in grind (arith, none)
]

-- a text parted where its first separator stands, at i
pub parted : (sep : ℕ) (text : List ℕ) (i k : ℕ) → k ≡ i + 1 → Some (around text i) ≡ cut_at sep text → Some (take i text, take (length text - k) (drop k text)) ≡ cut_at sep text
parted sep text i k same cuts = rw (same, take_rest, add-one) cuts
