-- The longest word, byte by byte.
use Rattle.std.proofs.Common.{◌≡◌, ℕ, ◌<◌, ◌≤◌, List, length, get_or, codes, Ok, ap, arith}
use borrow.Author.Count.{below_none, below_more}
use Rattle.std.proofs.lemmas.List.{ext_get_or}
use Rattle.syntax.specs.declared.word.Word.TheVariants as word
use Rattle.syntax.specs.Words.{word_read}

pub cluster : (bs : List ℕ) → 7 ≤ length bs → length bs < 8
    → get_or bs 0 0 ≡ 99 → get_or bs 1 0 ≡ 108 → get_or bs 2 0 ≡ 117 → get_or bs 3 0 ≡ 115 → get_or bs 4 0 ≡ 116 → get_or bs 5 0 ≡ 101 → get_or bs 6 0 ≡ 114
    → word_read bs ≡ Ok word.Cluster
cluster bs long short c l u s t e r =
    let P : ℕ → Type 0 = λ k. get_or bs k 0 ≡ get_or (codes "cluster") k 0 in
    let same = below_more P 6 (below_more P 5 (below_more P 4 (below_more P 3 (below_more P 2 (below_more P 1 (below_more P 0 (below_none P) c) l) u) s) t) e) r in
    ap word_read (ext_get_or 0 bs (codes "cluster") (omega arith) (λ k h. same k (omega arith)))
