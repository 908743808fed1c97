-- "The listing program": the listing of what is solved, or `R number place`.
use Rattle.std.specs.Prelude.{List, [], ◌∷◌, ℕ, ◌*◌, eqb, ltb, ℤ, pos, length, replicate}
use Rattle.whole.specs.Cases.{if}
use Rattle.theory.specs.Widths.{node_words, work_words, steps_most, peak_words}
use Rattle.theory.specs.Verdict.{refusal}
use Rattle.theory.specs.Load.{site_at}
use Rattle.theory.specs.Solve.{solve}
use Rattle.theory.specs.Listing.{text, refusal_line, listing_refusal}

-- the text that fits into so many bytes, or the listing's refusal
unfoldable pub listed : List ℕ → ℕ → List ℤ → List ℕ → ℕ → List ℕ
listed B H nodes stages room =
    let v = listing_refusal B H nodes stages room 0 in
    if (eqb v.number 0) (text (site_at B) H nodes stages) (refusal_line v)

-- the listing from the start of a buffer of so many bytes, or the refusal of solving
unfoldable pub printed : List ℕ → ℕ → List ℤ → List ℕ → List ℕ → List ℕ → ℕ → List ℕ
printed B H nodes stages work peaks room =
    let o = solve B H nodes stages work peaks in
    if (eqb o.number 0) (listed B H o.nodes o.stages room) (refusal_line (refusal o.number o.place))

-- "It takes 65,535 bytes"
abbrev pub model_most : ℕ
model_most = 65535

-- "its 65,536-byte buffer"
abbrev pub text_bytes : ℕ
text_bytes = 65536

-- "has 512 nodes"
abbrev pub nodes_held : ℕ
nodes_held = 512

-- in tables of zeros, "from the start of its 65,536-byte buffer"
unfoldable pub tables_printed : List ℕ → ℕ → List ℕ
tables_printed B H = printed B H (replicate (nodes_held * node_words) (pos 0)) (replicate steps_most 0) (replicate (nodes_held * work_words) 0) (replicate peak_words 0) text_bytes

-- a longer model is 10, before all else
unfoldable pub plan_printed : List ℕ → ℕ → List ℕ
plan_printed B H = if (ltb model_most (length B)) (refusal_line (refusal 10 0)) (tables_printed B H)

-- "reads standard input, horizon byte then model .. empty input counts as horizon 0"
unfoldable pub horizon_of : List ℕ → ℕ
horizon_of [] = 0
horizon_of (horizon ∷ B) = horizon

unfoldable pub model_of : List ℕ → List ℕ
model_of [] = []
model_of (horizon ∷ B) = B

unfoldable pub program : List ℕ → List ℕ
program input = plan_printed (model_of input) (horizon_of input)
