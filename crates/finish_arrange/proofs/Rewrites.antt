-- Node by node: the branches become numbers.
use mathlib.Core.Path.{◌≡◌, refl, sym, ap, ◌∙◌, subst}
use mathlib.Core.Logic.{⊎_elim}
use mathlib.Core.List.{List}
use Prim.Native.Nat.{ℕ, ◌+◌, ◌*◌, ◌≤◌, ◌<◌}
use native.Mathlib.Omega.{arith}
use lib.IntN.{ℤ}
use lib.ListN.{length}
use Rattle.table.proofs.Look.{split}
use Rattle.table.proofs.Store.{numbers_at, put_length, put_else, put_same}
use Rattle.table.specs.Table.{node_words, node_at, put_at}
use Rattle.table.specs.declared.Node.{Node}
use Rattle.rule_node.specs.Nodes.{Valid}
use Rattle.finish_number.specs.Number.{TableHeld}
use Rattle.finish_arrange.specs.Arrange.{Rewritten}
use Rattle.whole.specs.Linears.{numbers}
use Rattle.table_peek.specs.Renumber.{renumber, InsideRoom}
use Rattle.table_peek.proofs.Renumber.{numbers_stay}

-- branches below i are below what is further on
further : {x : Node} {i n : ℕ} → i ≤ n → Valid x i → InsideRoom x n
further h v = record { high = λ e. let q = v.high_below e in omega arith; low = λ e. let q = v.low_below e in omega arith }

pub record Rewrite (cap n : ℕ) (l l' : List ℤ) (w : List ℕ) (i : ℕ) : Type 0 where
  pub len : length l' ≡ length l
  pub before : (j : ℕ) → j < i → node_at l' j ≡ renumber w cap (node_at l j)
  pub after : (j : ℕ) → i ≤ j → node_at l' j ≡ node_at l j

pub rewrites : (cap n : ℕ) (l : List ℤ) (w : List ℕ) → Rewrite cap n l l w 0
rewrites cap n l w = record { len = refl; before = λ j q. absurd (omega arith); after = λ j q. refl }

module _ {cap n : ℕ} {l l' : List ℤ} {w : List ℕ} {i : ℕ} (G : TableHeld cap l n) (S : Rewrite cap n l l' w i) (h : i < n) where
  pub room : i * node_words + node_words ≤ length l'
  room = let a = S.len in let b = G.room in let c = G.words in omega arith

  pub inside : {x : Node} → x ≡ node_at l' i → InsideRoom x cap
  inside {x} e = subst (λ (v : Node). InsideRoom v cap) (sym (e ∙ S.after i (omega arith))) (further (let r = G.room in omega arith) (G.good.valid i h))

  long : {x y : Node} → x ≡ node_at l' i → y ≡ renumber w cap x → length y.n ≡ numbers
  long {x} ex ey = ap (λ (v : Node). length v.n) ey ∙ (ap length (numbers_stay w cap x) ∙ (ap (λ (v : Node). length v.n) ex ∙ numbers_at l' i room))

  pub rewrite_more : {x y : Node} {l'' : List ℤ} → x ≡ node_at l' i → y ≡ renumber w cap x → l'' ≡ put_at l' i y → Rewrite cap n l l'' w (i + 1)
  rewrite_more {x} {y} {l''} ex ey e = subst (λ (t : List ℤ). Rewrite cap n l t w (i + 1)) (sym e) (record {
    len = put_length l' i y ∙ S.len;
    before = λ j q. ⊎_elim
        (λ (r : j < i). put_else l' i y (long ex ey) j (omega arith) ∙ S.before j r)
        (λ (r : j ≡ i). ap (node_at (put_at l' i y)) r ∙ (put_same l' i y room (long ex ey) ∙ (ey ∙ ap (renumber w cap) (ex ∙ (S.after i (omega arith) ∙ ap (node_at l) (sym r))))))
        (split i j (omega arith));
    after = λ j q. put_else l' i y (long ex ey) j (omega arith) ∙ S.after j (omega arith);
  })

pub rewritten : {cap n : ℕ} {l l' : List ℤ} {w : List ℕ} {i : ℕ} → Rewrite cap n l l' w i → n ≤ i → Rewritten l l' w cap n
rewritten S h = record { len = S.len; at = λ j q. S.before j (omega arith) }
