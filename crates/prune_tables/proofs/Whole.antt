-- Rows made anew, roots gathered, tables finished, numbers spread: the tables anew.
use mathlib.Core.Path.{◌≡◌, refl, sym, ap, ap₂, ◌∙◌, subst}
use mathlib.Core.Bool.{false}
use mathlib.Core.List.{List, map}
use Prim.Native.Nat.{ℕ, suc, ◌-◌, ◌≤◌, ◌<◌}
use native.Mathlib.Omega.{arith}
use borrow.Author.Tests.{eqb-false}
use lib.Dec.{eqb}
use lib.IntN.{ℤ}
use lib.ListN.{length, get_or, take, replicate, length-map, get_or-append, get_or-map}
use lib.Seq.{ext_get_or}
use Rattle.whole.specs.Cases.{if, by_eq}
use Rattle.theory.specs.Widths.{steps_most}
use Rattle.theory.specs.Diagram.{Tree}
use Rattle.theory.specs.Solve.{number_of, table_of, solved_nodes, solved_stages}
use Rattle.rule_node.specs.Nodes.{tree_at}
use Rattle.finish_number.specs.Number.{Roots, trees_of}
use Rattle.finish.specs.Finish.{Unfinished, Finished}
use Rattle.prune_remake.specs.Remade.{Remade}
use Rattle.prune_tables.specs.Tables.{rooted, before, gone_to, StandingRows, Gathered, Spread, Rowed, anew, stages_of, word_in, Anew}
use Rattle.prune_tables.proofs.Rooted.{rooted_most, rooted_at, rooted_in, rooted_map, rooted_same, rooted_all}

-- a row's number from its word
row_at : (r : ℕ) → eqb r 0 ≡ false → 0 < r
row_at r e = let z = eqb-false r 0 e in omega arith

-- the numbers of some diagrams, wherever they stand in the words
number_at : (S : List Tree) (f : ℕ → Tree) (s : List ℕ) → S ≡ rooted f s → (i : ℕ) → i < length s → eqb (get_or s i 0) 0 ≡ false → get_or (solved_stages S) (before s i) 0 ≡ number_of (f (get_or s i 0)) (table_of S)
unfolding solved_stages
number_at S f s e i l z =
    let num : Tree → ℕ = λ t. number_of t (table_of S) in
    let q : map num S ≡ rooted (λ r. num (f r)) s = ap (map num) e ∙ rooted_map num f s in
    let b : before s i < length (map num S) = rw q (rooted_in (λ r. num (f r)) s i l z) in
    get_or-append (map num S) (replicate (steps_most - length S) 0) 0 (before s i) b
    ∙ (ap (λ (t : List ℕ). get_or t (before s i) 0) q ∙ rooted_at (λ r. num (f r)) s i 0 l z)

module _ {W l : List ℤ} {s w w₁ : List ℕ} {rows n : ℕ} (P : Rowed W s w rows) (M : Remade rows W l w₁ n rows) (nl : length l ≡ length W) (nw : length w₁ ≡ length w) where
  pub standing : StandingRows rows w₁ s × (length s ≤ steps_most)
  standing = (
    record {
      few = P.few;
      works = omega (arith, P.works);
      words = P.words;
      gone = λ i h. omega (arith, M.there i h, M.fewer);
    },
    omega (arith, P.eight),
  )

  gone_in : (i : ℕ) → i < length s → eqb (get_or s i 0) 0 ≡ false → gone_to rows w₁ (get_or s i 0) < n
  gone_in i h z = let a = row_at (get_or s i 0) z in M.there (get_or s i 0 - 1) (omega (arith, P.words i h))

  module _ {R : List ℕ} {k : ℕ} (G : Gathered rows w₁ s R k) where
    pub to_finish : {t : List ℕ} → length t ≡ steps_most → Unfinished rows l n w₁ (take k R) t
    to_finish e = record {
      held = record { good = M.bare.good; room = M.fewer; few = P.few; words = omega (arith, P.nodes) };
      works = omega (arith, P.works);
      roots = subst (λ (t : List ℕ). Roots t n) (sym G.roots) (record { below = rooted_all (λ (r : ℕ). r < n) (gone_to rows w₁) 0 s gone_in });
      few = omega (arith, ap length G.roots, rooted_most (gone_to rows w₁) s, P.eight);
      stages = e;
    }

    diagrams : trees_of l n (take k R) ≡ stages_of W s
    diagrams =
        ap (map (tree_at l n)) G.roots ∙ (rooted_map (tree_at l n) (gone_to rows w₁) s
        ∙ rooted_same (λ r. tree_at l n (gone_to rows w₁ r)) (anew W) s
        (λ i h z. let a = row_at (get_or s i 0) z in
        let e : suc (get_or s i 0 - 1) ≡ get_or s i 0 = omega arith in
        M.is (get_or s i 0 - 1) (omega (arith, P.words i h)) ∙ ap (anew W) e))

    pub all_anew : {l' : List ℤ} {w' ns s' : List ℕ} {c : ℕ} → Finished l l' w₁ w' ns c (trees_of l n (take k R)) → Spread ns s s' → Anew W l' s s' w w'
    all_anew {l'} {w'} {ns} {s'} F D =
        let S = stages_of W s in
        let X = table_of S in
        record {
          nodes = F.nodes ∙ ap₂ solved_nodes nl diagrams;
          stages = ext_get_or 0 s' (map (word_in X W) s) (D.len ∙ sym (length-map s (word_in X W))) (λ i u.
              let h : i < length s = omega (arith, D.len) in
              D.words i h
              ∙ (by_eq (eqb (get_or s i 0) 0) (λ b. if b 0 (get_or ns (before s i) 0) ≡ if b 0 (number_of (anew W (get_or s i 0)) X)) (λ _. refl)
              (λ z. ap (λ (t : List ℕ). get_or t (before s i) 0) (F.stages ∙ ap solved_stages diagrams) ∙ number_at S (anew W) s refl i h z)
              ∙ sym (get_or-map (word_in X W) s i 0)));
          work = F.work ∙ ap (λ (j : ℕ). replicate j 0) nw;
        }
