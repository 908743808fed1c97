-- The stage words over the rows with the path's copy, against the definitions.
use mathlib.Core.Path.{◌≡◌, refl, sym, ap, ap₂, ◌∙◌}
use mathlib.Core.Bool.{false}
use mathlib.Core.List.{List, [], ◌∷◌, map}
use Prim.Native.Nat.{ℕ, suc, ◌+◌, ◌-◌, ◌≤◌, ◌<◌}
use native.Mathlib.Omega.{arith}
use borrow.Author.Tests.{eqb-true, eqb-false, eq-eqb, ne_eqb}
use lib.Dec.{eqb}
use lib.IntN.{ℤ}
use lib.ListN.{length, get_or, set, length-set}
use lib.Seq.{get_or-set_same, get_or-set_other}
use Rattle.whole.specs.Cases.{if, by_eq}
use Rattle.theory.specs.Diagram.{Tree}
use Rattle.theory.specs.Computation.{result}
use Rattle.theory.specs.Solve.{number_of}
use Rattle.prune_paths.specs.Prune.{diagram_at, cut, remade, stage_anew, stages_anew, words_anew}
use Rattle.prune_copy.specs.Copy.{Copied}
use Rattle.prune_tables.specs.Tables.{rooted, anew, stages_of, word_in}

-- the words qs over W' stand for the diagrams of the words rs over W, stage h's being the first
pub record Stand (W W' : List ℤ) (s : ℕ) (turns : List ℕ) (h : ℕ) (rs qs : List ℕ) : Type 0 where
  pub none : (i : ℕ) → eqb (get_or qs i 0) 0 ≡ eqb (get_or rs i 0) 0
  pub tree : (i : ℕ) → i < length rs → eqb (get_or rs i 0) 0 ≡ false → anew W' (get_or qs i 0) ≡ stage_anew W s turns (h + i) (get_or rs i 0)

module _ (W W' : List ℤ) (s : ℕ) (turns : List ℕ) where
  behind : {h r q : ℕ} {rs qs : List ℕ} → Stand W W' s turns h (r ∷ rs) (q ∷ qs) → Stand W W' s turns (suc h) rs qs
  behind {h} {r} {q} {rs} D = record {
    none = λ i. D.none (suc i);
    tree = λ i l z. let e : h + suc i ≡ suc h + i = omega arith in D.tree (suc i) (omega arith) z ∙ ap (λ (j : ℕ). stage_anew W s turns j (get_or rs i 0)) e;
  }

  head : {h r q : ℕ} {rs qs : List ℕ} → Stand W W' s turns h (r ∷ rs) (q ∷ qs) → eqb r 0 ≡ false → anew W' q ≡ stage_anew W s turns h r
  head {h} {r} D z = let e : h + 0 ≡ h = omega arith in D.tree 0 (omega arith) z ∙ ap (λ (j : ℕ). stage_anew W s turns j r) e

  pub same_stages : (h : ℕ) (rs qs : List ℕ) → length qs ≡ length rs → Stand W W' s turns h rs qs → stages_of W' qs ≡ stages_anew W s turns h rs
  unfolding rooted stages_anew
  same_stages h [] [] n D = refl
  same_stages h [] (q ∷ qs) n D = absurd (omega arith)
  same_stages h (r ∷ rs) [] n D = absurd (omega arith)
  same_stages h (r ∷ rs) (q ∷ qs) n D =
      let e = same_stages (suc h) rs qs (omega arith) (behind D) in
      ap (λ b. if b (rooted (anew W') qs) (anew W' q ∷ rooted (anew W') qs)) (D.none 0)
      ∙ by_eq (eqb r 0) (λ b. if b (rooted (anew W') qs) (anew W' q ∷ rooted (anew W') qs) ≡ if b (stages_anew W s turns (suc h) rs) (stage_anew W s turns h r ∷ stages_anew W s turns (suc h) rs))
      (λ _. e) (λ z. ap₂ (λ (x : Tree) (t : List Tree). x ∷ t) (head D z) e)

  pub same_words : (X : List Tree) (h : ℕ) (rs qs : List ℕ) → length qs ≡ length rs → Stand W W' s turns h rs qs → map (word_in X W') qs ≡ words_anew W s turns X h rs
  unfolding words_anew
  same_words X h [] [] n D = refl
  same_words X h [] (q ∷ qs) n D = absurd (omega arith)
  same_words X h (r ∷ rs) [] n D = absurd (omega arith)
  same_words X h (r ∷ rs) (q ∷ qs) n D = ap₂ (λ (x : ℕ) (t : List ℕ). x ∷ t)
      (ap (λ b. if b 0 (number_of (anew W' q) X)) (D.none 0)
      ∙ by_eq (eqb r 0) (λ b. if b 0 (number_of (anew W' q) X) ≡ if b 0 (number_of (stage_anew W s turns h r) X)) (λ _. refl) (λ z. ap (λ (t : Tree). number_of t X) (head D z)))
      (same_words X (suc h) rs qs (omega arith) (behind D))

-- ---- the copy's root in the word of the stage that is sent

module _ (rs : List ℕ) (s : ℕ) {W W' : List ℤ} {turns : List ℕ} {last q : ℕ} (C : Copied W W' (get_or rs (s - 1) 0) turns last q) (a : 1 ≤ s) (l : s ≤ length rs)
    (some : 1 ≤ get_or rs (s - 1) 0) (upto : (i : ℕ) → i < length rs → get_or rs i 0 ≤ last) where
  sent : stage_anew W s turns (1 + (s - 1)) (get_or rs (s - 1) 0) ≡ anew W' q
  unfolding stage_anew
  sent =
      let F = diagram_at W (get_or rs (s - 1) 0) in
      ap (λ b. result (remade (if b (cut turns F) F))) (eq-eqb (1 + (s - 1)) s (omega arith)) ∙ ap (λ (t : Tree). result (remade t)) (sym C.is)

  other : (i r : ℕ) → (i ≡ s - 1 → ⊥) → 1 ≤ r → r ≤ last → stage_anew W s turns (1 + i) r ≡ anew W' r
  unfolding stage_anew
  other i r z b u =
      let F = diagram_at W r in
      ap (λ b. result (remade (if b (cut turns F) F))) (ne_eqb (1 + i) s (λ e. z (omega arith))) ∙ ap (λ (t : Tree). result (remade t)) (sym (C.kept r b u))

  pub stand : Stand W W' s turns 1 rs (set rs (s - 1) q)
  stand = record {
    none = λ i. by_eq (eqb i (s - 1)) (λ _. eqb (get_or (set rs (s - 1) q) i 0) 0 ≡ eqb (get_or rs i 0) 0)
        (λ t. let e = eqb-true i (s - 1) t in
        ap (λ (j : ℕ). eqb (get_or (set rs (s - 1) q) j 0) 0) e
        ∙ (ap (λ (r : ℕ). eqb r 0) (get_or-set_same rs (s - 1) q 0 (omega arith))
        ∙ (ne_eqb q 0 (λ z. omega (arith, C.above)) ∙ sym (ap (λ (j : ℕ). eqb (get_or rs j 0) 0) e ∙ ne_eqb (get_or rs (s - 1) 0) 0 (λ z. omega arith)))))
        (λ t. ap (λ (r : ℕ). eqb r 0) (get_or-set_other rs (s - 1) i q 0 (eqb-false i (s - 1) t)));
    tree = λ i u z. by_eq (eqb i (s - 1)) (λ _. anew W' (get_or (set rs (s - 1) q) i 0) ≡ stage_anew W s turns (1 + i) (get_or rs i 0))
        (λ t. let e = eqb-true i (s - 1) t in
        ap (λ (j : ℕ). anew W' (get_or (set rs (s - 1) q) j 0)) e
        ∙ (ap (anew W') (get_or-set_same rs (s - 1) q 0 (omega arith)) ∙ (sym sent ∙ ap (λ (j : ℕ). stage_anew W s turns (1 + j) (get_or rs j 0)) (sym e))))
        (λ t. let n = eqb-false i (s - 1) t in
        let y = eqb-false (get_or rs i 0) 0 z in
        ap (anew W') (get_or-set_other rs (s - 1) i q 0 n) ∙ sym (other i (get_or rs i 0) n (omega arith) (upto i u)));
  }

  -- the copy's root is no lower than any row
  pub words_within : (rows : ℕ) → last ≤ rows → q ≤ rows → (i : ℕ) → i < length (set rs (s - 1) q) → get_or (set rs (s - 1) q) i 0 ≤ rows
  words_within rows b c i u = by_eq (eqb i (s - 1)) (λ _. get_or (set rs (s - 1) q) i 0 ≤ rows)
      (λ t. let e = eqb-true i (s - 1) t in rw (e, get_or-set_same rs (s - 1) q 0 (omega arith)) c)
      (λ t. rw (get_or-set_other rs (s - 1) i q 0 (eqb-false i (s - 1) t)) (omega (arith, upto i (omega (arith, length-set rs (s - 1) q)))))
