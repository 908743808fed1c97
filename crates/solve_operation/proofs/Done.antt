-- One operation: the first roots collected, the rule run, its result put among them.
use mathlib.Core.Path.{◌≡◌, refl, sym, ap, ◌∙◌, subst}
use Rattle.table.specs.Table.{Answer, stop_of, at_of, count_of}
use mathlib.Core.List.{List, [], ◌∷◌, ◌++◌}
use Prim.Native.Nat.{ℕ, suc, max, ◌≤◌, ◌<◌}
use native.Mathlib.Nat.{max-le, le-max_left, le-max_right}
use native.Mathlib.Omega.{arith}
use lib.IntN.{ℤ}
use lib.ListN.{length, get_or, set, take, drop, length-set, take-append-drop}
use lib.Seq.{length-take-le, take-take, take-suc-set, get_or-set_same}
use Rattle.theory.specs.Diagram.{Tree}
use Rattle.rule_node.specs.Nodes.{trees, tree_at, Good}
use Rattle.table_unique.specs.Unique.{Space}
use Rattle.collect_mark.specs.Mark.{roots_of, Below}
use Rattle.solve_laws.specs.Onward.{Works}
use Rattle.solve_laws.specs.Operated.{Came, came_as, collected_space, worked, stops}
use Rattle.solve_laws.specs.Roots.{Rooted, rooted_held, rooted_collected, rooted_ran, rooted_push, rooted_front, rooted_length}
use Rattle.solve_operation.specs.Operation.{comp_of, held_trees, FitsRule, Standing, Kept, Operated}
use Rattle.solve_operation.specs.declared.Rule.{Rule}
use Rattle.solve_operation.proofs.Roots.{kept_length}

-- the first roots alone
front : {cap n to : ℕ} {l : List ℤ} {w ρ : List ℕ} {Q : List Tree} → to ≤ length ρ → Rooted cap l w n ρ Q → Rooted cap l w n (take to ρ) (take to Q)
front {cap} {n} {to} {l} {w} {ρ} {Q} h H =
    let e : length ρ ≡ length Q = rooted_length H in
    rooted_front (take to ρ) (drop to ρ) (take to Q) (drop to Q) (length-take-le to ρ h ∙ sym (length-take-le to Q (omega arith)))
    (subst (λ (σ : List ℕ). Rooted cap l w n σ (take to Q ++ drop to Q)) (sym (take-append-drop to ρ))
    (subst (λ (Z : List Tree). Rooted cap l w n ρ Z) (sym (take-append-drop to Q)) H))

module _ {cap n held : ℕ} {l : List ℤ} {w R : List ℕ} (S : Standing cap l w n R held) where
  rooted : Rooted cap l w n (take held R) (held_trees l n R held)
  rooted = record { good = S.good; space = S.space; below = S.below; roots = refl }

  -- what a collection asks: as much room as there are nodes
  pub keep_asks : Space (max 1 n) l w n × Good l n × Below (take held R) n × (held ≤ length R)
  keep_asks =
      let z = S.space in
      let m : max 1 n ≤ cap = max-le z.some z.room in
      (record { some = le-max_left 1 n; few = omega (arith, z.few); room = le-max_right 1 n; words = omega (arith, z.words); works = omega (arith, z.works) }, S.good, S.below, S.few)

  module _ {n₁ : ℕ} {l₁ : List ℤ} {w₁ R₁ : List ℕ} (K : Kept l l₁ w w₁ R R₁ held n n₁) where
    pub held_within : held ≤ length R₁
    held_within = let e = kept_length K in let h = S.few in omega arith

    pub held_length : length (take held R₁) ≡ held
    held_length = length-take-le held R₁ held_within

    -- a root put among them
    pub put_length : {R₂ : List ℕ} (to x : ℕ) → R₂ ≡ set R₁ to x → length R₂ ≡ length R
    put_length to x e = ap length e ∙ (length-set R₁ to x ∙ kept_length K)

    -- the rule can run on what is left
    pub rule_asks : (rule : Rule) → FitsRule held rule → Space cap l₁ w₁ n₁ × Good l₁ n₁ × Below (take held R₁) n₁ × FitsRule (length (take held R₁)) rule
    rule_asks rule F = (collected_space S.space K.collected, K.collected.good, K.collected.below, subst (λ (k : ℕ). FitsRule k rule) (sym held_length) F)

    module _ (rule : Rule) {l₂ : List ℤ} {w₂ : List ℕ} {r : Answer} (Q : Came cap l₁ n₁ (comp_of (roots_of (trees l₁ n₁) (take held R₁)) rule) l₂ w₂ r) where
      -- of the diagrams as they were
      ran : Came cap l₁ n₁ (comp_of (held_trees l n R held) rule) l₂ w₂ r
      ran = came_as (ap (λ (Z : List Tree). comp_of Z rule) K.collected.roots) Q

      -- an index fits a root
      pub answer_fits : stop_of r ≡ 0 → at_of r < 65536
      answer_fits ok = let a = Q.within ok in let C = Q.space in let b = C.few in let d = C.room in omega arith

      pub operation_done : {to p q : ℕ} {R₂ : List ℕ} → to ≤ held → to < length R → q ≡ max p (count_of r) → (stop_of r ≡ 0 → R₂ ≡ set R₁ to (at_of r))
          → Operated cap p l n R held to rule l₂ w₂ R₂ (record { stop = stop_of r; count = count_of r; peak = q })
      operation_done {to} {p} {q} {R₂} h k m put =
          let len = kept_length K in
          let X = trees l₂ (count_of r) in
          let at : stop_of r ≡ 0 → get_or R₂ to 0 ≡ at_of r = λ ok. ap (λ (Z : List ℕ). get_or Z to 0) (put ok) ∙ get_or-set_same R₁ to (at_of r) 0 (omega arith) in
          record {
            works = λ ok T a. subst (λ (i : ℕ). Works cap T (comp_of (held_trees l n R held) rule) (tree_at l₂ (count_of r) i) (count_of r)) (sym (at ok)) (worked (rooted_held rooted a) K.collected ran ok);
            stops = λ off T a. stops (rooted_held rooted a) K.collected ran off;
            rooted = λ ok.
                subst (λ (i : ℕ). Rooted cap l₂ w₂ (count_of r) (take (suc to) R₂) (take to (held_trees l n R held) ++ (tree_at l₂ (count_of r) i ∷ []))) (sym (at ok))
                (subst (λ (ρ : List ℕ). Rooted cap l₂ w₂ (count_of r) ρ (take to (held_trees l n R held) ++ (tree_at l₂ (count_of r) (at_of r) ∷ [])))
                (ap (λ (ρ : List ℕ). ρ ++ ((at_of r) ∷ [])) (take-take to held R₁ h) ∙ (sym (take-suc-set R₁ to (at_of r) (omega arith)) ∙ ap (take (suc to)) (sym (put ok))))
                (rooted_push (front {to = to} (let z = held_length in omega arith) (rooted_ran (rooted_collected rooted K.collected) ran)) (at_of r) (Q.within ok)));
            peak = m;
          }

      -- stopped, with the number that says why
      pub operation_stopped : {to p q k : ℕ} {R₂ : List ℕ} → to ≤ held → to < length R → k ≡ stop_of r → q ≡ max p (count_of r) → (stop_of r ≡ 0 → ⊥)
          → Operated cap p l n R held to rule l₂ w₂ R₂ (record { stop = k; count = count_of r; peak = q })
      operation_stopped {to} {p} {q} {k} {R₂} h g e m off = subst (λ (z : ℕ). Operated cap p l n R held to rule l₂ w₂ R₂ (record { stop = z; count = count_of r; peak = q })) (sym e) (operation_done h g m (λ ok. absurd (off ok)))
