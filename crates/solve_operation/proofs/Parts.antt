-- A rule run in a part of the room: what does not end with 12 there ends alike with more room.
use mathlib.Core.Path.{◌≡◌, refl, sym, ap, ◌∙◌, subst}
use mathlib.Core.Bool.{Bool, true, false}
use mathlib.Core.Logic.{◌⊎◌, inl, inr, ⊎_elim}
use mathlib.Core.List.{List, [], ◌∷◌, ◌++◌}
use Prim.Native.Nat.{ℕ, ◌≤◌, ◌<◌}
use native.Mathlib.Omega.{arith}
use borrow.Author.Tests.{eqb-true, eq-eqb, lt-ltb, ltb-true}
use lib.Dec.{eqb, ltb}
use lib.IntN.{ℤ}
use lib.ListN.{length, get_or}
use Rattle.whole.specs.Cases.{if, by_eq, clash}
use Rattle.whole.specs.Within.{small}
use Rattle.table.specs.Table.{node_at, Answer, stop_of, at_of, count_of}
use Rattle.table.specs.declared.Node.{Node}
use Rattle.theory.specs.Diagram.{Tree}
use Rattle.theory.specs.Computation.{Comp, ret, named, made, Out, done, stopped, member, run}
use Rattle.rule_node.specs.Nodes.{blank, tree_of, trees, Valid, Good}
use Rattle.rule_node.specs.Table.{Table, RuleRan, out_of}
use Rattle.rule_node.specs.Table.{EntryRule as Entries}
use Rattle.rule_node.specs.EntryMeaning.{rule_of}
use Rattle.rule_node.proofs.Trees.{trees_same, tree_at_is}
use Rattle.rule_node.proofs.Outcomes.{fresh}
use Rattle.table_unique.specs.Unique.{Space}
use Rattle.collect_mark.specs.Mark.{roots_of}
use Rattle.collect_rehash.specs.Rehash.{Rehashed}
use Rattle.solve_laws.specs.Operated.{Came}
use Rattle.solve_operation.specs.Operation.{comp_of}
use Rattle.solve_operation.specs.declared.Rule.{Rule}

-- ---- more room

-- 12, or the same with more room
pub more_room : {A : Type 0} (N M : ℕ) → N ≤ M → (m : Comp A) (X : List Tree) → (run N m X ≡ stopped 12) ⊎ (run M m X ≡ run N m X)
unfolding run
more_room N M h (ret a) X = inr refl
more_room N M h (named z m) X = go (small z) (more_room N M h m X)
  where
    go : (b : Bool) → (run N m X ≡ stopped 12) ⊎ (run M m X ≡ run N m X) → (if b (run N m X) (stopped 11) ≡ stopped 12) ⊎ (if b (run M m X) (stopped 11) ≡ if b (run N m X) (stopped 11))
    go true r = r
    go false r = inr refl
more_room N M h (made t m) X = go (member t X) (ltb (length X) N) (ltb (length X) M) (λ e. lt-ltb (length X) M (omega (arith, ltb-true (length X) N e))) (more_room N M h m X) (more_room N M h m (X ++ (t ∷ [])))
  where
    go : (a b c : Bool) → (b ≡ true → c ≡ true) → (run N m X ≡ stopped 12) ⊎ (run M m X ≡ run N m X)
        → (run N m (X ++ (t ∷ [])) ≡ stopped 12) ⊎ (run M m (X ++ (t ∷ [])) ≡ run N m (X ++ (t ∷ [])))
        → (if a (run N m X) (if b (run N m (X ++ (t ∷ []))) (stopped 12)) ≡ stopped 12)
        ⊎ (if a (run M m X) (if c (run M m (X ++ (t ∷ []))) (stopped 12)) ≡ if a (run N m X) (if b (run N m (X ++ (t ∷ []))) (stopped 12)))
    go true b c f r s = r
    go false true true f r s = s
    go false true false f r s = clash (sym (f refl))
    go false false c f r s = inl refl

-- the number that stops a run
unfoldable pub run_stop : {A : Type 0} → Out A → ℕ
run_stop (done t X) = 0
run_stop (stopped k) = k

stop_is : (r : Answer) (X : List Tree) → run_stop (out_of r X) ≡ stop_of r
unfolding run_stop out_of
stop_is r X = by_eq (eqb (stop_of r) 0) (λ b. run_stop (if b (done (get_or X (at_of r) blank) X) (stopped (stop_of r))) ≡ stop_of r) (λ e. sym (eqb-true (stop_of r) 0 e)) (λ e. refl)

stop_twelve : run_stop {A = Tree} (stopped 12) ≡ 12
unfolding run_stop
stop_twelve = refl

-- a run that did not end for want of room
pub not_full : (r : Answer) {b : Bool} → b ≡ eqb (stop_of r) 12 → b ≡ false → stop_of r ≡ 12 → ⊥
not_full r e f q = clash (sym (eq-eqb (stop_of r) 12 q) ∙ (sym e ∙ f))

-- ---- the chains made anew

pub rehashed_table : {M : Entries} {part n : ℕ} {l : List ℤ} {w w' : List ℕ} → Space part l w n → Good l n → Rehashed part l w w' n → Table M part l w' n
rehashed_table {n = n} {l = l} S G H = fresh (record {
  good = G;
  chained = record {
    space = record {
      some = S.some;
      few = S.few;
      room = S.room;
      words = S.words;
      works = omega (arith, S.works, H.len);
    };
    hashed = H.hashed;
    apart = λ i j p q e. G.distinct i j p q (tree_at_is G i p ∙ (ap (λ (x : Node). tree_of x (trees l n)) e ∙ sym (tree_at_is G j q)));
  };
}) H.cache

pub ran_came : {part n : ℕ} {l l' : List ℤ} {w w' : List ℕ} {m : Comp Tree} {r : Answer} → RuleRan rule_of part l w n m l' w' r → Came part l n m l' w' r
ran_came Q =
    record { ran = Q.ran; good = Q.table.bare.good; space = Q.table.bare.chained.space; within = Q.within; more = Q.more; kept = Q.kept }

-- ---- parts one after another

-- the next run has room for a part; the n nodes stand as they did
pub record Trying (cap : ℕ) (l₀ : List ℤ) (w₀ : List ℕ) (n : ℕ) (l : List ℤ) (w : List ℕ) (part : ℕ) : Type 0 where
  pub space : Space cap l₀ w₀ n
  pub good : Good l₀ n
  pub some : 0 < part
  pub room : n ≤ part
  pub within : part ≤ cap
  pub kept : (i : ℕ) → i < n → node_at l i ≡ node_at l₀ i
  pub nodes_length : length l ≡ length l₀
  pub work_length : length w ≡ length w₀

pub trying_starts : {cap n part : ℕ} {l : List ℤ} {w : List ℕ} → Space cap l w n → Good l n → (0 < part) × (n ≤ part) × (part ≤ cap) → Trying cap l w n l w part
trying_starts S G p = record { space = S; good = G; some = p.0; room = p.1; within = p.2; kept = λ i h. refl; nodes_length = refl; work_length = refl }

module _ {cap n part : ℕ} {l₀ l : List ℤ} {w₀ w : List ℕ} (Y : Trying cap l₀ w₀ n l w part) where
  trying_good : Good l n
  trying_good = record {
    valid = λ i h. subst (λ (x : Node). Valid x i) (sym (Y.kept i h)) (Y.good.valid i h);
    distinct = λ i j p q. subst (λ (X : List Tree). ◌≡◌ {A = Tree} (get_or X i blank) (get_or X j blank) → i ≡ j) (sym (trees_same l₀ l n Y.kept)) (Y.good.distinct i j p q);
  }

  -- what a run in a part asks
  pub trying_asks : Space part l w n × Good l n
  trying_asks =
      let S = Y.space in (
        record {
          some = Y.some;
          few = omega (arith, Y.within, S.few);
          room = Y.room;
          words = omega (arith, Y.within, Y.nodes_length, S.words);
          works = omega (arith, Y.within, Y.work_length, S.works);
        },
        trying_good,
      )

  -- and one in the whole room
  pub whole_asks : Space cap l w n × Good l n
  whole_asks =
      let S = Y.space in
      (record { some = S.some; few = S.few; room = S.room; words = omega (arith, Y.nodes_length, S.words); works = omega (arith, Y.work_length, S.works) }, trying_good)

  module _ (R : List ℕ) (rule : Rule) {N : ℕ} {l' : List ℤ} {w' : List ℕ} {r : Answer} (Q : Came N l n (comp_of (roots_of (trees l n) R) rule) l' w' r) where
    -- from the nodes as they stood first
    came_first : Came N l₀ n (comp_of (roots_of (trees l₀ n) R) rule) l' w' r
    came_first = record {
      ran = Q.ran ∙ ap (λ (X : List Tree). run N (comp_of (roots_of X R) rule) X) (trees_same l₀ l n Y.kept);
      good = Q.good;
      space = Q.space;
      within = Q.within;
      more = Q.more;
      kept = λ i h. Q.kept i h ∙ Y.kept i h;
    }

  module _ (R : List ℕ) (rule : Rule) {l' : List ℤ} {w' : List ℕ} {r : Answer} where
    pub whole_ends : Came cap l n (comp_of (roots_of (trees l n) R) rule) l' w' r → Came cap l₀ n (comp_of (roots_of (trees l₀ n) R) rule) l' w' r
    whole_ends Q = came_first R rule Q

    module _ (Q : Came part l n (comp_of (roots_of (trees l n) R) rule) l' w' r) (a : length l' ≡ length l) (b : length w' ≡ length w) where
      -- not 12: so with all the room
      pub part_ends : (stop_of r ≡ 12 → ⊥) → Came cap l₀ n (comp_of (roots_of (trees l₀ n) R) rule) l' w' r
      part_ends off =
          let S = Y.space in
          let Z = came_first R rule Q in
          let m = comp_of (roots_of (trees l₀ n) R) rule in
          record {
            ran = ⊎_elim
                (λ e. absurd (off (sym (stop_is r (trees l' (count_of r))) ∙ (ap run_stop (Z.ran ∙ e) ∙ stop_twelve))))
                (λ e. Z.ran ∙ sym e)
                (more_room part cap Y.within m (trees l₀ n));
            good = Z.good;
            space = record {
              some = S.some;
              few = S.few;
              room = omega (arith, Z.space.room, Y.within);
              words = omega (arith, a, Y.nodes_length, S.words);
              works = omega (arith, b, Y.work_length, S.works);
            };
            within = Z.within;
            more = Z.more;
            kept = Z.kept;
          }

      -- 12: a wider part next
      pub trying_again : {next : ℕ} → (part < next) × (next ≤ cap) → Trying cap l₀ w₀ n l' w' next
      trying_again p = record {
        space = Y.space;
        good = Y.good;
        some = omega (arith, p.0);
        room = omega (arith, p.0, Y.room);
        within = p.1;
        kept = (came_first R rule Q).kept;
        nodes_length = a ∙ Y.nodes_length;
        work_length = b ∙ Y.work_length;
      }
