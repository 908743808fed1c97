-- What a low branch is replaced by: nothing of it is new, it does not begin with a parallel test, and where none does it stays.
use Rattle.std.specs.Prelude.{◌≡◌, refl, Bool, not, T}
use Rattle.std.proofs.Common.{ap, ◌∙◌, T_not}
use Rattle.whole.specs.Cases.{if, by_test}
use Rattle.theory.specs.Diagram.{Test, Tree, leaf, branch, same}
use Rattle.theory.specs.Computation.{ret, make, result}
use Rattle.theory.specs.Rules.{parallel, narrowed, node, over}
use Rattle.theory.proofs.laws.Comps.{same_eq, result_both}
use Rattle.theory.proofs.laws.Nodes.{Tests, parts, branch_good, leaf_good, widen}
use Rattle.theory.proofs.laws.Safe.{any}
use Rattle.theorems.specs.Ordered.{before, Above, ApartFrom, Ordered}
use Rattle.theorems.proofs.laws.Order.{between}

-- no low branch is parallel to its node
pub narrowed_apart : (t : Test) (l : Tree) → ApartFrom t (narrowed t l)
unfolding narrowed
narrowed_apart t (leaf f) = tt
narrowed_apart t (branch u h l) = by_test (parallel t u) (λ b. ApartFrom t (if b (narrowed t l) (branch u h l))) (λ _. narrowed_apart t l) (λ n. T_not (parallel t u) n)

pub narrowed_ordered : (t : Test) (l : Tree) → Ordered l → Ordered (narrowed t l)
unfolding narrowed
narrowed_ordered t (leaf f) o = o
narrowed_ordered t (branch u h l) o = by_test (parallel t u) (λ b. Ordered (if b (narrowed t l) (branch u h l))) (λ _. narrowed_ordered t l o.1.1.1.1) (λ _. o)

-- there is nothing to replace
pub narrowed_not : (t : Test) (l : Tree) → ApartFrom t l → narrowed t l ≡ l
unfolding narrowed
narrowed_not t (leaf f) a = refl
narrowed_not t (branch u h l) a = by_test (parallel t u) (λ b. if b (narrowed t l) (branch u h l) ≡ branch u h l) (λ p. absurd (a p)) (λ _. refl)

-- a node over branches that differ, the low one not parallel to it
pub made_node : (t : Test) (h l : Tree) → (h ≡ l → ⊥) → ApartFrom t l → result (node t h l) ≡ branch t h l
unfolding node make result
made_node t h l f a =
    let k = narrowed t l in
    by_test (same h k) (λ s. result (if s (ret h) (make (branch t h k))) ≡ branch t h l)
    (λ s. absurd (f (same_eq h k s ∙ narrowed_not t l a))) (λ _. ap (branch t h) (narrowed_not t l a))

-- making anew what the rule made changes nothing
pub made_anew : (F : Tree) → Ordered F → result (over node (λ f. ret (leaf f)) F) ≡ F
unfolding over result
made_anew (leaf f) o = refl
made_anew (branch t h l) o =
    let x = over node (λ f. ret (leaf f)) h in
    let y = over node (λ f. ret (leaf f)) l in
    result_both (node t) x y ∙ (λ i. result (node t (made_anew h o.1.1.1.0 i) (made_anew l o.1.1.1.1 i))) ∙ made_node t h l o.1.1.0.0 o.1.1.0.1

not_in : (b : Bool) → (T b → ⊥) → T (not b)
not_in b n = by_test b (λ c. T (not c)) (λ t. absurd (n t)) (λ _. tt)

-- not only its root: tests with the same coefficients are neighbours in the order
pub low_apart : (t : Test) (l : Tree) → Above t l → Ordered l → ApartFrom t l → Tests (λ u. not (parallel t u)) l
low_apart t (leaf f) b o a = leaf_good (λ u. not (parallel t u)) any f tt
low_apart t (branch u h l) b o a =
    let c = (parts (before t) any u h l b).0 in
    let under : (v : Test) → T (before u v) → T (not (parallel t v)) = λ v d. not_in (parallel t v) (λ q. a (between t u v c d q)) in
    branch_good (λ v. not (parallel t v)) any u h l (not_in (parallel t u) a)
    (widen (before u) (λ v. not (parallel t v)) any any under (λ _ _. tt) h o.0)
    (widen (before u) (λ v. not (parallel t v)) any any under (λ _ _. tt) l o.1.0)
