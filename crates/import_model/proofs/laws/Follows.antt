-- The commands of a condition push one diagram, and at every state it comes to what the reading means there.
use Rattle.std.specs.Prelude.{◌≡◌, refl, Bool, true, false, not, List, [], ◌∷◌, ◌++◌, ℕ, ltb, leb, ℤ, pos, negsuc, ◌*ℤ◌}
use Rattle.std.proofs.Common.{sym, ap, ◌∙◌, append_assoc, arith, leb→le, ltb→lt, lt→ltb}
use Rattle.std.proofs.Math.Dec.{nleb→lt}
use Rattle.std.proofs.Math.IntN.{*ℤ_comm}
use Rattle.std.specs.Int.Signed.{le_z, lt_z}
use Rattle.whole.specs.Cases.{if, by_test, is_true}
use Rattle.whole.specs.Divisor.{least_positive}
use Rattle.theory.specs.Diagram.{Linear, Test, now as at-now, later as at-later, Leaf, Tree, leaf, ◌⊟◌, quotient, divisor, test_of}
use Rattle.theory.specs.Computation.{bind, make, result}
use Rattle.theory.specs.Rules.{choose, none_leaf}
use Rattle.theory.specs.Command.{Command, push_condition, push_test, give}
use Rattle.theory.specs.Load.{Entry, Loaded, condition_test, load_choice_with, load_one, load_one_with}
use Rattle.theory.specs.Meaning.{Env, value, holds, at}
use Rattle.theory.proofs.laws.Comps.{result_bind}
use Rattle.theory.proofs.laws.Values.{scale_sign, less_sub, choose_at, quotient_exact, value_scale, value_sub}
use Rattle.import_grammar.specs.Grammar.{Four, f1, f2, f3, f4, Op, lt, le, gt, ge, Nots, unsaid, bang, Atom, now, later, compare, group, Not, negated, And, alone, both, Or, single, either, Result, worth, forbids}
use Rattle.import_numbers.specs.Numbers.{linear_of}
use Rattle.import_model.specs.Commands.{condition_of, later_of, compare_commands, nots_commands, atom_commands, not_commands, and_commands, or_commands, result_command}
use Rattle.import_model.specs.Meaning.{compared, turned, atom_holds, not_holds, and_holds, or_holds, leaf_of}

-- ---- what commands load, one after another

unfoldable pub load_all : List Command → Loaded → Loaded
load_all [] s = s
load_all (c ∷ C) s = load_all C (result (load_one c s))

abbrev pub loaded : List Tree → List Entry → Loaded
loaded K E = record { stack = K; entries = E }

-- some commands push one diagram, which comes to v e at every state
pub record Gives (C : List Command) (v : Env → Leaf) : Type 0 where
  pub diagram : Tree
  pub makes : (R : List Command) (K : List Tree) (E : List Entry) → load_all (C ++ R) (loaded K E) ≡ load_all R (loaded (diagram ∷ K) E)
  pub means : (e : Env) → at e diagram ≡ v e

gives_as : {C : List Command} {u v : Env → Leaf} → ((e : Env) → u e ≡ v e) → Gives C u → Gives C v
gives_as h g = record { diagram = g.diagram; makes = g.makes; means = λ e. g.means e ∙ h e }

put_after : (A B R : List Command) (c : Command) → (A ++ (B ++ (c ∷ []))) ++ R ≡ A ++ (B ++ (c ∷ R))
put_after A B R c = append_assoc A (B ++ (c ∷ [])) R ∙ ap (λ (D : List Command). A ++ D) (append_assoc B (c ∷ []) R)

-- ---- a choice over what two lists of commands give

choice_loads : (t : Test) (h l : Tree) (K : List Tree) (E : List Entry) → result (load_choice_with choose t (l ∷ h ∷ K) E) ≡ loaded (result (choose t h l) ∷ K) E
unfolding load_choice_with result
choice_loads t h l K E = result_bind (choose t h l) _

chosen : (A B : List Command) (y z : Env → Leaf) (c : Command) (t : Test) (b : Env → Bool)
    → ((s : Loaded) → load_one c s ≡ load_choice_with choose t s.stack s.entries) → ((e : Env) → holds e t ≡ b e)
    → Gives A y → Gives B z → Gives (A ++ (B ++ (c ∷ []))) (λ e. if (b e) (y e) (z e))
unfolding load_all
chosen A B y z c t b works reads g h = record {
  diagram = result (choose t g.diagram h.diagram);
  makes = λ R K E.
      ap (λ (D : List Command). load_all D (loaded K E)) (put_after A B R c) ∙ g.makes (B ++ (c ∷ R)) K E ∙ h.makes (c ∷ R) (g.diagram ∷ K) E
      ∙ ap (load_all R) (ap result (works (loaded (h.diagram ∷ g.diagram ∷ K) E)) ∙ choice_loads t g.diagram h.diagram K E);
  means = λ e. choose_at e t g.diagram h.diagram ∙ (λ i. if (reads e i) (g.means e i) (h.means e i));
}

-- ---- the tests

condition_now : (i : Four) → condition_test (condition_of i) ≡ at-now (condition_of i)
unfolding condition_test condition_of
condition_now f1 = refl
condition_now f2 = refl
condition_now f3 = refl
condition_now f4 = refl

condition_later : (i : Four) → condition_test (later_of i) ≡ at-later (condition_of i)
unfolding condition_test condition_of later_of
condition_later f1 = refl
condition_later f2 = refl
condition_later f3 = refl
condition_later f4 = refl

not_most : (a b : ℕ) → ltb b a ≡ not (leb a b)
not_most a b = by_test (leb a b) (λ c. ltb b a ≡ not c)
    (λ t. by_test (ltb b a) (λ c. c ≡ false) (λ u. absurd (omega (arith, leb→le a b t, ltb→lt b a u))) (λ _. refl))
    (λ n. is_true (ltb b a) (lt→ltb b a (nleb→lt a b n)))

-- b is lower than a where a is not at most b
not_less : (a b : ℤ) → lt_z b a ≡ not (le_z a b)
not_less (pos a) (pos b) = not_most a b
not_less (pos a) (negsuc b) = refl
not_less (negsuc a) (pos b) = refl
not_less (negsuc a) (negsuc b) = not_most b a

-- the test of a − b holds where a is at most b
below : (e : Env) (a b : Linear) → holds e (test_of (a ⊟ b)) ≡ le_z (value e a) (value e b)
unfolding test_of holds divisor
below e a b =
    let p = a ⊟ b in
    let q : value e p ≡ value e (quotient (divisor p) p) *ℤ pos (divisor p) =
    ap (value e) (sym (quotient_exact p)) ∙ value_scale e (pos (divisor p)) (quotient (divisor p) p) ∙ *ℤ_comm (pos (divisor p)) (value e (quotient (divisor p) p)) in
    sym (ap (λ z. le_z z (pos 0)) q ∙ scale_sign (value e (quotient (divisor p) p)) (divisor p) (least_positive _))
    ∙ ap (λ z. le_z z (pos 0)) (value_sub e a b) ∙ less_sub (value e a) (value e b)

-- ---- conditions

-- a function of two lists of commands that decides by a test
abbrev Decides : (List Command → List Command → List Command) → (Env → Bool) → Type 0
Decides c b = (Y N : List Command) (y z : Env → Leaf) → Gives Y y → Gives N z → Gives (c Y N) (λ e. if (b e) (y e) (z e))

not_if : (b : Bool) (y z : Leaf) → if b z y ≡ if (not b) y z
not_if true y z = refl
not_if false y z = refl

and_if : (a x : Bool) (y z : Leaf) → if a (if x y z) z ≡ if (if a x false) y z
and_if true x y z = refl
and_if false x y z = refl

or_if : (o a : Bool) (y z : Leaf) → if o y (if a y z) ≡ if (if o true a) y z
or_if true a y z = refl
or_if false a y z = refl

by_condition : (k : ℕ) (t : Test) → condition_test k ≡ t → (Y N : List Command) (y z : Env → Leaf) → Gives Y y → Gives N z
    → Gives (Y ++ (N ++ (push_condition k ∷ []))) (λ e. if (holds e t) (y e) (z e))
unfolding load_one_with
by_condition k t q Y N y z g h = chosen Y N y z (push_condition k) t (λ e. holds e t) (λ s. ap (λ (u : Test). load_choice_with choose u s.stack s.entries) q) (λ e. refl) g h

by_linear : (a b : Linear) (Y N : List Command) (y z : Env → Leaf) → Gives Y y → Gives N z
    → Gives (Y ++ (N ++ (push_test (a ⊟ b) ∷ []))) (λ e. if (le_z (value e a) (value e b)) (y e) (z e))
unfolding load_one_with
by_linear a b Y N y z g h = chosen Y N y z (push_test (a ⊟ b)) (test_of (a ⊟ b)) (λ e. le_z (value e a) (value e b)) (λ s. refl) (λ e. below e a b) g h

-- T and F exchanged
by_other : (a b : Linear) (Y N : List Command) (y z : Env → Leaf) → Gives Y y → Gives N z
    → Gives (N ++ (Y ++ (push_test (a ⊟ b) ∷ []))) (λ e. if (lt_z (value e b) (value e a)) (y e) (z e))
by_other a b Y N y z g h =
    gives_as (λ e. not_if (le_z (value e a) (value e b)) (y e) (z e) ∙ ap (λ (c : Bool). if c (y e) (z e)) (sym (not_less (value e a) (value e b))))
    (by_linear a b N Y z y h g)

compare_gives : (op : Op) (a b : Linear) → Decides (compare_commands op a b) (λ e. compared e op a b)
unfolding compare_commands compared
compare_gives lt a b Y N y z g h = by_other b a Y N y z g h
compare_gives le a b Y N y z g h = by_linear a b Y N y z g h
compare_gives gt a b Y N y z g h = by_other a b Y N y z g h
compare_gives ge a b Y N y z g h = by_linear b a Y N y z g h

nots_give : (n : Nots) (c : List Command → List Command → List Command) (b : Env → Bool) → Decides c b → Decides (nots_commands n c) (λ e. turned n (b e))
unfolding nots_commands turned
nots_give unsaid c b d = d
nots_give (bang n p) c b d = nots_give n (λ Y N. c N Y) (λ e. not (b e)) (λ Y N y z g h. gives_as (λ e. not_if (b e) (y e) (z e)) (d N Y z y h g))

mutual
  unfolding or_commands or_holds holds

  pub atom_gives : {n : ℕ} (x : Atom n) → Decides (atom_commands x) (λ e. atom_holds e x)
  atom_gives (now p i) = λ Y N y z g h. by_condition (condition_of i) (at-now (condition_of i)) (condition_now i) Y N y z g h
  atom_gives (later p i) = λ Y N y z g h. by_condition (later_of i) (at-later (condition_of i)) (condition_later i) Y N y z g h
  atom_gives (compare s p op t) = compare_gives op (linear_of _ s) (linear_of _ t)
  atom_gives (group p o q) = or_gives o

  pub not_gives : {n : ℕ} (x : Not n) → Decides (not_commands x) (λ e. not_holds e x)
  not_gives (negated n x) = nots_give n (atom_commands x) (λ e. atom_holds e x) (atom_gives x)

  pub and_gives : {n : ℕ} (a : And n) → Decides (and_commands a) (λ e. and_holds e a)
  and_gives (alone x) = not_gives x
  and_gives (both a p x) = λ Y N y z g h.
      gives_as (λ e. and_if (and_holds e a) (not_holds e x) (y e) (z e))
      (and_gives a (not_commands x Y N) N (λ e. if (not_holds e x) (y e) (z e)) z (not_gives x Y N y z g h) h)

  pub or_gives : {n : ℕ} (o : Or n) → Decides (or_commands o) (λ e. or_holds e o)
  or_gives (single a) = and_gives a
  or_gives (either o p a) = λ Y N y z g h.
      gives_as (λ e. or_if (or_holds e o) (and_holds e a) (y e) (z e))
      (or_gives o Y (and_commands a Y N) y (λ e. if (and_holds e a) (y e) (z e)) g (and_gives a Y N y z g h))

-- ---- results

pub result_gives : (r : Result) → Gives (result_command r ∷ []) (λ e. leaf_of r)
unfolding result_command leaf_of load_all load_one_with bind make result at
result_gives (worth s) = record { diagram = leaf (leaf_of (worth s)); makes = λ R K E. refl; means = λ e. refl }
result_gives (forbids p) = record { diagram = none_leaf; makes = λ R K E. refl; means = λ e. refl }
