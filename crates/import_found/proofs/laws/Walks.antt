-- How the three walks of the emitter pass over parts of a condition.
use Rattle.std.specs.Prelude.{◌≡◌, refl, Bool, true, false, not, List, ◌∷◌, ℕ, zero, suc, eqb}
use Rattle.std.proofs.Common.{◌∙◌}
use Rattle.whole.specs.Cases.{if}
use Rattle.import_grammar.specs.Grammar.{Spaces, none, one}
use Rattle.import_grammar.specs.Grammar.{Four, f1, f2, f3, f4, Op, lt, le, gt, ge}
use Rattle.import_grammar.specs.Grammar.{Sum, Nots, unsaid, bang, Atom, now, later, compare, group, Not}
use Rattle.import_grammar.specs.Grammar.{negated, And, alone, both, Or, single, either, Result, worth, forbids, case}
use Rattle.import_grammar.specs.Grammar.{four_byte, op_bytes, spaces_bytes}
use Rattle.import_grammar.specs.Grammar.{sum_bytes, nots_bytes, atom_bytes, not_bytes, and_bytes, or_bytes}
use Rattle.import_grammar.specs.Grammar.{result_bytes}
use Rattle.import_found.specs.Places.{is_cond, after_colon, go, next_case, xor, find}
use Rattle.import_found.proofs.laws.Passing.{SumByte, s9, s10, s13, s32, s42, s43, s45, s48, s49, s50, s51, s52, s53, s54, s55, s56, s57, s76, over_blanks, over_spaces, over_close, over_sum}

-- ---- what comes next

find_over : (v a : Bool) (ps : List Bool) (k : ℕ) → SumByte k → (d : ℕ) (f : List ℕ) → find (k ∷ f) d v a ps ≡ find f d v a ps
unfolding find
find_over v a ps _ s9 zero f = refl
find_over v a ps _ s9 (suc d) f = refl
find_over v a ps _ s10 zero f = refl
find_over v a ps _ s10 (suc d) f = refl
find_over v a ps _ s13 zero f = refl
find_over v a ps _ s13 (suc d) f = refl
find_over v a ps _ s32 zero f = refl
find_over v a ps _ s32 (suc d) f = refl
find_over v a ps _ s42 zero f = refl
find_over v a ps _ s42 (suc d) f = refl
find_over v a ps _ s43 zero f = refl
find_over v a ps _ s43 (suc d) f = refl
find_over v a ps _ s45 zero f = refl
find_over v a ps _ s45 (suc d) f = refl
find_over v a ps _ s48 zero f = refl
find_over v a ps _ s48 (suc d) f = refl
find_over v a ps _ s49 zero f = refl
find_over v a ps _ s49 (suc d) f = refl
find_over v a ps _ s50 zero f = refl
find_over v a ps _ s50 (suc d) f = refl
find_over v a ps _ s51 zero f = refl
find_over v a ps _ s51 (suc d) f = refl
find_over v a ps _ s52 zero f = refl
find_over v a ps _ s52 (suc d) f = refl
find_over v a ps _ s53 zero f = refl
find_over v a ps _ s53 (suc d) f = refl
find_over v a ps _ s54 zero f = refl
find_over v a ps _ s54 (suc d) f = refl
find_over v a ps _ s55 zero f = refl
find_over v a ps _ s55 (suc d) f = refl
find_over v a ps _ s56 zero f = refl
find_over v a ps _ s56 (suc d) f = refl
find_over v a ps _ s57 zero f = refl
find_over v a ps _ s57 (suc d) f = refl
find_over v a ps _ s76 zero f = refl
find_over v a ps _ s76 (suc d) f = refl

find_opens : (v a : Bool) (ps : List Bool) (d : ℕ) (f : List ℕ) → find (40 ∷ f) d v a ps ≡ find f (suc d) v a ps
unfolding find
find_opens v a ps d f = refl

find_closes : (v a : Bool) (ps : List Bool) (d : ℕ) (f : List ℕ) → find (41 ∷ f) (suc d) v a ps ≡ find f d v a ps
unfolding find
find_closes v a ps d f = refl

pub pass_spaces : (q : Spaces) (f : List ℕ) (d : ℕ) (v a : Bool) (ps : List Bool) → find (spaces_bytes q f) d v a ps ≡ find f d v a ps
pass_spaces q f d v a ps = over_spaces (λ d f. find f d v a ps) (find_over v a ps) (find_opens v a ps) (find_closes v a ps) q d f

pass_close : (q : Spaces) (f : List ℕ) (d : ℕ) (v a : Bool) (ps : List Bool) → find (spaces_bytes q (41 ∷ f)) (suc d) v a ps ≡ find f d v a ps
pass_close q f d v a ps = over_close (λ d f. find f d v a ps) (find_over v a ps) (find_opens v a ps) (find_closes v a ps) q d f

pass_sum : {n : ℕ} (s : Sum n) (f : List ℕ) (d : ℕ) (v a : Bool) (ps : List Bool) → find (sum_bytes s f) d v a ps ≡ find f d v a ps
pass_sum s f d v a ps = over_sum (λ d f. find f d v a ps) (find_over v a ps) (find_opens v a ps) (find_closes v a ps) s d f

data CondByte : ℕ → Type 0 where
  c33 : CondByte 33
  c60 : CondByte 60
  c61 : CondByte 61
  c62 : CondByte 62
  c67 : CondByte 67
  c78 : CondByte 78

pass_cond : {k : ℕ} → CondByte k → (f : List ℕ) (d : ℕ) (v a : Bool) (ps : List Bool) → find (k ∷ f) d v a ps ≡ find f d v a ps
unfolding find
pass_cond c33 f zero v a ps = refl
pass_cond c33 f (suc d) v a ps = refl
pass_cond c60 f zero v a ps = refl
pass_cond c60 f (suc d) v a ps = refl
pass_cond c61 f zero v a ps = refl
pass_cond c61 f (suc d) v a ps = refl
pass_cond c62 f zero v a ps = refl
pass_cond c62 f (suc d) v a ps = refl
pass_cond c67 f zero v a ps = refl
pass_cond c67 f (suc d) v a ps = refl
pass_cond c78 f zero v a ps = refl
pass_cond c78 f (suc d) v a ps = refl

pass_four : (i : Four) (f : List ℕ) (d : ℕ) (v a : Bool) (ps : List Bool) → find (four_byte i ∷ f) d v a ps ≡ find f d v a ps
pass_four f1 f d v a ps = find_over v a ps 49 s49 d f
pass_four f2 f d v a ps = find_over v a ps 50 s50 d f
pass_four f3 f d v a ps = find_over v a ps 51 s51 d f
pass_four f4 f d v a ps = find_over v a ps 52 s52 d f

pass_nots : (x : Nots) (f : List ℕ) (d : ℕ) (v a : Bool) (ps : List Bool) → find (nots_bytes x f) d v a ps ≡ find f d v a ps
unfolding nots_bytes
pass_nots unsaid f d v a ps = refl
pass_nots (bang x p) f d v a ps = pass_nots x (spaces_bytes p (33 ∷ f)) d v a ps ∙ pass_spaces p (33 ∷ f) d v a ps ∙ pass_cond c33 f d v a ps

pass_op : (op : Op) (f : List ℕ) (d : ℕ) (v a : Bool) (ps : List Bool) → find (op_bytes op f) d v a ps ≡ find f d v a ps
pass_op lt f d v a ps = pass_cond c60 f d v a ps
pass_op le f d v a ps = pass_cond c60 (61 ∷ f) d v a ps ∙ pass_cond c61 f d v a ps
pass_op gt f d v a ps = pass_cond c62 f d v a ps
pass_op ge f d v a ps = pass_cond c62 (61 ∷ f) d v a ps ∙ pass_cond c61 f d v a ps

mutual
  unfolding atom_bytes find

  pub pass_atom : {n : ℕ} (x : Atom n) (f : List ℕ) (d : ℕ) (v a : Bool) (ps : List Bool) → find (atom_bytes x f) d v a ps ≡ find f d v a ps
  pass_atom (now q i) f d v a ps = pass_spaces q (67 ∷ four_byte i ∷ f) d v a ps ∙ pass_cond c67 (four_byte i ∷ f) d v a ps ∙ pass_four i f d v a ps
  pass_atom (later q i) f d v a ps = pass_spaces q (78 ∷ four_byte i ∷ f) d v a ps ∙ pass_cond c78 (four_byte i ∷ f) d v a ps ∙ pass_four i f d v a ps
  pass_atom (compare s p op t) f d v a ps =
      pass_sum s (spaces_bytes p (op_bytes op (sum_bytes t f))) d v a ps ∙ pass_spaces p (op_bytes op (sum_bytes t f)) d v a ps ∙ pass_op op (sum_bytes t f) d v a ps ∙ pass_sum t f d v a ps
  pass_atom (group q o r) f d v a ps =
      pass_spaces q (40 ∷ or_bytes o (spaces_bytes r (41 ∷ f))) d v a ps ∙ deep_or o (spaces_bytes r (41 ∷ f)) d v a ps ∙ pass_close r f d v a ps

  pub pass_not : {n : ℕ} (x : Not n) (f : List ℕ) (d : ℕ) (v a : Bool) (ps : List Bool) → find (not_bytes x f) d v a ps ≡ find f d v a ps
  pass_not (negated y x) f d v a ps = pass_nots y (atom_bytes x f) d v a ps ∙ pass_atom x f d v a ps

  deep_and : {n : ℕ} (x : And n) (f : List ℕ) (d : ℕ) (v a : Bool) (ps : List Bool) → find (and_bytes x f) (suc d) v a ps ≡ find f (suc d) v a ps
  deep_and (alone x) f d v a ps = pass_not x f (suc d) v a ps
  deep_and (both x p y) f d v a ps = deep_and x (spaces_bytes p (38 ∷ not_bytes y f)) d v a ps ∙ pass_spaces p (38 ∷ not_bytes y f) (suc d) v a ps ∙ pass_not y f (suc d) v a ps

  deep_or : {n : ℕ} (x : Or n) (f : List ℕ) (d : ℕ) (v a : Bool) (ps : List Bool) → find (or_bytes x f) (suc d) v a ps ≡ find f (suc d) v a ps
  deep_or (single x) f d v a ps = deep_and x f d v a ps
  deep_or (either x p y) f d v a ps = deep_or x (spaces_bytes p (124 ∷ and_bytes y f)) d v a ps ∙ pass_spaces p (124 ∷ and_bytes y f) (suc d) v a ps ∙ deep_and y f d v a ps

-- the rest of a row of "&"
pub pass_and : {n : ℕ} (x : And n) (f : List ℕ) (ps : List Bool) → find (and_bytes x f) 0 true true ps ≡ find f 0 true true ps
unfolding atom_bytes find
pass_and (alone x) f ps = pass_not x f 0 true true ps
pass_and (both x p y) f ps = pass_and x (spaces_bytes p (38 ∷ not_bytes y f)) ps ∙ pass_spaces p (38 ∷ not_bytes y f) 0 true true ps ∙ pass_not y f 0 true true ps

-- ---- whether a bracket is a condition's

see_over : (k : ℕ) → SumByte k → (d : ℕ) (f : List ℕ) → is_cond (k ∷ f) d ≡ is_cond f d
unfolding is_cond
see_over _ s9 d f = refl
see_over _ s10 d f = refl
see_over _ s13 d f = refl
see_over _ s32 d f = refl
see_over _ s42 d f = refl
see_over _ s43 d f = refl
see_over _ s45 d f = refl
see_over _ s48 d f = refl
see_over _ s49 d f = refl
see_over _ s50 d f = refl
see_over _ s51 d f = refl
see_over _ s52 d f = refl
see_over _ s53 d f = refl
see_over _ s54 d f = refl
see_over _ s55 d f = refl
see_over _ s56 d f = refl
see_over _ s57 d f = refl
see_over _ s76 d f = refl

see_opens : (d : ℕ) (f : List ℕ) → is_cond (40 ∷ f) d ≡ is_cond f (suc d)
unfolding is_cond
see_opens d f = refl

see_closes : (d : ℕ) (f : List ℕ) → is_cond (41 ∷ f) (suc d) ≡ is_cond f d
unfolding is_cond
see_closes d f = refl

see_spaces : (q : Spaces) (f : List ℕ) (d : ℕ) → is_cond (spaces_bytes q f) d ≡ is_cond f d
see_spaces q f d = over_spaces (λ d f. is_cond f d) see_over see_opens see_closes q d f

see_sum : {n : ℕ} (s : Sum n) (f : List ℕ) (d : ℕ) → is_cond (sum_bytes s f) d ≡ is_cond f d
see_sum s f d = over_sum (λ d f. is_cond f d) see_over see_opens see_closes s d f

-- a bracket of a sum is none
pub not_cond : {n : ℕ} (s : Sum n) (q : Spaces) (f : List ℕ) → is_cond (sum_bytes s (spaces_bytes q (41 ∷ f))) 0 ≡ false
unfolding is_cond
not_cond s q f = see_sum s (spaces_bytes q (41 ∷ f)) 0 ∙ see_spaces q (41 ∷ f) 0

see_nots : (x : Nots) (f : List ℕ) (d : ℕ) → is_cond (nots_bytes x f) d ≡ is_cond f d
unfolding nots_bytes is_cond
see_nots unsaid f d = refl
see_nots (bang x p) f d = see_nots x (spaces_bytes p (33 ∷ f)) d ∙ see_spaces p (33 ∷ f) d

see_op : (op : Op) (f : List ℕ) (d : ℕ) → is_cond (op_bytes op f) d ≡ true
unfolding is_cond
see_op lt f d = refl
see_op le f d = refl
see_op gt f d = refl
see_op ge f d = refl

mutual
  unfolding atom_bytes is_cond

  cond_atom : {n : ℕ} (x : Atom n) (f : List ℕ) (d : ℕ) → is_cond (atom_bytes x f) d ≡ true
  cond_atom (now q i) f d = see_spaces q (67 ∷ four_byte i ∷ f) d
  cond_atom (later q i) f d = see_spaces q (78 ∷ four_byte i ∷ f) d
  cond_atom (compare s p op t) f d = see_sum s (spaces_bytes p (op_bytes op (sum_bytes t f))) d ∙ see_spaces p (op_bytes op (sum_bytes t f)) d ∙ see_op op (sum_bytes t f) d
  cond_atom (group q o r) f d = see_spaces q (40 ∷ or_bytes o (spaces_bytes r (41 ∷ f))) d ∙ cond_or o (spaces_bytes r (41 ∷ f)) (suc d)

  cond_not : {n : ℕ} (x : Not n) (f : List ℕ) (d : ℕ) → is_cond (not_bytes x f) d ≡ true
  cond_not (negated y x) f d = see_nots y (atom_bytes x f) d ∙ cond_atom x f d

  cond_and : {n : ℕ} (x : And n) (f : List ℕ) (d : ℕ) → is_cond (and_bytes x f) d ≡ true
  cond_and (alone x) f d = cond_not x f d
  cond_and (both x p y) f d = cond_and x (spaces_bytes p (38 ∷ not_bytes y f)) d

  -- a bracket of a condition is one
  pub cond_or : {n : ℕ} (x : Or n) (f : List ℕ) (d : ℕ) → is_cond (or_bytes x f) d ≡ true
  cond_or (single x) f d = cond_and x f d
  cond_or (either x p y) f d = cond_or x (spaces_bytes p (124 ∷ and_bytes y f)) d

-- ---- the next case

skip_over : (k : ℕ) → SumByte k → (d : ℕ) (f : List ℕ) → next_case (k ∷ f) ≡ next_case f
unfolding next_case
skip_over _ s9 d f = refl
skip_over _ s10 d f = refl
skip_over _ s13 d f = refl
skip_over _ s32 d f = refl
skip_over _ s42 d f = refl
skip_over _ s43 d f = refl
skip_over _ s45 d f = refl
skip_over _ s48 d f = refl
skip_over _ s49 d f = refl
skip_over _ s50 d f = refl
skip_over _ s51 d f = refl
skip_over _ s52 d f = refl
skip_over _ s53 d f = refl
skip_over _ s54 d f = refl
skip_over _ s55 d f = refl
skip_over _ s56 d f = refl
skip_over _ s57 d f = refl
skip_over _ s76 d f = refl

skip_opens : (d : ℕ) (f : List ℕ) → next_case (40 ∷ f) ≡ next_case f
unfolding next_case
skip_opens d f = refl

skip_closes : (d : ℕ) (f : List ℕ) → next_case (41 ∷ f) ≡ next_case f
unfolding next_case
skip_closes d f = refl

pub skip_spaces : (q : Spaces) (f : List ℕ) → next_case (spaces_bytes q f) ≡ next_case f
skip_spaces q f = over_spaces (λ d f. next_case f) skip_over skip_opens skip_closes q 0 f

pub skip_result : (r : Result) (f : List ℕ) → next_case (result_bytes r f) ≡ next_case f
unfolding result_bytes next_case
skip_result (worth s) f = over_sum (λ d f. next_case f) skip_over skip_opens skip_closes s 0 f
skip_result (forbids p) f = skip_spaces p (102 ∷ 111 ∷ 114 ∷ 98 ∷ 105 ∷ 100 ∷ 100 ∷ 101 ∷ 110 ∷ f)

pub colon_spaces : (q : Spaces) (f : List ℕ) → after_colon (spaces_bytes q f) ≡ after_colon f
unfolding after_colon
colon_spaces = over_blanks after_colon (λ f. refl) (λ f. refl) (λ f. refl) (λ f. refl)
