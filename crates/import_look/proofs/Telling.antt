-- What is told of an atom or of a result, from a reading of it.
use mathlib.Core.Path.{◌≡◌, refl, sym, ap, ◌∙◌, subst}
use mathlib.Core.Bool.{Bool, true, false, not}
use mathlib.Core.List.{List, [], ◌∷◌, ◌++◌}
use Prim.Native.Nat.{ℕ, ◌+◌, ◌-◌, ◌≤◌, ◌<◌}
use native.Mathlib.Omega.{arith}
use borrow.Author.Tests.{lt-ltb, le-ltb, le-leb, lt-leb, eq-eqb, ne_eqb, eqb-false}
use lib.Dec.{eqb, ltb, leb}
use lib.IntN.{ℤ, pos}
use lib.ListN.{length, drop, length-append}
use lib.Seq.{take_at, get_or_at}
use Rattle.whole.specs.Cases.{if}
use Rattle.whole.specs.Linears.{sub_list, coefficients}
use Rattle.whole.specs.LinearsLaws.{sub_length}
use Rattle.theory.specs.Diagram.{Linear, ◌⊟◌}
use Rattle.theory.specs.Plain.{in_32_bits}
use Rattle.theory.specs.Command.{push_leaf, push_condition, push_test, byte_at}
use Rattle.import_grammar.specs.Grammar.{Spaces, Four, f1, f2, f3, f4, Op, lt, le, gt, ge, Sum, constant, varying, Atom, now, later, compare, group, Result}
use Rattle.import_grammar.specs.Grammar.{worth, forbids, four_byte, spaces_bytes, op_bytes, sum_bytes, atom_bytes, result_bytes, deepest}
use Rattle.import_numbers.specs.Numbers.{linear_of as sum-linear, difference, nine, sum_numbers, atom_numbers, result_numbers, all_within}
use Rattle.import_model.specs.Commands.{condition_of, later_of, result_command}
use Rattle.model_command.specs.CursorReadings.{linear_of}
use Rattle.import_linears.specs.Nine.{constant9}
use Rattle.import_values.specs.Linears.{nine_sub}
use Rattle.import_values.specs.Within.{Eight, same_long, ksum_within, vsum_within}
use Rattle.import_values.specs.Sums.{sum_eight}
use Rattle.import_sum_at.specs.declared.Worked.{Worked}
use Rattle.import_sum_at.specs.SumAt.{BehindSum, nothing, other, SumWorks}
use Rattle.import_found.specs.Places.{AfterAtom, and_behind, or_behind, close_behind, colon_behind, AfterResult, ends_text, ends_case, reward_next, chance_next, name_next, end_next, Decided}
use Rattle.import_found.proofs.laws.Found.{within_apart}
use Rattle.import_list.specs.Pending.{op_first, first_holds, own}
use Rattle.import_look.specs.declared.Told.{Told}
use Rattle.import_look.specs.declared.Operator.{Operator}
use Rattle.import_look.specs.Looks.{unspaced, Skips, operator_of, tested_of, condition_told, command_told, Tells, Looks, Compares, LeafLooks}
use Rattle.import_look.proofs.Laws.{unspaced_spaces, Starts, sum_starts}
use Rattle.import_look.proofs.Places.{if_yes, if_no, Head, head}

-- ---- the code's answers are the definitions'

abbrev conditioned : ℕ → Told
conditioned k = record { kind = 0x11; first = true; condition = k; linear = constant9 (pos 0) }

pub cond_yes : (w : List ℕ) (at base b : ℕ) → b ≡ byte_at w at → 48 ≤ b → conditioned (b - 48 + base) ≡ condition_told w at base
unfolding condition_told
cond_yes w at base b e h = ap conditioned (ap (λ (k : ℕ). k - 48 + base) e ∙ sym (if_yes (leb 48 (byte_at w at)) (byte_at w at - 48 + base) 0 (le-leb 48 (byte_at w at) (subst (λ (k : ℕ). 48 ≤ k) e h))))

pub cond_no : (w : List ℕ) (at base b : ℕ) → b ≡ byte_at w at → b < 48 → conditioned 0 ≡ condition_told w at base
unfolding condition_told
cond_no w at base b e h = ap conditioned (sym (if_no (leb 48 (byte_at w at)) (byte_at w at - 48 + base) 0 (lt-leb 48 (byte_at w at) (subst (λ (k : ℕ). k < 48) e h))))

pub op_equals : (w : List ℕ) (i k e : ℕ) → k ≡ byte_at w i → e ≡ byte_at w (i + 1) → i + 1 < length w → e ≡ 61 → record { first = true; turned = not (eqb k 60); next = i + 2 } ≡ operator_of w i
unfolding operator_of
op_equals w i k e p q h z =
    ap (λ (x : ℕ). record { first = true; turned = not (eqb x 60); next = i + 2 }) p
    ∙ sym (if_yes (ltb (i + 1) (length w)) _ _ (lt-ltb (i + 1) (length w) h) ∙ if_yes (eqb (byte_at w (i + 1)) 61) _ _ (eq-eqb (byte_at w (i + 1)) 61 (sym q ∙ z)))

pub op_bare : (w : List ℕ) (i k e : ℕ) → k ≡ byte_at w i → e ≡ byte_at w (i + 1) → i + 1 < length w → (e ≡ 61 → ⊥) → record { first = false; turned = eqb k 60; next = i + 1 } ≡ operator_of w i
unfolding operator_of
op_bare w i k e p q h z =
    ap (λ (x : ℕ). record { first = false; turned = eqb x 60; next = i + 1 }) p
    ∙ sym (if_yes (ltb (i + 1) (length w)) _ _ (lt-ltb (i + 1) (length w) h) ∙ if_no (eqb (byte_at w (i + 1)) 61) _ _ (ne_eqb (byte_at w (i + 1)) 61 (λ y. z (q ∙ y))))

pub op_none : (w : List ℕ) (i : ℕ) → length w ≤ i + 1 → record { first = false; turned = false; next = i } ≡ operator_of w i
unfolding operator_of
op_none w i h = sym (if_no (ltb (i + 1) (length w)) _ _ (le-ltb (i + 1) (length w) h))

abbrev tested : Bool → List ℤ → Told
tested f l = record { kind = 0x12; first = f; condition = 0; linear = l }

pub test_both : (a b d : List ℤ) (f : Bool) {p q : Bool} → p ≡ all_within a → p ≡ true → q ≡ all_within b → q ≡ true → d ≡ sub_list a b → tested f d ≡ tested_of a b f
unfolding tested_of
test_both a b d f e t g u z = ap (tested f) z ∙ sym (if_yes (all_within a) _ _ (sym e ∙ t) ∙ if_yes (all_within b) _ _ (sym g ∙ u))

pub test_right : (a b : List ℤ) (f : Bool) {p q : Bool} → p ≡ all_within a → p ≡ true → q ≡ all_within b → q ≡ false → tested f a ≡ tested_of a b f
unfolding tested_of
test_right a b f e t g u = sym (if_yes (all_within a) _ _ (sym e ∙ t) ∙ if_no (all_within b) _ _ (sym g ∙ u))

pub test_left : (a b : List ℤ) (f : Bool) {p : Bool} → p ≡ all_within a → p ≡ false → tested f a ≡ tested_of a b f
unfolding tested_of
test_left a b f e t = sym (if_no (all_within a) _ _ (sym e ∙ t))

-- ---- a comparison

abbrev op_turned : Op → Bool
op_turned lt = true
op_turned le = false
op_turned gt = false
op_turned ge = true

abbrev operated : Op → ℕ → Operator
operated lt i = record { first = false; turned = true; next = i + 1 }
operated le i = record { first = true; turned = false; next = i + 2 }
operated gt i = record { first = false; turned = false; next = i + 1 }
operated ge i = record { first = true; turned = true; next = i + 2 }

-- what begins a sum is no "="
not_equals : (k : ℕ) (f : List ℕ) → Starts (k ∷ f) → k ≡ 61 → ⊥
unfolding unspaced
not_equals k f s e =
    let z : 61 ∷ f ≡ s.first ∷ s.rest = ap (λ (j : ℕ). unspaced (j ∷ f)) (sym e) ∙ s.is in
    let y : 61 ≡ s.first = cc in
    eqb-false s.first 61 s.no_equals (sym y)

pub record OpTold (w : List ℕ) (i : ℕ) (op : Op) (g : List ℕ) : Type 0 where
  pub is : operator_of w i ≡ operated op i
  pub rest : drop (operated op i).next w ≡ g

none_starts : Starts [] → ⊥
unfolding unspaced
none_starts s = let z : [] ≡ s.first ∷ s.rest = s.is in let y : ◌≡◌ {A = ℕ} 0 1 = cc in omega arith

next_two : (i : ℕ) → i + 1 + 1 ≡ i + 2
next_two i = omega arith

op_one : (w : List ℕ) (i k : ℕ) (g : List ℕ) → Starts g → drop i w ≡ k ∷ g → (record { first = false; turned = eqb k 60; next = i + 1 } ≡ operator_of w i) × (drop (i + 1) w ≡ g)
op_one w i k [] s e = absurd (none_starts s)
op_one w i k (j ∷ g) s e =
    let a = head w i k (j ∷ g) e in
    let b = head w (i + 1) j g a.rest in
    (op_bare w i k j (sym a.byte) (sym b.byte) b.inside (not_equals j g s), a.rest)

op_two : (w : List ℕ) (i k : ℕ) (g : List ℕ) → drop i w ≡ k ∷ 61 ∷ g → (record { first = true; turned = not (eqb k 60); next = i + 2 } ≡ operator_of w i) × (drop (i + 2) w ≡ g)
op_two w i k g e =
    let a = head w i k (61 ∷ g) e in
    let b = head w (i + 1) 61 g a.rest in
    (op_equals w i k 61 (sym a.byte) (sym b.byte) b.inside refl, ap (λ (j : ℕ). drop j w) (sym (next_two i)) ∙ b.rest)

pub op_told : (w : List ℕ) (i : ℕ) (op : Op) (g : List ℕ) → Starts g → drop i w ≡ op_bytes op g → OpTold w i op g
op_told w i lt g s e = let d = op_one w i 60 g s e in record { is = sym d.0; rest = d.1 }
op_told w i le g s e = let d = op_two w i 60 g e in record { is = sym d.0; rest = d.1 }
op_told w i gt g s e = let d = op_one w i 62 g s e in record { is = sym d.0; rest = d.1 }
op_told w i ge g s e = let d = op_two w i 62 g e in record { is = sym d.0; rest = d.1 }

op_behind : (op : Op) (g : List ℕ) → BehindSum (op_bytes op g)
op_behind lt g = other refl refl refl
op_behind le g = other refl refl refl
op_behind gt g = other refl refl refl
op_behind ge g = other refl refl refl

atom_behind : {k : ℕ} → AfterAtom k → (f : List ℕ) → BehindSum (k ∷ f)
atom_behind and_behind f = other refl refl refl
atom_behind or_behind f = other refl refl refl
atom_behind close_behind f = other refl refl refl
atom_behind colon_behind f = other refl refl refl

sum_within : {n : ℕ} (s : Sum n) → all_within (sum_numbers n s) ≡ true → all_within (nine (sum-linear n s)) ≡ true
unfolding sum-linear sum_numbers
sum_within (constant s) e = ksum_within s e
sum_within (varying s) e = vsum_within s e

test_is : (x y : Linear) (f : Bool) → Eight x → Eight y → all_within (nine x) ≡ true → all_within (nine y) ≡ true → tested_of (nine x) (nine y) f ≡ tested f (nine (x ⊟ y))
test_is x y f p q a b = sym (test_both (nine x) (nine y) (nine (x ⊟ y)) f refl a refl b (sym (nine_sub x y (same_long x y p q))))

-- nine numbers are those of their linear
nine_back : (p : Linear) → Eight p → linear_of (nine p) ≡ p
nine_back p h = λ i. record {
  coeffs = take_at p.coeffs (p.const ∷ []) coefficients h.long i;
  const = get_or_at p.coeffs p.const [] (pos 0) coefficients h.long i;
}

eight_less : (x y : Linear) → Eight x → Eight y → Eight (x ⊟ y)
eight_less x y p q =
    let e = ap (λ (l : List ℤ). length l) (nine_sub x y (same_long x y p q)) in
    let a = sub_length (nine x) (nine y) (length-append x.coeffs (x.const ∷ []) ∙ (ap (λ (k : ℕ). k + 1) (same_long x y p q) ∙ sym (length-append y.coeffs (y.const ∷ [])))) in
    let b = length-append x.coeffs (x.const ∷ []) in
    let c = length-append (x ⊟ y).coeffs ((x ⊟ y).const ∷ []) in
    let d = p.long in
    record { long = omega (arith, e, a, b, c, d) }

tells_test : {n : ℕ} (s : Sum n) (p : Spaces) (op : Op) (t : Sum n) (r : Told) → Eight (difference op (sum-linear n s) (sum-linear n t)) → all_within (nine (difference op (sum-linear n s) (sum-linear n t))) ≡ true
    → r ≡ tested (op_first op) (nine (difference op (sum-linear n s) (sum-linear n t))) → Tells (compare s p op t) r
unfolding first_holds own command_told
tells_test s p op t r h j e =
    record {
      first_is = ap (λ (x : Told). x.first) e;
      own_is = ap command_told e ∙ ap push_test (nine_back _ h);
      fits = ap (λ (x : Told). all_within x.linear) e ∙ j;
    }

-- the answer, by which side is taken away
abbrev pub answer : Operator → List ℤ → List ℤ → Told
answer o a b = if o.turned (tested_of b a o.first) (tested_of a b o.first)

difference_is : (op : Op) (i : ℕ) (x y : Linear) → Eight x → Eight y → all_within (nine x) ≡ true → all_within (nine y) ≡ true → answer (operated op i) (nine x) (nine y) ≡ tested (op_first op) (nine (difference op x y))
difference_is lt i x y p q a b = test_is y x false q p b a
difference_is le i x y p q a b = test_is x y true p q a b
difference_is gt i x y p q a b = test_is x y false p q a b
difference_is ge i x y p q a b = test_is y x true q p b a

eight_difference : (op : Op) (x y : Linear) → Eight x → Eight y → Eight (difference op x y)
eight_difference lt x y p q = eight_less y x q p
eight_difference le x y p q = eight_less x y p q
eight_difference gt x y p q = eight_less x y p q
eight_difference ge x y p q = eight_less y x q p

pub compared : (w : List ℕ) (at : ℕ) (a b : Worked) (o : Operator) (r : Told) → SumWorks w at a → o ≡ operator_of w a.next → SumWorks w o.next b → r ≡ answer o a.linear b.linear → Compares w at r
unfolding atom_numbers
compared w at a b o r A e B z n s p op t q k f h c d j =
    let g = sum_bytes t (spaces_bytes q (k ∷ f)) in
    let x = sum-linear n s in
    let y = sum-linear n t in
    let u = within_apart (sum_numbers n s) (sum_numbers n t ++ nine (difference op x y)) j in
    let v = within_apart (sum_numbers n t) (nine (difference op x y)) u.1 in
    let left = A.found n s h p (op_bytes op g) (op_behind op g) d u.0 in
    let m = op_told w a.next op g (sum_starts t (spaces_bytes q (k ∷ f))) left.place in
    let same : o ≡ operated op a.next = e ∙ m.is in
    let right = B.found n t h q (k ∷ f) (atom_behind c f) (ap (λ (i : Operator). drop i.next w) same ∙ m.rest) v.0 in
    tells_test s p op t r (eight_difference op x y (sum_eight s) (sum_eight t)) v.1
    (z ∙ ((λ i. answer (same i) (left.linear_is i) (right.linear_is i)) ∙ difference_is op a.next x y (sum_eight s) (sum_eight t) (sum_within s u.0) (sum_within t v.0)))

-- ---- an atom

first_byte : (w : List ℕ) (at i : ℕ) → Skips w at i → (u : List ℕ) → drop at w ≡ u → (k : ℕ) (f : List ℕ) → unspaced u ≡ k ∷ f → Head w i k f
first_byte w at i S u e k f g = head w i k f (S.rest ∙ (ap unspaced e ∙ g))

starts_byte : (w : List ℕ) (at i : ℕ) → Skips w at i → (u : List ℕ) → drop at w ≡ u → (s : Starts u) → Head w i s.first s.rest
starts_byte w at i S u e s = first_byte w at i S u e s.first s.rest s.is

clash : (a b : ℕ) → eqb a b ≡ false → a ≡ b → ⊥
clash a b e f = eqb-false a b e f

now_is : (j : Four) → conditioned (if (leb 48 (four_byte j)) (four_byte j - 48 + 0) 0) ≡ conditioned (condition_of j)
unfolding condition_of
now_is f1 = refl
now_is f2 = refl
now_is f3 = refl
now_is f4 = refl

later_is : (j : Four) → conditioned (if (leb 48 (four_byte j)) (four_byte j - 48 + 4) 0) ≡ conditioned (later_of j)
unfolding later_of condition_of
later_is f1 = refl
later_is f2 = refl
later_is f3 = refl
later_is f4 = refl

zeros_fit : all_within (constant9 (pos 0)) ≡ true
unfolding all_within in_32_bits
zeros_fit = refl

condition_is : (w : List ℕ) (at base k : ℕ) → byte_at w at ≡ k → condition_told w at base ≡ conditioned (if (leb 48 k) (k - 48 + base) 0)
unfolding condition_told
condition_is w at base k e = ap (λ (b : ℕ). conditioned (if (leb 48 b) (b - 48 + base) 0)) e

tells_condition : {n : ℕ} (x : Atom n) (k : ℕ) (r : Told) → r ≡ conditioned k → first_holds x ≡ true → own x ≡ push_condition k → Tells x r
unfolding command_told
tells_condition x k r e f o = record { first_is = ap (λ (y : Told). y.first) e ∙ sym f; own_is = ap command_told e ∙ sym o; fits = ap (λ (y : Told). all_within y.linear) e ∙ zeros_fit }

module _ (w : List ℕ) (at i : ℕ) (S : Skips w at i) where
  now_told : {n : ℕ} (x : Atom n) → Decided x → (g : List ℕ) → drop at w ≡ atom_bytes x g → byte_at w i ≡ 67 → Tells x (condition_told w (i + 1) 0)
  unfolding atom_bytes first_holds own unspaced
  now_told (now p j) d g e h =
      let a = first_byte w at i S _ e 67 (four_byte j ∷ g) (unspaced_spaces p (67 ∷ four_byte j ∷ g)) in
      let b = head w (i + 1) (four_byte j) g a.rest in
      tells_condition (now p j) (condition_of j) _ (condition_is w (i + 1) 0 (four_byte j) b.byte ∙ now_is j) refl refl
  now_told (later p j) d g e h =
      let a = first_byte w at i S _ e 78 (four_byte j ∷ g) (unspaced_spaces p (78 ∷ four_byte j ∷ g)) in
      absurd (let z = sym a.byte ∙ h in omega (arith, z))
  now_told (compare s p op t) d g e h =
      let s0 = sum_starts s (spaces_bytes p (op_bytes op (sum_bytes t g))) in
      let a = starts_byte w at i S _ e s0 in
      absurd (clash s0.first 67 s0.no_now (sym a.byte ∙ h))
  now_told (group p o q) d g e h = absurd d

  later_told : {n : ℕ} (x : Atom n) → Decided x → (g : List ℕ) → drop at w ≡ atom_bytes x g → byte_at w i ≡ 78 → Tells x (condition_told w (i + 1) 4)
  unfolding atom_bytes first_holds own unspaced
  later_told (now p j) d g e h =
      let a = first_byte w at i S _ e 67 (four_byte j ∷ g) (unspaced_spaces p (67 ∷ four_byte j ∷ g)) in
      absurd (let z = sym a.byte ∙ h in omega (arith, z))
  later_told (later p j) d g e h =
      let a = first_byte w at i S _ e 78 (four_byte j ∷ g) (unspaced_spaces p (78 ∷ four_byte j ∷ g)) in
      let b = head w (i + 1) (four_byte j) g a.rest in
      tells_condition (later p j) (later_of j) _ (condition_is w (i + 1) 4 (four_byte j) b.byte ∙ later_is j) refl refl
  later_told (compare s p op t) d g e h =
      let s0 = sum_starts s (spaces_bytes p (op_bytes op (sum_bytes t g))) in
      let a = starts_byte w at i S _ e s0 in
      absurd (clash s0.first 78 s0.no_later (sym a.byte ∙ h))
  later_told (group p o q) d g e h = absurd d

  other_told : {r : Told} {n : ℕ} (x : Atom n) → Decided x → (q : Spaces) (k : ℕ) (f : List ℕ) → n ≤ deepest → AfterAtom k → drop at w ≡ atom_bytes x (spaces_bytes q (k ∷ f)) → all_within (atom_numbers x) ≡ true
      → (byte_at w i ≡ 67 → ⊥) → (byte_at w i ≡ 78 → ⊥) → Compares w at r → Tells x r
  unfolding atom_bytes unspaced
  other_told (now p j) d q k f h c e m y z C =
      let a = first_byte w at i S _ e 67 (four_byte j ∷ spaces_bytes q (k ∷ f)) (unspaced_spaces p (67 ∷ four_byte j ∷ spaces_bytes q (k ∷ f))) in
      absurd (y a.byte)
  other_told (later p j) d q k f h c e m y z C =
      let a = first_byte w at i S _ e 78 (four_byte j ∷ spaces_bytes q (k ∷ f)) (unspaced_spaces p (78 ∷ four_byte j ∷ spaces_bytes q (k ∷ f))) in
      absurd (z a.byte)
  other_told {n = n} (compare s p op t) d q k f h c e m y z C = C n s p op t q k f h c e m
  other_told (group p o r) d q k f h c e m y z C = absurd d

  pub looks_now : {b : ℕ} {r : Told} → b ≡ byte_at w i → b ≡ 67 → r ≡ condition_told w (i + 1) 0 → Looks w at r
  looks_now e h g R = subst (Tells R.atom) (sym g) (now_told R.atom R.decided (spaces_bytes R.spaces (R.next ∷ R.rest)) R.bytes (sym e ∙ h))

  pub looks_later : {b : ℕ} {r : Told} → b ≡ byte_at w i → b ≡ 78 → r ≡ condition_told w (i + 1) 4 → Looks w at r
  looks_later e h g R = subst (Tells R.atom) (sym g) (later_told R.atom R.decided (spaces_bytes R.spaces (R.next ∷ R.rest)) R.bytes (sym e ∙ h))

  pub looks_other : {b : ℕ} {r : Told} → b ≡ byte_at w i → (b ≡ 67 → ⊥) → (b ≡ 78 → ⊥) → Compares w at r → Looks w at r
  looks_other e h g C R =
      other_told R.atom R.decided R.spaces R.next R.rest R.inside R.follows R.bytes R.within (λ z. h (e ∙ z)) (λ z. g (e ∙ z)) C

-- ---- a result

result_behind : {f : List ℕ} → AfterResult f → BehindSum f
result_behind ends_text = nothing
result_behind ends_case = other refl refl refl
result_behind reward_next = other refl refl refl
result_behind chance_next = other refl refl refl
result_behind name_next = other refl refl refl
result_behind end_next = other refl refl refl

abbrev pub forbidden_told : Told
forbidden_told = record { kind = 0x13; first = true; condition = 0; linear = constant9 (pos 0) }

abbrev pub leaf_told : List ℤ → Told
leaf_told l = record { kind = 0x10; first = true; condition = 0; linear = l }

abbrev Leafed : Result → Told → Type 0
Leafed r t = (command_told t ≡ result_command r) × (all_within t.linear ≡ true)

module _ (w : List ℕ) (at i : ℕ) (S : Skips w at i) where
  forbidden_is : (x : Result) (g : List ℕ) → drop at w ≡ result_bytes x g → byte_at w i ≡ 102 → Leafed x forbidden_told
  unfolding result_bytes result_command command_told
  forbidden_is (worth s) g e h =
      let s0 = sum_starts s g in
      let a = starts_byte w at i S _ e s0 in
      absurd (clash s0.first 102 s0.no_forbidden (sym a.byte ∙ h))
  forbidden_is (forbids p) g e h = (refl, zeros_fit)

  worth_is : (x : Result) (q : Spaces) (g : List ℕ) → drop at w ≡ result_bytes x (spaces_bytes q g) → AfterResult g → all_within (result_numbers x) ≡ true →
      (byte_at w i ≡ 102 → ⊥) → (a : Worked) → SumWorks w at a → Leafed x (leaf_told a.linear)
  unfolding result_bytes result_command command_told unspaced result_numbers
  worth_is (worth s) q g e c j h a A =
      let f = A.found deepest s (omega arith) q g (result_behind c) e j in
      (ap (λ (l : List ℤ). push_leaf (linear_of l)) f.linear_is ∙ ap push_leaf (nine_back _ (sum_eight s)), ap all_within f.linear_is ∙ sum_within s j)
  worth_is (forbids p) q g e c j h a A =
      let b = first_byte w at i S _ e 102 _ (unspaced_spaces p (102 ∷ 111 ∷ 114 ∷ 98 ∷ 105 ∷ 100 ∷ 100 ∷ 101 ∷ 110 ∷ spaces_bytes q g)) in
      absurd (h b.byte)

  pub leaf_forbidden : {b : ℕ} → b ≡ byte_at w i → b ≡ 102 → LeafLooks w at forbidden_told
  leaf_forbidden e h R = let d = forbidden_is R.result (spaces_bytes R.spaces R.rest) R.bytes (sym e ∙ h) in record { own_is = d.0; fits = d.1 }

  pub leaf_worth : {b : ℕ} → b ≡ byte_at w i → (b ≡ 102 → ⊥) → (a : Worked) → SumWorks w at a → LeafLooks w at (leaf_told a.linear)
  leaf_worth e h a A R = let d = worth_is R.result R.spaces R.rest R.bytes R.follows R.within (λ z. h (e ∙ z)) a A in record { own_is = d.0; fits = d.1 }
