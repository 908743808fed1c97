-- The operands of a text's commands fit their bytes, where no number of it is beyond 32 bits.
use Rattle.std.specs.Prelude.{◌≡◌, refl, not, List, [], ◌∷◌, ◌++◌, ℕ, zero, suc, ◌<◌, T, ltb, ℤ, pos, negsuc, length}
use Rattle.std.proofs.Common.{ap, arith, nltb→le}
use Rattle.whole.specs.Cases.{if, by_test, both, and_in}
use Rattle.theory.specs.Plain.{in_32_bits}
use Rattle.theory.specs.Diagram.{Linear, no_coeffs, add_list, scale_list, ◌⊞◌, ◌⊟◌, ◌⊠◌}
use Rattle.theory.specs.Command.{Command}
use Rattle.import_grammar.specs.Grammar.{Digits, Index, i1, i2, i3, i4, i5, i6, i7, i8, Op, lt, le, gt, ge, Sign, adds, takes, ConstFactor, number, kbracket}
use Rattle.import_grammar.specs.Grammar.{ConstTerm, kfactor, ktimes, ConstSum, kterm, kneg, kplus, VaryFactor, level, vbracket, VaryTerm, vfactor, vscaled}
use Rattle.import_grammar.specs.Grammar.{vby, VarySum, vterm, vneg, plus_kv, plus_vk, plus_vv, Sum, constant, varying, Nots, unsaid, bang, Atom, now, later}
use Rattle.import_grammar.specs.Grammar.{compare, group, Not, negated, And, alone, both as both_of, Or, single, either, Result, worth, forbids, Items, head}
use Rattle.import_grammar.specs.Grammar.{closed, named, Opening, reward, chance, next, end, Before, start, case}
use Rattle.import_numbers.specs.Numbers.{digits_value, constant_linear, level_linear, joined, nine, kfactor_linear, kterm_linear, ksum_linear}
use Rattle.import_numbers.specs.Numbers.{vfactor_linear, vterm_linear, vsum_linear, linear_of, difference, kfactor_numbers, kterm_numbers, ksum_numbers}
use Rattle.import_numbers.specs.Numbers.{vfactor_numbers, vterm_numbers, vsum_numbers, sum_numbers, atom_numbers, not_numbers, and_numbers, or_numbers}
use Rattle.import_numbers.specs.Numbers.{result_numbers, items_numbers, opening_numbers, before_numbers, all_within, beyond}
use Rattle.import_model.specs.Commands.{at_most, action_most, action_of, setting_of, compare_commands, nots_commands, atom_commands, not_commands}
use Rattle.import_model.specs.Commands.{and_commands, or_commands, result_command, letters, filled, items_commands, opening_commands, before_commands}
use Rattle.import_model.proofs.laws.Decode.{EightNumbers, eight, LinearFits, fits_reward, fits_chance, fits_level, fits_end, OperandsFit, AllFit, none_left, fits_and}

-- ---- eight coefficients

eight_add : (a b : List ℤ) → EightNumbers a → EightNumbers b → EightNumbers (add_list a b)
unfolding add_list
eight_add _ _ (eight a b c d e f g h) (eight p q r s t u v w) = eight _ _ _ _ _ _ _ _

eight_scale : (k : ℤ) (a : List ℤ) → EightNumbers a → EightNumbers (scale_list k a)
unfolding scale_list
eight_scale k _ (eight a b c d e f g h) = eight _ _ _ _ _ _ _ _

abbrev Wide : Linear → Type 0
Wide p = EightNumbers p.coeffs

wide_constant : (z : ℤ) → Wide (constant_linear z)
unfolding no_coeffs
wide_constant z = eight _ _ _ _ _ _ _ _

wide_level : (i : Index) → Wide (level_linear i)
wide_level i1 = eight _ _ _ _ _ _ _ _
wide_level i2 = eight _ _ _ _ _ _ _ _
wide_level i3 = eight _ _ _ _ _ _ _ _
wide_level i4 = eight _ _ _ _ _ _ _ _
wide_level i5 = eight _ _ _ _ _ _ _ _
wide_level i6 = eight _ _ _ _ _ _ _ _
wide_level i7 = eight _ _ _ _ _ _ _ _
wide_level i8 = eight _ _ _ _ _ _ _ _

wide_times : (k : ℤ) (p : Linear) → Wide p → Wide (k ⊠ p)
unfolding ◌⊠◌
wide_times k p w = eight_scale k p.coeffs w

wide_less : (p q : Linear) → Wide p → Wide q → Wide (p ⊟ q)
unfolding ◌⊟◌ ◌⊞◌
wide_less p q v w = eight_add p.coeffs (negsuc 0 ⊠ q).coeffs v (wide_times (negsuc 0) q w)

wide_joined : (g : Sign) (p q : Linear) → Wide p → Wide q → Wide (joined g p q)
unfolding ◌⊞◌
wide_joined adds p q v w = eight_add p.coeffs q.coeffs v w
wide_joined takes p q v w = wide_less p q v w

mutual
  unfolding kfactor_linear

  kfactor_wide : {n : ℕ} (x : ConstFactor n) → Wide (kfactor_linear x)
  kfactor_wide (number p ds) = wide_constant (pos (digits_value ds))
  kfactor_wide (kbracket p s q) = ksum_wide s

  kterm_wide : {n : ℕ} (t : ConstTerm n) → Wide (kterm_linear t)
  kterm_wide (kfactor x) = kfactor_wide x
  kterm_wide (ktimes t p x) = wide_times (kterm_linear t).const (kfactor_linear x) (kfactor_wide x)

  ksum_wide : {n : ℕ} (s : ConstSum n) → Wide (ksum_linear s)
  ksum_wide (kterm t) = kterm_wide t
  ksum_wide (kneg p t) = wide_times (negsuc 0) (kterm_linear t) (kterm_wide t)
  ksum_wide (kplus s p g t) = wide_joined g (ksum_linear s) (kterm_linear t) (ksum_wide s) (kterm_wide t)

mutual
  unfolding vfactor_linear

  vfactor_wide : {n : ℕ} (x : VaryFactor n) → Wide (vfactor_linear x)
  vfactor_wide (level p i) = wide_level i
  vfactor_wide (vbracket p s q) = vsum_wide s

  vterm_wide : {n : ℕ} (t : VaryTerm n) → Wide (vterm_linear t)
  vterm_wide (vfactor x) = vfactor_wide x
  vterm_wide (vscaled t p x) = wide_times (kterm_linear t).const (vfactor_linear x) (vfactor_wide x)
  vterm_wide (vby t p x) = wide_times (kfactor_linear x).const (vterm_linear t) (vterm_wide t)

  vsum_wide : {n : ℕ} (s : VarySum n) → Wide (vsum_linear s)
  vsum_wide (vterm t) = vterm_wide t
  vsum_wide (vneg p t) = wide_times (negsuc 0) (vterm_linear t) (vterm_wide t)
  vsum_wide (plus_kv s p g t) = wide_joined g (ksum_linear s) (vterm_linear t) (ksum_wide s) (vterm_wide t)
  vsum_wide (plus_vk s p g t) = wide_joined g (vsum_linear s) (kterm_linear t) (vsum_wide s) (kterm_wide t)
  vsum_wide (plus_vv s p g t) = wide_joined g (vsum_linear s) (vterm_linear t) (vsum_wide s) (vterm_wide t)

sum_wide : (n : ℕ) (s : Sum n) → Wide (linear_of n s)
unfolding linear_of
sum_wide n (constant s) = ksum_wide s
sum_wide n (varying s) = vsum_wide s

difference_wide : (op : Op) (p q : Linear) → Wide p → Wide q → Wide (difference op p q)
difference_wide lt p q v w = wide_less q p w v
difference_wide le p q v w = wide_less p q v w
difference_wide gt p q v w = wide_less p q v w
difference_wide ge p q v w = wide_less q p w v

-- ---- each number within 32 bits

apart : (l r : List ℤ) → T (all_within (l ++ r)) → T (all_within l) × T (all_within r)
unfolding all_within
apart [] r t = (tt, t)
apart (z ∷ l) r t =
    let d = both (in_32_bits z) (all_within (l ++ r)) t in
    let c = apart l r d.1 in
    (and_in (in_32_bits z) (all_within l) d.0 c.0, c.1)

last_of : (a b c : List ℤ) → T (all_within (a ++ (b ++ c))) → T (all_within c)
last_of a b c t = (apart b c (apart a (b ++ c) t).1).1

written_within : (ds : Digits) → T (all_within (pos (digits_value ds) ∷ [])) → T (all_within (nine (constant_linear (pos (digits_value ds)))))
unfolding all_within in_32_bits no_coeffs
written_within ds t = t

level_within : (i : Index) → T (all_within (nine (level_linear i)))
unfolding all_within in_32_bits
level_within i1 = tt
level_within i2 = tt
level_within i3 = tt
level_within i4 = tt
level_within i5 = tt
level_within i6 = tt
level_within i7 = tt
level_within i8 = tt

mutual
  unfolding kfactor_linear kfactor_numbers

  kfactor_within : {n : ℕ} (x : ConstFactor n) → T (all_within (kfactor_numbers x)) → T (all_within (nine (kfactor_linear x)))
  kfactor_within (number p ds) t = written_within ds t
  kfactor_within (kbracket p s q) t = ksum_within s t

  kterm_within : {n : ℕ} (x : ConstTerm n) → T (all_within (kterm_numbers x)) → T (all_within (nine (kterm_linear x)))
  kterm_within (kfactor x) t = kfactor_within x t
  kterm_within (ktimes y p x) t = last_of (kterm_numbers y) (kfactor_numbers x) (nine (kterm_linear (ktimes y p x))) t

  ksum_within : {n : ℕ} (s : ConstSum n) → T (all_within (ksum_numbers s)) → T (all_within (nine (ksum_linear s)))
  ksum_within (kterm x) t = kterm_within x t
  ksum_within (kneg p x) t = (apart (kterm_numbers x) (nine (ksum_linear (kneg p x))) t).1
  ksum_within (kplus s p g x) t = last_of (ksum_numbers s) (kterm_numbers x) (nine (ksum_linear (kplus s p g x))) t

mutual
  unfolding vfactor_linear vfactor_numbers

  vfactor_within : {n : ℕ} (x : VaryFactor n) → T (all_within (vfactor_numbers x)) → T (all_within (nine (vfactor_linear x)))
  vfactor_within (level p i) t = level_within i
  vfactor_within (vbracket p s q) t = vsum_within s t

  vterm_within : {n : ℕ} (x : VaryTerm n) → T (all_within (vterm_numbers x)) → T (all_within (nine (vterm_linear x)))
  vterm_within (vfactor x) t = vfactor_within x t
  vterm_within (vscaled y p x) t = last_of (kterm_numbers y) (vfactor_numbers x) (nine (vterm_linear (vscaled y p x))) t
  vterm_within (vby y p x) t = last_of (vterm_numbers y) (kfactor_numbers x) (nine (vterm_linear (vby y p x))) t

  vsum_within : {n : ℕ} (s : VarySum n) → T (all_within (vsum_numbers s)) → T (all_within (nine (vsum_linear s)))
  vsum_within (vterm x) t = vterm_within x t
  vsum_within (vneg p x) t = (apart (vterm_numbers x) (nine (vsum_linear (vneg p x))) t).1
  vsum_within (plus_kv s p g x) t = last_of (ksum_numbers s) (vterm_numbers x) (nine (vsum_linear (plus_kv s p g x))) t
  vsum_within (plus_vk s p g x) t = last_of (vsum_numbers s) (kterm_numbers x) (nine (vsum_linear (plus_vk s p g x))) t
  vsum_within (plus_vv s p g x) t = last_of (vsum_numbers s) (vterm_numbers x) (nine (vsum_linear (plus_vv s p g x))) t

sum_within : (n : ℕ) (s : Sum n) → T (all_within (sum_numbers n s)) → T (all_within (nine (linear_of n s)))
unfolding linear_of sum_numbers
sum_within n (constant s) t = ksum_within s t
sum_within n (varying s) t = vsum_within s t

pub sum_fits : (n : ℕ) (s : Sum n) → T (all_within (sum_numbers n s)) → LinearFits (linear_of n s)
sum_fits n s t = record { long = sum_wide n s; small = sum_within n s t }

-- ---- commands

fit_append : {A B : List Command} → AllFit A → AllFit B → AllFit (A ++ B)
fit_append none_left g = g
fit_append (fits_and c f r) g = fits_and c f (fit_append r g)

one : (c : Command) → OperandsFit c → AllFit (c ∷ [])
one c f = fits_and c f none_left

-- a choice behind its two outcomes
three : {A B : List Command} (c : Command) → AllFit A → AllFit B → OperandsFit c → AllFit (A ++ (B ++ (c ∷ [])))
three c a b f = fit_append a (fit_append b (one c f))

compare_fits : (op : Op) (a b : Linear) {T F : List Command} → LinearFits (difference op a b) → AllFit T → AllFit F → AllFit (compare_commands op a b T F)
unfolding compare_commands
compare_fits lt a b d t f = three _ f t d
compare_fits le a b d t f = three _ t f d
compare_fits gt a b d t f = three _ f t d
compare_fits ge a b d t f = three _ t f d

nots_fit : (n : Nots) (c : List Command → List Command → List Command) → ((T F : List Command) → AllFit T → AllFit F → AllFit (c T F)) → (T F : List Command) → AllFit T → AllFit F → AllFit (nots_commands n c T F)
unfolding nots_commands
nots_fit unsaid c h T F t f = h T F t f
nots_fit (bang n p) c h T F t f = nots_fit n (λ u v. c v u) (λ A B a b. h B A b a) T F t f

mutual
  unfolding or_commands atom_numbers

  atom_fits : {n : ℕ} (x : Atom n) → T (all_within (atom_numbers x)) → (Y N : List Command) → AllFit Y → AllFit N → AllFit (atom_commands x Y N)
  atom_fits (now p i) w Y N y z = three _ y z tt
  atom_fits (later p i) w Y N y z = three _ y z tt
  atom_fits (compare s p op t) w Y N y z =
      compare_fits op (linear_of _ s) (linear_of _ t)
      (record { long = difference_wide op (linear_of _ s) (linear_of _ t) (sum_wide _ s) (sum_wide _ t); small = last_of (sum_numbers _ s) (sum_numbers _ t) (nine (difference op (linear_of _ s) (linear_of _ t))) w }) y z
  atom_fits (group p o q) w Y N y z = or_fits o w Y N y z

  not_fits : {n : ℕ} (x : Not n) → T (all_within (not_numbers x)) → (Y N : List Command) → AllFit Y → AllFit N → AllFit (not_commands x Y N)
  not_fits (negated n x) w Y N y z = nots_fit n (λ t f. atom_commands x t f) (λ A B a b. atom_fits x w A B a b) Y N y z

  and_fits : {n : ℕ} (a : And n) → T (all_within (and_numbers a)) → (Y N : List Command) → AllFit Y → AllFit N → AllFit (and_commands a Y N)
  and_fits (alone x) w Y N y z = not_fits x w Y N y z
  and_fits (both_of a p x) w Y N y z = let d = apart (and_numbers a) (not_numbers x) w in and_fits a d.0 (not_commands x Y N) N (not_fits x d.1 Y N y z) z

  or_fits : {n : ℕ} (o : Or n) → T (all_within (or_numbers o)) → (Y N : List Command) → AllFit Y → AllFit N → AllFit (or_commands o Y N)
  or_fits (single a) w Y N y z = and_fits a w Y N y z
  or_fits (either o p a) w Y N y z = let d = apart (or_numbers o) (and_numbers a) w in or_fits o d.0 Y (and_commands a Y N) y (and_fits a d.1 Y N y z)

result_fits : (r : Result) → T (all_within (result_numbers r)) → AllFit (result_command r ∷ [])
unfolding result_command result_numbers
result_fits (worth s) w = one _ (sum_fits _ s w)
result_fits (forbids p) w = one _ tt

action_fits : (ds : Digits) → action_of ds < 65536
unfolding at_most
action_fits ds = by_test (ltb action_most (digits_value ds)) (λ b. if b action_most (digits_value ds) < 65536) (λ _. omega arith) (λ t. omega (arith, nltb→le action_most (digits_value ds) t))

filled_length : (k : ℕ) (l : List ℕ) → length (filled k l) ≡ k
unfolding filled
filled_length zero l = refl
filled_length (suc k) [] = ap suc (filled_length k [])
filled_length (suc k) (b ∷ l) = ap suc (filled_length k l)

mutual
  unfolding items_commands before_numbers

  pub items_fit : (I : Items) → T (all_within (items_numbers I)) → AllFit (items_commands I)
  items_fit (head p m n A W) w = one _ (action_fits (setting_of A))
  items_fit (closed B p q r) w = let d = apart (before_numbers B) (result_numbers r) w in before_fits B d.0 (result_command r ∷ []) (result_fits r d.1)
  items_fit (named I p q ds r cs) w = let d = apart (items_numbers I) _ w in fit_append (items_fit I d.0) (one _ (action_fits ds, filled_length 16 (letters cs)))

  opening_fits : (O : Opening) → T (all_within (opening_numbers O)) → (C : List Command) → AllFit C → AllFit (opening_commands O C)
  opening_fits (reward I p q ds r) w C c = let d = apart (items_numbers I) _ w in three _ (items_fit I d.0) c (fits_reward _ (action_fits ds))
  opening_fits (chance I p q ds r i t) w C c = let d = apart (items_numbers I) _ w in three _ (items_fit I d.0) c (fits_chance _ _ (action_fits ds))
  opening_fits (next I p q ds r i t) w C c = let d = apart (items_numbers I) _ w in three _ (items_fit I d.0) c (fits_level _ _ (action_fits ds))
  opening_fits (end I p t) w C c = three _ (items_fit I w) c fits_end

  before_fits : (B : Before) → T (all_within (before_numbers B)) → (C : List Command) → AllFit C → AllFit (before_commands B C)
  before_fits (start O) w C c = opening_fits O w C c
  before_fits (case B o p r q) w C c =
      let d = apart (before_numbers B) (or_numbers o ++ result_numbers r) w in
      let e = apart (or_numbers o) (result_numbers r) d.1 in
      before_fits B d.0 (or_commands o (result_command r ∷ []) C) (or_fits o e.0 (result_command r ∷ []) C (result_fits r e.1) c)
