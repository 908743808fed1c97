-- One command in the other form: what is read of its bytes is the command, and in the first form again they are the bytes that it was written in.
use Rattle.std.specs.Prelude.{◌≡◌, T, eqb, ltb, ℤ, pos, negsuc, length, get_or, take, drop}
use Rattle.std.proofs.Math.Path.{refl}
use Rattle.std.proofs.Common.{sym, ap, ◌∙◌, subst, arith, eqb→eq, get_or-drop, drop-cons, drop-drop}
use mathlib.Core.List.{List, [], ◌∷◌, ◌++◌}
use Prim.Native.Nat.{ℕ, zero, suc, ◌+◌, ◌-◌, ◌*◌, ◌≤◌}
use Rattle.whole.specs.Cases.{if, by_test}
use Rattle.theory.specs.Widths.{name_bytes}
use Rattle.theory.specs.Form.{Form, old_form, new_form, site_byte, levels_in, actions_in, forbidden_bytes}
use Rattle.theory.specs.Diagram.{Linear, padded, zeros}
use Rattle.theory.specs.Command.{Command, site, push_leaf, push_condition, push_test, push_forbidden, give, name_action, end_model, byte_at, word_at, signed, signed_from, bytes_at, linear_in, width_in, command_in}
use Rattle.theory.proofs.laws.Fits.{zeros_each}
use Rattle.convert_forms.specs.Forms.{layout_in, byte_in, copied, fitted, converted}

-- ---- the bytes of a command

-- a byte that is a command's in a form
pub data Known (F : Form) : ℕ → Type 0 where
  known_site : Known F (site_byte F)
  known_leaf : Known F 0x10
  known_condition : Known F 0x11
  known_test : Known F 0x12
  known_forbidden : 1 ≤ forbidden_bytes F → Known F 0x13
  known_reward : Known F 0x20
  known_chance : Known F 0x21
  known_level : Known F 0x22
  known_worth : Known F 0x23
  known_name : Known F 0x30
  known_end : Known F 0xff

known_where : (F : Form) (op b w v : ℕ) → (1 ≤ w → Known F b) → (1 ≤ v → Known F op) → 1 ≤ if (eqb op b) w v → Known F op
known_where F op b w v k f = by_test (eqb op b) (λ t. 1 ≤ if t w v → Known F op) (λ t h. subst (Known F) (sym (eqb→eq op b t)) (k h)) (λ _ h. f h)

known_as : (F : Form) (op b w v : ℕ) → Known F b → (1 ≤ v → Known F op) → 1 ≤ if (eqb op b) w v → Known F op
known_as F op b w v k f = known_where F op b w v (λ _. k) f

pub known : (F : Form) (op : ℕ) → 1 ≤ width_in F op → Known F op
unfolding width_in
known F op = known_as F op (site_byte F) _ _ known_site (known_as F op 0x10 _ _ known_leaf (known_as F op 0x11 _ _ known_condition (known_as F op 0x12 _ _ known_test
    (known_where F op 0x13 _ _ known_forbidden (known_as F op 0x20 _ _ known_reward (known_as F op 0x21 _ _ known_chance (known_as F op 0x22 _ _ known_level (known_as F op 0x23 _ _ known_worth
    (known_as F op 0x30 _ _ known_name (known_as F op 0xff _ _ known_end (λ h. absurd (omega arith))))))))))))

-- ---- bytes from an offset on are those behind it

-- bytes that are there
pub copied_is : (B : List ℕ) (i k : ℕ) → i + k ≤ length B → copied B i k ≡ take k (drop i B)
unfolding copied
copied_is B i zero h = refl
copied_is B i (suc k) h =
    let n : i + 1 ≡ suc i = omega arith in
    ap (λ (l : List ℕ). byte_at B i ∷ l) (copied_is B (i + 1) k (omega arith) ∙ ap (λ (j : ℕ). take k (drop j B)) n) ∙ ap (take (suc k)) (sym (drop-cons B i 0 (omega arith)))

module _ (B : List ℕ) (at : ℕ) where
  abbrev R : List ℕ
  R = drop at B

  pub byte_drop : (i : ℕ) → byte_at B (at + i) ≡ byte_at R i
  byte_drop i = sym (get_or-drop at B i 0)

  assoc : (i j : ℕ) → at + i + j ≡ at + (i + j)
  assoc i j = omega arith

  word_drop : (i : ℕ) → word_at B (at + i) ≡ word_at R i
  unfolding word_at
  word_drop i = rw (assoc i 1, assoc i 2, assoc i 3, byte_drop i, byte_drop (i + 1), byte_drop (i + 2), byte_drop (i + 3)) refl

  signed_drop : (i k : ℕ) → signed_from B (at + i) k ≡ signed_from R i k
  unfolding signed_from
  signed_drop i zero = refl
  signed_drop i (suc k) = rw (word_drop i, assoc i 4) (ap (λ (l : List ℤ). signed (word_at R i) ∷ l) (signed_drop (i + 4) k))

  bytes_drop : (i k : ℕ) → bytes_at B (at + i) k ≡ bytes_at R i k
  unfolding bytes_at
  bytes_drop i zero = refl
  bytes_drop i (suc k) = rw (byte_drop i, assoc i 1) (ap (λ (n : ℕ). byte_at R i + n * 256) (bytes_drop (i + 1) k))

  linear_drop : (F : Form) (i : ℕ) → linear_in F B (at + i) ≡ linear_in F R i
  unfolding linear_in
  linear_drop F i = rw (signed_drop i (levels_in F), assoc i (levels_in F * 4), word_drop (i + levels_in F * 4)) refl

  copied_drop : (i k : ℕ) → copied B (at + i) k ≡ copied R i k
  unfolding copied
  copied_drop i zero = refl
  copied_drop i (suc k) = rw (byte_drop i, assoc i 1) (ap (λ (l : List ℕ). byte_at R i ∷ l) (copied_drop (i + 1) k))

  -- a command by its parts
  abbrev shaped : Form → ℕ → ℕ → ℕ → ℕ → ℕ → Linear → ℕ → ℕ → List ℕ → Command
  shaped F op b c A W p a k t =
      if (eqb op (site_byte F)) (site b c A W)
      (if (eqb op 0x10) (push_leaf p)
      (if (eqb op 0x11) (push_condition b)
      (if (eqb op 0x12) (push_test p)
      (if (eqb op 0x13) push_forbidden
      (if (eqb op 0x20) (give (record { command = 0x20; action = a; index = 0 }))
      (if (eqb op 0x21) (give (record { command = 0x21; action = a; index = k }))
      (if (eqb op 0x22) (give (record { command = 0x22; action = a; index = k }))
      (if (eqb op 0x23) (give (record { command = 0x23; action = 0; index = 0 }))
      (if (eqb op 0x30) (name_action a t)
      end_model)))))))))

  pub first_byte : byte_at B at ≡ byte_at R 0
  first_byte = ap (byte_at B) (let n : at ≡ at + 0 = omega arith in n) ∙ byte_drop 0

  name_drop : (i k : ℕ) → take k (drop (at + i) B) ≡ take k (drop i R)
  name_drop i k = ap (take k) (sym (drop-drop i at B))

  pub command_drop : (F : Form) → command_in F B at ≡ command_in F R 0
  unfolding command_in
  command_drop old_form = λ i. shaped old_form (first_byte i) (byte_drop 1 i) (byte_drop 2 i) (bytes_drop 3 1 i) (byte_drop 4 i) (linear_drop old_form 1 i) (bytes_drop 1 1 i) (byte_drop 2 i) (name_drop 2 16 i)
  command_drop new_form = λ i. shaped new_form (first_byte i) (byte_drop 1 i) (byte_drop 2 i) (bytes_drop 3 2 i) (byte_drop 5 i) (linear_drop new_form 1 i) (bytes_drop 1 2 i) (byte_drop 3 i) (name_drop 3 16 i)

  -- the bytes of a command in another form by its parts
  abbrev spelt : Form → Form → ℕ → (ℕ → ℕ → List ℕ) → List ℕ
  spelt F G op f =
      let x = layout_in F op in
      byte_in F G op ∷ (f 1 x.before ++ (fitted (layout_in G (byte_in F G op)).differing (f (1 + x.before) x.differing) ++ f (1 + x.before + x.differing) x.behind))

  zero_plus : (j k : ℕ) → copied B (at + j) k ≡ copied R (0 + j) k
  zero_plus j k = copied_drop j k ∙ ap (λ (j : ℕ). copied R j k) (omega arith)

  pub converted_drop : (F G : Form) → converted F G B at ≡ converted F G R 0
  unfolding converted
  converted_drop F G = λ i. spelt F G (first_byte i) (λ j k. zero_plus j k i)

-- ---- what is left out is zero

-- the one form, and the other
pub data Turn : Form → Form → Type 0 where
  turn_new : Turn old_form new_form
  turn_old : Turn new_form old_form

pub turned_round : {F G : Form} → Turn F G → Turn G F
turned_round turn_new = turn_old
turned_round turn_old = turn_new

-- a command that a form has room for
abbrev pub FitsForm : Form → Command → Type 0
FitsForm G (site m n a w) = a ≤ actions_in G
FitsForm G (push_leaf p) = T (zeros (drop (levels_in G) p.coeffs))
FitsForm G (push_condition k) = Unit {0}
FitsForm G (push_test p) = T (zeros (drop (levels_in G) p.coeffs))
FitsForm G push_forbidden = 1 ≤ forbidden_bytes G
FitsForm G (give g) = g.action ≤ actions_in G
FitsForm G (name_action a t) = a ≤ actions_in G
FitsForm G end_model = Unit {0}

signed_zero : (n : ℕ) → signed n ≡ pos 0 → n ≡ 0
unfolding signed
signed_zero n = by_test (ltb n 2147483648) (λ b. if b (pos n) (negsuc (4294967295 - n)) ≡ pos 0 → n ≡ 0) (λ _ e. pos_zero n e) (λ _ e. negsuc_zero (4294967295 - n) e)
  where
    pos_zero : (n : ℕ) → pos n ≡ pos 0 → n ≡ 0
    pos_zero n e = cc

    negsuc_zero : (k : ℕ) → negsuc k ≡ pos 0 → n ≡ 0
    negsuc_zero k e = absurd (let z : ◌≡◌ {A = ℕ} 0 1 = cc in omega arith)

abbrev four_zeros : List ℕ
four_zeros = 0 ∷ 0 ∷ 0 ∷ 0 ∷ []

word_zero : (B : List ℕ) (i : ℕ) → signed (word_at B i) ≡ pos 0 → byte_at B i ∷ byte_at B (i + 1) ∷ byte_at B (i + 2) ∷ byte_at B (i + 3) ∷ [] ≡ four_zeros
unfolding word_at
word_zero B i e =
    let z = signed_zero (word_at B i) e in
    let a : byte_at B i ≡ 0 = omega (arith, z) in
    let b : byte_at B (i + 1) ≡ 0 = omega (arith, z) in
    let c : byte_at B (i + 2) ≡ 0 = omega (arith, z) in
    let d : byte_at B (i + 3) ≡ 0 = omega (arith, z) in
    λ j. a j ∷ b j ∷ c j ∷ d j ∷ []

-- the bytes of a linear behind its command's byte, the coefficients beyond the fourth zero
module _ (U : List ℕ) where
  abbrev number : ℕ → ℤ
  number i = signed (word_at U i)

  module _ (f : T (zeros (number 16 ∷ number 20 ∷ number 24 ∷ number 28 ∷ []))) where
    none : (i : ℕ) → get_or (number 16 ∷ number 20 ∷ number 24 ∷ number 28 ∷ []) i (pos 0) ≡ pos 0
    none = zeros_each (number 16 ∷ number 20 ∷ number 24 ∷ number 28 ∷ []) f

    linear_kept : ◌≡◌ {A = Linear}
        (record { coeffs = number 0 ∷ number 4 ∷ number 8 ∷ number 12 ∷ pos 0 ∷ pos 0 ∷ pos 0 ∷ pos 0 ∷ []; const = number 32 })
        (record { coeffs = number 0 ∷ number 4 ∷ number 8 ∷ number 12 ∷ number 16 ∷ number 20 ∷ number 24 ∷ number 28 ∷ []; const = number 32 })
    linear_kept = λ i. record {
      coeffs = number 0 ∷ number 4 ∷ number 8 ∷ number 12 ∷ sym (none 0) i ∷ sym (none 1) i ∷ sym (none 2) i ∷ sym (none 3) i ∷ [];
      const = number 32;
    }

    bytes_kept : copied U 0 16 ++ (four_zeros ++ (four_zeros ++ (four_zeros ++ (four_zeros ++ copied U 32 4)))) ≡ copied U 0 36
    unfolding copied
    bytes_kept = λ i. copied U 0 16 ++ (sym (word_zero U 16 (none 0)) i ++ (sym (word_zero U 20 (none 1)) i
        ++ (sym (word_zero U 24 (none 2)) i ++ (sym (word_zero U 28 (none 3)) i ++ copied U 32 4))))

-- the high byte of an action
high_zero : (a b : ℕ) → a + (b + 0) * 256 ≤ actions_in old_form → b ≡ 0
high_zero a b h = omega arith

-- ---- one command

-- R begins with a command of form F; its bytes in form G, and some behind them
pub record One (F G : Form) (R Q : List ℕ) : Type 0 where
  pub size : width_in G (byte_at (converted F G R 0 ++ Q) 0) ≡ length (converted F G R 0)
  pub some : 1 ≤ length (converted F G R 0)
  -- no command grows by more than a linear's 21 bytes to 37
  pub most : length (converted F G R 0) * 21 ≤ width_in F (byte_at R 0) * 37
  pub command : command_in G (converted F G R 0 ++ Q) 0 ≡ command_in F R 0
  pub home : converted G F (converted F G R 0 ++ Q) 0 ≡ copied R 0 (width_in F (byte_at R 0))

one_known : {F G : Form} → Turn F G → (op : ℕ) (U Q : List ℕ) → Known F op → width_in F op ≤ suc (length U) → FitsForm G (command_in F (op ∷ U) 0) → One F G (op ∷ U) Q
unfolding width_in command_in linear_in signed_from word_at bytes_at padded layout_in byte_in copied fitted converted signed
one_known turn_new op U Q known_site h f = record { size = refl; some = omega arith; most = omega arith; command = refl; home = refl }
one_known turn_new op U Q known_leaf h f = record { size = refl; some = omega arith; most = omega arith; command = refl; home = refl }
one_known turn_new op U Q known_condition h f = record { size = refl; some = omega arith; most = omega arith; command = refl; home = refl }
one_known turn_new op U Q known_test h f = record { size = refl; some = omega arith; most = omega arith; command = refl; home = refl }
one_known turn_new op U Q (known_forbidden k) h f = absurd (omega (arith, k))
one_known turn_new op U Q known_reward h f = record { size = refl; some = omega arith; most = omega arith; command = refl; home = refl }
one_known turn_new op U Q known_chance h f = record { size = refl; some = omega arith; most = omega arith; command = refl; home = refl }
one_known turn_new op U Q known_level h f = record { size = refl; some = omega arith; most = omega arith; command = refl; home = refl }
one_known turn_new op U Q known_worth h f = record { size = refl; some = omega arith; most = omega arith; command = refl; home = refl }
one_known turn_new op U Q known_name h f = record { size = refl; some = omega arith; most = omega arith; command = ap (name_action (get_or U 0 0 + 0)) (copied_is U 1 name_bytes (omega arith)); home = refl }
one_known turn_new op U Q known_end h f = record { size = refl; some = omega arith; most = omega arith; command = refl; home = refl }
one_known turn_old op U Q known_site h f =
    let e = sym (high_zero (get_or U 2 0) (get_or U 3 0) f) in
    record {
      size = refl;
      some = omega arith;
      most = omega arith;
      command = λ i. site (get_or U 0 0) (get_or U 1 0) (get_or U 2 0 + (e i + 0) * 256) (get_or U 4 0);
      home = λ i. site_byte new_form ∷ get_or U 0 0 ∷ get_or U 1 0 ∷ get_or U 2 0 ∷ e i ∷ get_or U 4 0 ∷ [];
    }
one_known turn_old op U Q known_leaf h f =
    record { size = refl; some = omega arith; most = omega arith; command = ap push_leaf (linear_kept U f); home = ap (λ (l : List ℕ). 0x10 ∷ l) (bytes_kept U f) }
one_known turn_old op U Q known_condition h f = record { size = refl; some = omega arith; most = omega arith; command = refl; home = refl }
one_known turn_old op U Q known_test h f =
    record { size = refl; some = omega arith; most = omega arith; command = ap push_test (linear_kept U f); home = ap (λ (l : List ℕ). 0x12 ∷ l) (bytes_kept U f) }
one_known turn_old op U Q (known_forbidden k) h f = absurd (omega (arith, f))
one_known turn_old op U Q known_reward h f =
    let e = sym (high_zero (get_or U 0 0) (get_or U 1 0) f) in
    record {
      size = refl;
      some = omega arith;
      most = omega arith;
      command = λ i. give (record { command = 0x20; action = get_or U 0 0 + (e i + 0) * 256; index = 0 });
      home = λ i. 0x20 ∷ get_or U 0 0 ∷ e i ∷ [];
    }
one_known turn_old op U Q known_chance h f =
    let e = sym (high_zero (get_or U 0 0) (get_or U 1 0) f) in
    record {
      size = refl;
      some = omega arith;
      most = omega arith;
      command = λ i. give (record { command = 0x21; action = get_or U 0 0 + (e i + 0) * 256; index = get_or U 2 0 });
      home = λ i. 0x21 ∷ get_or U 0 0 ∷ e i ∷ get_or U 2 0 ∷ [];
    }
one_known turn_old op U Q known_level h f =
    let e = sym (high_zero (get_or U 0 0) (get_or U 1 0) f) in
    record {
      size = refl;
      some = omega arith;
      most = omega arith;
      command = λ i. give (record { command = 0x22; action = get_or U 0 0 + (e i + 0) * 256; index = get_or U 2 0 });
      home = λ i. 0x22 ∷ get_or U 0 0 ∷ e i ∷ get_or U 2 0 ∷ [];
    }
one_known turn_old op U Q known_worth h f = record { size = refl; some = omega arith; most = omega arith; command = refl; home = refl }
one_known turn_old op U Q known_name h f =
    let e = sym (high_zero (get_or U 0 0) (get_or U 1 0) f) in
    record {
      size = refl;
      some = omega arith;
      most = omega arith;
      command = λ i. name_action (get_or U 0 0 + (e i + 0) * 256) (copied_is U 2 name_bytes (omega arith) i);
      home = λ i. 0x30 ∷ get_or U 0 0 ∷ e i ∷ copied U 2 name_bytes;
    }
one_known turn_old op U Q known_end h f = record { size = refl; some = omega arith; most = omega arith; command = refl; home = refl }

pub one : {F G : Form} → Turn F G → (R Q : List ℕ) → 1 ≤ width_in F (byte_at R 0) → width_in F (byte_at R 0) ≤ length R → FitsForm G (command_in F R 0) → One F G R Q
one t [] Q k h f = absurd (omega arith)
one {F} t (op ∷ U) Q k h f = one_known t op U Q (known F op k) h f
