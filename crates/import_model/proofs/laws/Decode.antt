-- The bytes of commands are read as these commands, one after another.
use Rattle.std.specs.Prelude.{◌≡◌, refl, Bool, true, false, not, List, [], ◌∷◌, ◌++◌, ℕ, zero, suc, ◌+◌, ◌-◌, ◌*◌, ◌/◌, ◌%◌, ◌≤◌, ◌<◌, T, ltb, leb, ℤ, pos, negsuc, length, take, drop}
use Rattle.std.proofs.Common.{sym, ap, ap₂, ◌∙◌, arith, leb→le, ltb→lt, lt→ltb, length-append, length-drop, drop-drop}
use Rattle.std.proofs.Math.Seq.{drop-append_seam, take-append_seam}
use Rattle.std.specs.Int.Signed.{le_z}
use Rattle.whole.specs.Cases.{if, by_test, both}
use Rattle.theory.specs.Form.{new_form}
use Rattle.theory.specs.Plain.{in_32_bits}
use Rattle.theory.specs.Diagram.{Linear, padded}
use Rattle.theory.specs.Command.{Command, site, push_leaf, push_condition, push_test, push_forbidden, give, Slot, name_action, end_model, Read, whole, Placed}
use Rattle.theory.specs.Command.{byte_at, word_at, signed, signed_from, bytes_at, linear_in, width_in, command_in, read_in, goes_on, readings_from_in}
use Rattle.theory.specs.Command.{readings_in}
use Rattle.theory.specs.Verdict.{reward_slot, chance_slot, level_slot, end_slot}
use Rattle.theory.specs.Rows.{WholeIn}
use Rattle.theory.proofs.laws.Rows.{if_yes, if_no, read_whole_in}
use Rattle.convert_model.proofs.laws.OneCommand.{first_byte, command_drop}
use Rattle.import_numbers.specs.Numbers.{nine, all_within}
use Rattle.import_model.specs.Encode.{low_first, word_of, words_bytes, linear_bytes, slot_bytes, command_bytes, encode, placed}

-- ---- operands that their bytes hold

-- eight coefficients
pub data EightNumbers : List ℤ → Type 0 where
  eight : (a b c d e f g h : ℤ) → EightNumbers (a ∷ b ∷ c ∷ d ∷ e ∷ f ∷ g ∷ h ∷ [])

-- a linear in its bytes
pub record LinearFits (p : Linear) : Type 0 where
  pub long : EightNumbers p.coeffs
  pub small : T (all_within (nine p))

-- what is given, as one of the four
pub data SlotFits : Slot → Type 0 where
  fits_reward : (a : ℕ) → a < 65536 → SlotFits (reward_slot a)
  fits_chance : (a k : ℕ) → a < 65536 → SlotFits (chance_slot a k)
  fits_level : (a i : ℕ) → a < 65536 → SlotFits (level_slot a i)
  fits_end : SlotFits end_slot

-- a command that is not the end
abbrev pub OperandsFit : Command → Type 0
OperandsFit (site m n a w) = a < 65536
OperandsFit (push_leaf p) = LinearFits p
OperandsFit (push_condition k) = Unit {0}
OperandsFit (push_test p) = LinearFits p
OperandsFit push_forbidden = Unit {0}
OperandsFit (give g) = SlotFits g
OperandsFit (name_action a b) = (a < 65536) × (length b ≡ 16)
OperandsFit end_model = ⊥

-- ---- numbers

four_back : (n : ℕ) → n < 4294967296 → n % 256 + n / 256 % 256 * 256 + n / 256 / 256 % 256 * 65536 + n / 256 / 256 / 256 % 256 * 16777216 ≡ n
four_back n h = omega arith

pub two_back : (n : ℕ) → n < 65536 → n % 256 + (n / 256 % 256 + 0 * 256) * 256 ≡ n
two_back n h = omega arith

word_back : (z : ℤ) → T (in_32_bits z) → (word_of z < 4294967296) × (signed (word_of z) ≡ z)
unfolding in_32_bits word_of signed
word_back (pos n) t =
    let h = leb→le n 2147483647 (both true (leb n 2147483647) t).1 in
    (omega arith, if_yes (ltb n 2147483648) (pos n) (negsuc (4294967295 - n)) (lt→ltb n 2147483648 (omega arith)))
word_back (negsuc n) t =
    let h = leb→le n 2147483647 (both (leb n 2147483647) true t).0 in
    let k = 4294967295 - n in
    (omega arith, if_no (ltb k 2147483648) (pos k) (negsuc (4294967295 - k)) (not_below k (omega arith)) ∙ ap negsuc (omega arith))
  where
    not_below : (k : ℕ) → 2147483648 ≤ k → T (not (ltb k 2147483648))
    not_below k h = by_test (ltb k 2147483648) (λ b. T (not b)) (λ u. absurd (omega (arith, ltb→lt k 2147483648 u))) (λ _. tt)

signed_back : (z : ℤ) → T (in_32_bits z)
    → signed (word_of z % 256 + word_of z / 256 % 256 * 256 + word_of z / 256 / 256 % 256 * 65536 + word_of z / 256 / 256 / 256 % 256 * 16777216) ≡ z
signed_back z t = let d = word_back z t in ap signed (four_back (word_of z) d.0) ∙ d.1

-- nine numbers behind a command's byte
nine_back : (op : ℕ) (Q : List ℕ) (l : List ℤ) → EightNumbers l → (k : ℤ) → T (all_within (l ++ (k ∷ [])))
    → linear_in new_form (op ∷ (linear_bytes (record { coeffs = l; const = k }) ++ Q)) 1 ≡ record { coeffs = l; const = k }
unfolding linear_in linear_bytes words_bytes low_first signed_from padded word_at all_within
nine_back op Q _ (eight a b c d e f g h) k t =
    let ta = both (in_32_bits a) _ t in
    let tb = both (in_32_bits b) _ ta.1 in
    let tc = both (in_32_bits c) _ tb.1 in
    let td = both (in_32_bits d) _ tc.1 in
    let te = both (in_32_bits e) _ td.1 in
    let tf = both (in_32_bits f) _ te.1 in
    let tg = both (in_32_bits g) _ tf.1 in
    let th = both (in_32_bits h) _ tg.1 in
    let tk = both (in_32_bits k) _ th.1 in
    λ i. record {
      coeffs = signed_back a ta.0 i ∷ signed_back b tb.0 i ∷ signed_back c tc.0 i ∷ signed_back d td.0 i
          ∷ signed_back e te.0 i ∷ signed_back f tf.0 i ∷ signed_back g tg.0 i ∷ signed_back h th.0 i ∷ [];
      const = signed_back k tk.0 i;
    }

linear_back : (op : ℕ) (p : Linear) → LinearFits p → (Q : List ℕ) → linear_in new_form (op ∷ (linear_bytes p ++ Q)) 1 ≡ p
linear_back op p f Q = nine_back op Q p.coeffs f.long p.const f.small

-- ---- one command

record DecodesAs (c : Command) (Q : List ℕ) : Type 0 where
  size : width_in new_form (byte_at (command_bytes c ++ Q) 0) ≡ length (command_bytes c)
  is : command_in new_form (command_bytes c ++ Q) 0 ≡ c
  some : 1 ≤ length (command_bytes c)

linear_length : (p : Linear) → EightNumbers p.coeffs → length (linear_bytes p) ≡ 36
unfolding linear_bytes words_bytes low_first
linear_length p e = of_eight p.coeffs e p.const
  where
    of_eight : (l : List ℤ) → EightNumbers l → (k : ℤ) → length (linear_bytes (record { coeffs = l; const = k })) ≡ 36
    of_eight _ (eight a b c d e f g h) k = refl

slot_decodes : (g : Slot) → SlotFits g → (Q : List ℕ) → DecodesAs (give g) Q
unfolding command_bytes slot_bytes low_first width_in command_in bytes_at
slot_decodes _ (fits_reward a h) Q = record { size = refl; is = ap (λ (n : ℕ). give (reward_slot n)) (two_back a h); some = omega arith }
slot_decodes _ (fits_chance a k h) Q = record { size = refl; is = ap (λ (n : ℕ). give (chance_slot n k)) (two_back a h); some = omega arith }
slot_decodes _ (fits_level a i h) Q = record { size = refl; is = ap (λ (n : ℕ). give (level_slot n i)) (two_back a h); some = omega arith }
slot_decodes _ fits_end Q = record { size = refl; is = refl; some = omega arith }

decodes : (c : Command) → OperandsFit c → (Q : List ℕ) → DecodesAs c Q
unfolding command_bytes low_first width_in command_in bytes_at
decodes (site m n a w) h Q = record { size = refl; is = ap (λ (k : ℕ). site m n k w) (two_back a h); some = omega arith }
decodes (push_leaf p) f Q = record { size = sym (ap suc (linear_length p f.long)); is = ap push_leaf (linear_back 0x10 p f Q); some = omega arith }
decodes (push_condition k) f Q = record { size = refl; is = refl; some = omega arith }
decodes (push_test p) f Q = record { size = sym (ap suc (linear_length p f.long)); is = ap push_test (linear_back 0x12 p f Q); some = omega arith }
decodes push_forbidden f Q = record { size = refl; is = refl; some = omega arith }
decodes (give g) f Q = slot_decodes g f Q
decodes (name_action a b) f Q = record {
  size = sym (ap (λ (k : ℕ). suc (suc (suc k))) f.1);
  is = ap₂ name_action (two_back a f.0) (ap (λ (k : ℕ). take k (b ++ Q)) (sym f.1) ∙ take-append_seam b Q);
  some = omega arith;
}
decodes end_model f Q = absurd f

goes : (c : Command) → OperandsFit c → goes_on (whole c) ≡ true
unfolding goes_on
goes (site m n a w) f = refl
goes (push_leaf p) f = refl
goes (push_condition k) f = refl
goes (push_test p) f = refl
goes push_forbidden f = refl
goes (give g) f = refl
goes (name_action a b) f = refl
goes end_model f = absurd f

-- ---- all commands

pub data AllFit : List Command → Type 0 where
  none_left : AllFit []
  fits_and : {C : List Command} (c : Command) → OperandsFit c → AllFit C → AllFit (c ∷ C)

abbrev pub with_end : List Command → List Command
with_end C = C ++ (end_model ∷ [])

-- what stands at an offset of some bytes
record StandsCommand (B : List ℕ) (at : ℕ) (c : Command) (Q : List ℕ) : Type 0 where
  reads : read_in new_form B at ≡ whole c
  wide : width_in new_form (byte_at B at) ≡ length (command_bytes c)
  inside : at + length (command_bytes c) ≤ length B
  rest : drop (at + length (command_bytes c)) B ≡ Q

stands : (B : List ℕ) (at : ℕ) (c : Command) (Q : List ℕ) → at ≤ length B → drop at B ≡ command_bytes c ++ Q → DecodesAs c Q → StandsCommand B at c Q
stands B at c Q h e d =
    let n = length (command_bytes c) in
    let wide : width_in new_form (byte_at B at) ≡ n = ap (width_in new_form) (first_byte B at ∙ ap (λ (l : List ℕ). byte_at l 0) e) ∙ d.size in
    let left : length B - at ≡ n + length Q = sym (length-drop at B) ∙ ap length e ∙ length-append (command_bytes c) Q in
    let w : WholeIn new_form B at = record { known = omega (arith, wide, d.some); inside = omega (arith, wide, left, d.some) } in
    record {
      reads = read_whole_in new_form B at w ∙ ap whole (command_drop B at new_form ∙ ap (λ (l : List ℕ). command_in new_form l 0) e ∙ d.is);
      wide = wide;
      inside = omega (arith, left, d.some);
      rest = sym (drop-drop n at B) ∙ ap (drop n) e ∙ drop-append_seam (command_bytes c) Q;
    }

end_decodes : (Q : List ℕ) → DecodesAs end_model Q
unfolding command_bytes width_in command_in
end_decodes Q = record { size = refl; is = refl; some = omega arith }

-- fuel for each byte that is left is enough
placed_from : (B : List ℕ) (C : List Command) → AllFit C → (k at : ℕ) → at ≤ length B → length B < at + k → drop at B ≡ encode (with_end C)
    → readings_from_in new_form B k at ≡ placed at (with_end C)
unfolding readings_from_in placed encode goes_on
placed_from B C f zero at h l e = absurd (omega arith)
placed_from B _ none_left (suc k) at h l e =
    let s = stands B at end_model [] h e (end_decodes []) in
    ap (λ (r : Read). from r) s.reads
  where
    from : Read → List Placed
    from r = record { at = at; read = r } ∷ elim (goes_on r) [
      | true ↦ readings_from_in new_form B k (at + width_in new_form (byte_at B at))
      | false ↦ []
    ]
placed_from B _ (fits_and {C = C} c g f) (suc k) at h l e =
    let d = decodes c g (encode (with_end C)) in
    let s = stands B at c (encode (with_end C)) h e d in
    let n = length (command_bytes c) in
    let ih : readings_from_in new_form B k (at + n) ≡ placed (at + n) (with_end C) = placed_from B C f k (at + n) s.inside (omega (arith, d.some)) s.rest in
    ap (λ (r : Read). from r) s.reads ∙ ap (λ (b : Bool). by b) (goes c g)
    ∙ ap (λ (m : ℕ). record { at = at; read = whole c } ∷ readings_from_in new_form B k (at + m)) s.wide
    ∙ ap (λ (l : List Placed). record { at = at; read = whole c } ∷ l) ih
  where
    from : Read → List Placed
    from r = record { at = at; read = r } ∷ elim (goes_on r) [
      | true ↦ readings_from_in new_form B k (at + width_in new_form (byte_at B at))
      | false ↦ []
    ]

    by : Bool → List Placed
    by b = record { at = at; read = whole c } ∷ elim b [
      | true ↦ readings_from_in new_form B k (at + width_in new_form (byte_at B at))
      | false ↦ []
    ]

-- the commands that are read of their bytes are these commands, at their offsets
pub readings_placed : (C : List Command) → AllFit C → readings_in new_form (encode (with_end C)) ≡ placed 0 (with_end C)
unfolding readings_in
readings_placed C f = placed_from (encode (with_end C)) C f (suc (length (encode (with_end C)))) 0 (omega arith) (omega arith) refl
