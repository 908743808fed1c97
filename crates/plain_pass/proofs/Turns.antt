-- One turn of the pass, with fuel enough for the rest; and what the code's numbers are.
use mathlib.Core.Path.{◌≡◌, refl, sym, ap, ◌∙◌, subst}
use mathlib.Core.Bool.{Bool, true, false}
use mathlib.Core.List.{List, [], ◌∷◌}
use Prim.Native.Nat.{ℕ, zero, suc, ◌+◌, ◌-◌, ◌*◌, ◌≤◌, ◌<◌}
use native.Mathlib.Omega.{arith}
use borrow.Author.Tests.{eq-eqb, ne_eqb, eqb-true, eqb-false, leb-true, ltb-false, lt-leb, le-ltb}
use lib.Dec.{T, eqb, leb, ltb}
use lib.IntN.{ℤ, pos, ◌+ℤ◌, ◌*ℤ◌}
use lib.ListN.{length, get_or, take}
use lib.Signed.{le_z}
use Rattle.whole.specs.Cases.{if, from_true, clash}
use Rattle.whole.specs.Int.{up}
use Rattle.whole.specs.Linears.{numbers, dot_list}
use Rattle.whole.specs.LinearsLaws.{dot_last}
use Rattle.theory.specs.Widths.{levels_most}
use Rattle.theory.specs.Form.{new_form, site_byte}
use Rattle.theory.specs.Diagram.{Linear, zero_linear, Leaf, some, forbidden, permitted, lin_of, Tree}
use Rattle.theory.specs.Total.{num, none}
use Rattle.theory.specs.Meaning.{State, Env, env, nth, dot, value, at, leaf_worth, worth_at, level_at, chance_at}
use Rattle.theory.specs.Value.{bits}
use Rattle.theory.specs.Command.{Command, push_forbidden, give, end_model, Read, whole, unknown}
use Rattle.theory.specs.Command.{short, byte_at, width, read_at, goes_on, readings_from, readings, Slot, linear_at, linear_in, word_at, signed, action_at}
use Rattle.theory.specs.Command.{readings_in, command_at, command_in, read_in, width_in}
use Rattle.theory.specs.Verdict.{same_slot}
use Rattle.theory.specs.Load.{find_slot, site_at}
use Rattle.theory.specs.Load.{loaded_entries}
use Rattle.model_command.specs.declared.Command.{Command as CodeCommand}
use Rattle.model_command.specs.declared.Command.TheVariants.{Site, Leaf as LeafBy, Condition, Test, Forbidden, Give, Name, End}
use Rattle.model_command.specs.CursorReadings.{CodeRead}
use Rattle.model_command.specs.declared.CommandError.TheVariants.{Unknown, Short}
use Rattle.std.specs.Prelude.{Ok, Err}
use Rattle.model_command.specs.CursorReadings.{with_linear, linear_of, command_of, read_of, next_at, command_of_in, read_of_in}
use Rattle.model_command.proofs.Forward.{Bytes, has_linear, linear_room, next_whole}
use Rattle.model_stack.specs.Held.{pushed}
use Rattle.model.specs.Answers.{is_end}
use Rattle.model.proofs.Walk.{opened, from_first, at_end, going, forward}
use Rattle.plain_pass.specs.declared.Point.{Point}
use Rattle.plain_pass.specs.Pass.{leaf_of, reward_of, code_at, pushes, push_of, push_width, index_at, numerator, condition_holds, chosen, stepped, takes, pass, StateStands, LeafComes}
use Rattle.plain_pass.specs.Parts.{Seek}
use Rattle.plain_pass.proofs.Points.{value_is}
use Rattle.plain_pass.proofs.Reach.{same_is}

-- ---- numbers

dot_same : (a b : List ℤ) → dot_list a b ≡ dot a b
unfolding dot_list dot
dot_same [] b = refl
dot_same (x ∷ a) [] = refl
dot_same (x ∷ a) (y ∷ b) = ap (λ (z : ℤ). (x *ℤ y) +ℤ z) (dot_same a b)

-- the sum of products is the linear at the point
pub numerator_sum : (p : List ℤ) (x : Point) → length p ≡ numbers → length x.n ≡ numbers → dot_list p x.n ≡ numerator x (linear_of p)
unfolding numerator
numerator_sum p x e f =
    dot_last levels_most p x.n e f
    ∙ ap (λ (z : ℤ). z +ℤ get_or p levels_most (pos 0) *ℤ get_or x.n levels_most (pos 0)) (dot_same (take levels_most p) (take levels_most x.n))

pub bit_past : (m k : ℕ) → (k ≡ 1 → ⊥) → (k ≡ 2 → ⊥) → (k ≡ 3 → ⊥) → (k ≡ 4 → ⊥) → false ≡ nth (bits 4 m) k
unfolding nth bits
bit_past m zero a b c d = refl
bit_past m (suc zero) a b c d = absurd (a refl)
bit_past m (suc (suc zero)) a b c d = absurd (b refl)
bit_past m (suc (suc (suc zero))) a b c d = absurd (c refl)
bit_past m (suc (suc (suc (suc zero)))) a b c d = absurd (d refl)
bit_past m (suc (suc (suc (suc (suc k))))) a b c d = refl

-- ---- a command that gives nothing

pub takes_other : (g : Slot) (B : List ℕ) (i : ℕ) (c : CodeCommand) → ((x y z : ℕ) → c ≡ Give x y z → ⊥) → false ≡ takes g (command_of B i c)
unfolding takes command_of_in
takes_other g B i (Site m n a w) k = refl
takes_other g B i LeafBy k = refl
takes_other g B i (Condition j) k = refl
takes_other g B i Test k = refl
takes_other g B i Forbidden k = refl
takes_other g B i (Give x a j) k = absurd (k x a j refl)
takes_other g B i (Name a) k = refl
takes_other g B i End k = refl

pub takes_own : (g : Slot) → takes g (give g) ≡ true
unfolding takes same_slot
takes_own g = rw (eq-eqb g.command g.command refl, eq-eqb g.action g.action refl, eq-eqb g.index g.index refl) refl

-- ---- a command of the bytes

pub test_there : (B : List ℕ) (i : ℕ) {c : CodeCommand} → c ≡ Test → whole (command_of B i c) ≡ read_at B i → i + with_linear ≤ length B
unfolding command_of_in has_linear
test_there B i {c} e w = linear_room new_form B i _ (subst (λ (d : CodeCommand). T (has_linear (command_of B i d))) (sym e) tt) w

pub whole_there : (B : List ℕ) (i : ℕ) (c : Command) → whole c ≡ read_at B i → i < length B
whole_there B i c w = let f = forward B i c (next_at B i) w refl in omega (arith, f.1, f.2)

-- a byte that is not 0 stands in the model
inside : (B : List ℕ) (i k : ℕ) → byte_at B i ≡ suc k → i < length B
inside [] i k e = absurd (omega (arith, e))
inside (b ∷ B) zero k e = omega arith
inside (b ∷ B) (suc i) k e = let r = inside B i k e in omega arith

-- ---- commands told by their bytes

-- a push is a leaf, a condition, a test or forbidden
push_cases : (P : ℕ → Type 0) → P 16 → P 17 → P 18 → P 19 → (op : ℕ) → pushes op ≡ true → P op
unfolding pushes
push_cases P l k t n op e = go (ltb op 16) (eqb op 16) (eqb op 17) (eqb op 18) refl refl refl refl e
  where
    go : (b₁ b₂ b₃ b₄ : Bool) → ltb op 16 ≡ b₁ → eqb op 16 ≡ b₂ → eqb op 17 ≡ b₃ → eqb op 18 ≡ b₄ → if b₁ false (leb op 19) ≡ true → P op
    go true b₂ b₃ b₄ e₁ e₂ e₃ e₄ e = clash (sym e)
    go false true b₃ b₄ e₁ e₂ e₃ e₄ e = subst P (sym (eqb-true op 16 e₂)) l
    go false false true b₄ e₁ e₂ e₃ e₄ e = subst P (sym (eqb-true op 17 e₃)) k
    go false false false true e₁ e₂ e₃ e₄ e = subst P (sym (eqb-true op 18 e₄)) t
    go false false false false e₁ e₂ e₃ e₄ e = subst P (let q : 19 ≡ op = omega (arith, ltb-false op 16 e₁, eqb-false op 16 e₂, eqb-false op 17 e₃, eqb-false op 18 e₄, leb-true op 19 e) in q) n

pub push_least : (op : ℕ) → pushes op ≡ true → 1 ≤ op
push_least = push_cases (λ (k : ℕ). 1 ≤ k) (omega arith) (omega arith) (omega arith) (omega arith)

pub push_wide : (op : ℕ) → (1 ≤ push_width op) × (push_width op ≤ with_linear)
unfolding push_width
push_wide op = go (eqb op 17) (eqb op 19)
  where
    go : (b c : Bool) → (1 ≤ if b 2 (if c 1 with_linear)) × (if b 2 (if c 1 with_linear) ≤ with_linear)
    go true c = (omega arith, omega arith)
    go false true = (omega arith, omega arith)
    go false false = (omega arith, omega arith)

module _ (B : List ℕ) (i : ℕ) where
  pub code_room : (op : ℕ) → 1 ≤ op → op ≡ code_at B i → (i + with_linear ≤ length B) × (byte_at B i ≡ op)
  unfolding code_at
  code_room op h e = go (ltb (length B) (i + with_linear)) refl e
    where
      go : (b : Bool) → ltb (length B) (i + with_linear) ≡ b → op ≡ if b 0 (byte_at B i) → (i + with_linear ≤ length B) × (byte_at B i ≡ op)
      go true e f = absurd (omega (arith, f))
      go false e f = (ltb-false _ _ e, sym f)

  -- a whole command, its width and what it is
  record Told (op : ℕ) : Type 0 where
    bytes : Bytes new_form B i
    wide : width (byte_at B i) ≡ push_width op
    whole_is : whole (command_of B i (push_of B i op)) ≡ read_at B i

  -- a push of w bytes, whose command is that of its byte
  told_as : (op w : ℕ) → 1 ≤ op → 1 ≤ w → w ≤ with_linear → width op ≡ w → push_width op ≡ w → (byte_at B i ≡ op → command_of B i (push_of B i op) ≡ command_at B i)
      → op ≡ code_at B i → Told op
  unfolding read_in
  told_as op w h u v q p k e =
      let r = code_room op h e in
      let z : width (byte_at B i) ≡ w = ap width r.1 ∙ q in
      let b : Bytes new_form B i = record { starts = omega (arith, r.0); known = λ y. omega (arith, z, y); ends = omega (arith, r.0, z) } in
      record { bytes = b; wide = z ∙ sym p; whole_is = ap whole (k r.1) ∙ sym (simp (lt-leb _ _ b.starts, ne_eqb _ _ b.known, le-ltb _ _ b.ends)) }

  told_leaf : 16 ≡ code_at B i → Told 16
  unfolding command_of_in command_in width_in push_width push_of
  told_leaf = told_as 16 with_linear (omega arith) (omega arith) (omega arith) refl refl (λ q. simp q)

  told : (op : ℕ) → pushes op ≡ true → op ≡ code_at B i → Told op
  unfolding command_of_in command_in width_in push_width push_of
  told =
      push_cases (λ (k : ℕ). k ≡ code_at B i → Told k) told_leaf
      (told_as 17 2 (omega arith) (omega arith) (omega arith) refl refl (λ q. simp q))
      (told_as 18 with_linear (omega arith) (omega arith) (omega arith) refl refl (λ q. simp q))
      (told_as 19 1 (omega arith) (omega arith) (omega arith) refl refl (λ q. simp q))

  -- a give of an action
  abbrev slot_at : ℕ → Slot
  slot_at k = record { command = k; action = action_at new_form B (i + 1); index = index_at B i k }

  abbrev Given : ℕ → Type 0
  Given k = k ≡ code_at B i → whole (give (slot_at k)) ≡ read_at B i

  given_room : (k w : ℕ) → 1 ≤ k → w ≤ with_linear → k ≡ code_at B i → (leb (length B) i ≡ false) × (byte_at B i ≡ k) × (ltb (length B) (i + w) ≡ false)
  given_room k w h u e =
      let r = code_room k h e in
      let s : i < length B = omega (arith, r.0) in
      let t : i + w ≤ length B = omega (arith, r.0) in
      (lt-leb _ _ s, r.1, le-ltb _ _ t)

  given_reward : Given 32
  unfolding read_in command_in width_in index_at
  given_reward e = let r = given_room 32 3 (omega arith) (omega arith) e in sym (simp (r.0, r.1, r.2))

  given_chance : Given 33
  unfolding read_in command_in width_in index_at
  given_chance e = let r = given_room 33 4 (omega arith) (omega arith) e in sym (simp (r.0, r.1, r.2))

  given_level : Given 34
  unfolding read_in command_in width_in index_at
  given_level e = let r = given_room 34 4 (omega arith) (omega arith) e in sym (simp (r.0, r.1, r.2))

  given_of : (k : ℕ) → 0x20 ≤ k → k ≤ 0x22 → Given k
  given_of k u v = go (eqb k 32) (eqb k 33) refl refl
    where
      go : (b c : Bool) → eqb k 32 ≡ b → eqb k 33 ≡ c → Given k
      go true c p q = subst Given (sym (eqb-true k 32 p)) given_reward
      go false true p q = subst Given (sym (eqb-true k 33 q)) given_chance
      go false false p q = subst Given (let z : 34 ≡ k = omega (arith, eqb-false k 32 p, eqb-false k 33 q) in z) given_level

  pub given_whole : (op : ℕ) (g : Slot) → op ≡ code_at B i → 0x20 ≤ op → op ≤ 0x22 → (a j : ℕ) → a ≡ action_at new_form B (i + 1) → j ≡ index_at B i op
      → same_slot g (record { command = op; action = a; index = j }) ≡ true → whole (give g) ≡ read_at B i
  given_whole op g e u v a j p q t =
      ap (λ (h : Slot). whole (give h)) (same_is g _ (from_true t) ∙ (λ k. record { command = op; action = p k; index = q k })) ∙ given_of op u v e

  -- the leaf's linear
  pub leaf_reads : 16 ≡ code_at B i → linear_at B (i + 1) ≡ lin_of (leaf_of (read_at B i))
  unfolding command_of_in leaf_of lin_of push_of
  leaf_reads e = ap (λ (r : Read). lin_of (leaf_of r)) (told_leaf e).whole_is

  pub leaf_constant : 16 ≡ code_at B i → signed (word_at B (i + 1 + levels_most * 4)) ≡ (lin_of (leaf_of (read_at B i))).const
  unfolding linear_in
  leaf_constant e = ap (λ (p : Linear). p.const) (leaf_reads e)

  skip : (b : Bool) (c d : Command) → zero_linear ≡ lin_of (leaf_of (whole c)) → zero_linear ≡ lin_of (leaf_of (whole d)) → zero_linear ≡ lin_of (leaf_of (whole (if b c d)))
  skip true c d e f = e
  skip false c d e f = f

  other_command : eqb (byte_at B i) 0x10 ≡ false → zero_linear ≡ lin_of (leaf_of (whole (command_at B i)))
  unfolding command_in leaf_of lin_of
  other_command n =
      skip (eqb (byte_at B i) (site_byte new_form)) _ _ refl
      (rw n
      (skip (eqb (byte_at B i) 0x11) _ _ refl
      (skip (eqb (byte_at B i) 0x12) _ _ refl
      (skip (eqb (byte_at B i) 0x13) _ _ refl
      (skip (eqb (byte_at B i) 0x20) _ _ refl
      (skip (eqb (byte_at B i) 0x21) _ _ refl
      (skip (eqb (byte_at B i) 0x22) _ _ refl
      (skip (eqb (byte_at B i) 0x23) _ _ refl
      (skip (eqb (byte_at B i) 0x30) _ _ refl refl)))))))))

  other_byte : (code_at B i ≡ 16 → ⊥) → ltb (length B) (i + width (byte_at B i)) ≡ false → (b : Bool) → eqb (byte_at B i) 0x10 ≡ b → zero_linear ≡ lin_of (leaf_of (whole (command_at B i)))
  unfolding code_at width_in
  other_byte t f true e =
      let k : byte_at B i ≡ 16 = eqb-true (byte_at B i) 16 e in
      let w : width (byte_at B i) ≡ with_linear = ap width {x = byte_at B i} {y = 16} k in
      let g : ltb (length B) (i + with_linear) ≡ false = sym (ap (λ (k : ℕ). ltb (length B) (i + k)) w) ∙ f in
      absurd (t (ap (λ (a : Bool). if a 0 (byte_at B i)) g ∙ k))
  other_byte t f false e = other_command e

  pub no_leaf : (code_at B i ≡ 16 → ⊥) → zero_linear ≡ lin_of (leaf_of (read_at B i))
  unfolding leaf_of lin_of read_in
  no_leaf t = go (leb (length B) i) (eqb (width (byte_at B i)) 0) (ltb (length B) (i + width (byte_at B i))) refl
    where
      go : (b₁ b₂ b₃ : Bool) → ltb (length B) (i + width (byte_at B i)) ≡ b₃ → zero_linear ≡ lin_of (leaf_of (if b₁ short (if b₂ unknown (if b₃ short (whole (command_at B i))))))
      go true b₂ b₃ e = refl
      go false true b₃ e = refl
      go false false true e = refl
      go false false false e = other_byte t e (eqb (byte_at B i) 0x10) refl

  -- the leaf is forbidden exactly where the byte says so
  forbidden_read : byte_at B i ≡ 0x13 → whole push_forbidden ≡ read_at B i
  unfolding read_in command_in width_in
  forbidden_read e =
      let h = inside B i 18 e in
      let f : i + 1 ≤ length B = omega arith in
      sym (simp (lt-leb _ _ h, e, le-ltb _ _ f))

  pub forbidden_there : byte_at B i ≡ 0x13 → leaf_of (read_at B i) ≡ forbidden
  unfolding leaf_of
  forbidden_there e = sym (ap leaf_of (forbidden_read e))

  allowed : (b : Bool) (c d : Command) → T (permitted (leaf_of (whole c))) → T (permitted (leaf_of (whole d))) → T (permitted (leaf_of (whole (if b c d))))
  allowed true c d e f = e
  allowed false c d e f = f

  allowed_command : eqb (byte_at B i) 0x13 ≡ false → T (permitted (leaf_of (whole (command_at B i))))
  unfolding command_in leaf_of permitted
  allowed_command n =
      allowed (eqb (byte_at B i) (site_byte new_form)) _ _ tt
      (allowed (eqb (byte_at B i) 0x10) _ _ tt
      (allowed (eqb (byte_at B i) 0x11) _ _ tt
      (allowed (eqb (byte_at B i) 0x12) _ _ tt
      (rw n
      (allowed (eqb (byte_at B i) 0x20) _ _ tt
      (allowed (eqb (byte_at B i) 0x21) _ _ tt
      (allowed (eqb (byte_at B i) 0x22) _ _ tt
      (allowed (eqb (byte_at B i) 0x23) _ _ tt
      (allowed (eqb (byte_at B i) 0x30) _ _ tt tt)))))))))

  pub permitted_there : (byte_at B i ≡ 0x13 → ⊥) → T (permitted (leaf_of (read_at B i)))
  unfolding leaf_of permitted read_in
  permitted_there t = go (leb (length B) i) (eqb (width (byte_at B i)) 0) (ltb (length B) (i + width (byte_at B i)))
    where
      go : (b₁ b₂ b₃ : Bool) → T (permitted (leaf_of (if b₁ short (if b₂ unknown (if b₃ short (whole (command_at B i)))))))
      go true b₂ b₃ = tt
      go false true b₃ = tt
      go false false true = tt
      go false false false = allowed_command (ne_eqb (byte_at B i) 0x13 t)

-- the bytes of a push, case by case
pub condition_wide : (i op : ℕ) → op ≡ 17 → i + 2 ≡ i + push_width op
unfolding push_width
condition_wide i op e = rw (eq-eqb op 17 e) refl

pub forbidden_wide : (i op : ℕ) → (op ≡ 17 → ⊥) → op ≡ 19 → i + 1 ≡ i + push_width op
unfolding push_width
forbidden_wide i op n e = rw (ne_eqb op 17 n, eq-eqb op 19 e) refl

pub test_wide : (i op : ℕ) → (op ≡ 17 → ⊥) → (op ≡ 19 → ⊥) → i + with_linear ≡ i + push_width op
unfolding push_width
test_wide i op n m = rw (ne_eqb op 17 n, ne_eqb op 19 m) refl

-- what a push leaves, case by case
module _ (B : List ℕ) (x : Point) (i op : ℕ) (l : List ℕ) where
  abbrev Left : List ℕ
  Left = stepped x i (command_of B i (push_of B i op)) l

  pub leaf_left : op ≡ 16 → pushed i l ≡ Left
  unfolding push_of stepped command_of_in
  leaf_left e = rw (eq-eqb op 16 e) refl

  pub condition_left : (op ≡ 16 → ⊥) → op ≡ 17 → (b : Bool) → b ≡ condition_holds x (byte_at B (i + 1)) → chosen b l ≡ Left
  unfolding push_of stepped command_of_in
  condition_left n e b q = rw (ne_eqb op 16 n, eq-eqb op 17 e) (ap (λ (a : Bool). chosen a l) q)

  pub forbidden_left : (op ≡ 16 → ⊥) → (op ≡ 17 → ⊥) → op ≡ 19 → pushed i l ≡ Left
  unfolding push_of stepped command_of_in
  forbidden_left n m e = rw (ne_eqb op 16 n, ne_eqb op 17 m, eq-eqb op 19 e) refl

  pub test_left : (op ≡ 16 → ⊥) → (op ≡ 17 → ⊥) → (op ≡ 19 → ⊥) → (b : Bool) → b ≡ le_z (numerator x (linear_at B (i + 1))) (pos 0) → chosen b l ≡ Left
  unfolding push_of stepped command_of_in
  test_left n m e b q = rw (ne_eqb op 16 n, ne_eqb op 17 m, ne_eqb op 19 e) (ap (λ (a : Bool). chosen a l) q)

-- ---- one turn

pub seek_starts : (B : List ℕ) (x : Point) (g : Slot) (l : List ℕ) → l ≡ [] → Seek B x g 0 l
unfolding readings_in
seek_starts B x g l e = record { fuel = suc (length B); enough = omega arith; comes = ap (pass x g (readings B)) e }

module _ {B : List ℕ} {x : Point} {g : Slot} {i : ℕ} {l : List ℕ} (w : Seek B x g i l) where
  first : (r : Read) → r ≡ read_at B i → (n : ℕ) × (length B - i < suc n) × (pass x g (from_first B i n r) l ≡ pass x g (readings B) [])
  first = opened (λ ys. pass x g ys l) (pass x g (readings B) []) B i w.fuel w.enough w.comes

  -- no whole command
  pub seek_stops : (r : CodeRead) → ((d : CodeCommand) → r ≡ Ok d → ⊥) → read_of B i r ≡ read_at B i → 0 ≡ pass x g (readings B) []
  unfolding read_of_in pass goes_on
  seek_stops (Ok c) k e = absurd (k c refl)
  seek_stops (Err Unknown) k e = (first unknown e).2
  seek_stops (Err Short) k e = (first short e).2

  pub seek_found : (c : Command) (o : ℕ) → whole c ≡ read_at B i → takes g c ≡ true → o ≡ get_or l 0 0 → o ≡ pass x g (readings B) []
  unfolding pass
  seek_found c o e f q = q ∙ (rw f at (first (whole c) e).2)

  other : (c : Command) → whole c ≡ read_at B i → takes g c ≡ false → (k : ℕ) × (length B - i < suc k)
      × (pass x g (if (goes_on (whole c)) (readings_from B k (i + width (byte_at B i))) []) (stepped x i c l) ≡ pass x g (readings B) [])
  unfolding pass
  other c e f = let o = first (whole c) e in (o.0, o.1, rw f at o.2)

  pub seek_ends : (c : CodeCommand) → whole (command_of B i c) ≡ read_at B i → is_end c ≡ true → 0 ≡ pass x g (readings B) []
  unfolding pass takes goes_on
  seek_ends c e q = (other end_model (ap whole (sym (at_end B i c q)) ∙ e) refl).2

  pub seek_next : (c : Command) (next : ℕ) → whole c ≡ read_at B i → takes g c ≡ false → goes_on (whole c) ≡ true → next ≡ next_at B i → Seek B x g next (stepped x i c l)
  seek_next c next e f q n =
      let o = other c e f in
      let h = forward B i c next e n in
      record { fuel = o.0; enough = omega (arith, o.1, h.1, h.2); comes = rw (q, ← h.0) at o.2 }

  pub seek_on : (c : CodeCommand) (next : ℕ) (l' : List ℕ) → whole (command_of B i c) ≡ read_at B i → takes g (command_of B i c) ≡ false → is_end c ≡ false → next ≡ next_at B i
      → l' ≡ stepped x i (command_of B i c) l → Seek B x g next l'
  seek_on c next l' e f q n s = subst (Seek B x g next) (sym s) (seek_next (command_of B i c) next e f (going B i c q).0 n)

  push_takes : (b c d : Bool) (k : ℕ) → (takes g (command_of B i (if b LeafBy (if c (Condition k) (if d Forbidden Test)))) ≡ false) × (is_end (if b LeafBy (if c (Condition k) (if d Forbidden Test))) ≡ false)
  unfolding command_of_in takes is_end
  push_takes true c d k = (refl, refl)
  push_takes false true d k = (refl, refl)
  push_takes false false true k = (refl, refl)
  push_takes false false false k = (refl, refl)

  -- a push, told by its byte
  pub seek_push : (op next : ℕ) (l' : List ℕ) → op ≡ code_at B i → pushes op ≡ true → next ≡ i + push_width op → l' ≡ stepped x i (command_of B i (push_of B i op)) l → Seek B x g next l'
  unfolding push_of
  seek_push op next l' e t q s =
      let d = told B i op t e in
      let f = push_takes (eqb op 16) (eqb op 17) (eqb op 19) (byte_at B (i + 1)) in
      seek_on (push_of B i op) next l' d.whole_is f.0 f.1 (q ∙ sym (next_whole new_form B i d.bytes ∙ ap (λ (k : ℕ). i + k) d.wide)) s

  pub seek_leaf : (l' : List ℕ) → 16 ≡ code_at B i → l' ≡ pushed i l → Seek B x g (i + with_linear) l'
  unfolding pushes push_width
  seek_leaf l' e s = seek_push 16 (i + with_linear) l' e refl refl (s ∙ leaf_left B x i 16 l refl)

-- ---- what the leaf comes to

module _ (B : List ℕ) (g : Slot) (x : Point) (i : ℕ) (c : LeafComes B g x i) (s : State) (r : List Bool) (st : StateStands (site_at B).levels (site_at B).conditions x s r) where
  abbrev F : Tree
  F = find_slot g (loaded_entries B)

  is : leaf_of (read_at B i) ≡ at (env s r) F
  is = (c.comes s r st).reads

  module _ (q : Linear) (reads : q ≡ lin_of (leaf_of (read_at B i))) where
    linear_is : q ≡ lin_of (at (env s r) F)
    linear_is = reads ∙ ap lin_of is

    pub level_is : numerator x q ≡ level_at (env s r) F
    unfolding level_at
    level_is = ap (numerator x) linear_is ∙ sym (value_is st (lin_of (at (env s r) F)) (c.comes s r st).within)

    pub chance_is : up q.const ≡ chance_at (env s r) F
    unfolding chance_at
    chance_is = ap (λ (p : Linear). up p.const) linear_is

  pub reward_forbidden : byte_at B i ≡ 0x13 → reward_of none ≡ reward_of (worth_at (env s r) F)
  unfolding worth_at leaf_worth
  reward_forbidden e = ap (λ (f : Leaf). reward_of (leaf_worth (env s r) f)) (sym (forbidden_there B i e) ∙ is)

  permitted_worth : (e : Env) (f : Leaf) → T (permitted f) → num (value e (lin_of f)) ≡ leaf_worth e f
  unfolding leaf_worth permitted lin_of
  permitted_worth e (some p a) t = refl
  permitted_worth e forbidden t = absurd t

  pub reward_is : (byte_at B i ≡ 0x13 → ⊥) → reward_of (num (numerator x (lin_of (leaf_of (read_at B i))))) ≡ reward_of (worth_at (env s r) F)
  unfolding worth_at level_at
  reward_is n = ap reward_of (ap num (level_is (lin_of (leaf_of (read_at B i))) refl) ∙ permitted_worth (env s r) (at (env s r) F) (subst (λ (f : Leaf). T (permitted f)) is (permitted_there B i n)))
