-- Where a command is whole: its bytes are there, and the next offset lies behind it and within the model.
use mathlib.Core.Path.{◌≡◌, refl, sym, ap, ◌∙◌, subst}
use mathlib.Core.Bool.{Bool, true, false, not}
use mathlib.Core.List.{List}
use Prim.Native.Nat.{ℕ, ◌+◌, ◌≤◌, ◌<◌}
use native.Mathlib.Omega.{arith}
use lib.Dec.{T, T_not, eqb, ltb, leb}
use lib.ListN.{length}
use borrow.Author.Tests.{lt-leb, le-ltb, leb-false, ltb-false, eqb-false}
use Rattle.whole.specs.Cases.{if}
use Rattle.theory.specs.Widths.{name_bytes}
use Rattle.theory.specs.Form.{Form, old_form, new_form, site_byte, action_bytes, forbidden_bytes, linear_bytes, behind_action}
use Rattle.theory.specs.Command.{Command, site, push_leaf, push_condition, push_test, push_forbidden, give, name_action, end_model, whole, unknown, short, byte_at, width_in, command_in, read_in}
use Rattle.model_command.specs.CursorReadings.{next_in}

-- the bytes of a command that is whole
pub record Bytes (F : Form) (B : List ℕ) (at : ℕ) : Type 0 where
  pub starts : at < length B
  pub known : width_in F (byte_at B at) ≡ 0 → ⊥
  pub ends : at + width_in F (byte_at B at) ≤ length B

-- a command with a linear
unfoldable pub has_linear : Command → Bool
has_linear (site m n a w) = false
has_linear (push_leaf p) = true
has_linear (push_condition k) = false
has_linear (push_test p) = true
has_linear push_forbidden = false
has_linear (give g) = false
has_linear (name_action a b) = false
has_linear end_model = false

-- a command without one, of any width
skip : (b : Bool) (w v k : ℕ) (c d : Command) → T (not (has_linear c)) → (T (has_linear d) → v ≡ k) → T (has_linear (if b c d)) → if b w v ≡ k
skip true w v k c d n f t = absurd (T_not (has_linear c) n t)
skip false w v k c d n f t = f t

found : (b : Bool) (v k : ℕ) (c d : Command) → (T (has_linear d) → v ≡ k) → T (has_linear (if b c d)) → if b k v ≡ k
found true v k c d f t = refl
found false v k c d f t = f t

-- how many bytes a command has
unfoldable pub length_of : Form → Command → ℕ
length_of F (site m n a w) = 4 + action_bytes F
length_of F (push_leaf p) = 1 + linear_bytes F
length_of F (push_condition k) = 2
length_of F (push_test p) = 1 + linear_bytes F
length_of F push_forbidden = forbidden_bytes F
length_of F (give g) = width_in F g.command
length_of F (name_action a b) = behind_action F + name_bytes
length_of F end_model = 1

module _ (F : Form) where
  sized : (b : Bool) (w v : ℕ) (c d : Command) → w ≡ length_of F c → ((v ≡ 0 → ⊥) → v ≡ length_of F d) → ((if b w v) ≡ 0 → ⊥) → if b w v ≡ length_of F (if b c d)
  sized true w v c d e f k = e
  sized false w v c d e f k = f k

  last : (b : Bool) → (◌≡◌ {A = ℕ} (if b 1 0) 0 → ⊥) → ◌≡◌ {A = ℕ} (if b 1 0) (length_of F end_model)
  unfolding length_of
  last true k = refl
  last false k = absurd (k refl)

-- what a command that gives has, by its byte
given_width : (F : Form) → (behind_action F ≡ width_in F 0x20) × (behind_action F + 1 ≡ width_in F 0x21) × (behind_action F + 1 ≡ width_in F 0x22) × (1 ≡ width_in F 0x23)
unfolding width_in
given_width old_form = (refl, refl, refl, refl)
given_width new_form = (refl, refl, refl, refl)

module _ (F : Form) (B : List ℕ) (at : ℕ) where
  pub whole_bytes : (c : Command) → whole c ≡ read_in F B at → Bytes F B at × (c ≡ command_in F B at)
  unfolding read_in
  whole_bytes c e = go (leb (length B) at) (eqb (width_in F (byte_at B at)) 0) (ltb (length B) (at + width_in F (byte_at B at))) refl refl refl e
    where
      go : (b₁ b₂ b₃ : Bool) → leb (length B) at ≡ b₁ → eqb (width_in F (byte_at B at)) 0 ≡ b₂ → ltb (length B) (at + width_in F (byte_at B at)) ≡ b₃
          → whole c ≡ if b₁ short (if b₂ unknown (if b₃ short (whole (command_in F B at)))) → Bytes F B at × (c ≡ command_in F B at)
      go true b₂ b₃ e₁ e₂ e₃ e = absurd (let z : ◌≡◌ {A = ℕ} 0 1 = cc in omega arith)
      go false true b₃ e₁ e₂ e₃ e = absurd (let z : ◌≡◌ {A = ℕ} 0 1 = cc in omega arith)
      go false false true e₁ e₂ e₃ e = absurd (let z : ◌≡◌ {A = ℕ} 0 1 = cc in omega arith)
      go false false false e₁ e₂ e₃ e =
          (record { starts = leb-false _ _ e₁; known = eqb-false _ _ e₂; ends = ltb-false _ _ e₃ }, cc)

  length_at : (width_in F (byte_at B at) ≡ 0 → ⊥) → width_in F (byte_at B at) ≡ length_of F (command_in F B at)
  unfolding command_in width_in length_of
  length_at k =
      let g = given_width F in
      sized F (eqb (byte_at B at) (site_byte F)) _ _ _ _ refl
      (sized F (eqb (byte_at B at) 0x10) _ _ _ _ refl
      (sized F (eqb (byte_at B at) 0x11) _ _ _ _ refl
      (sized F (eqb (byte_at B at) 0x12) _ _ _ _ refl
      (sized F (eqb (byte_at B at) 0x13) _ _ _ _ refl
      (sized F (eqb (byte_at B at) 0x20) _ _ _ _ g.0
      (sized F (eqb (byte_at B at) 0x21) _ _ _ _ g.1
      (sized F (eqb (byte_at B at) 0x22) _ _ _ _ g.2
      (sized F (eqb (byte_at B at) 0x23) _ _ _ _ g.3
      (sized F (eqb (byte_at B at) 0x30) _ _ _ _ refl
      (last F (eqb (byte_at B at) 0xff))))))))))) k

  linear_wide : T (has_linear (command_in F B at)) → width_in F (byte_at B at) ≡ 1 + linear_bytes F
  unfolding command_in width_in has_linear
  linear_wide t =
      skip (eqb (byte_at B at) (site_byte F)) (4 + action_bytes F) _ _ _ _ tt
      (found (eqb (byte_at B at) 0x10) _ _ _ _
      (skip (eqb (byte_at B at) 0x11) 2 _ _ _ _ tt
      (found (eqb (byte_at B at) 0x12) _ _ _ _
      (skip (eqb (byte_at B at) 0x13) (forbidden_bytes F) _ _ _ _ tt
      (skip (eqb (byte_at B at) 0x20) (behind_action F) _ _ _ _ tt
      (skip (eqb (byte_at B at) 0x21) (behind_action F + 1) _ _ _ _ tt
      (skip (eqb (byte_at B at) 0x22) (behind_action F + 1) _ _ _ _ tt
      (skip (eqb (byte_at B at) 0x23) 1 _ _ _ _ tt
      (skip (eqb (byte_at B at) 0x30) (behind_action F + name_bytes) _ _ _ _ tt
      (λ u. absurd u)))))))))) t

  -- the width of a command that is read
  pub length_whole : (c : Command) → whole c ≡ read_in F B at → width_in F (byte_at B at) ≡ length_of F c
  length_whole c e =
      let b = whole_bytes c e in
      length_at b.0.known ∙ ap (length_of F) (sym b.1)

  -- where a linear is written, its bytes are there
  pub linear_room : (c : Command) → T (has_linear c) → whole c ≡ read_in F B at → at + (1 + linear_bytes F) ≤ length B
  linear_room c t e =
      let b = whole_bytes c e in
      let w = linear_wide (subst (λ (d : Command). T (has_linear d)) b.1 t) in
      let h = b.0.ends in
      omega arith

  pub next_whole : Bytes F B at → next_in F B at ≡ at + width_in F (byte_at B at)
  unfolding next_in
  next_whole b = simp (lt-leb _ _ b.starts, le-ltb _ _ b.ends)
