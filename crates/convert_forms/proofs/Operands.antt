-- No part of a command has more than 32 bytes, and what a command's parts come to is its length.
use mathlib.Core.Path.{◌≡◌, refl, ap, ◌∙◌}
use mathlib.Core.Bool.{Bool, true, false}
use mathlib.Core.List.{List, [], ◌∷◌, ◌++◌}
use Prim.Native.Nat.{ℕ, zero, suc, ◌+◌, ◌*◌, ◌≤◌}
use native.Mathlib.Omega.{arith}
use lib.Dec.{eqb}
use lib.ListN.{length, length-append}
use Rattle.whole.specs.Cases.{if}
use Rattle.theory.specs.Form.{Form, old_form, new_form, site_byte, levels_in, action_bytes}
use Rattle.theory.specs.Command.{byte_at}
use Rattle.convert_forms.specs.declared.layouts.Layout.{Layout as CodeLayout}
use Rattle.convert_forms.specs.Forms.{Layout, layout, layout_in, byte_in, copied, fitted, converted}
use Rattle.convert_forms.specs.OperandLayouts.{layout_as, converted_length}

pub record Few (x : Layout) : Type 0 where
  pub before : x.before ≤ 32
  pub differing : x.differing ≤ 32
  pub behind : x.behind ≤ 32

few_if : (b : Bool) {x y : Layout} → Few x → Few y → Few (if b x y)
few_if true f g = f
few_if false f g = g

pub few : (F : Form) (op : ℕ) → Few (layout_in F op)
unfolding layout_in
few F op = few_if (eqb op (site_byte F)) (acts F 2 1 (omega arith) (omega arith)) (few_if (eqb op 0x10) (linear F) (few_if (eqb op 0x11) same (few_if (eqb op 0x12) (linear F)
    (few_if (eqb op 0x20) (acts F 0 0 (omega arith) (omega arith)) (few_if (eqb op 0x21) (acts F 0 1 (omega arith) (omega arith)) (few_if (eqb op 0x22) (acts F 0 1 (omega arith) (omega arith))
    (few_if (eqb op 0x30) (acts F 0 16 (omega arith) (omega arith)) none)))))))
  where
    acts : (F : Form) (b e : ℕ) → b ≤ 32 → e ≤ 32 → Few (layout b (action_bytes F) e)
    acts old_form b e h k = record { before = h; differing = omega arith; behind = k }
    acts new_form b e h k = record { before = h; differing = omega arith; behind = k }

    linear : (F : Form) → Few (layout 0 (levels_in F * 4) 4)
    linear old_form = record { before = omega arith; differing = omega arith; behind = omega arith }
    linear new_form = record { before = omega arith; differing = omega arith; behind = omega arith }

    same : Few (layout 0 0 1)
    same = record { before = omega arith; differing = omega arith; behind = omega arith }

    none : Few (layout 0 0 0)
    none = record { before = omega arith; differing = omega arith; behind = omega arith }

-- the same of a layout that the code gives
pub few_as : (F : Form) (op : ℕ) (x : CodeLayout) → layout_as x ≡ layout_in F op → Few (layout_as x)
few_as F op x e = rw e (few F op)

pub copied_length : (B : List ℕ) (i k : ℕ) → length (copied B i k) ≡ k
unfolding copied
copied_length B i zero = refl
copied_length B i (suc k) = ap suc (copied_length B (i + 1) k)

pub fitted_length : (k : ℕ) (l : List ℕ) → length (fitted k l) ≡ k
unfolding fitted
fitted_length zero l = refl
fitted_length (suc k) [] = ap suc (fitted_length k [])
fitted_length (suc k) (b ∷ l) = ap suc (fitted_length k l)

-- bytes that are as many as there are
pub fitted_same : (B : List ℕ) (i k : ℕ) → fitted k (copied B i k) ≡ copied B i k
unfolding copied fitted
fitted_same B i zero = refl
fitted_same B i (suc k) = ap (λ (l : List ℕ). byte_at B i ∷ l) (fitted_same B (i + 1) k)

pub converted_long : (F G : Form) (B : List ℕ) (at : ℕ) → length (converted F G B at) ≡ converted_length F G (byte_at B at)
unfolding converted converted_length
converted_long F G B at =
    let op = byte_at B at in
    let x = layout_in F op in
    let y = layout_in G (byte_in F G op) in
    let p = copied B (at + 1) x.before in
    let q = fitted y.differing (copied B (at + (1 + x.before)) x.differing) in
    let r = copied B (at + (1 + x.before + x.differing)) x.behind in
    omega (
      arith,
      length-append p (q ++ r),
      length-append q r,
      copied_length B (at + 1) x.before,
      fitted_length y.differing (copied B (at + (1 + x.before)) x.differing),
      copied_length B (at + (1 + x.before + x.differing)) x.behind,
    )

pub length_most : (F G : Form) (op : ℕ) → converted_length F G op ≤ 128
unfolding converted_length
length_most F G op = omega (arith, (few F op).before, (few F op).behind, (few G (byte_in F G op)).differing)

-- the length, of layouts that the code gives
pub parts_sum : (F G : Form) (op code : ℕ) (x y : CodeLayout) → layout_as x ≡ layout_in F op → code ≡ byte_in F G op → layout_as y ≡ layout_in G code
    → 1 + (x.before + (y.differing + x.behind)) ≡ converted_length F G op
unfolding converted_length
parts_sum F G op code x y e d f =
    let z : layout_as y ≡ layout_in G (byte_in F G op) = f ∙ ap (layout_in G) d in
    λ i. 1 + ((e i).before + ((z i).differing + (e i).behind))
