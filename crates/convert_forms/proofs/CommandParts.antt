-- One command in another form, written part by part.
use mathlib.Core.Path.{◌≡◌, refl, sym, ap, ◌∙◌}
use mathlib.Core.List.{List, [], ◌∷◌, ◌++◌}
use Prim.Native.Nat.{ℕ, ◌+◌, ◌≤◌, ◌<◌}
use native.Mathlib.Omega.{arith}
use lib.ListN.{length, set, length-set}
use Rattle.theory.specs.Form.{Form}
use Rattle.theory.specs.Command.{byte_at}
use Rattle.text_decimal.specs.Put.{PutAt}
use Rattle.text_decimal.proofs.Puts.{put_first, then, rename}
use Rattle.convert_forms.specs.declared.layouts.Layout.{Layout as CodeLayout}
use Rattle.convert_forms.specs.Forms.{layout_in, byte_in, copied, fitted, converted}
use Rattle.convert_forms.specs.OperandLayouts.{layout_as, converted_length}
use Rattle.convert_forms.proofs.Operands.{fitted_same, converted_long, parts_sum}

module _ (F G : Form) (B : List ℕ) (at op code : ℕ) (x y : CodeLayout) (e : op ≡ byte_at B at) (d : code ≡ byte_in F G op) (f : layout_as x ≡ layout_in F op) (g : layout_as y ≡ layout_in G code) where
  pub parts_long : length (converted F G B at) ≡ 1 + (x.before + (y.differing + x.behind))
  parts_long = converted_long F G B at ∙ ap (converted_length F G) (sym e) ∙ sym (parts_sum F G op code x y f d g)

  abbrev first : List ℕ
  first = fitted x.before (copied B (at + 1) x.before)

  abbrev second : List ℕ
  second = fitted y.differing (copied B (at + (1 + x.before)) x.differing)

  abbrev third : List ℕ
  third = fitted x.behind (copied B (at + (1 + x.before + x.differing)) x.behind)

  spelt : code ∷ (first ++ (second ++ third)) ≡ converted F G B at
  unfolding converted
  spelt =
      let c : code ≡ byte_in F G (byte_at B at) = d ∙ ap (byte_in F G) e in
      let z : layout_as x ≡ layout_in F (byte_at B at) = f ∙ ap (layout_in F) e in
      let w : layout_as y ≡ layout_in G (byte_in F G (byte_at B at)) = g ∙ ap (layout_in G) c in
      (λ i. code ∷ (fitted_same B (at + 1) x.before i ++ (second ++ fitted_same B (at + (1 + x.before + x.differing)) x.behind i)))
      ∙ (λ i. c i ∷ (copied B (at + 1) (z i).before ++ (fitted (w i).differing (copied B (at + (1 + (z i).before)) (z i).differing)
      ++ copied B (at + (1 + (z i).before + (z i).differing)) (z i).behind)))

  pub command_put : {l l₁ l₂ l₃ : List ℕ} {next n k r : ℕ} → next < length l → length l₁ ≡ length l → n ≤ length l → length l₂ ≡ length l → k ≤ length l
      → PutAt (set l next code) (next + 1) first n l₁ → PutAt l₁ n second k l₂ → PutAt l₂ k third r l₃ → PutAt l next (converted F G B at) r l₃
  command_put {l} {l₁} {l₂} {l₃} {next} {n} {k} {r} h a i b j p q s =
      rename spelt (then (omega arith) (put_first l (code ∷ []) next code h refl)
      (then (omega (arith, length-set l next code)) p (then (omega arith) q s)))
