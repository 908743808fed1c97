-- Lines one after another: one more of them, that those so far fit where all do, and the whole text.
use mathlib.Core.Path.{◌≡◌, refl, sym, ap, ◌∙◌}
use mathlib.Core.List.{List, [], ◌∷◌, ◌++◌, append_assoc, append-nil}
use Prim.Native.Nat.{ℕ, zero, suc, ◌+◌, ◌-◌, ◌≤◌, ◌<◌}
use native.Mathlib.Nat.{add-zero, zero-add, suc-add}
use native.Mathlib.Omega.{arith}
use borrow.Author.Tests.{le-leb, lt-leb}
use borrow.Rule.Slice.PartMut.{put_mid, same_len_mid}
use lib.IntN.{ℤ}
use lib.ListN.{length, take, drop, length-append, length-take, length-drop}
use Rattle.theory.specs.Verdict.{Site, from_to}
use Rattle.theory.specs.Listing.{lines, first_line, node_line, stage_line, greatest_root, text}
use Rattle.text_decimal.specs.Put.{PutAt}
use Rattle.text_decimal.proofs.Puts.{none, then, rename, lent}
use Rattle.text_plan.specs.Plan.{upto}

pub from_to_append : (a k d : ℕ) → from_to a (k + d) ≡ from_to a k ++ from_to (a + k) d
unfolding from_to
from_to_append a zero d = λ i. from_to (sym (add-zero a) i) (zero-add d i)
from_to_append a (suc k) d =
    let e : suc a + k ≡ a + suc k = omega arith in
    ap (from_to a) (suc-add k d) ∙ ap (λ (l : List ℕ). a ∷ l) (from_to_append (suc a) k d ∙ ap (λ (n : ℕ). from_to (suc a) k ++ from_to n d) e)

module _ (f : ℕ → List ℕ) where
  -- the lines of 1 to k
  abbrev pub upon : ℕ → List ℕ
  upon k = lines f (from_to 1 k)

  lines_append : (l m : List ℕ) → lines f (l ++ m) ≡ lines f l ++ lines f m
  unfolding lines
  lines_append [] m = refl
  lines_append (x ∷ l) m = ap (λ (y : List ℕ). f x ++ y) (lines_append l m) ∙ sym (append_assoc (f x) (lines f l) (lines f m))

  one : (a : ℕ) → lines f (from_to a 1) ≡ f a
  unfolding lines from_to
  one a = append-nil (f a)

  upon_append : (k d : ℕ) → upon (k + d) ≡ upon k ++ lines f (from_to (1 + k) d)
  upon_append k d = ap (lines f) (from_to_append 1 k d) ∙ lines_append (from_to 1 k) (from_to (1 + k) d)

  upon_none : upon 0 ≡ []
  unfolding lines from_to
  upon_none = refl

  upon_more : (k : ℕ) → upon (k + 1) ≡ upon k ++ f (k + 1)
  upon_more k =
      let e : 1 + k ≡ k + 1 = omega arith in
      upon_append k 1 ∙ ap (λ (y : List ℕ). upon k ++ y) (one (1 + k) ∙ ap f e)

  upon_grows : (k last : ℕ) → k ≤ last → length (upon k) ≤ length (upon last)
  upon_grows k last h =
      let e : last ≡ k + (last - k) = omega arith in
      omega (arith, ap (λ (n : ℕ). length (upon n)) e, ap length (upon_append k (last - k)), length-append (upon k) (lines f (from_to (1 + k) (last - k))))

  upon_fits : (k last : ℕ) → k < last → length (upon k) + length (f (k + 1)) ≤ length (upon last)
  upon_fits k last h = omega (arith, upon_grows (k + 1) last (omega arith), ap length (upon_more k), length-append (upon k) (f (k + 1)))

  -- ---- a turn of the loop that writes them

  pub record Lined (before : List ℕ) (at k next : ℕ) (after : List ℕ) : Type 0 where
    pub kept : length after ≡ length before
    pub put : PutAt before at (upon k) next after

  pub lined_none : (before : List ℕ) (at : ℕ) → Lined before at 0 at before
  lined_none before at = record { kept = refl; put = rename (sym upon_none) (none before at) }

  module _ (before : List ℕ) (at k next : ℕ) (after : List ℕ) (last : ℕ) (w : Lined before at k next after)
      (h : k < last) (fits : at + length (upon last) ≤ length before) where
    pub lined_room : next + length (f (k + 1)) ≤ length after
    lined_room = omega (arith, upon_fits k last h, w.put.behind, w.kept)

    pub lined_more :
        (n : ℕ) (part : List ℕ) →
        length part ≡ length (take (length after - next) (drop next after)) →
        PutAt (take (length after - next) (drop next after)) 0 (f (k + 1)) n part →
        Lined before at (k + 1) (next + n) (put_mid next (length after - next) after part)
    lined_more n part e p = record {
      kept = same_len_mid next (length after - next) after part e ∙ w.kept;
      put =
          rename (sym (upon_more k))
          (then (omega arith) w.put (lent after (f (k + 1)) part next n (omega (arith, lined_room)) p));
    }

  -- ---- how long they are, with what was counted before

  pub counted_none : (before : ℕ) → before ≡ before + length (upon 0)
  counted_none before = omega (arith, ap length upon_none)

  pub counted_more : (before k n m : ℕ) → n ≡ before + length (upon k) → m ≡ length (f (k + 1)) → n + m ≡ before + length (upon (k + 1))
  counted_more before k n m e g = omega (arith, ap length (upon_more k), length-append (upon k) (f (k + 1)))

  pub counted_over : (before k last n room : ℕ) → n ≡ before + length (upon k) → k ≤ last → room < n → room + 1 ≡ upto room (before + length (upon last))
  unfolding upto
  counted_over before k last n room e h g =
      let o : room < before + length (upon last) = omega (arith, upon_grows k last h) in
      simp (lt-leb (before + length (upon last)) room o)

  pub counted_within : (n room : ℕ) → n ≤ room → n ≡ upto room n
  unfolding upto
  counted_within n room h = simp (le-leb n room h)

-- ---- the whole text

module _ (S : Site) (H : ℕ) (nodes : List ℤ) (stages : List ℕ) (root : ℕ) (e : root ≡ greatest_root H stages) where
  abbrev node_part : List ℕ
  node_part = lines (node_line nodes) (from_to 1 root)

  abbrev stage_part : List ℕ
  stage_part = lines (stage_line stages) (from_to 1 H)

  text_is : first_line S H ++ (node_part ++ stage_part) ≡ text S H nodes stages
  unfolding text
  text_is = ap (λ (r : ℕ). first_line S H ++ (lines (node_line nodes) (from_to 1 r) ++ stage_part)) e

  pub text_length : length (text S H nodes stages) ≡ length (first_line S H) + (length node_part + length stage_part)
  text_length =
      ap length (sym text_is)
      ∙ length-append (first_line S H) (node_part ++ stage_part)
      ∙ ap (λ (n : ℕ). length (first_line S H) + n) (length-append node_part stage_part)

  -- counted: the first line, the stages' lines, then the nodes'
  pub text_counted : {m k n : ℕ} (room : ℕ) → m ≡ length (first_line S H) → k ≡ length stage_part → n ≡ upto room (m + k + length node_part) → n ≡ upto room (length (text S H nodes stages))
  text_counted {m} {k} room p q s =
      let t : m + k + length node_part ≡ length (text S H nodes stages) = omega (arith, text_length) in
      s ∙ ap (upto room) t

  pub text_put :
      {b b₁ b₂ b₃ : List ℕ} {at n m r : ℕ} →
      at ≤ length b →
      PutAt b at (first_line S H) n b₁ →
      PutAt b₁ n node_part m b₂ →
      PutAt b₂ m stage_part r b₃ →
      PutAt b at (text S H nodes stages) r b₃
  text_put h p q s = rename (append_assoc (first_line S H) node_part stage_part ∙ text_is) (then h (then h p q) s)

-- room in a part that is lent to the end
pub part_room : (b l : List ℕ) (next : ℕ) → next + length b ≤ length l → length b ≤ length (take (length l - next) (drop next l))
part_room b l next h = omega (arith, length-take (length l - next) (drop next l), length-drop next l)
