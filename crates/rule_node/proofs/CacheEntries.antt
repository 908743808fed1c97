-- The cache's entries mean what they say: answered, stored and kept.
use mathlib.Core.Path.{◌≡◌, refl, sym, ap, ◌∙◌, subst}
use mathlib.Core.Bool.{Bool, true, false}
use mathlib.Core.Logic.{inl, inr}
use mathlib.Core.List.{List}
use Prim.Native.Nat.{ℕ, suc, ◌+◌, ◌*◌, ◌≤◌, ◌<◌}
use native.Mathlib.Omega.{arith}
use borrow.Author.Tests.{eqb-true, eqb-false, ltb-true, ltb-false}
use lib.Dec.{ltb, eqb}
use lib.IntN.{ℤ}
use lib.ListN.{length, get_or}
use Rattle.table.specs.Table.{Answer, stop_of, at_of, count_of, made}
use Rattle.table_cache.specs.Cache.{slot_of, Key, WorkRoom, CacheEntry, store_of}
use Rattle.table_cache.proofs.Entries.{slot_at, slot_lt, store_other, store_length, at_op, at_f, at_g, at_p, at_q, at_full}
use Rattle.table_unique.specs.Unique.{Chained}
use Rattle.theory.specs.Diagram.{Tree}
use Rattle.theory.specs.Computation.{Comp, done, run, member}
use Rattle.theory.proofs.laws.Comps.{member_in, member_find, rerun}
use Rattle.rule_node.specs.Nodes.{blank, trees, tree_at, Grown}
use Rattle.rule_node.specs.Table.{EntryRule, ResultStands, Lasting, Cached, Table, RuleRan, out_of}
use Rattle.rule_node.proofs.Trees.{trees_length, trees_kept, grown_not, grown_on}
use Rattle.rule_node.proofs.Outcomes.{out_ok, grown}
use Rattle.rule_node.proofs.RuleSteps.{index_small}

pub room_in : {R : EntryRule} {cap : ℕ} {l : List ℤ} {w : List ℕ} {n : ℕ} → Table R cap l w n → WorkRoom cap w
room_in A = let C = A.bare.chained in record { some = C.space.some; few = C.space.few; works = C.space.works }

-- an entry answers what its words mean
pub answered : {R : EntryRule} {cap : ℕ} {l : List ℤ} {w : List ℕ} {n : ℕ} → Table R cap l w n → (op f g p q k : ℕ) → CacheEntry w (slot_of cap op f g p q) op f g p q k
    → RuleRan R cap l w n (R l n op f g p q) l w (made k n)
unfolding out_of
answered {cap = cap} {l} {w} {n} A op f g p q k E =
    let s = slot_at cap op f g p q A.bare.chained.space.some in
    let S = A.cached s.0 op f g p q k s.1 (subst (λ (z : ℕ). CacheEntry w z op f g p q k) s.2 E) in
    record { ran = sym (S.again l n (grown_not l n)); table = A; within = λ t. S.result; more = omega arith; kept = λ i q. refl }

-- a result that stands is kept
module _ {R : EntryRule} {cap : ℕ} {l : List ℤ} {w : List ℕ} {n : ℕ} (A : Table R cap l w n) (op f g p q r : ℕ) (S : ResultStands R cap l n op f g p q r) where
  abbrev s : ℕ
  s = slot_of cap op f g p q

  abbrev w' : List ℕ
  w' = store_of w s op f g p q r

  room : s + 6 ≤ length w
  room = let a = slot_lt cap op f g p q A.bare.chained.space.some in let b = A.bare.chained.space.works in omega arith

  low : (j : ℕ) → j < cap * 2 → get_or w' j 0 ≡ get_or w j 0
  low j h = let a = slot_at cap op f g p q A.bare.chained.space.some in let e = a.2 in store_other w s op f g p q r room j (inl (omega arith))

  chained : Chained cap l w' n
  chained =
      let C = A.bare.chained in
      record {
        space = record {
          some = C.space.some;
          few = C.space.few;
          room = C.space.room;
          words = C.space.words;
          works = let a = C.space.works in let b = store_length w s op f g p q r room in omega arith;
        };
        hashed = record {
          heads = λ b h. low b (omega arith) ∙ C.hashed.heads b h;
          links = λ i h. low (cap + i) (let z = C.space.room in omega arith) ∙ C.hashed.links i h;
        };
        apart = C.apart;
      }

  cached : Cached R cap l w' n
  cached j o a b c d k h E = go (eqb j z.0) refl
    where
      z : (j : ℕ) × (j < cap) × (s ≡ cap * 2 + j * 6)
      z = slot_at cap op f g p q A.bare.chained.space.some

      away : (j ≡ z.0 → ⊥) → (i : ℕ) → i < 6 → get_or w' (cap * 2 + j * 6 + i) 0 ≡ get_or w (cap * 2 + j * 6 + i) 0
      away n i m = side (ltb j z.0) refl
        where
          side : (t : Bool) → ltb j z.0 ≡ t → get_or w' (cap * 2 + j * 6 + i) 0 ≡ get_or w (cap * 2 + j * 6 + i) 0
          side true e = let x = ltb-true j z.0 e in let y = z.2 in store_other w s op f g p q r room _ (inl (omega arith))
          side false e = let x = ltb-false j z.0 e in let y = z.2 in let v : z.0 < j = omega arith in store_other w s op f g p q r room _ (inr (omega arith))

      go : (t : Bool) → eqb j z.0 ≡ t → ResultStands R cap l n o a b c d k
      go true e =
          let y : cap * 2 + j * 6 ≡ s = ap (λ (j : ℕ). cap * 2 + j * 6) (eqb-true j z.0 e) ∙ sym z.2 in
          let eo : op ≡ o = sym (at_op w s op f g p q r room) ∙ (ap (λ (x : ℕ). get_or w' x 0) (sym y) ∙ E.is_op) in
          let ea : f ≡ a = sym (at_f w s op f g p q r room) ∙ (ap (λ (x : ℕ). get_or w' (x + 1) 0) (sym y) ∙ E.is_f) in
          let eb : g ≡ b = sym (at_g w s op f g p q r room) ∙ (ap (λ (x : ℕ). get_or w' (x + 2) 0) (sym y) ∙ E.is_g) in
          let ec : p ≡ c = sym (at_p w s op f g p q r room) ∙ (ap (λ (x : ℕ). get_or w' (x + 3) 0) (sym y) ∙ E.is_p) in
          let ed : q ≡ d = sym (at_q w s op f g p q r room) ∙ (ap (λ (x : ℕ). get_or w' (x + 4) 0) (sym y) ∙ E.is_q) in
          let ek' : r + 1 ≡ suc k = sym (at_full w s op f g p q r room) ∙ (ap (λ (x : ℕ). get_or w' (x + 5) 0) (sym y) ∙ E.full) in
          let ek : r ≡ k = omega arith in
          subst (λ (x : ℕ). ResultStands R cap l n x a b c d k) eo
          (subst (λ (x : ℕ). ResultStands R cap l n op x b c d k) ea
          (subst (λ (x : ℕ). ResultStands R cap l n op f x c d k) eb
          (subst (λ (x : ℕ). ResultStands R cap l n op f g x d k) ec
          (subst (λ (x : ℕ). ResultStands R cap l n op f g p x k) ed
          (subst (λ (x : ℕ). ResultStands R cap l n op f g p q x) ek S)))))
      go false e =
          let m = eqb-false j z.0 e in
          A.cached j o a b c d k h (record {
            is_op = sym (zero-add (away m 0 (omega arith))) ∙ E.is_op;
            is_f = sym (away m 1 (omega arith)) ∙ E.is_f;
            is_g = sym (away m 2 (omega arith)) ∙ E.is_g;
            is_p = sym (away m 3 (omega arith)) ∙ E.is_p;
            is_q = sym (away m 4 (omega arith)) ∙ E.is_q;
            full = sym (away m 5 (omega arith)) ∙ E.full;
          })
        where
          zero-add : get_or w' (cap * 2 + j * 6 + 0) 0 ≡ get_or w (cap * 2 + j * 6 + 0) 0 → get_or w' (cap * 2 + j * 6) 0 ≡ get_or w (cap * 2 + j * 6) 0
          zero-add e = subst (λ (x : ℕ). get_or w' x 0 ≡ get_or w x 0) (let y : cap * 2 + j * 6 + 0 ≡ cap * 2 + j * 6 = omega arith in y) e

  pub stored : Table R cap l w' n
  stored = record { bare = record { good = A.bare.good; chained = chained }; cached = cached }

-- trees that are there stay there
pub there : {l l' : List ℤ} {n n' : ℕ} → Grown l n l' n' → (u : Tree) → member u (trees l n) ≡ true → member u (trees l' n') ≡ true
there {l} {l'} {n} {n'} G u e =
    let p = member_find blank u (trees l n) e in
    let a = trees_length l n in
    let b = trees_length l' n' in
    let m = G.more in
    let q = p.1 in
    member_in blank u (trees l' n') p.0 (omega arith) (trees_kept G p.0 (omega arith) ∙ p.2)

-- what a run left stands, where the meaning lasts
pub stands_new : {R : EntryRule} {cap : ℕ} {l l' : List ℤ} {w w' : List ℕ} {n op f g p q : ℕ} {r : Answer} → Lasting R l n op f g p q → RuleRan R cap l w n
    (R l n op f g p q) l' w' r → stop_of r ≡ 0 → ResultStands R cap l' (count_of r) op f g p q (at_of r)
stands_new {R} {cap} {l} {l'} {n = n} {op} {f} {g} {p} {q} {r} L Q ok = record {
  result = Q.within ok;
  again = λ l'' n'' H.
      ap (λ (m : Comp Tree). run cap m (trees l'' n'')) (L l'' n'' (grown_on (grown Q) H))
      ∙ (rerun cap (R l n op f g p q) (trees l n) (trees l'' n'') (trees l' (count_of r)) (tree_at l' (count_of r) (at_of r)) (sym Q.ran ∙ out_ok r (trees l' (count_of r)) ok) (there H)
      ∙ ap (λ (t : Tree). done t (trees l'' n'')) (sym (trees_kept H (at_of r) (Q.within ok))));
}

-- kept after a run
pub kept_run : {R : EntryRule} {cap : ℕ} {l l' : List ℤ} {w w' w'' : List ℕ} {n op f g p q : ℕ} {r : Answer} → Lasting R l n op f g p q → RuleRan R cap l w n
    (R l n op f g p q) l' w' r → stop_of r ≡ 0 → w'' ≡ store_of w' (slot_of cap op f g p q) op f g p q (at_of r) → RuleRan R cap l w n (R l n op f g p q) l' w'' r
kept_run {R} {cap} {l} {l'} {n = n} {op} {f} {g} {p} {q} {r} L Q ok e = record {
  ran = Q.ran;
  table = subst (λ (z : List ℕ). Table R cap l' z (count_of r)) (sym e) (stored Q.table op f g p q (at_of r) (stands_new L Q ok));
  within = Q.within;
  more = Q.more;
  kept = Q.kept;
}

-- what a store into the cache asks, after a run
pub keepable : {R : EntryRule} {cap : ℕ} {l l' : List ℤ} {w w' : List ℕ} {n : ℕ} {m : Comp Tree} {r : Answer} {op f g p q : ℕ} → RuleRan R cap l w n m l' w' r → stop_of r ≡ 0 → Key op f g p q → WorkRoom cap w' × Key op f g p q × ((at_of r) < 65536)
keepable {r = r} Q ok K = (room_in Q.table, K, index_small (at_of r) Q.table.bare (Q.within ok))
